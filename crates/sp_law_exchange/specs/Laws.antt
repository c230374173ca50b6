-- What other names leave as it is: logs, truth, solutions. Source: CSF 2012, "Constraint solving" (solutions); Tamarin manual, "Cryptographic messages" (public
-- names), of which no rule tells one from another that doesn't stand in the theory.
use Rattle.std.specs.Prelude.{◌≡◌, ◌↔◌, ◌⊎◌, ◌<◌, ℕ, List, [], length, map, Some}
use Rattle.sp_spec.specs.Lists.{Every}
use Rattle.sp_spec.specs.Term.{Names, Variable, Term, MadeOf, Values, valued}
use Rattle.sp_spec.specs.Signature.{Signature}
use Rattle.sp_spec.specs.Rule.{Rule, Facts, FactsMadeOf, facts_at}
use Rattle.sp_spec.specs.Theory.{Theory, Restriction, signature_of}
use Rattle.sp_spec.specs.Formula.{Formula}
use Rattle.sp_spec.specs.Truth.{IsTrueOver}
use Rattle.sp_spec.specs.Verdict.{MeetsRestrictions}
use Rattle.sp_law_guard.specs.GuardedForm.{negate, guarded_form}
use Rattle.sp_spec.specs.Execution.{Trace}
use Rattle.sp_spec.specs.Log.{Log, log_trace, visible_trace, IsLog}
use Rattle.sp_spec.specs.Guarded.{Guarded, Assignment, GuardedHolds}
use Rattle.sp_law_equal.specs.Right.{HaveNoNames}
use Rattle.sp_spec_system.specs.System.{System}
use Rattle.sp_spec_system.specs.Numbered.{names_in, InFormula, InEvent, IsNumbered}
use Rattle.sp_spec_system.specs.Solutions.{Valuation, FormulaHolds, Solves}
use Rattle.sp_law_exchange.specs.Renaming.{Renaming, renamed, facts_renamed, log_renamed, trace_renamed, assignment_renamed, valuation_renamed, kept_by, IsOneToOne}
use Rattle.sp_law_exchange.specs.Reach.{BindsItsPlaces}

-- variables and times of whatever number
abbrev pub any_variable : Variable → Type 0
any_variable x = Unit {0}

abbrev pub any_time : ℕ → Type 0
any_time i = Unit {0}

-- No name stands in the equations, and in the rules none but these.
pub record TheoryHasNames (N : Names) (theory : Theory) : Type 0 where
  pub equations : HaveNoNames (signature_of theory).equations
  pub rules : Every (λ (rule : Rule). FactsMadeOf N any_variable rule.facts) theory.rules

-- With other names, one to one, where those of the theory stay, a learning log is one, and only such a one is; and it shows the trace with other names.
pub record RenamingsKeepLogs : Type 0 where
  pub each : (theory : Theory) (r : Renaming) → IsOneToOne r → TheoryHasNames (kept_by r) theory → (log : Log) → IsLog theory log → IsLog theory (log_renamed r log)
  pub back : (theory : Theory) (r : Renaming) → IsOneToOne r → TheoryHasNames (kept_by r) theory → (log : Log) → IsLog theory (log_renamed r log) → IsLog theory log
  pub trace : (r : Renaming) (log : Log) → log_trace (log_renamed r log) ≡ trace_renamed r (log_trace log)
  pub visible : (r : Renaming) (log : Log) → visible_trace (log_renamed r log) ≡ trace_renamed r (visible_trace log)

-- A formula whose names stay is as true over the trace with other names, at the values with other names, as over the trace.
pub record RenamingsKeepTruth : Type 0 where
  pub each :
      (signature : Signature) → HaveNoNames signature.equations → (r : Renaming) → IsOneToOne r → (f : Guarded) → InFormula (kept_by r) any_variable any_time f
      → (trace : Trace) (m : Assignment) → GuardedHolds signature trace m f ↔ GuardedHolds signature (trace_renamed r trace) (assignment_renamed r m) f

-- Outside a formula its bound places stand for the public name '': that stays, or no place of the formula is bound outside.
abbrev pub KeepsOutside : Renaming → Guarded → Type 0
KeepsOutside r f = (r.public [] ≡ []) ⊎ BindsItsPlaces f

-- In the events, the formulas and the unequal pairs of the system stand no names but these.
pub record SystemHasNames (N : Names) (s : System) : Type 0 where
  pub events : Every (InEvent N any_variable any_time) s.events
  pub formulas : Every (InFormula N any_variable any_time) s.formulas
  pub spent : Every (InFormula N any_variable any_time) s.spent
  pub unequal : Every (λ (p : Term Variable × Term Variable). MadeOf N any_variable p.0 × MadeOf N any_variable p.1) s.unequal

-- A system whose names stay is solved by the log with other names, at the values with other names.
pub record RenamingsKeepSolutions : Type 0 where
  pub each :
      (theory : Theory) → HaveNoNames (signature_of theory).equations → (r : Renaming) → IsOneToOne r
      → (s : System) → SystemHasNames (kept_by r) s → Every (KeepsOutside r) s.formulas → Every (KeepsOutside r) s.spent
      → (log : Log) (v : Valuation) → Solves theory log v s → Solves theory (log_renamed r log) (valuation_renamed r v) s
  pub formula :
      (theory : Theory) → HaveNoNames (signature_of theory).equations → (r : Renaming) → IsOneToOne r
      → (f : Guarded) → InFormula (kept_by r) any_variable any_time f → KeepsOutside r f
      → (log : Log) (v : Valuation) → FormulaHolds theory log v f → FormulaHolds theory (log_renamed r log) (valuation_renamed r v) f

-- Where the listed public names stay, so do the names in what has none but these.
pub record ListedNamesAreKept : Type 0 where
  pub rules : (r : Renaming) (listed : List (List ℕ)) → Every (λ c. r.public c ≡ c) listed
      → (rules : List Rule) → Every (λ (rule : Rule). FactsMadeOf (names_in listed) (λ x. x.number < length rule.variables) rule.facts) rules
      → Every (λ (rule : Rule). FactsMadeOf (kept_by r) any_variable rule.facts) rules
  pub formula : (r : Renaming) (listed : List (List ℕ)) → Every (λ c. r.public c ≡ c) listed
      → (n : ℕ) (f : Guarded) → InFormula (names_in listed) (λ x. x.number < n) (λ i. i < n) f → InFormula (kept_by r) any_variable any_time f
  pub system : (r : Renaming) (listed : List (List ℕ)) → Every (λ c. r.public c ≡ c) listed
      → (s : System) → IsNumbered (names_in listed) s → SystemHasNames (kept_by r) s

-- the formula has a guarded form, whose names stay
abbrev pub FormKept : Renaming → Formula → Type 0
FormKept r f = (g : Guarded) × (guarded_form [] f ≡ Some g) × InFormula (kept_by r) any_variable any_time g

-- A written formula is as true with other names; so are its guarded form and the negation of that, whatever the values of other variables.
pub record RenamingsKeepWritten : Type 0 where
  pub written :
      (signature : Signature) → HaveNoNames signature.equations → (r : Renaming) → IsOneToOne r → (f : Formula) → FormKept r f
      → (trace : Trace) → IsTrueOver signature trace f ↔ IsTrueOver signature (trace_renamed r trace) f
  pub restrictions :
      (theory : Theory) → HaveNoNames (signature_of theory).equations → (r : Renaming) → IsOneToOne r → Every (λ (x : Restriction). FormKept r x.formula) theory.restrictions
      → (trace : Trace) → MeetsRestrictions theory trace ↔ MeetsRestrictions theory (trace_renamed r trace)
  pub form :
      (signature : Signature) → HaveNoNames signature.equations → (r : Renaming) → IsOneToOne r → (f : Formula) (kept : FormKept r f)
      → (trace : Trace) (m w : Assignment) → GuardedHolds signature trace m kept.0 ↔ GuardedHolds signature (trace_renamed r trace) w kept.0
  pub negation :
      (signature : Signature) → HaveNoNames signature.equations → (r : Renaming) → IsOneToOne r → (f : Formula) (kept : FormKept r f)
      → (trace : Trace) (m w : Assignment) → GuardedHolds signature trace m (negate kept.0) ↔ GuardedHolds signature (trace_renamed r trace) w (negate kept.0)
  -- so it is where the names of the negation stay
  pub negated :
      (signature : Signature) → HaveNoNames signature.equations → (r : Renaming) → IsOneToOne r
      → (f : Formula) (g : Guarded) → guarded_form [] f ≡ Some g → InFormula (kept_by r) any_variable any_time (negate g)
      → (trace : Trace) (m w : Assignment) → GuardedHolds signature trace m (negate g) ↔ GuardedHolds signature (trace_renamed r trace) w (negate g)

-- In a guarded form each bound message is bound by a quantifier, and in its negation too.
pub record GuardedFormsBind : Type 0 where
  pub forms : (f : Formula) (g : Guarded) → guarded_form [] f ≡ Some g → BindsItsPlaces g
  pub negations : (g : Guarded) → BindsItsPlaces g → BindsItsPlaces (negate g)

-- Where each variable's value with other names is its other value, so it is with terms, chains and facts whose names stay.
pub record RenamingsCarryValues : Type 0 where
  pub term : (r : Renaming) (v w : Values) (t : Term Variable) → MadeOf (kept_by r) (λ x. renamed r (v x) ≡ w x) t → renamed r (valued v t) ≡ valued w t
  pub facts : (r : Renaming) (v w : Values) (facts : Facts Variable) → FactsMadeOf (kept_by r) (λ x. renamed r (v x) ≡ w x) facts → facts_renamed r (facts_at v facts) ≡ facts_at w facts
  pub chain : (r : Renaming) (v w : Values) (ts : List (Term Variable)) → Every (MadeOf (kept_by r) (λ x. renamed r (v x) ≡ w x)) ts → map (renamed r) (map (valued v) ts) ≡ map (valued w) ts
