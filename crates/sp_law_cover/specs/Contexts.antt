-- What is asked of a context, so that moves cover: that it is one of the theory, and what its induction, the end of its search and its table owe. Whoever
-- makes one shows this.
use Rattle.std.specs.Prelude.{◌≡◌, ◌⊎◌, ℕ, List, Some, None}
use Rattle.sp_spec.specs.Lists.{Member, Every, newest_first}
use Rattle.sp_spec.specs.Term.{Names, Variable}
use Rattle.sp_spec.specs.Formula.{Formula}
use Rattle.sp_spec.specs.Theory.{Theory}
use Rattle.sp_spec.specs.Guarded.{Guarded}
use Rattle.sp_spec.specs.Log.{Entry, IsLog}
use Rattle.sp_spec_system.specs.System.{System}
use Rattle.sp_spec_system.specs.Numbered.{names_in, InFormula}
use Rattle.sp_spec_system.specs.Covering.{Covers}
use Rattle.sp_spec_system.specs.Rules.{rules_of}
use Rattle.sp_spec_system.specs.Head.{start_of}
use Rattle.sp_spec_system.specs.Move.{InductionCases, Root, root_system, asked_formulas, TableEntry, Context, end_log, formulas_from, systems_in}
use Rattle.sp_spec_formula.specs.Induction.{induction_cases}
use Rattle.sp_spec_solved.specs.Candidate.{candidate}
use Rattle.sp_law_guard.specs.GuardedForm.{negate}
use Rattle.sp_law_decided.specs.Alike.{HasForm}
use Rattle.sp_law_system.specs.Rules.{RulesAreNumbered}
use Rattle.sp_law_system.specs.Proofs.{IsKept}
use Rattle.sp_law_cover.specs.Admitted.{Over, CoversBelow}

-- The cases of the root's induction, if it has any, fulfil what systems of a proof do, and cover the root.
pub record InductionCovers (theory : Theory) (context : Context) : Type 0 where
  pub kept : (r : Root) → context.root ≡ Some r → (i : InductionCases) → r.cases ≡ Some i → Every (IsKept context (root_system r)) (systems_in (induction_cases i))
  pub covers : (r : Root) → context.root ≡ Some r → (i : InductionCases) → r.cases ≡ Some i → CoversBelow theory context (root_system r) (systems_in (induction_cases i))

-- The search ends as it is to: where it doesn't at a system that suggests a log, that isn't one of the theory over which all that is asked for is true.
pub record EndsAsSought (theory : Theory) (context : Context) : Type 0 where
  pub ends : (r : Root) → context.root ≡ Some r → (s : System) → end_log context s ≡ None → (entries : List Entry) → candidate context.public_names s ≡ Some entries
      → IsLog theory (newest_first entries) → Every (Over theory (newest_first entries)) (asked_formulas r) → ⊥

-- The formula is the guarded form of a written one, in which no names stand but these constants, or the negation of such a form.
abbrev pub IsWrittenForm : List (List ℕ) → Guarded → Type 0
IsWrittenForm constants h = (f : Formula) × (form : HasForm constants f) × ((h ≡ form.0) ⊎ (h ≡ negate form.0))

-- no variable and no time of a system stands in the formula, and such names alone
abbrev pub StandsAlone : Names → Guarded → Type 0
StandsAlone N f = InFormula N (λ (x : Variable). ⊥) (λ (i : ℕ). ⊥) f

-- The entry begins where it is to, with these formulas taken; its cases fulfil what systems of a proof do, and lose no solution.
pub record IsEntry (theory : Theory) (context : Context) (taken : List Guarded) (e : TableEntry) : Type 0 where
  pub start : e.start ≡ start_of taken e.head
  pub kept : Every (IsKept context e.start) (systems_in e.cases)
  pub covers : Covers theory e.start (systems_in e.cases)

-- The table is right where some of the formulas that the proof begins from are taken; these stand alone.
pub record TableCovers (theory : Theory) (context : Context) : Type 0 where
  pub taken : List Guarded
  pub begun : Every (λ (f : Guarded). Member f (formulas_from context.root)) taken
  pub alone : Every (StandsAlone (names_in context.public_names)) taken
  pub entries : Every (IsEntry theory context taken) context.table

-- The context is one of the theory, and has the public names that stand in its rules.
pub record IsContextOf (theory : Theory) (context : Context) : Type 0 where
  pub rules : context.rules ≡ rules_of theory
  pub numbered : RulesAreNumbered (names_in context.public_names) theory.rules
  pub induction : InductionCovers theory context
  -- what is asked of a log is as true of one with other names
  pub asked : (r : Root) → context.root ≡ Some r → Every (IsWrittenForm context.public_names) (asked_formulas r)
  pub ends : EndsAsSought theory context
  pub table : TableCovers theory context
