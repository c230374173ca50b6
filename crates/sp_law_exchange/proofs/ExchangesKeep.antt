-- What exchanges leave as it is.
use Rattle.std.proofs.Common.{◌≡◌, ℕ, false, List, sym, ap, ◌∙◌, true≢false}
use Rattle.std.specs.Prelude.{◌↔◌}
use Rattle.sp_spec.specs.Lists.{Member, Every, is_listed}
use Rattle.sp_spec.specs.Term.{public_name, Variable, Term, MadeOf}
use Rattle.sp_spec.specs.Signature.{Signature}
use Rattle.sp_spec.specs.Rule.{Rule, FactsMadeOf}
use Rattle.sp_spec.specs.Theory.{Theory, signature_of}
use Rattle.sp_spec.specs.Execution.{Trace}
use Rattle.sp_spec.specs.Log.{Log, IsLog}
use Rattle.sp_spec.specs.Guarded.{Guarded, Assignment, GuardedHolds}
use Rattle.sp_spec.proofs.Lists.{every_weaken, every_from}
use Rattle.sp_spec.proofs.Listed.{listed_member}
use Rattle.sp_law_equal.specs.Right.{HaveNoNames}
use Rattle.sp_law_equal.specs.RightTheory.{IsRightTheory}
use Rattle.sp_spec_system.specs.System.{System}
use Rattle.sp_spec_system.specs.Numbered.{InFormula, InEvent}
use Rattle.sp_spec_system.specs.Solutions.{Valuation, Solves}
use Rattle.sp_law_exchange.specs.Renaming.{log_renamed, trace_renamed, assignment_renamed, valuation_renamed, kept_by}
use Rattle.sp_law_exchange.specs.Exchange.{Exchange, of_public, of_fresh, exchanges, IsApart, apart_from, IsUnlisted}
use Rattle.sp_law_exchange.specs.Laws.{any_variable, any_time, TheoryHasNames, SystemHasNames, KeepsOutside}
use Rattle.sp_law_exchange.proofs.Names.{facts_names, formula_names, event_names, pair_names}
use Rattle.sp_law_exchange.proofs.Logs.{logs_renamed}
use Rattle.sp_law_exchange.proofs.Truth.{truth_renamed}
use Rattle.sp_law_exchange.proofs.Solutions.{solution_renamed}
use Rattle.sp_law_exchange.proofs.Exchanges.{exchanges_one, exchanges_keep}

-- no listed name is the unlisted one
not_listed : (c : List ℕ) (xs : List (List ℕ)) → is_listed c xs ≡ false → (d : List ℕ) → Member d xs → d ≡ c → ⊥
not_listed c xs e d m k = true≢false (sym (listed_member d xs m) ∙ ap (λ (n : List ℕ). is_listed n xs) k ∙ e)

unlisted_apart : (listed : List (List ℕ)) (e : Exchange) → IsUnlisted listed e → (c : List ℕ) → Member c listed → IsApart e (public_name c)
unlisted_apart listed (of_public a b) h c m = (not_listed a listed h.0 c m, not_listed b listed h.1 c m)
unlisted_apart listed (of_fresh a b) h c m = tt

pub unlisted_stay : (es : List Exchange) (listed : List (List ℕ)) → Every (IsUnlisted listed) es → Every (λ c. (exchanges es).public c ≡ c) listed
unlisted_stay es listed h = every_from _ listed (λ c m. exchanges_keep es (public_name c) (every_weaken (IsUnlisted listed) (λ (e : Exchange). IsApart e (public_name c)) (λ e u. unlisted_apart listed e u c m) es h))

module _ (es : List Exchange) where
  rules_kept : (rules : List Rule) → Every (λ (rule : Rule). FactsMadeOf (apart_from es) any_variable rule.facts) rules → Every (λ (rule : Rule). FactsMadeOf (kept_by (exchanges es)) any_variable rule.facts) rules
  rules_kept rules h = every_weaken _ _ (λ (rule : Rule). facts_names (apart_from es) (kept_by (exchanges es)) (exchanges_keep es) any_variable any_variable (λ x p. p) rule.facts) rules h

  formula_kept : (f : Guarded) → InFormula (apart_from es) any_variable any_time f → InFormula (kept_by (exchanges es)) any_variable any_time f
  formula_kept f h = formula_names (apart_from es) (kept_by (exchanges es)) (exchanges_keep es) any_variable any_time f h

  system_kept : (s : System) → SystemHasNames (apart_from es) s → SystemHasNames (kept_by (exchanges es)) s
  system_kept s h =
      let N = apart_from es in
      let M = kept_by (exchanges es) in
      record {
        events = every_weaken (InEvent N any_variable any_time) (InEvent M any_variable any_time) (event_names N M (exchanges_keep es) any_variable any_time) s.events h.events;
        formulas = every_weaken (InFormula N any_variable any_time) (InFormula M any_variable any_time) formula_kept s.formulas h.formulas;
        spent = every_weaken (InFormula N any_variable any_time) (InFormula M any_variable any_time) formula_kept s.spent h.spent;
        unequal = every_weaken (λ (p : Term Variable × Term Variable). MadeOf N any_variable p.0 × MadeOf N any_variable p.1) (λ (p : Term Variable × Term Variable). MadeOf M any_variable p.0 × MadeOf M any_variable p.1)
            (pair_names N M (exchanges_keep es) any_variable any_time) s.unequal h.unequal;
      }

pub logs_exchanged : (theory : Theory) (es : List Exchange) → TheoryHasNames (apart_from es) theory → (log : Log) → IsLog theory log → IsLog theory (log_renamed (exchanges es) log)
logs_exchanged theory es h log is = logs_renamed theory (exchanges es) (exchanges_one es) (record { equations = h.equations; rules = rules_kept es theory.rules h.rules }) log is

pub right_logs_exchanged : (theory : Theory) (es : List Exchange) → IsRightTheory theory → Every (λ (rule : Rule). FactsMadeOf (apart_from es) any_variable rule.facts) theory.rules
    → (log : Log) → IsLog theory log → IsLog theory (log_renamed (exchanges es) log)
right_logs_exchanged theory es right h log is = logs_exchanged theory es (record { equations = right.instances.forms.nameless; rules = h }) log is

pub truth_exchanged :
    (signature : Signature) → HaveNoNames signature.equations → (es : List Exchange) (f : Guarded) → InFormula (apart_from es) any_variable any_time f
    → (trace : Trace) (m : Assignment) → GuardedHolds signature trace m f ↔ GuardedHolds signature (trace_renamed (exchanges es) trace) (assignment_renamed (exchanges es) m) f
truth_exchanged signature without es f h trace m = truth_renamed signature without (exchanges es) (exchanges_one es) f (formula_kept es f h) trace m

pub solution_exchanged :
    (theory : Theory) → HaveNoNames (signature_of theory).equations → (es : List Exchange) (s : System) → SystemHasNames (apart_from es) s
    → Every (KeepsOutside (exchanges es)) s.formulas → Every (KeepsOutside (exchanges es)) s.spent
    → (log : Log) (v : Valuation) → Solves theory log v s → Solves theory (log_renamed (exchanges es) log) (valuation_renamed (exchanges es) v) s
solution_exchanged theory without es s h formulas spent log v is = solution_renamed theory without (exchanges es) (exchanges_one es) log v s (system_kept es s h) formulas spent is
