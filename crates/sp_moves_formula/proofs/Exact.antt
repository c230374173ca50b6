-- A move that takes up a formula has cases exactly where no clause of its condition fails.
use Rattle.std.proofs.Common.{◌≡◌, ℕ, List, Option, Some, None, option_map, option_and_then, is_none, is_some, slice_get, refl, sym, ap, ◌∙◌}
use Rattle.sp_spec.specs.Term.{Variable}
use Rattle.sp_spec.specs.Rule.{Action}
use Rattle.sp_spec.specs.Guarded.{Guarded, truth, falsity, holds, fails, all_of, one_of, some, every, acts, same, same_time, before, last, free_time, bound_time}
use Rattle.sp_spec_system.specs.System.{System}
use Rattle.sp_spec_system.specs.Formulas.{freed_action}
use Rattle.sp_spec_system.specs.Move.{Move, or, action}
use Rattle.sp_spec_formula.specs.Action.{action_at_time, solving_action}
use Rattle.sp_moves_formula.specs.WhyNot.{why_no_disjunction, why_not_freed, why_no_action, why_not_formula, formula_cases}
use Rattle.sp_moves.specs.Clause.{HasCases}
use Rattle.sp_moves_formula.specs.Parts.{disjuncts, by_parts}
use Rattle.sp_moves_formula.proofs.Parts.{parts_at}
use Rattle.sp_spec_forms.specs.Forms.{RuleForms}

by_freed : (rules : List RuleForms) (s : System) (i : ℕ) (o : Option (Action Variable)) → is_none (why_not_freed o) ≡ is_some (action_at_time rules s i o)
by_freed rules s i None = refl
by_freed rules s i (Some a) = refl

by_formula : (rules : List RuleForms) (s : System) (f : Guarded) → is_none (why_no_action (Some f)) ≡ is_some (solving_action rules s (Some f))
by_formula rules s truth = refl
by_formula rules s falsity = refl
by_formula rules s (holds (acts a (free_time i))) = by_freed rules s i (freed_action a)
by_formula rules s (holds (acts a (bound_time k))) = refl
by_formula rules s (holds (same t u)) = refl
by_formula rules s (holds (same_time i j)) = refl
by_formula rules s (holds (before i j)) = refl
by_formula rules s (holds (last i)) = refl
by_formula rules s (fails a) = refl
by_formula rules s (all_of fs) = refl
by_formula rules s (one_of fs) = refl
by_formula rules s (some bs guard f) = refl
by_formula rules s (every bs guard f) = refl

by_place : (rules : List RuleForms) (s : System) (o : Option Guarded) → is_none (why_no_action o) ≡ is_some (solving_action rules s o)
by_place rules s None = refl
by_place rules s (Some f) = by_formula rules s f

by_disjunction : (s : System) (k : ℕ) (o : Option Guarded) → is_none (why_no_disjunction o) ≡ is_some (option_map (by_parts s k 1) (option_and_then disjuncts o))
by_disjunction s k None = refl
by_disjunction s k (Some (one_of fs)) = refl
by_disjunction s k (Some truth) = refl
by_disjunction s k (Some falsity) = refl
by_disjunction s k (Some (holds a)) = refl
by_disjunction s k (Some (fails a)) = refl
by_disjunction s k (Some (all_of fs)) = refl
by_disjunction s k (Some (some bs guard f)) = refl
by_disjunction s k (Some (every bs guard f)) = refl

pub exactly : (rules : List RuleForms) (s : System) (m : Move) → HasCases (why_not_formula s m) (formula_cases rules s m)
exactly rules s (or k) = record { exact = by_disjunction s k (slice_get s.formulas k) ∙ ap is_some (sym (parts_at s k)) }
exactly rules s (action k) = record { exact = by_place rules s (slice_get s.formulas k) }
exactly rules s move = record { exact = refl }
