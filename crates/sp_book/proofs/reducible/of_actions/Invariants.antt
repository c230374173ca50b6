use Rattle.std.proofs.Common.{◌≡◌, List, map, drop}
use Rattle.std.specs.List.{list_all}
use Rattle.sp_spec.specs.Term.{Variable}
use Rattle.sp_spec.specs.Rule.{Action}
use Rattle.sp_fact.specs.View.{action_of}
use Rattle.sp_fact.specs.GroundView.{equation_of}
use Rattle.sp_spec_forms.specs.Reducible.{irreducible_all}
use Rattle.sp_book.proofs.reducible.of_actions.Given as goal

abbrev pub invariant-loop-action : goal.invariant-loop-action
invariant-loop-action l =
    let holds = λ (xs : List (Action Variable)). list_all (irreducible_all (map equation_of l.equations.items)) (map (λ a. a.args) xs) in
    holds (map action_of l.actions.items) ≡ holds (map action_of (drop l.action-index l.action-items))
