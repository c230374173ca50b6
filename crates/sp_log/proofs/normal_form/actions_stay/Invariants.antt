use Rattle.std.proofs.Common.{◌≡◌, drop, map}
use Rattle.std.specs.List.{list_all}
use Rattle.sp_fact.specs.GroundView.{equation_of, ground_action}
use Rattle.sp_log.specs.Checking.{stay}
use Rattle.sp_log.proofs.normal_form.actions_stay.Given as goal

abbrev pub invariant-loop-action : goal.invariant-loop-action
invariant-loop-action l =
    list_all (stay (map equation_of l.equations.items)) (map (λ x. x.args) (map ground_action l.actions.items))
    ≡ list_all (stay (map equation_of l.equations.items)) (map (λ x. x.args) (map ground_action (drop l.action-index l.action-items)))
