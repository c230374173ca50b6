use Rattle.std.proofs.Common.{◌≡◌, take, map}
use Rattle.sp_spec.specs.Rule.{action_at}
use Rattle.sp_fact.specs.View.{action_by}
use Rattle.sp_fact.proofs.fact.changed_actions.Given as goal

abbrev pub invariant-loop-action : goal.invariant-loop-action
invariant-loop-action g l =
    let a = g.F.Assigns in
    map (action_by a.to_of) l.made.items ≡ map (action_at (a.value_of l.values)) (map (action_by a.from_of) (take l.action-index l.action-items))
