use Rattle.std.proofs.Common.{◌≡◌, ◌++◌, map, drop}
use Rattle.sp_fact.specs.View.{action_of}
use Rattle.sp_system.specs.SystemView.{system_of}
use Rattle.sp_spec_formula.specs.Action as spec
use Rattle.sp_moves.proofs.where_same.by_actions.Given as goal

abbrev pub invariant-loop-other : goal.invariant-loop-other
invariant-loop-other l =
    map system_of l.made.items ++ spec.by_actions (system_of l.system) (action_of l.action) (map action_of (drop l.other-index l.other-items))
    ≡ spec.by_actions (system_of l.system) (action_of l.action) (map action_of l.actions.items)
