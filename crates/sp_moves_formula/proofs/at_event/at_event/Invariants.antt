use Rattle.std.proofs.Common.{◌≡◌, ◌++◌, map, drop}
use Rattle.sp_fact.specs.View.{action_of}
use Rattle.sp_system.specs.SystemView.{system_of}
use Rattle.sp_spec_formula.specs.Action as spec
use Rattle.sp_moves.specs.View.{case_of}
use Rattle.sp_moves_formula.proofs.at_event.at_event.Given as goal

abbrev pub invariant-loop-place : goal.invariant-loop-place
invariant-loop-place l =
    map case_of l.made.items ++ spec.at_event (system_of l.system) (action_of l.action) l.place (map action_of (drop l.place l.actions.items))
    ≡ spec.at_event (system_of l.system) (action_of l.action) 0 (map action_of l.actions.items)
