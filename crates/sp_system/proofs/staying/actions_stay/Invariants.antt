use Rattle.std.proofs.Common.{◌≡◌, drop, map}
use Rattle.sp_term.specs.Bindings.{bindings}
use Rattle.sp_fact.specs.View.{action_of}
use Rattle.sp_system.specs.Stays.{action_stays}
use Rattle.sp_formula.specs.Staying.{all_so}
use Rattle.sp_system.proofs.staying.actions_stay.Given as goal

abbrev pub invariant-loop-action : goal.invariant-loop-action
invariant-loop-action l = all_so (action_stays (bindings l.subst)) (map action_of l.actions.items) ≡ all_so (action_stays (bindings l.subst)) (map action_of (drop l.action-index l.action-items))
