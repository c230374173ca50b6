use Rattle.std.proofs.Common.{◌≡◌, map, drop}
use Rattle.sp_law_decide.specs.Deciding as deciding
use Rattle.sp_fact.specs.GroundView.{ground_action}
use Rattle.sp_eval.proofs.atom.is_among.Given as goal

abbrev pub invariant-loop-shown : goal.invariant-loop-shown
invariant-loop-shown l =
    deciding.is_among (ground_action l.action) (map ground_action l.entry.items) ≡ deciding.is_among (ground_action l.action) (map ground_action (drop l.shown-index l.shown-items))
