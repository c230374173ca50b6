use Rattle.std.proofs.Common.{◌≡◌, map, drop}
use Rattle.sp_fact.specs.View.{action_of}
use Rattle.sp_spec_formula.specs.ActionStands as rows
use Rattle.sp_rows_formula.proofs.action_stands.is_among.Given as goal

abbrev pub invariant-loop-other : goal.invariant-loop-other
invariant-loop-other l = rows.is_among (action_of l.action) (map action_of l.actions.items) ≡ rows.is_among (action_of l.action) (map action_of (drop l.other-index l.other-items))
