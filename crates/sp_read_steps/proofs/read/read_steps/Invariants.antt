use Rattle.std.proofs.Common.{◌+◌, ◌≤◌, length, map}
use Rattle.sp_fact.specs.GroundView.{symbol_of, step_of}
use Rattle.sp_spec_text.specs.Blanks.{lines}
use Rattle.sp_read_steps.proofs.Passed.{Passed}
use Rattle.sp_read_steps.proofs.read.read_steps.Given as goal

abbrev pub invariant-loop-steps : goal.invariant-loop-steps
invariant-loop-steps l = record {
  passed : Passed (map symbol_of l.symbols.items) (lines l.text) (lines l.rest) (map step_of l.steps.items) l.number;
  counted : l.number + length l.rest ≤ length l.text;
}

abbrev pub decreases-loop-steps : goal.decreases-loop-steps
decreases-loop-steps l = length l.rest
