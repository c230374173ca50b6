use Rattle.std.proofs.Common.{◌+◌, ◌*◌, ◌≤◌, length, map}
use Rattle.sp_fact.specs.GroundView.{ground_of}
use Rattle.sp_read_steps.specs.Reading.{ReadsRow}
use Rattle.sp_read_steps.specs.View.{symbols_of}
use Rattle.sp_read_steps.proofs.Going.{Going}
use Rattle.sp_read_steps.proofs.terms.+term.Given as goal

abbrev pub decreases-term : goal.decreases-term
decreases-term l = 2 * length l.text.now

abbrev pub decreases-row : goal.decreases-row
decreases-row l = 2 * length l.text.now + 1

abbrev pub invariant-row-loop-found : goal.invariant-row-loop-found
invariant-row-loop-found l = record {
  reads : Going (ReadsRow (symbols_of l.symbols.items) l.close) l.text (map ground_of l.found.items) l.rest;
  shorter : length l.rest ≤ length l.text;
}

abbrev pub decreases-row-loop-found : goal.decreases-row-loop-found
decreases-row-loop-found l = length l.rest
