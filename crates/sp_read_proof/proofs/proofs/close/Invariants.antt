use Rattle.std.proofs.Common.{◌≤◌, List, length}
use Rattle.sp_read_parts.specs.Views.{seen_from}
use Rattle.sp_spec_text.specs.Written.{WrittenProof}
use Rattle.sp_read_proof.specs.Frames.{Frame, Completes}
use Rattle.sp_read_proof.specs.Held.{Ends}
use Rattle.sp_read_proof.specs.View.{steps_of, frames_of}
use Rattle.sp_read_proof.proofs.Reading.{Goes}
use Rattle.sp_read_proof.proofs.proofs.close.Given as goal

abbrev pub invariant-loop-frame : goal.invariant-loop-frame
invariant-loop-frame l = record {
  going : (fs : List Frame) (k : WrittenProof) → Ends (frames_of l.initial.frames.items) (steps_of l.initial.steps.items) fs k
      → Goes (Completes fs k) (seen_from l.tokens l.at) (frames_of l.frames.items) (steps_of l.steps.items) (seen_from l.tokens l.rest);
  further : l.at ≤ l.rest;
  within : l.rest ≤ length l.tokens;
}

abbrev pub decreases-loop-frame : goal.decreases-loop-frame
decreases-loop-frame l = length l.frames.items
