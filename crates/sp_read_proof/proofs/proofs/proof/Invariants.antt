use Rattle.std.proofs.Common.{◌-◌, ◌≤◌, length}
use Rattle.sp_read_parts.specs.Views.{seen_from}
use Rattle.sp_spec_text.specs.Proofs.{SpellsProof}
use Rattle.sp_read_proof.specs.Held.{Waits}
use Rattle.sp_read_proof.specs.View.{steps_of, frames_of}
use Rattle.sp_read_proof.proofs.proofs.proof.Given as goal

abbrev pub invariant-loop-first : goal.invariant-loop-first
invariant-loop-first l = record {
  waits : Waits SpellsProof (seen_from l.tokens l.at) (frames_of l.frames.items) (steps_of l.steps.items) (seen_from l.tokens l.rest);
  further : l.at ≤ l.rest;
}

abbrev pub decreases-loop-first : goal.decreases-loop-first
decreases-loop-first l = length l.tokens - l.rest
