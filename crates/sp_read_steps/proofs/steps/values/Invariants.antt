use Rattle.std.proofs.Common.{length, map}
use Rattle.sp_fact.specs.GroundView.{given_of}
use Rattle.sp_read_steps.specs.Reading.{ReadsValues}
use Rattle.sp_read_steps.specs.View.{symbols_of}
use Rattle.sp_read_steps.proofs.Going.{Going}
use Rattle.sp_read_steps.proofs.steps.values.Given as goal

abbrev pub invariant-loop-found : goal.invariant-loop-found
invariant-loop-found l = Going (ReadsValues (symbols_of l.symbols.items)) l.text (map given_of l.found.items) l.rest

abbrev pub decreases-loop-found : goal.decreases-loop-found
decreases-loop-found l = length l.rest
