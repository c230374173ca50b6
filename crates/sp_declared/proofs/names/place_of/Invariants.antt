use Rattle.std.proofs.Common.{◌≡◌, ◌+◌, drop}
use Rattle.sp_spec.specs.Written as written
use Rattle.sp_declared.specs.View.{texts_of}
use Rattle.sp_declared.proofs.names.place_of.Given as goal

abbrev pub invariant-loop-place : goal.invariant-loop-place
invariant-loop-place l = written.place_of l.name (texts_of l.names.items) ≡ l.place + written.place_of l.name (texts_of (drop l.place l.listed-items))
