use Rattle.std.proofs.Common.{◌≡◌, drop}
use Rattle.sp_spec.specs.Written as written
use Rattle.sp_declared.specs.View.{texts_of}
use Rattle.sp_declared.proofs.names.is_listed.Given as goal

abbrev pub invariant-loop-listed : goal.invariant-loop-listed
invariant-loop-listed l = written.is_listed l.name (texts_of l.names.items) ≡ written.is_listed l.name (texts_of (drop l.listed-index l.listed-items))
