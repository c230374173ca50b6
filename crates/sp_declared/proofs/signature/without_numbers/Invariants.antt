use Rattle.std.proofs.Common.{◌≡◌, map}
use Rattle.sp_fact.specs.GroundView.{equation_of}
use Rattle.sp_spec_text.specs.Declared.{their_equations}
use Rattle.sp_declared.specs.NumberedView.{numbered_of}
use Rattle.sp_declared.proofs.signature.without_numbers.Given as goal

abbrev pub invariant-loop-numbered : goal.invariant-loop-numbered
invariant-loop-numbered l = map equation_of l.made.items ≡ their_equations (map numbered_of l.yielded)
