use Rattle.std.proofs.Common.{map}
use Rattle.sp_fact.specs.GroundView.{equation_of, symbol_of}
use Rattle.sp_conv.specs.Forms.{IsForm}
use Rattle.sp_conv.proofs.Searches.{NoneBefore}
use Rattle.sp_conv.proofs.check.first_of.Given as goal

abbrev pub invariant-loop-place : goal.invariant-loop-place
invariant-loop-place l = NoneBefore (λ e. IsForm (map symbol_of l.symbols.items) (map equation_of l.equations.items) e l.form) (map equation_of l.equations.items) l.place
