use Rattle.std.proofs.Common.{◌≡◌, drop, map}
use Rattle.sp_term.specs.View.{name_of}
use Rattle.sp_fact.specs.GroundView.{symbol_of}
use Rattle.sp_conv.specs.Tests.{has_constant}
use Rattle.sp_conv.proofs.form.has_constant.Given as goal

abbrev pub invariant-loop-symbol : goal.invariant-loop-symbol
invariant-loop-symbol l = has_constant (map symbol_of l.symbols.items) l.private (name_of l.name) ≡ has_constant (map symbol_of (drop l.symbol-index l.symbol-items)) l.private (name_of l.name)
