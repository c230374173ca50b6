use Rattle.std.proofs.Common.{◌≡◌, drop, map}
use Rattle.sp_term.specs.View.{name_of}
use Rattle.sp_fact.specs.GroundView.{equation_of}
use Rattle.sp_conv.specs.Tests.{some_root}
use Rattle.sp_conv.proofs.form.some_root.Given as goal

abbrev pub invariant-loop-equation : goal.invariant-loop-equation
invariant-loop-equation l = some_root (map equation_of l.equations.items) (name_of l.name) l.count ≡ some_root (map equation_of (drop l.equation-index l.equation-items)) (name_of l.name) l.count
