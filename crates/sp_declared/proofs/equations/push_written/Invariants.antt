use Rattle.std.proofs.Common.{◌≡◌, ◌++◌, map, drop}
use Rattle.sp_fact.specs.GroundView.{equation_of}
use Rattle.sp_spec_text.specs.Declared as spec
use Rattle.sp_written.specs.Views as view
use Rattle.sp_declared.proofs.equations.push_written.Given as goal

abbrev pub invariant-loop-written : goal.invariant-loop-written
invariant-loop-written l =
    map equation_of l.found.items ++ map spec.equation_of (map view.equation (drop l.written-index l.written-items))
    ≡ map equation_of l.fn.found.items ++ map spec.equation_of (map view.equation l.more.items)
