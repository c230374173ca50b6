use Rattle.std.proofs.Common.{◌≡◌, ◌++◌, map, drop}
use Rattle.sp_fact.specs.GroundView.{equation_of}
use Rattle.sp_spec_text.specs.Written.{builtins_in}
use Rattle.sp_written.specs.Views as view
use Rattle.sp_declared.specs.Equations.{equations_named}
use Rattle.sp_declared.proofs.equations.builtin_equations.Given as goal

abbrev pub invariant-loop-item : goal.invariant-loop-item
invariant-loop-item l =
    map equation_of l.found.items ++ equations_named (builtins_in (view.items (drop l.item-index l.items.items))) ≡ equations_named (builtins_in (view.items l.items.items))
