use Rattle.std.proofs.Common.{◌≡◌, ◌++◌, map, take}
use Rattle.sp_read_parts.specs.Views.{variable}
use Rattle.sp_declared.specs.View.{texts_of}
use Rattle.sp_resolved.specs.Names.{named}
use Rattle.sp_resolved.proofs.formulas.within.Given as goal

abbrev pub invariant-loop-variable : goal.invariant-loop-variable
invariant-loop-variable l = texts_of l.names.items ≡ texts_of l.bound.items ++ map named (map variable (take l.variable-index l.variable-items))
