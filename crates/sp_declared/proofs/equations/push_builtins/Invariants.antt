use Rattle.std.proofs.Common.{◌≡◌, ◌++◌, map, drop}
use Rattle.sp_fact.specs.GroundView.{equation_of}
use Rattle.sp_term.specs.View.{name_of}
use Rattle.sp_declared.specs.Equations.{equations_named}
use Rattle.sp_declared.proofs.equations.push_builtins.Given as goal

abbrev pub invariant-loop-name : goal.invariant-loop-name
invariant-loop-name l =
    map equation_of l.found.items ++ equations_named (map name_of (drop l.name-index l.names.items)) ≡ map equation_of l.fn.found.items ++ equations_named (map name_of l.names.items)
