use Rattle.std.proofs.Common.{◌≡◌, ◌++◌, map, drop}
use Rattle.sp_term.specs.View.{variable_of}
use Rattle.sp_spec_solved.specs.Naming.{fresh_among}
use Rattle.sp_solved.proofs.naming.fresh_among.Given as goal

abbrev pub invariant-loop-variable : goal.invariant-loop-variable
invariant-loop-variable l =
    map variable_of l.found.items ++ fresh_among (map variable_of (drop l.variable-index l.variables.items)) ≡ fresh_among (map variable_of l.variables.items)
