use Rattle.std.proofs.Common.{◌≡◌, ◌+◌, ◌++◌, map, drop}
use Rattle.sp_term.specs.View.{variable_of}
use Rattle.sp_norm.specs.Bounds.{bounds}
use Rattle.sp_spec_solved.specs.Naming.{fresh_given}
use Rattle.sp_solved.proofs.naming.give_fresh.Given as goal

abbrev pub invariant-loop-place : goal.invariant-loop-place
invariant-loop-place l =
    bounds l.values ++ fresh_given (l.place + 1) (map variable_of (drop l.place l.variables.items))
    ≡ bounds l.fn.values ++ fresh_given 1 (map variable_of l.variables.items)
