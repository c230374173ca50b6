use Rattle.std.proofs.Common.{◌≡◌, ◌+◌, ◌-◌, ◌≤◌, ◌++◌, length, map, drop}
use Rattle.sp_term.specs.View.{name_of, variable_of}
use Rattle.sp_norm.specs.Bounds.{bounds}
use Rattle.sp_spec_solved.specs.Naming.{public_given}
use Rattle.sp_solved.proofs.naming.give_public.Given as goal

abbrev pub invariant-loop-passed : goal.invariant-loop-passed
invariant-loop-passed l =
    record {
      within : l.given ≤ length l.variables.items;
      same : bounds l.values ++ public_given (map name_of l.constants.items) (length l.variables.items + length l.constants.items - l.passed) (l.passed + 1) (map variable_of (drop l.given l.variables.items))
          ≡ bounds l.fn.values ++ public_given (map name_of l.constants.items) (length l.variables.items + length l.constants.items) 1 (map variable_of l.variables.items);
    }
