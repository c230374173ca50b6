-- What applying a move gives: its cases, or the clause that fails.
use Rattle.std.specs.Prelude.{List, map, Option, Some, None}
use Rattle.sp_spec_system.specs.Move as spec
use Rattle.sp_moves.specs.Clause.{Clause, another_crate, absent, other_kind, condition}
use Rattle.sp_moves.specs.View.{case_of}
use Rattle.sp_moves.specs.declared.applied.Clause as memory
use Rattle.sp_moves.specs.declared.applied.Clause.TheVariants.{AnotherCrate, Absent, OtherKind, Condition}
use Rattle.sp_moves.specs.declared.applied.Applied.{Applied}
use Rattle.sp_moves.specs.declared.applied.Applied.TheVariants.{Cases, NotAnInstance}

abbrev pub clause_of : memory.Clause → Clause
clause_of AnotherCrate = another_crate
clause_of Absent = absent
clause_of OtherKind = other_kind
clause_of Condition = condition

-- the cases, where the move is an instance
abbrev pub cases_of : Applied → Option (List spec.Case)
cases_of (Cases cs) = Some (map case_of cs.items)
cases_of (NotAnInstance c) = None

-- the clause that fails, where it is none
abbrev pub failing : Applied → Option Clause
failing (Cases cs) = None
failing (NotAnInstance c) = Some (clause_of c)
