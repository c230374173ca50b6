use Rattle.std.proofs.Common.{◌≡◌, length, map}
use Rattle.std.specs.Prelude.{string_bytes}
use Rattle.std.specs.Slice.Iter.{iter_rest}
use Rattle.sp_step.specs.View.{case_of}
use Rattle.sp_check.specs.Judging.{are_named}
use Rattle.sp_check.proofs.judging.are_named.Given as goal

abbrev pub invariant-loop-case : goal.invariant-loop-case
invariant-loop-case l =
    (are_named (map case_of l.cases.items) (map string_bytes l.names.items) ≡ are_named (map case_of (iter_rest l.case-iterator.a)) (map string_bytes (iter_rest l.case-iterator.b)))
    × (length (iter_rest l.case-iterator.a) ≡ length (iter_rest l.case-iterator.b))
