use Rattle.std.proofs.Common.{◌≡◌, Bool, map, drop}
use Rattle.std.specs.List.{list_any}
use Rattle.sp_spec.specs.Term.{Variable}
use Rattle.sp_spec.specs.Same.{same_variable}
use Rattle.sp_term.specs.View.{variable_of}
use Rattle.sp_variant.specs.View.{list_by}
use Rattle.sp_variant.proofs.numbering.is_seen.Given as goal

abbrev pub invariant-loop-x : goal.invariant-loop-x
invariant-loop-x l =
    let is : Variable → Bool = λ x. same_variable x (variable_of l.variable) in
    list_any is (list_by variable_of l.seen) ≡ list_any is (map variable_of (drop l.x-index l.x-items))
