-- The values that `Values` stand for.
use Rattle.std.specs.Prelude.{List, Bool, Option}
use Rattle.sp_law_equal.specs.Matching as spec
use Rattle.sp_term.specs.View.{never_of, Never}
use Rattle.sp_term.specs.Bindings as bindings
use Rattle.sp_term.specs.Bindings.{binding_by, bindings_by}
use Rattle.sp_term.specs.declared.subst.Binding.{Binding}
use Rattle.sp_term.specs.declared.subst.Bindings.{Bindings}

abbrev pub bound_of : Binding Never → spec.Bound
bound_of b = binding_by never_of b

abbrev pub bounds : Bindings Never → List spec.Bound
bounds s = bindings_by never_of s

-- what a search that adds to the bindings answers
abbrev pub answer : Bool → List spec.Bound → Option (List spec.Bound)
answer b bs = bindings.answer b bs
