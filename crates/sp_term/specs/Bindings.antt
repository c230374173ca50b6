-- The bindings that `Bindings` in memory stand for.
use Rattle.std.specs.Prelude.{List, map, Bool, false, ◌==◌, if◌then◌else◌, Option, Some, None}
use Rattle.std.specs.Str.{bytes_eq}
use Rattle.sp_spec.specs.Term.{Term, constant, name}
use Rattle.sp_spec.specs.Term as spec
use Rattle.sp_spec.specs.Substitution as substitution
use Rattle.sp_term.specs.View.{variable_of, view_by}
use Rattle.sp_term.specs.declared.term.Variable.{Variable}
use Rattle.sp_term.specs.declared.subst.Binding.{Binding}
use Rattle.sp_term.specs.declared.subst.Bindings.{Bindings}

abbrev pub binding_by : {M V : Type 0} → (M → V) → Binding M → spec.Variable × Term V
binding_by leaf_of b = (variable_of b.variable, view_by leaf_of b.term)

abbrev pub bindings_by : {M V : Type 0} → (M → V) → Bindings M → List (spec.Variable × Term V)
bindings_by leaf_of s = map (binding_by leaf_of) s.bindings.items

-- those of a substitution
abbrev pub binding_of : Binding Variable → substitution.Binding
binding_of b = binding_by variable_of b

abbrev pub bindings : Bindings Variable → List substitution.Binding
bindings s = bindings_by variable_of s

-- what a search that adds to the bindings answers
abbrev pub answer : {S : Type 0} → Bool → S → Option S
answer b s = if b then Some s else None

-- whether the two are one name, public or fresh
abbrev pub are_one_name : {V W : Type 0} → Term V → Term W → Bool
are_one_name (constant c) (constant d) = bytes_eq c d
are_one_name (name m) (name n) = m == n
are_one_name _ _ = false
