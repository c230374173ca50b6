use Rattle.std.proofs.Common.{◌≡◌, drop, map}
use Rattle.sp_spec.specs.Substitution.{lookup}
use Rattle.sp_term.specs.View.{variable_of}
use Rattle.sp_term.specs.Bindings.{bindings_by, binding_by}
use Rattle.sp_term.proofs.subst.Bindings.get.Given as goal

abbrev pub invariant-loop-binding : goal.invariant-loop-binding
invariant-loop-binding g l =
    let leaf_of = g.M.Leaf.leaf_of in
    lookup (bindings_by leaf_of l.self) (variable_of l.variable) ≡ lookup (map (binding_by leaf_of) (drop l.binding-index l.binding-items)) (variable_of l.variable)
