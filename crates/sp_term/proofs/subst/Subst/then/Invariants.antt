use Rattle.std.proofs.Common.{◌≡◌, take, map}
use Rattle.sp_spec.specs.Term.{valued}
use Rattle.sp_spec.specs.Substitution.{Binding, bound_to}
use Rattle.sp_term.specs.Bindings.{bindings, binding_of}
use Rattle.sp_term.proofs.subst.Subst.then.Given as goal

abbrev pub invariant-loop-binding : goal.invariant-loop-binding
invariant-loop-binding l = bindings l.made ≡ map (λ (b : Binding). (b.0, valued (bound_to (bindings l.next)) b.1)) (map binding_of (take l.binding-index l.binding-items))
