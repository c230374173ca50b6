use Rattle.std.proofs.Common.{◌≡◌, take, map}
use Rattle.sp_spec.specs.Term.{valued}
use Rattle.sp_spec.specs.Substitution.{bound_to}
use Rattle.sp_term.specs.Bindings.{bindings}
use Rattle.sp_term.specs.View.{view}
use Rattle.sp_system.proofs.way.changed_messages.Given as goal

abbrev pub invariant-loop-message : goal.invariant-loop-message
invariant-loop-message l = map view l.made.items ≡ map (valued (bound_to (bindings l.subst))) (map view (take l.message-index l.message-items))
