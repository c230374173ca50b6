use Rattle.std.proofs.Common.{ℕ, ap, ◌∙◌}
use Rattle.sp_spec.specs.Substitution.{bound_to}
use Rattle.sp_term.specs.Bindings.{bindings}
use Rattle.sp_spec_system.specs.Equating.{system_changed}
use Rattle.sp_system.specs.SystemView.{system_of}
use Rattle.sp_formula.proofs.FreeChanges.{time_replaced-same}
use Rattle.sp_system.proofs.system.System.with_terms.Goals as goal

pub returns : goal.returns
returns c = c.in_ok-made.ensures ∙ ap (λ (times : ℕ → ℕ). system_changed (bound_to (bindings c.args.subst.now)) times (system_of c.args.self.now)) (time_replaced-same 0)
