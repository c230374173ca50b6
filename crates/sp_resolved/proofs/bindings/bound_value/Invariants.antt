use Rattle.std.proofs.Common.{◌≡◌, drop}
use Rattle.sp_spec_text.specs.Bindings.{bound_value}
use Rattle.sp_read_parts.specs.Views.{bindings}
use Rattle.sp_resolved.proofs.bindings.bound_value.Given as goal

abbrev pub invariant-loop-binding : goal.invariant-loop-binding
invariant-loop-binding l = bound_value (bindings l.bindings.items) l.name ≡ bound_value (bindings (drop l.binding-index l.binding-items)) l.name
