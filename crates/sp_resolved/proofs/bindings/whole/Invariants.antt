use Rattle.std.proofs.Common.{◌≡◌, drop}
use Rattle.sp_spec_text.specs.Bindings.{whole_after, whole}
use Rattle.sp_read_parts.specs.Views.{bindings}
use Rattle.sp_resolved.proofs.bindings.whole.Given as goal

abbrev pub invariant-loop-binding : goal.invariant-loop-binding
invariant-loop-binding l = whole_after (bindings l.above.items) (bindings (drop l.binding-index l.bindings.items)) ≡ whole (bindings l.bindings.items)
