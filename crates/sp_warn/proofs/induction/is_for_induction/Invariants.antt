use Rattle.std.proofs.Common.{◌≡◌, drop}
use Rattle.sp_written.specs.Views.{attributes}
use Rattle.sp_warn.specs.Warnings as spec
use Rattle.sp_warn.proofs.induction.is_for_induction.Given as goal

abbrev pub invariant-loop-attribute : goal.invariant-loop-attribute
invariant-loop-attribute l = spec.is_for_induction (attributes l.attributes.items) ≡ spec.is_for_induction (attributes (drop l.attribute-index l.attributes.items))
