use Rattle.std.proofs.Common.{◌≡◌, ◌+◌, map, drop}
use Rattle.sp_term.specs.View.{variable_of}
use Rattle.sp_spec_forms.specs.Numbering as spec
use Rattle.sp_variant.specs.View.{list_by}
use Rattle.sp_variant.proofs.numbering.place.Given as goal

abbrev pub invariant-loop-place : goal.invariant-loop-place
invariant-loop-place l = spec.place (list_by variable_of l.variables) (variable_of l.variable) ≡ l.place + spec.place (map variable_of (drop l.place l.x-items)) (variable_of l.variable)
