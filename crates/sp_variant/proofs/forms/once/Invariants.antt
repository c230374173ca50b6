use Rattle.std.proofs.Common.{◌≡◌, [], map}
use Rattle.std.specs.List.{filter}
use Rattle.sp_fact.specs.GroundView.{equation_of}
use Rattle.sp_spec_forms.specs.Forms.{alike_form, is_normal_form}
use Rattle.sp_book.specs.View.{form_of}
use Rattle.sp_variant.specs.View.{list_by}
use Rattle.sp_variant.specs.Adding.{added_after}
use Rattle.sp_variant.proofs.forms.once.Given as goal

abbrev pub invariant-loop-form : goal.invariant-loop-form
invariant-loop-form l = list_by form_of l.forms ≡ added_after alike_form [] (filter (is_normal_form (map equation_of l.equations.items)) (map form_of l.yielded))
