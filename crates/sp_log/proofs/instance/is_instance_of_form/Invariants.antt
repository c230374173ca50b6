use Rattle.std.proofs.Common.{◌≡◌, List, drop, map}
use Rattle.std.specs.List.{list_any}
use Rattle.sp_fact.specs.GroundView.{signature_of, ground_facts}
use Rattle.sp_spec_forms.specs.Numbering.{Form}
use Rattle.sp_book.specs.View.{form_of}
use Rattle.sp_log.specs.Checking.{is_instance}
use Rattle.sp_log.proofs.instance.is_instance_of_form.Given as goal

abbrev pub invariant-loop-form : goal.invariant-loop-form
invariant-loop-form l =
    let any = λ (forms : List Form). list_any (λ form. is_instance (signature_of l.signature) form (ground_facts l.facts)) forms in
    any (map form_of l.forms.items) ≡ any (map form_of (drop l.form-index l.form-items))
