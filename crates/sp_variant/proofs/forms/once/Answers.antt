use Rattle.std.proofs.Common.{map, sym, ◌∙◌}
use Rattle.sp_fact.specs.GroundView.{equation_of}
use Rattle.sp_spec_forms.specs.Forms.{is_normal_form}
use Rattle.sp_book.specs.View.{form_of}
use Rattle.sp_variant.specs.View.{list_by}
use Rattle.sp_variant.proofs.Once.{added_last}
use Rattle.sp_variant.proofs.forms.once.Goals as goal

pub loop-form-preserved-in-Continue-branch-2 : goal.loop-form-preserved-in-Continue-branch-2
loop-form-preserved-in-Continue-branch-2 c =
    added_last form_of (is_normal_form (map equation_of c.args.equations.now.items)) c.loop-form.yielded c.in-Some.form (list_by form_of c.loop-form.forms) (list_by form_of c.add.new.forms)
    (sym c.in_ok-irreducible_facts.ensures ∙ c.if-branch.true) c.loop-form.invariant c.in_ok-add.ensures
