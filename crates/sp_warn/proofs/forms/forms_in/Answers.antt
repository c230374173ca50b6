use Rattle.std.proofs.Common.{◌++◌, append_assoc, map}
use Rattle.std.proofs.lemmas.List.Concat.{flat_map-append}
use Rattle.std.specs.List.{flat_map}
use Rattle.sp_declared.specs.WrittenRules.{item_written, rules_written}
use Rattle.sp_declared.proofs.Stepping.{next}
use Rattle.sp_written.specs.Views as view
use Rattle.sp_warn.specs.Forms.{forms_of, forms_in}
use Rattle.sp_warn.specs.FormView.{form_of}
use Rattle.sp_warn.proofs.forms.forms_in.Goals as goal

pub loop-item-preserved : goal.loop-item-preserved
loop-item-preserved c =
    next ◌++◌ append_assoc (λ x. flat_map forms_of (item_written (view.item x))) (λ xs. flat_map forms_of (rules_written (view.items xs)))
    (λ x xs. flat_map-append forms_of (item_written (view.item x)) (rules_written (view.items xs)))
    c.deref-item-items.result.now c.args.items.now.items c.loop-item.item-index c.item-item.result
    (map form_of c.loop-item.found.items) (map form_of c.push_forms_of.new.found.items) (forms_in (rules_written (view.items c.args.items.now.items)))
    c.deref-item-items.ensures.value c.loop-item-test.true c.item-item.is c.in_ok-push_forms_of.ensures c.loop-item.invariant
