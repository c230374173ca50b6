use Rattle.std.proofs.Common.{◌≡◌, [], map, ap, ◌∙◌}
use Rattle.std.specs.List.{flat_map}
use Rattle.std.specs.Prelude.{string_bytes}
use Rattle.sp_spec.proofs.Options.{ok_so}
use Rattle.sp_declared.specs.WrittenRules.{rules_written}
use Rattle.sp_written.specs.Views as view
use Rattle.sp_warn.specs.Constants.{constants_in, alike_among}
use Rattle.sp_warn.specs.Forms.{made_in, forms_in}
use Rattle.sp_warn.specs.FormView.{made_of}
use Rattle.sp_lines.specs.TextsView.{texts_of}
use Rattle.sp_warn.specs.Told.{lines_after}
use Rattle.sp_warn.specs.Warnings.{sources_of_rule, actions_of_item, several_among, induction_of_item, warnings_on, lines_of}
use Rattle.sp_warn.proofs.SameMade.{same_sources, same_actions}
use Rattle.sp_warn.proofs.Telling.{told_five}
use Rattle.sp_warn.proofs.warnings_text.warnings.Goals as goal

pub returns : goal.returns
returns c =
    let items = view.items c.args.theory.now.items.items in
    let rules = rules_written items in
    let all = made_in rules in
    let made = made_of c.in_ok-made.made in
    let none = texts_of c.new-lines.result in
    let one = texts_of c.tell_sources.new.lines in
    let two = texts_of c.tell_actions.new.lines in
    let three = texts_of c.tell_alike.new.lines in
    let four = texts_of c.tell_several.new.lines in
    let five = texts_of c.tell_induction.new.lines in
    let told : five ≡ lines_after none (warnings_on items) =
    told_five none one two three four five (flat_map (sources_of_rule all) rules) (flat_map (actions_of_item all) items) (alike_among [] (constants_in items)) (several_among [] (forms_in rules))
    (flat_map induction_of_item items)
    (c.in_ok-tell_sources.ensures ∙ ap (lines_after none) (same_sources made all c.in_ok-made.ensures rules))
    (c.in_ok-tell_actions.ensures ∙ ap (lines_after one) (same_actions made all c.in_ok-made.ensures items))
    (c.in_ok-tell_alike.ensures ∙ ap (λ cs. lines_after two (alike_among [] cs)) c.in_ok-constants.ensures)
    (c.in_ok-tell_several.ensures ∙ ap (λ fs. lines_after three (several_among [] fs)) c.in_ok-forms.ensures)
    c.in_ok-tell_induction.ensures in
    ok_so c.into_vec.result _ (λ ls. map string_bytes ls.items ≡ lines_of (warnings_on items))
    (λ ls same. same ∙ (told ∙ ap (λ ls. lines_after ls (warnings_on items)) c.new-lines.ensures)) c.into_vec.ensures
