use Rattle.std.proofs.Common.{◌++◌, sym, ap, subst, ◌∙◌, string_bytes}
use Rattle.std.proofs.lemmas.Result.{on_ok_weaker}
use Rattle.sp_spec.specs.Term.{Ground, app}
use Rattle.sp_term.specs.View.{name_of}
use Rattle.sp_fact.specs.GroundView.{ground_of, grounds_of}
use Rattle.sp_spec_printed.specs.Printed.{text_at}
use Rattle.sp_fact.proofs.Applied.{ground_app}
use Rattle.sp_show.specs.Numbers.{HasNames, numbered_names}
use Rattle.sp_show.proofs.Texts.{written_application}
use Rattle.sp_show.proofs.term.+text.Goals as goal

pub write_at-returns-in_ok-write_row-in-App-clause-text : goal.write_at-returns-in_ok-write_row-in-App-clause-text
write_at-returns-in_ok-write_row-in-App-clause-text t c =
    let old = string_bytes c.args.out.now in
    let f = name_of c.in-App.symbol in
    let row = c.deref-terms.result.now in
    on_ok_weaker c.write_closing.result
    (λ h.
    written_application old (string_bytes c.write_opening.new.out) (string_bytes c.write_row.new.out) (string_bytes c.write_closing.new.out)
    c.args.ends f (grounds_of row.items) c.is_pair.result c.is_pair.ensures
    c.in_ok-write_opening-in-App.ensures c.in_ok-write_row-in-App.ensures.text h
    ∙ ap (λ (u : Ground). old ++ text_at c.args.ends u)
    (ap (λ v. app f (grounds_of v.items)) c.deref-terms.ensures ∙ sym (ap ground_of c.in-App.is ∙ ground_app c.in-App.symbol c.in-App.shared c.in-App.field-2)))
    c.write_closing.ensures

pub write_at-returns-in_ok-write_row-in-App-clause-numbered : goal.write_at-returns-in_ok-write_row-in-App-clause-numbered
write_at-returns-in_ok-write_row-in-App-clause-numbered t c =
    let row = c.deref-terms.result.now in
    let is = ap (λ v. app (name_of c.in-App.symbol) (grounds_of v.items)) c.deref-terms.ensures ∙ sym (ap ground_of c.in-App.is ∙ ground_app c.in-App.symbol c.in-App.shared c.in-App.field-2) in
    on_ok_weaker c.write_closing.result (λ h. subst (HasNames numbered_names) is c.in_ok-write_row-in-App.ensures.numbered) c.write_closing.ensures
