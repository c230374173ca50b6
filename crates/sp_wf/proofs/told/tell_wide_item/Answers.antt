use Rattle.std.proofs.Common.{◌≡◌, OnOk, List, sym, subst, append-nil, ◌∙◌}
use Rattle.sp_read_parts.specs.Formulas.{formula}
use Rattle.sp_finding.specs.Finding.{Finding, lines_after}
use Rattle.sp_lines.specs.TextsView.{texts_of}
use Rattle.sp_wf_formulas.specs.FormulaFindings.{wide_in}
use Rattle.sp_wf_formulas.proofs.OnTerms.{wide_told}
use Rattle.sp_wf.proofs.told.tell_wide_item.Goals as goal

pub returns-in-Restriction : goal.returns-in-Restriction
returns-in-Restriction c =
    let f = formula c.in-Restriction.restriction.formula in
    rw c.in-Restriction.is
    (subst (λ (fs : List Finding). OnOk c.tell_terms_of.result (texts_of c.tell_terms_of.new.lines ≡ lines_after (texts_of c.args.lines.now) fs)) (wide_told f ∙ sym (append-nil (wide_in f)))
    c.tell_terms_of.ensures)

pub returns-in-Lemma : goal.returns-in-Lemma
returns-in-Lemma c =
    let f = formula c.in-Lemma.lemma.formula in
    rw c.in-Lemma.is
    (subst (λ (fs : List Finding). OnOk c.tell_terms_of-in-Lemma.result (texts_of c.tell_terms_of-in-Lemma.new.lines ≡ lines_after (texts_of c.args.lines.now) fs))
    (wide_told f ∙ sym (append-nil (wide_in f))) c.tell_terms_of-in-Lemma.ensures)
