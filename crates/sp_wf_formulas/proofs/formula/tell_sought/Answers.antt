use Rattle.std.proofs.Common.{◌≡◌, [], ap, ◌∙◌}
use Rattle.sp_spec.proofs.Options.{on_so}
use Rattle.sp_read_parts.specs.Formulas.{formula}
use Rattle.sp_finding.specs.Finding.{lines_after}
use Rattle.sp_lines.specs.TextsView.{texts_of}
use Rattle.sp_wf_formulas.specs.FormulaFindings.{uses}
use Rattle.sp_wf_formulas.specs.Sought.{sought, sought_view}
use Rattle.sp_wf_formulas.proofs.Formulas.{sought_collected}
use Rattle.sp_wf_formulas.proofs.formula.tell_sought.Goals as goal

pub returns : goal.returns
returns c =
    let old = texts_of c.args.lines.now in
    let kind = sought_view c.args.wanted in
    let name = c.args.name.now in
    let f = formula c.args.formula.now in
    on_so c.collect_closed.result _ (texts_of c.collect_closed.new.seen ≡ lines_after old (sought kind name (uses [] f)))
    (λ told. told ∙ ap (lines_after old) (sought_collected kind name [] f)) c.collect_closed.ensures
