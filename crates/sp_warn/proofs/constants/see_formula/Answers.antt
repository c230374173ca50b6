use Rattle.std.proofs.Common.{◌≡◌, [], ap, ◌∙◌}
use Rattle.sp_spec.proofs.Options.{on_so}
use Rattle.sp_spec.specs.Constants.{once_after, in_formula}
use Rattle.sp_read_parts.specs.Formulas.{formula}
use Rattle.sp_declared.proofs.Named.{names_collected}
use Rattle.sp_lines.specs.TextsView.{texts_of}
use Rattle.sp_warn.proofs.constants.see_formula.Goals as goal

pub returns : goal.returns
returns c =
    let old = texts_of c.args.seen.now in
    let f = formula c.args.formula.now in
    on_so c.collect_closed.result _ (texts_of c.collect_closed.new.seen ≡ once_after old (in_formula f))
    (λ told. told ∙ ap (once_after old) (names_collected [] f)) c.collect_closed.ensures
