use Rattle.std.proofs.Common.{List, ap, ◌∙◌}
use Rattle.sp_spec_text.specs.Bindings.{Binding, with_whole}
use Rattle.sp_read_parts.specs.Views as parts
use Rattle.sp_resolved.proofs.Valued.{values_none, values_some}
use Rattle.sp_resolved.proofs.bindings.with_values.Goals as goal

pub returns-then-is_empty : goal.returns-then-is_empty
returns-then-is_empty c =
    let written = c.args.written in
    values_none written.bindings.len written.bindings.items (parts.rule written.rule) c.if-is_empty.ensures written.bindings.ok.0

pub returns : goal.returns
returns c =
    let written = c.args.written in
    c.in_ok-made.ensures
    ∙ ap (λ (bs : List Binding). with_whole bs (parts.rule written.rule)) c.in_ok-values.ensures
    ∙ values_some written.bindings.len written.bindings.items (parts.rule written.rule) c.if-is_empty.ensures written.bindings.ok.0
