use Rattle.std.proofs.Common.{[], ◌∷◌}
use Rattle.sp_spec.specs.Written.{in_terms}
use Rattle.sp_read_parts.specs.Views as view
use Rattle.sp_guard.specs.View.{innermost_first}
use Rattle.sp_wf_formulas.specs.FormulaFindings.{as_message, as_time, uses_as}
use Rattle.sp_wf_formulas.specs.Sought.{sought_view}
use Rattle.sp_lines.specs.TextsView.{texts_of}
use Rattle.sp_wf_formulas.proofs.Using.{sought_behind}
use Rattle.sp_wf_formulas.proofs.uses.tell_happening.Goals as goal

pub returns : goal.returns
returns c =
    let bs = innermost_first c.args.binders.now.items in
    sought_behind (texts_of c.args.lines.now) _ (texts_of c.tell_use.new.lines) (sought_view c.args.search.sought) c.args.search.formula.now
    (uses_as as_message bs (in_terms (view.terms c.args.action.now.args.items))) (uses_as as_time bs (view.variable c.args.at ∷ []))
    c.in_ok-tell_terms.ensures c.in_ok-tell_use.ensures
