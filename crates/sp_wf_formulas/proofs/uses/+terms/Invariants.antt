use Rattle.std.proofs.Common.{◌≡◌, drop}
use Rattle.sp_spec.specs.Written.{in_terms}
use Rattle.sp_read_parts.specs.Views as view
use Rattle.sp_guard.specs.View.{innermost_first}
use Rattle.sp_finding.specs.Finding.{lines_after}
use Rattle.sp_wf_formulas.specs.Sought.{role_view, sought_view, used}
use Rattle.sp_lines.specs.TextsView.{texts_of}
use Rattle.sp_wf_formulas.proofs.uses.+terms.Given as goal

abbrev pub invariant-tell_terms-loop-term : goal.invariant-tell_terms-loop-term
invariant-tell_terms-loop-term l =
    lines_after (texts_of l.lines) (used (sought_view l.search.sought) l.search.formula.now (role_view l.role) (innermost_first l.binders.items) (in_terms (view.terms (drop l.term-index l.terms.items))))
    ≡ lines_after (texts_of l.fn.lines) (used (sought_view l.search.sought) l.search.formula.now (role_view l.role) (innermost_first l.binders.items) (in_terms (view.terms l.terms.items)))
