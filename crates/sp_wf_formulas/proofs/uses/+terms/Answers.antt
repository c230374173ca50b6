use Rattle.std.proofs.Common.{List}
use Rattle.sp_term.specs.declared.term.Term.{Term}
use Rattle.sp_read_parts.specs.declared.written.WrittenVariable.{WrittenVariable}
use Rattle.sp_spec.specs.Written.{in_term, in_terms}
use Rattle.sp_read_parts.specs.Views as view
use Rattle.sp_guard.specs.View.{innermost_first}
use Rattle.sp_wf_formulas.specs.Sought.{role_view, sought_view, used}
use Rattle.sp_wf_formulas.proofs.Using.{used_both}
use Rattle.sp_finding.specs.Finding.{Finding, lines_after}
use Rattle.sp_lines.specs.TextsView.{texts_of}
use Rattle.sp_finding.proofs.Stepping.{next_part}
use Rattle.sp_wf_formulas.proofs.uses.+terms.Goals as goal

pub tell_terms-loop-term-preserved : goal.tell_terms-loop-term-preserved
tell_terms-loop-term-preserved t c =
    let all : List (Term WrittenVariable) → List Finding = λ xs. used (sought_view c.args.search.sought) c.args.search.formula.now (role_view c.args.role) (innermost_first c.args.binders.now.items) (in_terms (view.terms xs)) in
    next_part (λ x. used (sought_view c.args.search.sought) c.args.search.formula.now (role_view c.args.role) (innermost_first c.args.binders.now.items) (in_term (view.term x))) all (λ x xs. used_both (sought_view c.args.search.sought) c.args.search.formula.now (role_view c.args.role) (innermost_first c.args.binders.now.items) (in_term (view.term x)) (in_terms (view.terms xs))) c.deref-term-items.result.now c.args.terms.now.items c.loop-term.term-index c.term-item.result
    (texts_of c.loop-term.lines) (texts_of c.tell_term.new.lines) (lines_after (texts_of c.args.lines.now) (all c.args.terms.now.items))
    c.deref-term-items.ensures.value c.loop-term-test.true c.term-item.is c.in_ok-tell_term.ensures c.loop-term.invariant
