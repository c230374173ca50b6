use Rattle.std.proofs.Common.{List, map, refl}
use Rattle.sp_fact.specs.declared.fact.Action.{Action}
use Rattle.sp_read_parts.specs.declared.written.WrittenVariable.{WrittenVariable}
use Rattle.sp_read_parts.specs.Views as parts
use Rattle.sp_finding.specs.TermFindings.{unknown_in_all}
use Rattle.sp_wf_rules.specs.RuleFindings.{unknown_in_actions}
use Rattle.sp_finding.specs.Finding.{Finding, lines_after}
use Rattle.sp_finding.specs.KnownView.{symbols_of}
use Rattle.sp_lines.specs.TextsView.{texts_of}
use Rattle.sp_finding.proofs.Stepping.{next_part}
use Rattle.sp_wf_rules.proofs.terms.tell_unknown_in_actions.Goals as goal

pub loop-action-preserved : goal.loop-action-preserved
loop-action-preserved c =
    let all : List (Action WrittenVariable) → List Finding = λ xs. unknown_in_actions (symbols_of c.args.symbols.now) (map parts.action_of xs) in
    next_part (λ x. unknown_in_all (symbols_of c.args.symbols.now) (parts.action_of x).args) all (λ x xs. refl) c.deref-action-items.result.now c.args.actions.now.items c.loop-action.action-index c.action-item.result
    (texts_of c.loop-action.lines) (texts_of c.tell_unknown_in_all.new.lines) (lines_after (texts_of c.args.lines.now) (all c.args.actions.now.items))
    c.deref-action-items.ensures.value c.loop-action-test.true c.action-item.is c.in_ok-tell_unknown_in_all.ensures c.loop-action.invariant
