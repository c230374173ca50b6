use Rattle.std.proofs.Common.{List, refl}
use Rattle.sp_fact.specs.declared.fact.Fact.{Fact}
use Rattle.sp_read_parts.specs.declared.written.WrittenVariable.{WrittenVariable}
use Rattle.sp_read_parts.specs.Views as parts
use Rattle.sp_finding.specs.TermFindings.{unknown_in_all}
use Rattle.sp_wf_rules.specs.RuleFindings.{unknown_in_facts}
use Rattle.sp_finding.specs.Finding.{Finding, lines_after}
use Rattle.sp_finding.specs.KnownView.{symbols_of}
use Rattle.sp_lines.specs.TextsView.{texts_of}
use Rattle.sp_finding.proofs.Stepping.{next_part}
use Rattle.sp_wf_rules.proofs.terms.tell_unknown_in_facts.Goals as goal

pub loop-fact-preserved : goal.loop-fact-preserved
loop-fact-preserved c =
    let all : List (Fact WrittenVariable) → List Finding = λ xs. unknown_in_facts (symbols_of c.args.symbols.now) (parts.facts_of xs) in
    next_part (λ x. unknown_in_all (symbols_of c.args.symbols.now) (parts.fact_of x).args) all (λ x xs. refl) c.deref-fact-items.result.now c.args.facts.now.items c.loop-fact.fact-index c.fact-item.result
    (texts_of c.loop-fact.lines) (texts_of c.tell_unknown_in_all.new.lines) (lines_after (texts_of c.args.lines.now) (all c.args.facts.now.items))
    c.deref-fact-items.ensures.value c.loop-fact-test.true c.fact-item.is c.in_ok-tell_unknown_in_all.ensures c.loop-fact.invariant
