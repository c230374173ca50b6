use Rattle.std.proofs.Common.{Bool, List}
use Rattle.sp_spec.specs.Findings.{is_named}
use Rattle.sp_spec.specs.Written.{in_term, in_terms}
use Rattle.sp_term.specs.declared.term.Term.{Term}
use Rattle.sp_read_parts.specs.declared.written.WrittenVariable.{WrittenVariable}
use Rattle.sp_read_parts.specs.Views as view
use Rattle.sp_finding.proofs.Stepping.{found_here, passed_by}
use Rattle.sp_wf_rules.proofs.Standing.{named_in_either}
use Rattle.sp_wf_rules.proofs.variables.+stands.Goals as goal

pub stands_in_one-returns-then-stands_in : goal.stands_in_one-returns-then-stands_in
stands_in_one-returns-then-stands_in t c =
    let x = c.args.name.now in
    let all : List (Term WrittenVariable) → Bool = λ ts. is_named x (in_terms (view.terms ts)) in
    found_here (λ t. is_named x (in_term (view.term t))) all (λ t ts. named_in_either x (in_term (view.term t)) (in_terms (view.terms ts))) c.deref-term-items.result.now c.args.terms.now.items
    c.loop-term.term-index c.term-item.result (all c.args.terms.now.items) c.deref-term-items.ensures.value c.loop-term-test.true c.term-item.is c.if-stands_in.ensures c.loop-term.invariant

pub stands_in_one-loop-term-preserved : goal.stands_in_one-loop-term-preserved
stands_in_one-loop-term-preserved t c =
    let x = c.args.name.now in
    let all : List (Term WrittenVariable) → Bool = λ ts. is_named x (in_terms (view.terms ts)) in
    passed_by (λ t. is_named x (in_term (view.term t))) all (λ t ts. named_in_either x (in_term (view.term t)) (in_terms (view.terms ts))) c.deref-term-items.result.now c.args.terms.now.items
    c.loop-term.term-index c.term-item.result (all c.args.terms.now.items) c.deref-term-items.ensures.value c.loop-term-test.true c.term-item.is c.if-stands_in.ensures c.loop-term.invariant
