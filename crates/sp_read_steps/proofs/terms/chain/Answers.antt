use Rattle.std.proofs.Common.{◌≡◌, List, map, Some, sym, ap, ◌∙◌}
use Rattle.sp_spec.specs.Term.{Ground}
use Rattle.sp_spec.specs.Signature.{pair}
use Rattle.sp_fact.specs.GroundView.{ground_of}
use Rattle.sp_read_steps.specs.Reading.{chain}
use Rattle.sp_read_steps.proofs.Pairs.{onto, onto_last, chain_pair, chain_last}
use Rattle.sp_read_steps.proofs.terms.chain.Goals as goal

pub returns-then-is_pair_term : goal.returns-then-is_pair_term
returns-then-is_pair_term c = sym (ap chain c.in-Some.ensures.value ∙ chain_pair (map ground_of c.pop.new.terms.items) (ground_of c.in-Some.last) (sym c.is_pair_term.ensures ∙ c.if-is_pair_term.true))

pub loop-left-init : goal.loop-left-init
loop-left-init c = sym (ap chain c.in-Some.ensures.value ∙ chain_last (map ground_of c.pop.new.terms.items) (ground_of c.in-Some.last) (sym c.is_pair_term.ensures ∙ c.if-is_pair_term.false))

pub loop-left-preserved : goal.loop-left-preserved
loop-left-preserved c =
    let old = map ground_of c.loop-left.terms.items in
    let new = map ground_of c.pop-in-loop-left.new.terms.items in
    let left = ground_of c.in-Some-pop.left in
    let made = ground_of c.loop-left.made in
    let e : onto old made ≡ onto new (pair left made) = ap (λ (ts : List Ground). onto ts made) c.in-Some-pop.ensures.value ∙ onto_last new left made in
    rw c.in_ok-made.ensures (ap (λ (t : Ground). Some t) (sym e) ∙ c.loop-left.invariant)
