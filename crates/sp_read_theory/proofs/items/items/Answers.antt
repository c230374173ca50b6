use Rattle.sp_read_lemmas.proofs.Suffix.{left_over, nothing_left}
use Rattle.sp_read_theory.proofs.Gone.{gone_item, gone_all, gone_places, gone_too_far, nothing_follows}
use Rattle.sp_read_theory.proofs.items.items.Goals as goal

pub returns-then-last-tokens-clause-value : goal.returns-then-last-tokens-clause-value
returns-then-last-tokens-clause-value c =
    gone_too_far c.loop-last.invariant c.in-Some.ensures.value (left_over c.args.tokens.now c.in-Some.last c.if-last-tokens.true)

pub returns-in-Some-clause-value : goal.returns-in-Some-clause-value
returns-in-Some-clause-value c =
    gone_all c.loop-last.invariant (nothing_follows c.in-Some.ensures.value (nothing_left c.args.tokens.now c.in-Some.last c.if-last-tokens.false))

pub returns-in-Some-clause-places : goal.returns-in-Some-clause-places
returns-in-Some-clause-places c = gone_places c.loop-last.invariant

pub loop-last-preserved : goal.loop-last-preserved
loop-last-preserved c =
    let one = rw c.in-Some-2.is at c.in_ok-next.ensures in
    rw (c.in_ok-push_item.ensures.value, c.in_ok-push_item.ensures.places) (gone_item c.loop-last.invariant one.value)
