use Rattle.std.proofs.Common.{sym, ◌∙◌, map, arith}
use Rattle.std.proofs.lemmas.Grind.{common_steps}
use Rattle.std.proofs.lemmas.Slice.Zip.{either_empty_from_Zip}
use Rattle.std.specs.Slice.Iter.{iter_rest}
use Rattle.sp_spec_system.specs.Equating.{action_pair}
use Rattle.sp_fact.specs.View.{action_of}
use Rattle.sp_unify.specs.View.{pair_view}
use Rattle.sp_merge.proofs.Pairs.{action_pairs-listed, unlike, gathered_more, gathered_stop, gathered_end}
use Rattle.sp_merge.proofs.pairing.action_pairs.Goals as goal

pub returns-then-len : goal.returns-then-len
returns-then-len c =
    let left = c.args.left.now.items in
    let right = c.args.right.now.items in
    sym (action_pairs-listed left right ∙ unlike (λ a b. action_pair (action_of a) (action_of b)) left right
    (λ e. absurd (omega (arith, c.if-len.true, c.len.ensures, c.len-2.ensures, c.args.left.now.ok.0, c.args.right.now.ok.0, e))))

pub returns-in_default : goal.returns-in_default
returns-in_default c =
    let left = c.args.left.now.items in
    let right = c.args.right.now.items in
    sym (action_pairs-listed left right
    ∙ gathered_stop (λ a b. action_pair (action_of a) (action_of b)) left right (map pair_view c.loop-a.made.items)
    (iter_rest c.loop-a.a-iterator.a) (iter_rest c.loop-a.a-iterator.b) (iter_rest c.next.new.self.a) (iter_rest c.next.new.self.b)
    c.in-Some.a.now c.in-Some.b.now c.in-Some.ensures.steps.0 c.in-Some.ensures.steps.1
    (sym (rw c.in_default.is at c.in_ok-pairs.ensures)) c.loop-a.invariant)

pub loop-a-preserved : goal.loop-a-preserved
loop-a-preserved c =
    gathered_more (λ a b. action_pair (action_of a) (action_of b)) c.args.left.now.items c.args.right.now.items (map pair_view c.loop-a.made.items)
    (map pair_view c.in-Some-2.pairs.items) (map pair_view c.append.new.self.items)
    (iter_rest c.loop-a.a-iterator.a) (iter_rest c.loop-a.a-iterator.b) (iter_rest c.next.new.self.a) (iter_rest c.next.new.self.b)
    c.in-Some.a.now c.in-Some.b.now c.in-Some.ensures.steps.0 c.in-Some.ensures.steps.1
    (sym (rw c.in-Some-2.is at c.in_ok-pairs.ensures)) (grind (arith, common_steps)) c.loop-a.invariant

pub returns : goal.returns
returns c =
    let left = c.args.left.now.items in
    let right = c.args.right.now.items in
    sym (action_pairs-listed left right
    ∙ gathered_end (λ a b. action_pair (action_of a) (action_of b)) left right (map pair_view c.loop-a.made.items) (iter_rest c.loop-a.a-iterator.a) (iter_rest c.loop-a.a-iterator.b)
    (either_empty_from_Zip c.loop-a.a-iterator c.next.new.self c.next.result c.in-None.is c.next.ensures.steps) c.loop-a.invariant)
