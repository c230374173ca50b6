use Rattle.std.proofs.Common.{sym, ◌∙◌, map, arith}
use Rattle.std.proofs.lemmas.Grind.{common_steps}
use Rattle.std.proofs.lemmas.Slice.Zip.{either_empty_from_Zip}
use Rattle.std.specs.Slice.Iter.{iter_rest}
use Rattle.sp_spec_system.specs.Equating.{fact_pair}
use Rattle.sp_fact.specs.View.{fact_of}
use Rattle.sp_unify.specs.View.{pair_view}
use Rattle.sp_merge.proofs.Pairs.{fact_pairs-listed, unlike, gathered_more, gathered_stop, gathered_end}
use Rattle.sp_merge.proofs.pairing.fact_pairs.Goals as goal

pub returns-then-len : goal.returns-then-len
returns-then-len c =
    let left = c.args.left.now.items in
    let right = c.args.right.now.items in
    sym (fact_pairs-listed left right ∙ unlike (λ f g. fact_pair (fact_of f) (fact_of g)) left right
    (λ e. absurd (omega (arith, c.if-len.true, c.len.ensures, c.len-2.ensures, c.args.left.now.ok.0, c.args.right.now.ok.0, e))))

pub returns-in_default : goal.returns-in_default
returns-in_default c =
    let left = c.args.left.now.items in
    let right = c.args.right.now.items in
    sym (fact_pairs-listed left right
    ∙ gathered_stop (λ f g. fact_pair (fact_of f) (fact_of g)) left right (map pair_view c.loop-f.made.items)
    (iter_rest c.loop-f.f-iterator.a) (iter_rest c.loop-f.f-iterator.b) (iter_rest c.next.new.self.a) (iter_rest c.next.new.self.b)
    c.in-Some.f.now c.in-Some.g.now c.in-Some.ensures.steps.0 c.in-Some.ensures.steps.1
    (sym (rw c.in_default.is at c.in_ok-pairs.ensures)) c.loop-f.invariant)

pub loop-f-preserved : goal.loop-f-preserved
loop-f-preserved c =
    gathered_more (λ f g. fact_pair (fact_of f) (fact_of g)) c.args.left.now.items c.args.right.now.items (map pair_view c.loop-f.made.items)
    (map pair_view c.in-Some-2.pairs.items) (map pair_view c.append.new.self.items)
    (iter_rest c.loop-f.f-iterator.a) (iter_rest c.loop-f.f-iterator.b) (iter_rest c.next.new.self.a) (iter_rest c.next.new.self.b)
    c.in-Some.f.now c.in-Some.g.now c.in-Some.ensures.steps.0 c.in-Some.ensures.steps.1
    (sym (rw c.in-Some-2.is at c.in_ok-pairs.ensures)) (grind (arith, common_steps)) c.loop-f.invariant

pub returns : goal.returns
returns c =
    let left = c.args.left.now.items in
    let right = c.args.right.now.items in
    sym (fact_pairs-listed left right
    ∙ gathered_end (λ f g. fact_pair (fact_of f) (fact_of g)) left right (map pair_view c.loop-f.made.items) (iter_rest c.loop-f.f-iterator.a) (iter_rest c.loop-f.f-iterator.b)
    (either_empty_from_Zip c.loop-f.f-iterator c.next.new.self c.next.result c.in-None.is c.next.ensures.steps) c.loop-f.invariant)
