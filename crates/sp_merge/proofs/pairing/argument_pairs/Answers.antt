use Rattle.std.proofs.Common.{sym, ◌∙◌, map, [], ◌∷◌, refl, arith}
use Rattle.std.proofs.lemmas.Grind.{common_steps}
use Rattle.std.proofs.lemmas.Slice.Zip.{either_empty_from_Zip}
use Rattle.std.specs.Slice.Iter.{iter_rest}
use Rattle.sp_term.specs.View.{view}
use Rattle.sp_unify.specs.View.{pair_view}
use Rattle.sp_merge.proofs.Pairs.{term_pair, argument_pairs-listed, unlike, gathered_more, gathered_end}
use Rattle.sp_merge.proofs.pairing.argument_pairs.Goals as goal

pub returns-then-len : goal.returns-then-len
returns-then-len c =
    let left = c.args.left.now.items in
    let right = c.args.right.now.items in
    sym (argument_pairs-listed left right ∙ unlike term_pair left right (λ e. absurd (omega (arith, c.if-len.true, c.len.ensures, c.len-2.ensures, c.args.left.now.ok.0, c.args.right.now.ok.0, e))))

pub loop-t-preserved : goal.loop-t-preserved
loop-t-preserved c =
    gathered_more term_pair c.args.left.now.items c.args.right.now.items (map pair_view c.loop-t.made.items) ((view c.in-Some.t.now, view c.in-Some.u.now) ∷ []) (map pair_view c.push.new.self.items)
    (iter_rest c.loop-t.t-iterator.a) (iter_rest c.loop-t.t-iterator.b) (iter_rest c.next.new.self.a) (iter_rest c.next.new.self.b) c.in-Some.t.now c.in-Some.u.now
    c.in-Some.ensures.steps.0 c.in-Some.ensures.steps.1 refl (grind (arith, common_steps)) c.loop-t.invariant

pub returns : goal.returns
returns c =
    let left = c.args.left.now.items in
    let right = c.args.right.now.items in
    sym (argument_pairs-listed left right
    ∙ gathered_end term_pair left right (map pair_view c.loop-t.made.items) (iter_rest c.loop-t.t-iterator.a) (iter_rest c.loop-t.t-iterator.b)
    (either_empty_from_Zip c.loop-t.t-iterator c.next.new.self c.next.result c.in-None.is c.next.ensures.steps) c.loop-t.invariant)
