use Rattle.std.proofs.Common.{map, arith}
use Rattle.std.proofs.lemmas.Grind.{common_steps}
use Rattle.std.proofs.lemmas.Slice.Zip.{either_empty_from_Zip}
use Rattle.std.specs.Slice.Iter.{iter_rest}
use Rattle.sp_unify.specs.View.{pair_view}
use Rattle.sp_merge.proofs.Pairs.{common, common_more, common_end}
use Rattle.sp_merge.proofs.merging.common_pairs.Goals as goal

pub loop-t-preserved : goal.loop-t-preserved
loop-t-preserved c =
    common_more (map pair_view c.loop-t.made.items) (map pair_view c.push.new.self.items) (common c.args.left.now.items c.args.right.now.items)
    (iter_rest c.loop-t.t-iterator.a) (iter_rest c.loop-t.t-iterator.b) (iter_rest c.next.new.self.a) (iter_rest c.next.new.self.b) c.in-Some.t.now c.in-Some.u.now
    c.in-Some.ensures.steps.0 c.in-Some.ensures.steps.1 (grind (arith, common_steps)) c.loop-t.invariant

pub returns : goal.returns
returns c =
    common_end (map pair_view c.loop-t.made.items) (common c.args.left.now.items c.args.right.now.items) (iter_rest c.loop-t.t-iterator.a) (iter_rest c.loop-t.t-iterator.b)
    (either_empty_from_Zip c.loop-t.t-iterator c.next.new.self c.next.result c.in-None.is c.next.ensures.steps) c.loop-t.invariant
