use Rattle.std.proofs.Common.{◌≡◌, ◌<◌, ◌∙◌, sym, subst, ap, List, length}
use Rattle.sp_step.specs.View.{context_of}
use Rattle.sp_spec_nodes.specs.Preorder.{AreTrees}
use Rattle.sp_search.specs.BlockView.{kinds_of, all_of}
use Rattle.sp_search.specs.InBlocks.{with_block, grown_in_block, ends}
use Rattle.sp_search.specs.Kinds.{Kind, case_count}
use Rattle.sp_search.specs.NodeView.{nodes_at}
use Rattle.sp_search.specs.Turning.{grown_at}
use Rattle.sp_search.proofs.BlockParts.{inside_below, put_again, still_inside}
use Rattle.sp_search.proofs.BlockTurns.{block_are, block_ends}
use Rattle.sp_search.proofs.grow.grown_block.Goals as goal

pub with_nodes-requires : goal.with_nodes-requires
with_nodes-requires c =
    let ks = kinds_of c.args.tree.blocks.items in
    still_inside c.args.index ks c.taken-others.result.0.items c.taken-others.ensures.rest (inside_below c.args.index c.args.place ks c.requires.inside)

pub invariant_of-result : goal.invariant_of-result
invariant_of-result c =
    let context = context_of c.args.context.now in
    let ks = kinds_of c.args.tree.blocks.items in
    let new = all_of c.in_ok-blocks.blocks.items in
    let made = nodes_at c.in_ok-grown.grown.items in
    let below : c.args.index < length ks = inside_below c.args.index c.args.place ks c.requires.inside in
    let put : new ≡ with_block c.args.index made ks = put_again c.args.index ks (kinds_of c.taken-others.result.0.items) made new c.taken-others.ensures.rest c.in_ok-blocks.ensures below in
    let grows : new ≡ grown_in_block context c.args.index c.args.place ks =
    put ∙ ap (λ (ns : List Kind). with_block c.args.index ns ks) (c.in_ok-grown.ensures ∙ ap (grown_at context c.args.place) c.taken-others.ensures.nodes) in
    record {
      is_one = subst (λ (ns : List Kind). AreTrees case_count 1 ns) (sym grows) (block_are context c.args.index c.args.place ks c.args.tree.is_one c.requires.inside);
      is_ended = c.ends-ended.ensures ∙ block_ends c.args.index made ks (sym c.args.tree.is_ended ∙ c.requires.goes_on) ∙ ap ends (sym put);
    }

pub returns : goal.returns
returns c =
    let context = context_of c.args.context.now in
    let ks = kinds_of c.args.tree.blocks.items in
    let new = all_of c.in_ok-blocks.blocks.items in
    let made = nodes_at c.in_ok-grown.grown.items in
    let below : c.args.index < length ks = inside_below c.args.index c.args.place ks c.requires.inside in
    put_again c.args.index ks (kinds_of c.taken-others.result.0.items) made new c.taken-others.ensures.rest c.in_ok-blocks.ensures below
    ∙ ap (λ (ns : List Kind). with_block c.args.index ns ks) (c.in_ok-grown.ensures ∙ ap (grown_at context c.args.place) c.taken-others.ensures.nodes)
