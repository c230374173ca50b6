use Rattle.std.proofs.Common.{◌∙◌, ℕ, ap, sym, subst, Option, true, List}
use Rattle.sp_step.specs.View.{context_of}
use Rattle.sp_search.specs.BlockView.{kinds_of}
use Rattle.sp_search.specs.Kinds.{Kind, kept}
use Rattle.sp_search.proofs.BlockTurns.{IsInside, spot_inside, ended_turn, blocks_turn, block_turned}
use Rattle.sp_search.proofs.grow.turn.Goals as goal

pub grown_block-requires-clause-inside : goal.grown_block-requires-clause-inside
grown_block-requires-clause-inside c =
    let ks = kinds_of c.args.tree.blocks.items in
    subst (λ (o : Option (ℕ × ℕ × ℕ)). IsInside ks o) (sym c.in-Some.ensures) (spot_inside ks)

pub returns-then-tree : goal.returns-then-tree
returns-then-tree c =
    let tree = c.args.tree in
    sym (ended_turn (context_of c.args.context.now) (kinds_of tree.blocks.items) tree.is_one (sym tree.is_ended ∙ c.if-tree.true))

pub returns-in_ok-grown-in-Some : goal.returns-in_ok-grown-in-Some
returns-in_ok-grown-in-Some c =
    let tree = c.args.tree in
    let context = context_of c.args.context.now in
    let ks = kinds_of tree.blocks.items in
    let is = blocks_turn context ks tree.is_one (sym tree.is_ended ∙ c.if-tree.false) in
    ap (λ (ns : List Kind). (kept ns, true)) c.in_ok-grown-in-Some.ensures ∙ sym (is ∙ ap (block_turned context ks) (sym c.in-Some.ensures))

pub returns-in-None : goal.returns-in-None
returns-in-None c =
    let tree = c.args.tree in
    let context = context_of c.args.context.now in
    let ks = kinds_of tree.blocks.items in
    let is = blocks_turn context ks tree.is_one (sym tree.is_ended ∙ c.if-tree.false) in
    sym (is ∙ ap (block_turned context ks) (sym c.in-None.ensures))
