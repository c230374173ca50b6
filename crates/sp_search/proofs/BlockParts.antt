-- A block is taken out of a list of blocks, and nodes are put in its place.
use Rattle.std.proofs.Common.{◌≡◌, ◌∙◌, ℕ, zero, suc, ◌<◌, ◌≤◌, List, [], ◌∷◌, ◌++◌, get_or, take, drop, drop-cons, length, refl, sym, ap, ap₂, arith}
use Rattle.std.proofs.lemmas.List.{append-nil, append_assoc, drop-map, take-map, map-append, length-map}
use Rattle.std.specs.List.{insert, remove}
use Rattle.sp_search.specs.BlockView.{nodes_of, kinds_of, all_of}
use Rattle.sp_search.specs.InBlocks.{joined, block_in_front, block_at, with_block}
use Rattle.sp_search.specs.Kinds.{Kind}
use Rattle.sp_search.specs.NodeView.{node_at, nodes_at}
use Rattle.sp_search.specs.declared.block.Block.{Block}
use Rattle.sp_search.specs.declared.node.Node.{Node}

-- ---- nodes put in

pub joined_appended : (bs cs : List (List Kind)) → joined (bs ++ cs) ≡ joined bs ++ joined cs
joined_appended [] cs = refl
joined_appended (b ∷ bs) cs = ap (λ (ns : List Kind). b ++ ns) (joined_appended bs cs) ∙ sym (append_assoc b (joined bs) (joined cs))

pub put_once : (block : ℕ) (ns : List Kind) (bs : List (List Kind)) → joined (insert bs block ns) ≡ joined (take block bs) ++ (ns ++ joined (drop block bs))
put_once block ns bs = joined_appended (take block bs) (ns ∷ drop block bs)

pub put_twice : (block : ℕ) (ns ms : List Kind) (bs : List (List Kind)) → block ≤ length bs
    → joined (insert (insert bs block ms) block ns) ≡ joined (take block bs) ++ ((ns ++ ms) ++ joined (drop block bs))
put_twice zero ns ms bs h = sym (append_assoc ns ms (joined bs))
put_twice (suc block) ns ms [] h = absurd (omega (arith, h))
put_twice (suc block) ns ms (b ∷ bs) h =
    ap (λ (ks : List Kind). b ++ ks) (put_twice block ns ms bs (omega (arith, h))) ∙ sym (append_assoc b (joined (take block bs)) ((ns ++ ms) ++ joined (drop block bs)))

pub put_back : (block : ℕ) (ns : List Kind) (bs : List (List Kind)) → block < length bs
    → joined (take block (remove bs block)) ++ (ns ++ joined (drop block (remove bs block))) ≡ with_block block ns bs
put_back block ns [] h = absurd (omega (arith, h))
put_back zero ns (b ∷ bs) h = refl
put_back (suc block) ns (b ∷ bs) h =
    append_assoc b (joined (take block (remove bs block))) (ns ++ joined (drop block (remove bs block)))
    ∙ ap (λ (ks : List Kind). b ++ ks) (put_back block ns bs (omega (arith, h)))
    ∙ sym (append_assoc b (joined (take block bs)) (ns ++ joined (drop (suc block) bs)))

pub inside_below : (block place : ℕ) (bs : List (List Kind)) → place < length (block_at block bs) → block < length bs
inside_below zero place [] h = absurd (omega (arith, h))
inside_below (suc block) place [] h = absurd (omega (arith, h))
inside_below zero place (b ∷ bs) h = omega arith
inside_below (suc block) place (b ∷ bs) h = omega (arith, inside_below block place bs h)

-- ---- blocks in memory

pub insert_kinds : (block : ℕ) (bs : List Block) (b : Block) (ns : List Kind) → nodes_of b ≡ ns → kinds_of (insert bs block b) ≡ insert (kinds_of bs) block ns
insert_kinds block bs b ns is =
    map-append nodes_of (take block bs) (b ∷ drop block bs)
    ∙ ap₂ (λ (front back : List (List Kind)). front ++ (nodes_of b ∷ back)) (sym (take-map nodes_of block bs)) (sym (drop-map nodes_of block bs))
    ∙ ap (λ (ks : List Kind). take block (kinds_of bs) ++ (ks ∷ drop block (kinds_of bs))) is

pub remove_kinds : (block : ℕ) (bs : List Block) → kinds_of (remove bs block) ≡ remove (kinds_of bs) block
remove_kinds block bs =
    map-append nodes_of (take block bs) (drop (suc block) bs) ∙ ap₂ ◌++◌ (sym (take-map nodes_of block bs)) (sym (drop-map nodes_of (suc block) bs))

pub block_is : (block : ℕ) (bs : List Block) (b : Block) → block < length bs → b ≡ get_or bs block b → nodes_of b ≡ block_at block (kinds_of bs)
block_is block bs b h is =
    let split : drop block bs ≡ b ∷ drop (suc block) bs = drop-cons bs block b h ∙ rw (← is) refl in
    sym (ap block_in_front (drop-map nodes_of block bs) ∙ ap (λ (cs : List Block). block_in_front (kinds_of cs)) split)

pub many_kinds : (bs : List Block) → length (kinds_of bs) ≡ length bs
many_kinds bs = length-map bs nodes_of

-- nodes that are parted are the same nodes, side by side
pub parted_twice : (block : ℕ) (ns : List Kind) (half : ℕ) (bs : List (List Kind)) → block ≤ length bs
    → joined (insert (insert bs block (drop half ns)) block (take half ns)) ≡ joined (take block bs) ++ (ns ++ joined (drop block bs))
parted_twice block ns half bs h =
    put_twice block (take half ns) (drop half ns) bs h ∙ ap (λ (ks : List Kind). joined (take block bs) ++ (ks ++ joined (drop block bs))) (halves half ns)
  where
    halves : (n : ℕ) (ks : List Kind) → take n ks ++ drop n ks ≡ ks
    halves zero ks = refl
    halves (suc n) [] = refl
    halves (suc n) (k ∷ ks) = ap (λ (ms : List Kind). k ∷ ms) (halves n ks)

pub parted_is : (block half : ℕ) (nodes front back : List Node) (bs longer parted : List (List Kind)) → front ≡ take half nodes → back ≡ drop half nodes
    → longer ≡ insert bs block (nodes_at back) → parted ≡ insert longer block (nodes_at front) → block ≤ length bs
    → joined parted ≡ joined (take block bs) ++ (nodes_at nodes ++ joined (drop block bs))
parted_is block half nodes front back bs longer parted front_is back_is longer_is same h =
    let first : nodes_at front ≡ take half (nodes_at nodes) = ap nodes_at front_is ∙ sym (take-map node_at half nodes) in
    let second : nodes_at back ≡ drop half (nodes_at nodes) = ap nodes_at back_is ∙ sym (drop-map node_at half nodes) in
    let both : parted ≡ insert (insert bs block (drop half (nodes_at nodes))) block (take half (nodes_at nodes)) =
    same ∙ ap₂ (λ (ks : List (List Kind)) (ns : List Kind). insert ks block ns) (longer_is ∙ ap (insert bs block) second) first in
    ap joined both ∙ parted_twice block (nodes_at nodes) half bs h

pub put_again : (block : ℕ) (bs others : List (List Kind)) (ns whole : List Kind) → others ≡ remove bs block → whole ≡ joined (take block others) ++ (ns ++ joined (drop block others))
    → block < length bs → whole ≡ with_block block ns bs
put_again block bs others ns whole others_are whole_is h =
    whole_is ∙ ap (λ (cs : List (List Kind)). joined (take block cs) ++ (ns ++ joined (drop block cs))) others_are ∙ put_back block ns bs h

many_left : (block : ℕ) (bs : List (List Kind)) → block < length bs → block ≤ length (remove bs block)
many_left zero bs h = omega arith
many_left (suc block) [] h = absurd (omega (arith, h))
many_left (suc block) (b ∷ bs) h = omega (arith, many_left block bs (omega (arith, h)))

pub still_inside : (block : ℕ) (bs : List (List Kind)) (others : List Block) → kinds_of others ≡ remove bs block → block < length bs → block ≤ length others
still_inside block bs others is h =
    let same : length (kinds_of others) ≡ length (remove bs block) = ap length is in
    omega (arith, many_left block bs h, many_kinds others, same)

pub block_behind : (nodes more new : List Node) (done : List Block) (b : Block) → new ≡ nodes ++ more → more ≡ b.nodes.items → nodes_at nodes ≡ all_of done
    → nodes_at new ≡ all_of (done ++ b ∷ [])
block_behind nodes more new done b is own so_far =
    ap nodes_at is ∙ map-append node_at nodes more ∙ ap₂ ◌++◌ so_far (ap nodes_at own ∙ sym (append-nil (nodes_of b)))
    ∙ sym (ap joined (map-append nodes_of done (b ∷ [])) ∙ joined_appended (kinds_of done) (nodes_of b ∷ []))
