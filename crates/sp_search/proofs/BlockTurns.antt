-- A turn on blocks is a turn of the tree that they stand for, and the search ends where growth has just put its end.
use Rattle.std.proofs.Common.{◌≡◌, ◌∙◌, ℕ, suc, ◌+◌, ◌<◌, Bool, true, false, ◌||◌, List, [], ◌∷◌, ◌++◌, take, drop, length, Option, Some, None, refl, sym, ap, subst, arith, option_map}
use Rattle.std.specs.Prelude.{if◌then◌else◌, is_some}
use Rattle.sp_spec.specs.Log.{Log}
use Rattle.sp_spec_system.specs.Move.{Context}
use Rattle.sp_spec_proof.specs.Tree.{first_log}
use Rattle.sp_spec_nodes.specs.Preorder.{AreTrees}
use Rattle.sp_search.specs.Kept.{Kept, log_in}
use Rattle.sp_search.specs.Kinds.{Kind, open_leaf, end_at, choice, case_count, kept}
use Rattle.sp_search.specs.Growing.{least_kept, turn_at, turn}
use Rattle.sp_search.specs.Told.{log_at}
use Rattle.sp_search.specs.Turning.{first_least, grown_at}
use Rattle.sp_search.specs.InBlocks.{joined, is_end, ends, first_spot, block_at, with_block, grown_in_block}
use Rattle.sp_search.proofs.BlockLaws.{Same, spot_is, block_parted, block_grows}
use Rattle.sp_search.proofs.NextPlace.{turned, tree_turns}
use Rattle.sp_search.proofs.Replaced.{grown_are}
use Rattle.sp_search.proofs.Told.{first_log_of, log_told}

-- ---- ends

either : (n : Kind) (o : Option Log) → (is_end n || is_some o) ≡ is_some (first_log (log_at n) o)
either (open_leaf s chosen depth) o = refl
either (end_at log) o = refl
either (choice move names) o = refl

ends_is : (ns : List Kind) → ends ns ≡ is_some (first_log_of ns)
ends_is [] = refl
ends_is (n ∷ ns) = ap (λ (b : Bool). is_end n || b) (ends_is ns) ∙ either n (first_log_of ns)

pub ends_told : (ns : List Kind) → AreTrees case_count 1 ns → ends ns ≡ is_some (log_in (kept ns))
ends_told ns are = ends_is ns ∙ ap is_some (sym (log_told ns are))

or_regroup : (a b c : Bool) → (a || (b || c)) ≡ ((a || b) || c)
or_regroup true b c = refl
or_regroup false b c = refl

ends_appended : (ns ms : List Kind) → ends (ns ++ ms) ≡ (ends ns || ends ms)
ends_appended [] ms = refl
ends_appended (n ∷ ns) ms = ap (λ (b : Bool). is_end n || b) (ends_appended ns ms) ∙ or_regroup (is_end n) (ends ns) (ends ms)

between : (a b c d : Bool) → (a || (b || c)) ≡ false → d ≡ (a || (d || c))
between true b c d e = absurd (cc)
between false true c d e = absurd (cc)
between false false true d e = absurd (cc)
between false false false true e = refl
between false false false false e = refl

-- where no block has ended, the whole ends where the new block does
pub block_ends : (block : ℕ) (ns : List Kind) (bs : List (List Kind)) → ends (joined bs) ≡ false → ends ns ≡ ends (with_block block ns bs)
block_ends block ns bs none =
    let front : List Kind = joined (take block bs) in
    let back : List Kind = joined (drop (suc block) bs) in
    let parts : (own : List Kind) → ends (front ++ (own ++ back)) ≡ (ends front || (ends own || ends back)) =
    λ own. ends_appended front (own ++ back) ∙ ap (λ (b : Bool). ends front || b) (ends_appended own back) in
    let before : (ends front || (ends (block_at block bs) || ends back)) ≡ false = sym (parts (block_at block bs)) ∙ ap ends (block_parted block bs) ∙ none in
    between (ends front) (ends (block_at block bs)) (ends back) (ends ns) before ∙ sym (parts ns)

-- ---- trees stay trees

pub block_are : (context : Context) (block place : ℕ) (bs : List (List Kind)) → AreTrees case_count 1 (joined bs) → place < length (block_at block bs)
    → AreTrees case_count 1 (grown_in_block context block place bs)
block_are context block place bs are h =
    subst (λ (ns : List Kind). AreTrees case_count 1 ns) (block_grows context block place bs h) (grown_are context (length (joined (take block bs)) + place) 1 (joined bs) are)

-- ---- a turn

abbrev pub IsInside : List (List Kind) → Option (ℕ × ℕ × ℕ) → Type 0
IsInside bs None = Unit {0}
IsInside bs (Some at) = at.1 < length (block_at at.0 bs)

pub spot_inside : (bs : List (List Kind)) → IsInside bs (first_spot 0 bs)
spot_inside bs = by_spot (first_least 0 (joined bs)) (first_spot 0 bs) (spot_is 0 0 bs)
  where
    by_spot : (found : Option (ℕ × ℕ)) (at : Option (ℕ × ℕ × ℕ)) → Same 0 0 bs found at → IsInside bs at
    by_spot found None s = tt
    by_spot None (Some at) s = absurd s
    by_spot (Some found) (Some at) s =
        let e : s.skipped ≡ at.0 = omega (arith, s.block_is) in
        subst (λ (block : ℕ). at.1 < length (block_at block bs)) e s.within

abbrev pub block_turned : Context → List (List Kind) → Option (ℕ × ℕ × ℕ) → Kept × Bool
block_turned context bs None = (kept (joined bs), false)
block_turned context bs (Some at) = (kept (grown_in_block context at.0 at.1 bs), true)

turned_is : (context : Context) (bs : List (List Kind)) (found : Option (ℕ × ℕ)) (at : Option (ℕ × ℕ × ℕ)) → Same 0 0 bs found at
    → turned context (joined bs) (option_map (λ (f : ℕ × ℕ). f.0) found) ≡ block_turned context bs at
turned_is context bs None None s = refl
turned_is context bs None (Some at) s = absurd s
turned_is context bs (Some found) None s = absurd s
turned_is context bs (Some found) (Some at) s =
    let e : s.skipped ≡ at.0 = omega (arith, s.block_is) in
    let place : found.0 ≡ length (joined (take s.skipped bs)) + at.1 = omega (arith, s.place_is) in
    ap (λ (p : ℕ). (kept (grown_at context p (joined bs)), true)) place
    ∙ ap (λ (ns : List Kind). (kept ns, true)) (block_grows context s.skipped at.1 bs s.within)
    ∙ ap (λ (block : ℕ). (kept (grown_in_block context block at.1 bs), true)) e

-- where the search hasn't ended
pub blocks_turn : (context : Context) (bs : List (List Kind)) → AreTrees case_count 1 (joined bs) → ends (joined bs) ≡ false
    → turn context (kept (joined bs)) ≡ block_turned context bs (first_spot 0 bs)
blocks_turn context bs are none =
    tree_turns context (joined bs) are (sym (ends_told (joined bs) are) ∙ none)
    ∙ turned_is context bs (first_least 0 (joined bs)) (first_spot 0 bs) (spot_is 0 0 bs)

-- where it has
pub ended_turn : (context : Context) (bs : List (List Kind)) → AreTrees case_count 1 (joined bs) → ends (joined bs) ≡ true → turn context (kept (joined bs)) ≡ (kept (joined bs), false)
ended_turn context bs are is =
    ap (λ (b : Bool). let r : Kept × Bool = if b then (kept (joined bs), false) else turn_at context (kept (joined bs)) (least_kept (kept (joined bs))) in r)
    (sym (ends_told (joined bs) are) ∙ is)
