-- A tree's moves have places, where those of its nodes do.
use Rattle.std.proofs.Common.{ℕ, zero, suc, List, [], ◌∷◌, take, drop}
use Rattle.sp_spec_nodes.specs.Preorder.{AreTrees}
use Rattle.sp_search.specs.Kept.{Kept, with_names, shown, shown_all}
use Rattle.sp_search.specs.Kinds.{Kind, open_leaf, end_at, choice, case_count, tree_over, all_kept, kept}
use Rattle.sp_skel.specs.Nodes.{move_at, NodesHavePlaces}
use Rattle.sp_skel.specs.Places.{HasPlace, HavePlaces, AllHavePlaces}

abbrev EachHas : List Kept → Type 0
EachHas [] = Unit {0}
EachHas (t ∷ ts) = HavePlaces (shown t) × EachHas ts

taken : (n : ℕ) (ts : List Kept) → EachHas ts → EachHas (take n ts)
taken zero ts has = tt
taken (suc n) [] has = tt
taken (suc n) (t ∷ ts) has = (has.0, taken n ts has.1)

left : (n : ℕ) (ts : List Kept) → EachHas ts → EachHas (drop n ts)
left zero ts has = has
left (suc n) [] has = tt
left (suc n) (t ∷ ts) has = left n ts has.1

named : (names : List (List ℕ)) (ts : List Kept) → EachHas ts → AllHavePlaces (shown_all (with_names names ts))
named [] ts has = tt
named (name ∷ names) [] has = tt
named (name ∷ names) (t ∷ ts) has = (has.0, named names ts has.1)

over : (n : Kind) (ts : List Kept) → HasPlace (move_at n) → EachHas ts → HavePlaces (shown (tree_over n ts))
over (open_leaf s chosen depth) ts here below = (tt, tt)
over (end_at log) ts here below = (tt, tt)
over (choice m names) ts here below = (here, named names ts below)

each_has : (ns : List Kind) → NodesHavePlaces ns → EachHas (all_kept ns)
each_has [] has = tt
each_has (n ∷ ns) has =
    let below : EachHas (all_kept ns) = each_has ns has.1 in
    (over n (take (case_count n) (all_kept ns)) has.0 (taken (case_count n) (all_kept ns) below), left (case_count n) (all_kept ns) below)

pub tree_has : (ns : List Kind) → AreTrees case_count 1 ns → NodesHavePlaces ns → HavePlaces (shown (kept ns))
tree_has [] are has = absurd are
tree_has (n ∷ ns) are has = (each_has (n ∷ ns) has).0
