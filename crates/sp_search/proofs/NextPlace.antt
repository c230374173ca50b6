-- The place that is found is that of the first open leaf of the least class, and with its node replaced the tree is grown.
use Rattle.std.proofs.Common.{◌≡◌, ◌∙◌, ℕ, zero, suc, ◌+◌, Bool, true, false, List, [], ◌∷◌, Option, Some, None, refl, sym, ap, arith, min, option_map}
use Rattle.std.specs.Prelude.{if◌then◌else◌, nat_lt, is_some}
use Rattle.std.proofs.lemmas.Bool.Decides.{nat_tests}
use Rattle.sp_spec_system.specs.Move.{unproved, Context}
use Rattle.sp_spec_proof.specs.Choice.{class_of}
use Rattle.sp_spec_proof.specs.Growth.{least, has_class}
use Rattle.sp_spec_nodes.specs.Preorder.{AreTrees, first}
use Rattle.sp_spec_nodes.proofs.Preorder.{count_trees}
use Rattle.sp_spec_nodes.proofs.Gathered.{gather, one_tree}
use Rattle.sp_search.specs.Kept.{Kept, inner, nothing, log_in}
use Rattle.sp_search.specs.Kinds.{Kind, open_leaf, end_at, choice, case_count, tree_over, all_kept, kept}
use Rattle.sp_search.specs.Growing.{least_kept, least_in, turn_at, turn}
use Rattle.sp_search.specs.Turning.{class_at, sooner, placed, first_least, next_place, grown_at}
use Rattle.sp_search.proofs.GrownNodes.{grow_all, stays}
use Rattle.sp_search.proofs.Replaced.{leaf_grows}
use Rattle.sp_search.proofs.Gathering.{kept_gathers}

-- ---- the least class

least_last : (a : Option ℕ) → least a None ≡ a
least_last None = refl
least_last (Some a) = refl

min_regroup : (a b c : ℕ) → min (min a b) c ≡ min a (min b c)
min_regroup a b c = omega arith

least_regroup : (a b c : Option ℕ) → least (least a b) c ≡ least a (least b c)
least_regroup None b c = refl
least_regroup (Some a) None c = refl
least_regroup (Some a) (Some b) None = refl
least_regroup (Some a) (Some b) (Some c) = ap Some (min_regroup a b c)

abbrev pub least_of : List Kind → Option ℕ
least_of = gather least None class_at

-- the least class of the tree's leaves is that of its nodes
pub least_is_of : (ns : List Kind) → AreTrees case_count 1 ns → least_kept (kept ns) ≡ least_of ns
least_is_of =
    kept_gathers least None (λ a. refl) least_last least_regroup least_kept least_in class_at (λ s m depth. refl) (λ log. refl) (λ m names ts. refl) refl (λ name t ts. refl)

-- ---- the place

-- What is found from a place on: a leaf of the least class, with whose node replaced the trees are grown.
record IsFound (context : Context) (place : ℕ) (ns : List Kind) (found : ℕ × ℕ) : Type 0 where
  is_least : least_of ns ≡ Some found.1
  skipped : ℕ
  place_is : found.0 ≡ place + skipped
  grows : (j : ℕ) → AreTrees case_count j ns → ◌≡◌ {A = List Kept × Bool} (grow_all context found.1 false (all_kept ns)) (all_kept (grown_at context skipped ns), true)

-- or nothing, where no leaf has a class
abbrev Sought : Context → ℕ → List Kind → Option (ℕ × ℕ) → Type 0
Sought context place ns None = least_of ns ≡ None
Sought context place ns (Some found) = IsFound context place ns found

-- a node without a class, or with a greater one than another behind it
passed : (context : Context) (place : ℕ) (n : Kind) (ns : List Kind) (found : ℕ × ℕ) → has_class (class_at n) found.1 ≡ false → least (class_at n) (Some found.1) ≡ Some found.1
    → IsFound context (suc place) ns found → IsFound context place (n ∷ ns) found
passed context place n ns found other lesser h = record {
  is_least = ap (least (class_at n)) h.is_least ∙ lesser;
  skipped = suc h.skipped;
  place_is = omega (arith, h.place_is);
  grows = grows;
}
  where
    grows : (j : ℕ) → AreTrees case_count j (n ∷ ns)
        → ◌≡◌ {A = List Kept × Bool} (grow_all context found.1 false (all_kept (n ∷ ns))) (all_kept (grown_at context (suc h.skipped) (n ∷ ns)), true)
    grows zero are = absurd are
    grows (suc j) are = stays context found.1 n ns (grown_at context h.skipped ns) j are other (h.grows (case_count n + j) are)

own_class : (own : Option ℕ) (k : ℕ) → own ≡ Some k → has_class own k ≡ true
own_class None k e = absurd (cc)
own_class (Some a) k e =
    let same : a ≡ k = cc in
    grind (arith, nat_tests)

-- an open leaf of the least class
here : (context : Context) (place : ℕ) (n : Kind) (ns : List Kind) (class : ℕ) → class_at n ≡ Some class → least_of (n ∷ ns) ≡ Some class → IsFound context place (n ∷ ns) (place, class)
here context place (open_leaf s m depth) ns class own lesser = record {
  is_least = lesser;
  skipped = 0;
  place_is = omega arith;
  grows = λ j are. leaf_grows context class s m depth ns (own_class (class_of m depth) class own);
}
here context place (end_at log) ns class own lesser = absurd (cc)
here context place (choice m names) ns class own lesser = absurd (cc)

other_class : (a b : ℕ) → nat_lt b a ≡ true → has_class (Some a) b ≡ false
other_class a b e = grind (arith, nat_tests)

lesser_later : (a b : ℕ) → nat_lt b a ≡ true → least (Some a) (Some b) ≡ Some b
lesser_later a b e = let less : min a b ≡ b = grind (arith, nat_tests) in ap Some less

lesser_here : (a b : ℕ) → nat_lt b a ≡ false → least (Some a) (Some b) ≡ Some a
lesser_here a b e = let less : min a b ≡ a = grind (arith, nat_tests) in ap Some less

-- of a node and what is found behind it
chosen : (context : Context) (place : ℕ) (n : Kind) (ns : List Kind) (own : Option ℕ) → class_at n ≡ own → (later : Option (ℕ × ℕ)) → Sought context (suc place) ns later
    → Sought context place (n ∷ ns) (sooner (placed place own) later)
chosen context place n ns None e None h = rw (e, h) refl
chosen context place n ns None e (Some found) h = passed context place n ns found (rw e refl) (rw e refl) h
chosen context place n ns (Some class) e None h = here context place n ns class e (rw (e, h) refl)
chosen context place n ns (Some class) e (Some found) h = by_class (nat_lt found.1 class) refl
  where
    by_class : (b : Bool) → nat_lt found.1 class ≡ b → Sought context place (n ∷ ns) (if b then Some found else Some (place, class))
    by_class true less =
        let other : has_class (class_at n) found.1 ≡ false = rw e (other_class class found.1 less) in
        let lesser : least (class_at n) (Some found.1) ≡ Some found.1 = rw e (lesser_later class found.1 less) in
        passed context place n ns found other lesser h
    by_class false less = here context place n ns class e (rw (e, h.is_least) (lesser_here class found.1 less))

first_is : (context : Context) (place : ℕ) (ns : List Kind) → Sought context place ns (first_least place ns)
first_is context place [] = refl
first_is context place (n ∷ ns) = chosen context place n ns (class_at n) refl (first_least (suc place) ns) (first_is context (suc place) ns)

-- ---- one turn

abbrev pub turned : Context → List Kind → Option ℕ → Kept × Bool
turned context ns None = (kept ns, false)
turned context ns (Some place) = (kept (grown_at context place ns), true)

abbrev one : List Kept × Bool → Kept × Bool
one r = (first (inner unproved nothing) r.0, r.1)

at_is : (context : Context) (ns : List Kind) → AreTrees case_count 1 ns → turn_at context (kept ns) (least_kept (kept ns)) ≡ turned context ns (next_place ns)
at_is context ns are = by_place (first_least 0 ns) (first_is context 0 ns)
  where
    alone : all_kept ns ≡ kept ns ∷ []
    alone = one_tree (inner unproved nothing) (all_kept ns) (count_trees case_count tree_over 1 ns are)

    by_place : (found : Option (ℕ × ℕ)) → Sought context 0 ns found → turn_at context (kept ns) (least_kept (kept ns)) ≡ turned context ns (option_map (λ (f : ℕ × ℕ). f.0) found)
    by_place None h = rw (least_is_of ns are, h) refl
    by_place (Some found) h =
        let at : h.skipped ≡ found.0 = omega (arith, h.place_is) in
        let class : least_kept (kept ns) ≡ Some found.1 = least_is_of ns are ∙ h.is_least in
        ap (turn_at context (kept ns)) class
        ∙ ap (λ (ts : List Kept). one (grow_all context found.1 false ts)) (sym alone)
        ∙ ap one (h.grows 1 are)
        ∙ ap (λ (p : ℕ). (kept (grown_at context p ns), true)) at

-- where there is no log yet
pub tree_turns : (context : Context) (ns : List Kind) → AreTrees case_count 1 ns → is_some (log_in (kept ns)) ≡ false → turn context (kept ns) ≡ turned context ns (next_place ns)
tree_turns context ns are none =
    ap (λ (b : Bool). let r : Kept × Bool = if b then (kept ns, false) else turn_at context (kept ns) (least_kept (kept ns)) in r) none ∙ at_is context ns are
