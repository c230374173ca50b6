-- A loop that replaces the leaves of one term after another, as far as something stands for each.
use Rattle.std.proofs.Common.{◌≡◌, List, [], ◌∷◌, ◌++◌, Option, Some, None, option_map, option_and_then, refl, sym, ap, ◌∙◌, ℕ, ◌+◌, ◌<◌, ◌≤◌, length, map, drop, slice_index_or}
use Rattle.std.proofs.lemmas.List.{drop_more, drop_all, map-append}
use Rattle.sp_spec.specs.Term.{Term, Terms, none, more, valued_where, valued_all_where}
use Rattle.sp_term.specs.declared.term.Term as memory
use Rattle.sp_term.specs.View.{terms_of, view_by, view_all_by}

abbrev joined : {W : Type 0} → List (Term W) → Terms W → Terms W
joined [] us = us
joined (t ∷ ts) us = more t (joined ts us)

-- these terms, and those that the others are resolved to
abbrev pub after : {W : Type 0} → List (Term W) → Option (Terms W) → Option (Terms W)
after ts o = option_map (joined ts) o

joined_one : {W : Type 0} (ts : List (Term W)) (u : Term W) (us : Terms W) → joined ts (more u us) ≡ joined (ts ++ u ∷ []) us
joined_one [] u us = refl
joined_one (t ∷ ts) u us = ap (more t) (joined_one ts u us)

after_one : {W : Type 0} (ts : List (Term W)) (u : Term W) (o : Option (Terms W)) → after ts (option_map (more u) o) ≡ after (ts ++ u ∷ []) o
after_one ts u None = refl
after_one ts u (Some us) = ap Some (joined_one ts u us)

joined_all : {W : Type 0} (ts : List (Term W)) → joined ts none ≡ terms_of ts
joined_all [] = refl
joined_all (t ∷ ts) = ap (more t) (joined_all ts)

after_more : {V W : Type 0} (v : V → Option (Term W)) (ts : List (Term W)) (t : Term V) (rest : Terms V) (u : Term W) → valued_where v t ≡ Some u
    → after ts (valued_all_where v (more t rest)) ≡ after (ts ++ u ∷ []) (valued_all_where v rest)
after_more {V} {W} v ts t rest u e =
    ap (λ (o : Option (Term W)). after ts (option_and_then (λ w. option_map (more w) (valued_all_where v rest)) o)) e
    ∙ after_one ts u (valued_all_where v rest)

module _ {L M V W : Type 0} (leaf_of : L → V) (to_of : M → W) (v : V → Option (Term W)) where
  -- what comes of the terms from the index on
  abbrev pub rest_from : ℕ → List (memory.Term L) → Option (Terms W)
  rest_from i items = valued_all_where v (view_all_by leaf_of (drop i items))

  pub resolved_more : (items : List (memory.Term L)) (made grown : List (memory.Term M)) (i : ℕ) (x : memory.Term L) (u : memory.Term M) → i < length items → x ≡ slice_index_or items i x
      → valued_where v (view_by leaf_of x) ≡ Some (view_by to_of u) → grown ≡ made ++ u ∷ []
      → after (map (view_by to_of) made) (rest_from i items) ≡ after (map (view_by to_of) grown) (rest_from (i + 1) items)
  resolved_more items made grown i x u h is e g =
      ap (λ (ts : List (memory.Term L)). after (map (view_by to_of) made) (valued_all_where v (view_all_by leaf_of ts))) (drop_more items i x h)
      ∙ ap (λ (y : memory.Term L). after (map (view_by to_of) made) (valued_all_where v (more (view_by leaf_of y) (view_all_by leaf_of (drop (i + 1) items))))) (sym is)
      ∙ after_more v (map (view_by to_of) made) (view_by leaf_of x) (view_all_by leaf_of (drop (i + 1) items)) (view_by to_of u) e
      ∙ ap (λ (ts : List (Term W)). after ts (rest_from (i + 1) items)) (sym (ap (map (view_by to_of)) g ∙ map-append (view_by to_of) made (u ∷ [])))

  pub resolved_end : (items : List (memory.Term L)) (made : List (memory.Term M)) (i : ℕ) → length items ≤ i
      → after (map (view_by to_of) made) (rest_from i items) ≡ Some (view_all_by to_of made)
  resolved_end items made i h =
      ap (λ (ts : List (memory.Term L)). after (map (view_by to_of) made) (valued_all_where v (view_all_by leaf_of ts))) (drop_all i items h)
      ∙ ap Some (joined_all (map (view_by to_of) made))
