-- Two events of a system in memory that are made one.
use Rattle.std.proofs.Common.{◌≡◌, ◌<◌, ℕ, suc, List, ◌++◌, take, drop, length, map, Some, None, sym, ap, ap₂, ◌∙◌, subst, slice_index_or, Option, option_map, option_and_then}
use Rattle.std.proofs.lemmas.List.{map-append, take-map, drop-map, drop_more, length-map}
use Rattle.sp_spec_system.specs.System as spec
use Rattle.sp_spec_system.specs.MakingOne.{at_times, merging_events}
use Rattle.sp_system.specs.declared.event.Event.{Event}
use Rattle.sp_system.specs.SystemView.{event_of}
use Rattle.sp_merge.specs.MadeOneView.{head_of, merging_at, merging_positions, merging_there}
use Rattle.sp_merge.proofs.MergingPlaces.{first-there, places_within}

unfoldable pub cut : {A : Type 0} → ℕ → List A → List A
cut j xs = take j xs ++ drop (suc j) xs

pub cut_map : {A B : Type 0} (f : A → B) (j : ℕ) (xs : List A) → map f (cut j xs) ≡ cut j (map f xs)
unfolding cut
cut_map {B = B} f j xs = map-append f (take j xs) (drop (suc j) xs) ∙ ap₂ (λ (left right : List B). left ++ right) (sym (take-map f j xs)) (sym (drop-map f (suc j) xs))

pub without : (es : List Event) (j : ℕ) → map event_of (take j es ++ drop (suc j) es) ≡ take j (map event_of es) ++ drop (suc j) (map event_of es)
unfolding cut
without es j = cut_map event_of j es

head_there : (es : List Event) (i : ℕ) (x : Event) → i < length es → x ≡ slice_index_or es i x → head_of (drop i (map event_of es)) ≡ Some (event_of x)
head_there es i x h is =
    ap head_of (drop-map event_of i es) ∙ ap (λ (xs : List Event). head_of (map event_of xs)) (drop_more es i x h) ∙ ap (λ (y : Event). Some (event_of y)) (sym is)

both_there : (es : List Event) (i j : ℕ) (x y : Event) → i < length es → x ≡ slice_index_or es i x → j < length es → y ≡ slice_index_or es j y
    → merging_there (map event_of es) (i, j) ≡ Some (merging_at (event_of x) (event_of y) (map event_of es) j)
both_there es i j x y h is k are =
    ap₂ (λ (o q : Option spec.Event). option_and_then (λ a. option_map (λ b. merging_at a b (map event_of es) j) q) o) (head_there es i x h is) (head_there es j y k are)

-- the events at two times, by the positions at which they are
module _ (es : List Event) (i j : ℕ) where
  pub bounds : (k l : ℕ) → Some (k, l) ≡ merging_positions (at_times i j) (map event_of es) → (k < length es) × (l < length es)
  bounds k l e =
      let h = places_within (at_times i j) (map event_of es) k l (sym e) in
      (subst (λ (n : ℕ). k < n) (length-map es event_of) h.0, subst (λ (n : ℕ). l < n) (length-map es event_of) h.1)

  pub none_meet : None ≡ merging_positions (at_times i j) (map event_of es) → merging_events (at_times i j) (map event_of es) ≡ None
  none_meet e = first-there (at_times i j) (map event_of es) ∙ ap (option_and_then (merging_there (map event_of es))) (sym e)

  pub both_meet : (k l : ℕ) (x y : Event) → Some (k, l) ≡ merging_positions (at_times i j) (map event_of es) → x ≡ slice_index_or es k x → y ≡ slice_index_or es l y
      → merging_events (at_times i j) (map event_of es) ≡ Some (merging_at (event_of x) (event_of y) (map event_of es) l)
  both_meet k l x y e is are =
      let h = bounds k l e in
      first-there (at_times i j) (map event_of es) ∙ ap (option_and_then (merging_there (map event_of es))) (sym e) ∙ both_there es k l x y h.0 is h.1 are
