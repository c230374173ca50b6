-- The positions of the first two events that are one, as a loop looks for them.
use Rattle.std.proofs.Common.{◌≡◌, ◌<◌, ◌≤◌, ℕ, suc, ◌+◌, List, ◌∷◌, drop, length, map, Bool, true, false, if◌then◌else◌, Option, Some, None, option_map, refl, sym, ap, ap₂, ◌∙◌, arith, slice_index_or}
use Rattle.std.proofs.lemmas.List.{drop_more, drop_all}
use Rattle.sp_spec_system.specs.System as spec
use Rattle.sp_system.specs.declared.event.Event.{Event}
use Rattle.sp_system.specs.SystemView.{event_of}
use Rattle.sp_merge.specs.MadeOneView.{merging_position, both_on, merging_after, merging_positions}

abbrev pub Sameness : Type 0
Sameness = spec.Event → spec.Event → Bool

-- what is left of the search from i on
abbrev pub merging_left : Sameness → spec.Event → List Event → ℕ → Option ℕ
merging_left one e es i = option_map (λ k. i + k) (merging_position one e (map event_of (drop i es)))

merging_at_next : ℕ → Bool → Option ℕ → Option ℕ
merging_at_next i b o = option_map (λ k. i + k) (if b then Some 0 else option_map suc o)

one_more : (i : ℕ) (o : Option ℕ) → option_map (λ k. i + k) (option_map suc o) ≡ option_map (λ k. (i + 1) + k) o
one_more i None = refl
one_more i (Some k) = ap Some (omega arith)

at_next : (one : Sameness) (e : spec.Event) (es : List Event) (i : ℕ) (d : Event) → i < length es → d ≡ slice_index_or es i d → merging_left one e es i ≡ merging_at_next i (one e (event_of d)) (merging_position one e (map event_of (drop (i + 1) es)))
unfolding merging_at_next
at_next one e es i d h is =
    ap (λ (ds : List Event). option_map (λ k. i + k) (merging_position one e (map event_of ds))) (drop_more es i d h)
    ∙ ap (λ (c : Event). option_map (λ k. i + k) (merging_position one e (map event_of (c ∷ drop (i + 1) es)))) (sym is)

pub merging_more : (one : Sameness) (e : spec.Event) (es : List Event) (i : ℕ) (d : Event) → i < length es → d ≡ slice_index_or es i d → one e (event_of d) ≡ false → merging_left one e es i ≡ merging_left one e es (i + 1)
unfolding merging_at_next
merging_more one e es i d h is apart =
    at_next one e es i d h is ∙ ap (λ b. merging_at_next i b (merging_position one e (map event_of (drop (i + 1) es)))) apart
    ∙ one_more i (merging_position one e (map event_of (drop (i + 1) es)))

pub merging_found : (one : Sameness) (e : spec.Event) (es : List Event) (i : ℕ) (d : Event) → i < length es → d ≡ slice_index_or es i d → one e (event_of d) ≡ true → merging_left one e es i ≡ Some i
unfolding merging_at_next
merging_found one e es i d h is found =
    at_next one e es i d h is ∙ ap (λ b. merging_at_next i b (merging_position one e (map event_of (drop (i + 1) es)))) found
    ∙ ap Some (omega arith)

pub merging_nothing : (one : Sameness) (e : spec.Event) (es : List Event) (i : ℕ) → length es ≤ i → merging_left one e es i ≡ None
merging_nothing one e es i h = ap (λ (ds : List Event). option_map (λ k. i + k) (merging_position one e (map event_of ds))) (drop_all i es h)

abbrev moved : ℕ → ℕ × ℕ → ℕ × ℕ
moved i p = (i + p.0, i + p.1)

-- the same for both positions
abbrev pub both_left : Sameness → List Event → ℕ → Option (ℕ × ℕ)
both_left one es i = option_map (moved i) (merging_positions one (map event_of (drop i es)))

both_same : (i j k l : ℕ) → i ≡ k → j ≡ l → (let a : Option (ℕ × ℕ) = Some (i, j) in a) ≡ Some (k, l)
both_same i j k l e d = ap₂ (λ (m n : ℕ). let a : Option (ℕ × ℕ) = Some (m, n) in a) e d

both_zero : (o : Option (ℕ × ℕ)) → o ≡ option_map (moved 0) o
both_zero None = refl
both_zero (Some p) = both_same p.0 p.1 (0 + p.0) (0 + p.1) (omega arith) (omega arith)

pub both_start : (one : Sameness) (es : List Event) → merging_positions one (map event_of es) ≡ both_left one es 0
both_start one es = both_zero (merging_positions one (map event_of es))

both_next : (one : Sameness) (es : List Event) (i : ℕ) (d : Event) → i < length es → d ≡ slice_index_or es i d
    → both_left one es i ≡ option_map (moved i) (merging_after (merging_position one (event_of d) (map event_of (drop (i + 1) es))) (merging_positions one (map event_of (drop (i + 1) es))))
both_next one es i d h is =
    ap (λ (ds : List Event). option_map (moved i) (merging_positions one (map event_of ds))) (drop_more es i d h)
    ∙ ap (λ (c : Event). option_map (moved i) (merging_after (merging_position one (event_of c) (map event_of (drop (i + 1) es))) (merging_positions one (map event_of (drop (i + 1) es))))) (sym is)

both_shifted : (i : ℕ) (o : Option (ℕ × ℕ)) → option_map (moved i) (option_map both_on o) ≡ option_map (moved (i + 1)) o
both_shifted i None = refl
both_shifted i (Some p) = both_same (i + suc p.0) (i + suc p.1) ((i + 1) + p.0) ((i + 1) + p.1) (omega arith) (omega arith)

pub both_more : (one : Sameness) (es : List Event) (i : ℕ) (d : Event) → i < length es → d ≡ slice_index_or es i d → None ≡ merging_left one (event_of d) es (i + 1) → both_left one es i ≡ both_left one es (i + 1)
both_more one es i d h is e = both_next one es i d h is ∙ at (merging_position one (event_of d) (map event_of (drop (i + 1) es))) e
  where
    at : (o : Option ℕ) → None ≡ option_map (λ k. (i + 1) + k) o → option_map (moved i) (merging_after o (merging_positions one (map event_of (drop (i + 1) es)))) ≡ both_left one es (i + 1)
    at None d = both_shifted i (merging_positions one (map event_of (drop (i + 1) es)))
    at (Some k) d = absurd cc

pub both_found : (one : Sameness) (es : List Event) (i j : ℕ) (d : Event) → i < length es → d ≡ slice_index_or es i d → Some j ≡ merging_left one (event_of d) es (i + 1) → both_left one es i ≡ Some (i, j)
both_found one es i j d h is e = both_next one es i d h is ∙ at (merging_position one (event_of d) (map event_of (drop (i + 1) es))) e
  where
    at : (o : Option ℕ) → Some j ≡ option_map (λ k. (i + 1) + k) o → option_map (moved i) (merging_after o (merging_positions one (map event_of (drop (i + 1) es)))) ≡ Some (i, j)
    at None d = absurd cc
    at (Some k) d = let q : j ≡ (i + 1) + k = cc in both_same (i + 0) (i + suc k) i j (omega arith) (omega (arith, q))

pub both_nothing : (one : Sameness) (es : List Event) (i : ℕ) → length es ≤ i → both_left one es i ≡ None
both_nothing one es i h = ap (λ (ds : List Event). option_map (moved i) (merging_positions one (map event_of ds))) (drop_all i es h)
