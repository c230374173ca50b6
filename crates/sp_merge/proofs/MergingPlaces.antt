-- The first merging are the events at their positions.
use Rattle.std.proofs.Common.{◌≡◌, ◌<◌, ℕ, zero, suc, List, [], ◌∷◌, ◌++◌, take, drop, length, Bool, true, false, if◌then◌else◌, Option, Some, None, option_map, option_and_then, refl, sym, ap, ap₂, ◌∙◌, arith}
use Rattle.sp_spec_system.specs.System.{Event}
use Rattle.sp_spec_system.specs.MakingOne.{MergingEvents, merging_behind, merging_with, merging_from, merging_events}
use Rattle.sp_merge.specs.MadeOneView.{merging_position, merging_after, merging_positions, merging_at, head_of, merging_there}

record One (e : Event) (es : List Event) (r : MergingEvents) (k : ℕ) : Type 0 where
  first : r.first ≡ e
  second : head_of (drop k es) ≡ Some r.second
  others : r.others ≡ take k es ++ drop (suc k) es

abbrev IsOne : Event → List Event → Option MergingEvents → Option ℕ → Type 0
IsOne e es None None = Unit {0}
IsOne e es None (Some k) = ⊥
IsOne e es (Some r) None = ⊥
IsOne e es (Some r) (Some k) = One e es r k

one_step : (e d : Event) (es : List Event) (b : Bool) (o : Option MergingEvents) (k : Option ℕ) → IsOne e es o k
    → IsOne e (d ∷ es) (if b then Some (record { first = e; second = d; others = es }) else option_map (merging_behind d) o) (if b then Some 0 else option_map suc k)
one_step e d es true o k h = record { first = refl; second = refl; others = refl }
one_step e d es false None None h = tt
one_step e d es false None (Some k) h = absurd h
one_step e d es false (Some r) None h = absurd h
one_step e d es false (Some r) (Some k) h = record { first = h.first; second = h.second; others = ap (λ (xs : List Event). d ∷ xs) h.others }

is_one : (one : Event → Event → Bool) (e : Event) (es : List Event) → IsOne e es (merging_with one e es) (merging_position one e es)
is_one one e [] = tt
is_one one e (d ∷ es) = one_step e d es (one e d) (merging_with one e es) (merging_position one e es) (is_one one e es)

record Both (es : List Event) (r : MergingEvents) (p : ℕ × ℕ) : Type 0 where
  first : head_of (drop p.0 es) ≡ Some r.first
  second : head_of (drop p.1 es) ≡ Some r.second
  others : r.others ≡ take p.1 es ++ drop (suc p.1) es

abbrev AreBoth : List Event → Option MergingEvents → Option (ℕ × ℕ) → Type 0
AreBoth es None None = Unit {0}
AreBoth es None (Some p) = ⊥
AreBoth es (Some r) None = ⊥
AreBoth es (Some r) (Some p) = Both es r p

both_step : (e : Event) (es : List Event) (o later : Option MergingEvents) (k : Option ℕ) (p : Option (ℕ × ℕ)) → IsOne e es o k → AreBoth es later p → AreBoth (e ∷ es) (merging_from e o later) (merging_after k p)
both_step e es None None None None h q = tt
both_step e es None None None (Some p) h q = absurd q
both_step e es None (Some r) None None h q = absurd q
both_step e es None (Some r) None (Some p) h q = record { first = q.first; second = q.second; others = ap (λ (xs : List Event). e ∷ xs) q.others }
both_step e es None later (Some k) p h q = absurd h
both_step e es (Some r) later None p h q = absurd h
both_step e es (Some r) later (Some k) p h q = record { first = ap Some (sym h.first); second = h.second; others = ap (λ (xs : List Event). e ∷ xs) h.others }

are_both : (one : Event → Event → Bool) (es : List Event) → AreBoth es (merging_events one es) (merging_positions one es)
are_both one [] = tt
are_both one (e ∷ es) = both_step e es (merging_with one e es) (merging_events one es) (merging_position one e es) (merging_positions one es) (is_one one e es) (are_both one es)

pub first-there : (one : Event → Event → Bool) (es : List Event) → merging_events one es ≡ option_and_then (merging_there es) (merging_positions one es)
first-there one es = at (merging_events one es) (merging_positions one es) (are_both one es)
  where
    at : (o : Option MergingEvents) (p : Option (ℕ × ℕ)) → AreBoth es o p → o ≡ option_and_then (merging_there es) p
    at None None h = refl
    at None (Some p) h = absurd h
    at (Some r) None h = absurd h
    at (Some r) (Some p) h =
        ap (λ (xs : List Event). let t : MergingEvents = record { first = r.first; second = r.second; others = xs } in Some t) h.others
        ∙ sym (ap₂ (λ (a b : Option Event). option_and_then (λ x. option_map (λ y. merging_at x y es p.1) b) a) h.first h.second)

headed : (es : List Event) (k : ℕ) (x : Event) → head_of (drop k es) ≡ Some x → k < length es
headed [] k x e = absurd (none k e)
  where
    none : (j : ℕ) → head_of (drop j []) ≡ Some x → ⊥
    none zero d = absurd cc
    none (suc j) d = absurd cc
headed (d ∷ es) zero x e = omega arith
headed (d ∷ es) (suc k) x e = let h = headed es k x e in omega (arith, h)

pub places_within : (one : Event → Event → Bool) (es : List Event) (i j : ℕ) → merging_positions one es ≡ Some (i, j) → (i < length es) × (j < length es)
places_within one es i j e = at (merging_events one es) (merging_positions one es) (are_both one es) e
  where
    at : (o : Option MergingEvents) (p : Option (ℕ × ℕ)) → AreBoth es o p → p ≡ Some (i, j) → (i < length es) × (j < length es)
    at o None h d = absurd cc
    at None (Some p) h d = absurd h
    at (Some r) (Some p) h d =
        let f : p.0 ≡ i = cc in
        let g : p.1 ≡ j = cc in
        let a = headed es p.0 r.first h.first in
        let b = headed es p.1 r.second h.second in (omega (arith, f, a), omega (arith, g, b))
