-- The turns in which times are made one, as a loop takes them.
use Rattle.std.proofs.Common.{◌≡◌, ◌<◌, ◌≤◌, ℕ, zero, suc, ◌+◌, ◌-◌, nat_eq, true, false, length, List, [], ◌∷◌, ◌++◌, Option, Some, None, option_and_then, slice_index_or, refl, sym, ap, ap₂, ◌∙◌, arith}
use Rattle.std.specs.List.{remove}
use Rattle.std.proofs.lemmas.List.{nil_from_length}
use Rattle.sp_spec.specs.Unifier.{Pair}
use Rattle.sp_spec_system.specs.System.{Event, System, with_events}
use Rattle.sp_spec_system.specs.Equating.{Merging}
use Rattle.sp_spec_system.specs.MakingOne.{Joining, turn, all_joined, at_times, joined, learnt_by_at, merging_events, with_times}
use Rattle.sp_system.proofs.TurnsLeft.{one_less}
use Rattle.sp_merge.specs.JoiningView.{next_joining, with_merging}

no_more : (n : ℕ) (j : Joining) → j.times ≡ [] → all_joined n j ≡ Some j
no_more zero j e = ap (turn (λ k. None) j) e
no_more (suc n) j e = ap (turn (all_joined n) j) e

one_turn : (n : ℕ) (j : Joining) → (j.times ≡ [] → ⊥) → all_joined (suc n) j ≡ option_and_then (all_joined n) (next_joining j j.times)
one_turn n j h = at j.times h
  where
    at : (ts : List (ℕ × ℕ)) → (ts ≡ [] → ⊥) → turn (all_joined n) j ts ≡ option_and_then (all_joined n) (next_joining j ts)
    at [] k = absurd (k refl)
    at (p ∷ ts) k = refl

none_then : {A B : Type 0} (o : Option A) → (let none : A → Option B = λ x. None in option_and_then none o) ≡ None
none_then None = refl
none_then (Some x) = refl

too_few : (j : Joining) → (j.times ≡ [] → ⊥) → all_joined zero j ≡ None
too_few j h = at j.times h
  where
    at : (ts : List (ℕ × ℕ)) → (ts ≡ [] → ⊥) → turn (λ k. None) j ts ≡ None
    at [] k = absurd (k refl)
    at (p ∷ ts) k = none_then (joined p (with_times j ts) (merging_events (at_times p.0 p.1) j.system.events))

-- what is wanted of all turns is what comes of those that are left
module _ (total i : ℕ) (j : Joining) (wanted : Option Joining) (left : wanted ≡ all_joined (total - i) j) where
  pub ended : j.times ≡ [] → Some j ≡ wanted
  ended e = sym (left ∙ no_more (total - i) j e)

  pub used_up : total ≤ i → (j.times ≡ [] → ⊥) → None ≡ wanted
  used_up h k = sym (left ∙ ap (λ (n : ℕ). all_joined n j) (none_left total i h) ∙ too_few j k)
    where
      none_left : (m n : ℕ) → m ≤ n → m - n ≡ zero
      none_left m n l = omega arith

  pub turned : (k : Joining) → i < total → (j.times ≡ [] → ⊥) → next_joining j j.times ≡ Some k → wanted ≡ all_joined (total - (i + 1)) k
  turned k h more e = left ∙ ap (λ (n : ℕ). all_joined n j) (one_less total i h) ∙ one_turn (total - (i + 1)) j more ∙ ap (option_and_then (all_joined (total - (i + 1)))) e

  pub stuck : i < total → (j.times ≡ [] → ⊥) → next_joining j j.times ≡ None → None ≡ wanted
  stuck h more e =
      sym (left ∙ ap (λ (n : ℕ). all_joined n j) (one_less total i h) ∙ one_turn (total - (i + 1)) j more ∙ ap (option_and_then (all_joined (total - (i + 1)))) e)

-- what is taken from the front, and what is left
pub is_first : (xs rest : List (ℕ × ℕ)) (x : ℕ × ℕ) → (xs ≡ [] → ⊥) → x ≡ slice_index_or xs 0 x → rest ≡ remove xs 0 → xs ≡ x ∷ rest
is_first [] rest x h e d = absurd (h refl)
is_first (y ∷ ys) rest x h e d = ap₂ (λ (z : ℕ × ℕ) (zs : List (ℕ × ℕ)). z ∷ zs) (sym e) (sym d)

-- what merging gives is put together
pub merged_from : (i : ℕ) (others : List Event) (m : Merging) (j : Joining) (s : System) (ps : List Pair) (ts : List (ℕ × ℕ))
    → s ≡ with_events j.system (learnt_by_at i m.way others) → ps ≡ j.pairs ++ m.pairs → ts ≡ j.times ++ m.times
    → (record { system = s; pairs = ps; times = ts }) ≡ with_merging i others m j
merged_from i others m j s ps ts e d f =
    let made : System → List Pair → List (ℕ × ℕ) → Joining = λ t qs us. record { system = t; pairs = qs; times = us } in
    let wanted = with_merging i others m j in
    ap (λ t. made t ps ts) e ∙ ap (λ qs. made wanted.system qs ts) d ∙ ap (made wanted.system wanted.pairs) f

-- whether times are left, as a loop asks it
pub none_are : (n : ℕ) (xs : List (ℕ × ℕ)) → true ≡ nat_eq n 0 → n ≡ length xs → xs ≡ []
none_are n xs e f = nil_from_length xs (grind (arith, e, f))

pub some_are : (n : ℕ) (xs : List (ℕ × ℕ)) → false ≡ nat_eq n 0 → n ≡ length xs → xs ≡ [] → ⊥
some_are n xs e f g = let h : n ≡ 0 = f ∙ ap (λ (ys : List (ℕ × ℕ)). length ys) g in grind (arith, e, h)
