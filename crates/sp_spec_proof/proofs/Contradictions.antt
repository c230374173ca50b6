-- Each contradiction is looked for.
use Rattle.std.proofs.Common.{◌≡◌, ℕ, zero, suc, Bool, true, false, ◌||◌, List, [], ◌∷◌, Some, slice_get, refl, subst}
use Rattle.std.specs.List.{list_any}
use Rattle.sp_spec_system.specs.System.{System}
use Rattle.sp_spec_system.specs.Rules.{Rules}
use Rattle.sp_spec_proof.specs.Rows.{Contradiction, false_formula, equal_unequal_pair, refuted_literal, cyclic_order, source_used_twice, learnt_too_early, reducible_term, failing_row, time_after_last, refuted_last, last_in_closed, contradictions, by_contradiction, is_contradictory}

-- where it stands
abbrev place_of : Contradiction → ℕ
place_of false_formula = 0
place_of equal_unequal_pair = 1
place_of refuted_literal = 2
place_of cyclic_order = 3
place_of source_used_twice = 4
place_of learnt_too_early = 5
place_of reducible_term = 6
place_of failing_row = 7
place_of time_after_last = 8
place_of refuted_last = 9
place_of last_in_closed = 10

each_listed : (c : Contradiction) → slice_get contradictions (place_of c) ≡ Some c
each_listed false_formula = refl
each_listed equal_unequal_pair = refl
each_listed refuted_literal = refl
each_listed cyclic_order = refl
each_listed source_used_twice = refl
each_listed learnt_too_early = refl
each_listed reducible_term = refl
each_listed failing_row = refl
each_listed time_after_last = refl
each_listed refuted_last = refl
each_listed last_in_closed = refl

none_in : {A : Type 0} (test : A → Bool) (xs : List A) (k : ℕ) (x : A) → slice_get xs k ≡ Some x → list_any test xs ≡ false → test x ≡ false
none_in test [] k x e h = absurd (let none : ⊥ = cc in none)
none_in {A = A} test (y ∷ ys) zero x e h = let same : y ≡ x = cc in subst (λ (z : A). test z ≡ false) same (first (test y) (list_any test ys) h)
  where
    first : (a b : Bool) → (a || b) ≡ false → a ≡ false
    first true b h = absurd cc
    first false b h = refl
none_in test (y ∷ ys) (suc k) x e h = none_in test ys k x e (later (test y) (list_any test ys) h)
  where
    later : (a b : Bool) → (a || b) ≡ false → b ≡ false
    later true b h = absurd cc
    later false b h = h

pub none_holds : (rules : Rules) (s : System) (c : Contradiction) → is_contradictory rules s ≡ false → by_contradiction rules s c ≡ false
none_holds rules s c h = none_in (by_contradiction rules s) contradictions (place_of c) c (each_listed c) h

pub one_holds : (rules : Rules) (s : System) (c : Contradiction) → by_contradiction rules s c ≡ true → is_contradictory rules s ≡ true
one_holds rules s c e = at (is_contradictory rules s) refl
  where
    at : (b : Bool) → is_contradictory rules s ≡ b → b ≡ true
    at true h = refl
    at false h = let none : by_contradiction rules s c ≡ false = none_holds rules s c h in absurd (let no : ⊥ = cc in no)
