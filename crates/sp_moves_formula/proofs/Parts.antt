-- The cases of a disjunction, by its position.
use Rattle.std.proofs.Common.{◌≡◌, ℕ, zero, suc, List, [], ◌∷◌, ◌++◌, take, drop, Option, Some, None, option_map, option_and_then, slice_get, refl, ap, ap₂, ◌∙◌, codes, decimal}
use Rattle.sp_spec.specs.Guarded.{Guarded, truth, falsity, holds, fails, all_of, one_of, some, every, Guardeds, no_more, and_then, parts_of}
use Rattle.sp_spec_system.specs.System.{System}
use Rattle.sp_spec_system.specs.Formulas.{Found, behind, spending}
use Rattle.sp_spec_system.specs.Move.{Case}
use Rattle.sp_spec_formula.specs.Or.{by_part, disjunction_at, or_cases}
use Rattle.sp_system.specs.SpendView.{spending_at}
use Rattle.sp_moves_formula.specs.Parts.{disjuncts, by_parts}

-- what is found is what stands at the position
record Stands (fs : List Guarded) (k : ℕ) (r : Found Guardeds) : Type 0 where
  front : r.front ≡ take k fs
  formula : r.formula ∷ [] ≡ take 1 (drop k fs)
  back : r.back ≡ drop (suc k) fs

abbrev IsThere : List Guarded → ℕ → Option (Found Guardeds) → Option (List Guarded) → Type 0
IsThere fs k None None = Unit {0}
IsThere fs k None (Some ps) = ⊥
IsThere fs k (Some r) None = ⊥
IsThere fs k (Some r) (Some ps) = Stands fs k r × (parts_of r.picked ≡ ps)

further : (g : Guarded) (fs : List Guarded) (k : ℕ) (o : Option (Found Guardeds)) (ps : Option (List Guarded)) → IsThere fs k o ps → IsThere (g ∷ fs) (suc k) (option_map (behind g) o) ps
further g fs k None None h = tt
further g fs k None (Some ps) h = absurd h
further g fs k (Some r) None h = absurd h
further g fs k (Some r) (Some ps) h = (record { front = ap (λ (gs : List Guarded). g ∷ gs) h.0.front; formula = h.0.formula; back = h.0.back }, h.1)

at_first : (g : Guarded) (fs : List Guarded) → IsThere (g ∷ fs) zero (disjunction_at zero (g ∷ fs)) (disjuncts g)
at_first (one_of ps) fs = (record { front = refl; formula = refl; back = refl }, refl)
at_first truth fs = tt
at_first falsity fs = tt
at_first (holds a) fs = tt
at_first (fails a) fs = tt
at_first (all_of ps) fs = tt
at_first (some bs guard f) fs = tt
at_first (every bs guard f) fs = tt

is_there : (fs : List Guarded) (k : ℕ) → IsThere fs k (disjunction_at k fs) (option_and_then disjuncts (slice_get fs k))
is_there [] k = tt
is_there (g ∷ fs) zero = at_first g fs
is_there (g ∷ fs) (suc k) = further g fs k (disjunction_at k fs) (option_and_then disjuncts (slice_get fs k)) (is_there fs k)

spent_there : (s : System) (k : ℕ) (r : Found Guardeds) (fs : List Guarded) → Stands s.formulas k r → spending s r fs ≡ spending_at s k fs
spent_there s k r fs h =
    let made : List Guarded → List Guarded → System = λ gs ds. record s { formulas = gs; spent = s.spent ++ ds } in
    ap₂ made (ap₂ (λ (xs ys : List Guarded). xs ++ (fs ++ ys)) h.front h.back) h.formula

each_part : (s : System) (k : ℕ) (r : Found Guardeds) → Stands s.formulas k r → (n : ℕ) (fs : Guardeds) → by_part s r n fs ≡ by_parts s k n (parts_of fs)
each_part s k r h n no_more = refl
each_part s k r h n (and_then f fs) =
    ap₂ (λ (t : System) (cs : List Case). (record { name = codes "case_" ++ decimal n; system = t }) ∷ cs) (spent_there s k r (f ∷ []) h) (each_part s k r h (suc n) fs)

pub parts_at : (s : System) (k : ℕ) → or_cases s (disjunction_at k s.formulas) ≡ option_map (by_parts s k 1) (option_and_then disjuncts (slice_get s.formulas k))
parts_at s k = at (disjunction_at k s.formulas) (option_and_then disjuncts (slice_get s.formulas k)) (is_there s.formulas k)
  where
    at : (o : Option (Found Guardeds)) (ps : Option (List Guarded)) → IsThere s.formulas k o ps → or_cases s o ≡ option_map (by_parts s k 1) ps
    at None None h = refl
    at None (Some ps) h = absurd h
    at (Some r) None h = absurd h
    at (Some r) (Some ps) h = ap Some (each_part s k r h.0 1 r.picked ∙ ap (by_parts s k 1) h.1)
