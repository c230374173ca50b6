-- Pairs nested on the right.
use Rattle.std.proofs.Common.{◌≡◌, suc, Bool, true, false, cond, List, [], ◌∷◌, ◌++◌, length, Some, None, codes, refl, sym, ap, arith}
use Rattle.std.specs.Prelude.{Option, map, ◌==◌, ◌&&◌, not, nat_lt}
use Rattle.std.proofs.lemmas.Bool.{ne_eqb, and_parts, not-true, lt-ltb}
use Rattle.sp_spec.specs.Term.{Ground}
use Rattle.sp_spec.specs.Signature.{Symbol, pair}
use Rattle.sp_spec.specs.Execution.{Step}
use Rattle.sp_fact.specs.GroundView.{row}
use Rattle.sp_spec_printed.specs.Printed.{are_two}
use Rattle.sp_read_steps.specs.Reading.{has_symbol, is_pair_term, paired_with, chain, pair_step, pairing}

pub two : {A : Type 0} (f : A → Ground) (ts : List A) → are_two (row (map f ts)) ≡ (length ts == 2)
two f [] = refl
two f (t ∷ []) = refl
two f (t ∷ u ∷ []) = refl
two f (t ∷ u ∷ w ∷ ts) = sym (ne_eqb (suc (suc (suc (length ts)))) 2 (λ e. omega arith))

abbrev pub onto : List Ground → Ground → Ground
onto [] u = u
onto (t ∷ ts) u = pair t (onto ts u)

pub onto_last : (ts : List Ground) (t u : Ground) → onto (ts ++ t ∷ []) u ≡ onto ts (pair t u)
onto_last [] t u = refl
onto_last (s ∷ ts) t u = ap (pair s) (onto_last ts t u)

pub chain_pair : (ts : List Ground) (t : Ground) → is_pair_term t ≡ true → chain (ts ++ t ∷ []) ≡ None
chain_pair [] t h = rw h refl
chain_pair (s ∷ []) t h = rw h refl
chain_pair (s ∷ u ∷ ts) t h = ap (paired_with s) (chain_pair (u ∷ ts) t h)

pub chain_last : (ts : List Ground) (t : Ground) → is_pair_term t ≡ false → chain (ts ++ t ∷ []) ≡ Some (onto ts t)
chain_last [] t h = rw h refl
chain_last (s ∷ []) t h = rw h refl
chain_last (s ∷ u ∷ ts) t h = ap (paired_with s) (chain_last (u ∷ ts) t h)

-- ---- the step of a pair

pub pairing_lacks : (symbols : List Symbol) (ts : List Ground) → (nat_lt 2 (length ts) && not (has_symbol symbols (codes "pair") 2)) ≡ true → None ≡ pairing symbols ts
pairing_lacks symbols [] h = refl
pairing_lacks symbols (t ∷ []) h = refl
pairing_lacks symbols (t ∷ u ∷ []) h = absurd (let none : ⊥ = cc in none)
pairing_lacks symbols (t ∷ u ∷ w ∷ ws) h =
    let lacks = not-true (has_symbol symbols (codes "pair") 2) (and_parts (nat_lt 2 (length (t ∷ u ∷ w ∷ ws))) (not (has_symbol symbols (codes "pair") 2)) h).1 in
    rw lacks refl

pub pairing_first : (symbols : List Symbol) (t : Ground) (us : List Ground) → (nat_lt 2 (length (t ∷ us)) && not (has_symbol symbols (codes "pair") 2)) ≡ false → pair_step t (chain us) ≡ pairing symbols (t ∷ us)
pairing_first symbols t [] h = refl
pairing_first symbols t (u ∷ []) h = refl
pairing_first symbols t (u ∷ w ∷ ws) h = by_test (has_symbol symbols (codes "pair") 2) (lt-ltb 2 (length (t ∷ u ∷ w ∷ ws)) (omega arith)) h
  where
    by_test : (x : Bool) → nat_lt 2 (length (t ∷ u ∷ w ∷ ws)) ≡ true → (nat_lt 2 (length (t ∷ u ∷ w ∷ ws)) && not x) ≡ false
        → pair_step t (chain (u ∷ w ∷ ws)) ≡ cond {A = Option Step} x (pair_step t (chain (u ∷ w ∷ ws))) None
    by_test true l k = refl
    by_test false l k = absurd (let none : ⊥ = cc in none)

pub ruleset chains = (onto_last, chain_pair, chain_last)
