-- The end of a walk along two lists of terms: both come to an end at once just where they are as long.
use Rattle.std.proofs.Common.{◌≡◌, ◌⊎◌, ℕ, ◌+◌, List, [], ◌∷◌, length, ap, Option, ⊎_elim, arith, nat_eq}
use Rattle.std.proofs.lemmas.Bool.{eq-eqb, ne_eqb}
use Rattle.sp_spec.specs.Term.{Term}
use Rattle.sp_spec.specs.Matching.{matched_all_by}
use Rattle.sp_term.specs.declared.term.Term as memory
use Rattle.sp_term.specs.Bindings.{answer}
use Rattle.sp_term.specs.View.{view_all_by}

module _ {L M V W S : Type 0} (leaf_of : L → V) (to_of : M → W) (bind : V → Term W → S → Option S) where
  pub rows_end : (rest : List (memory.Term L)) (rest' : List (memory.Term M)) (s : S) (m n : ℕ) → m + length rest' ≡ n + length rest → (length rest ≡ 0) ⊎ (length rest' ≡ 0)
      → answer (nat_eq m n) s ≡ matched_all_by bind (view_all_by leaf_of rest) (view_all_by to_of rest') s
  rows_end [] [] s m n e h = ap (λ b. answer b s) (eq-eqb m n (omega arith))
  rows_end [] (t ∷ rest') s m n e h = ap (λ b. answer b s) (ne_eqb m n (λ k. absurd (omega (arith, k))))
  rows_end (p ∷ rest) [] s m n e h = ap (λ b. answer b s) (ne_eqb m n (λ k. absurd (omega (arith, k))))
  rows_end (p ∷ rest) (t ∷ rest') s m n e h = absurd (⊎_elim (λ k. omega (arith, k)) (λ k. omega (arith, k)) h)
