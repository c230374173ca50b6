-- The end of a walk along two rows of terms.
use Rattle.std.proofs.Common.{◌≡◌, ◌+◌, List, [], ◌∷◌, length, ◌⊎◌, sym, arith, ⊎_elim}
use Rattle.sp_spec.specs.Unifier.{clash, differences}
use Rattle.sp_term.specs.View.{view_all}
use Rattle.sp_term.specs.declared.term.Term.{Term}
use Rattle.sp_term.specs.declared.term.Variable.{Variable}

-- rows of unequal length clash where the walk ends and what was walked has no difference
pub rows_apart : (ts us rest rest' : List (Term Variable)) → differences (view_all ts) (view_all us) ≡ differences (view_all rest) (view_all rest')
    → length ts + length rest' ≡ length us + length rest → (length ts ≡ length us → ⊥) → (length rest ≡ 0) ⊎ (length rest' ≡ 0)
    → clash ≡ differences (view_all ts) (view_all us)
rows_apart ts us [] [] e n unequal ends = absurd (unequal (omega arith))
rows_apart ts us [] (u ∷ rest') e n unequal ends = sym e
rows_apart ts us (t ∷ rest) [] e n unequal ends = sym e
rows_apart ts us (t ∷ rest) (u ∷ rest') e n unequal ends = absurd (⊎_elim (λ k. omega (arith, k)) (λ k. omega (arith, k)) ends)
