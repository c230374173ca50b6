-- Pairs, by how many arguments there are.
use Rattle.std.proofs.Common.{◌≡◌, ℕ, false, List, [], ◌∷◌, length, codes, refl, arith}
use Rattle.std.specs.Str.{bytes_eq}
use Rattle.sp_spec.specs.Term.{app}
use Rattle.sp_term.specs.View.{view_all}
use Rattle.sp_term.specs.declared.term.Term.{Term}
use Rattle.sp_term.specs.declared.term.Variable.{Variable}
use Rattle.sp_spec_know.specs.Chain.{is_no_end}

pub pair_of_two : (f : List ℕ) (ts : List (Term Variable)) → length ts ≡ 2 → is_no_end (app f (view_all ts)) ≡ bytes_eq f (codes "pair")
pair_of_two f [] e = absurd (omega (arith, e))
pair_of_two f (t ∷ []) e = absurd (omega (arith, e))
pair_of_two f (t ∷ u ∷ []) e = refl
pair_of_two f (t ∷ u ∷ w ∷ ts) e = absurd (omega (arith, e))

pub not_two : (f : List ℕ) (ts : List (Term Variable)) → (length ts ≡ 2 → ⊥) → is_no_end (app f (view_all ts)) ≡ false
not_two f [] n = refl
not_two f (t ∷ []) n = refl
not_two f (t ∷ u ∷ []) n = absurd (n refl)
not_two f (t ∷ u ∷ w ∷ ts) n = refl
