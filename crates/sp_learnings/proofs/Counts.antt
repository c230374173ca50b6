-- Applications that are neither over none nor over two.
use Rattle.std.proofs.Common.{◌≡◌, ℕ, List, [], ◌∷◌, length, None, refl}
use Rattle.sp_spec.specs.Term.{app}
use Rattle.sp_spec.specs.Signature.{Symbol}
use Rattle.sp_term.specs.declared.term.Term.{Term}
use Rattle.sp_term.specs.declared.term.Variable.{Variable}
use Rattle.sp_term.specs.View.{view_all}
use Rattle.sp_spec_know.specs.SettleLearn.{settling}

pub neither : (symbols : List Symbol) (i : ℕ) (f : List ℕ) (ts : List (Term Variable)) → (length ts ≡ 0 → ⊥) → (length ts ≡ 2 → ⊥)
    → settling symbols i (app f (view_all ts)) ≡ None
neither symbols i f [] some two = absurd (some refl)
neither symbols i f (x ∷ []) some two = refl
neither symbols i f (x ∷ y ∷ []) some two = absurd (two refl)
neither symbols i f (x ∷ y ∷ z ∷ ts) some two = refl
