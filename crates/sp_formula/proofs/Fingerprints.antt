-- Formulas that are the same are equal, and so have one fingerprint.
use Rattle.std.proofs.Common.{◌≡◌, ℕ, false, sym, ap, ◌∙◌}
use Rattle.std.proofs.lemmas.Bool.{false_from_ne_true}
use Rattle.sp_spec.specs.Guarded.{Guarded}
use Rattle.sp_spec.specs.SameFormula.{same_formula}
use Rattle.sp_spec.proofs.SameFormula.{same_formula_tells}
use Rattle.sp_formula.specs.Fingerprint.{fingerprint}

pub differ : (f g : Guarded) (a b : ℕ) → a ≡ fingerprint f → b ≡ fingerprint g → (a ≡ b → ⊥) → same_formula f g ≡ false
differ f g a b p q ne = false_from_ne_true (same_formula f g) (λ e. ne (p ∙ ap fingerprint (same_formula_tells f g e) ∙ sym q))
