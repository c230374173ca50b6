-- Of some terms there isn't just one.
use Rattle.std.proofs.Common.{◌≡◌, List, [], ◌∷◌, length, None, refl}
use Rattle.sp_term.specs.declared.term.Term.{Term}
use Rattle.sp_term.specs.declared.term.Variable.{Variable}
use Rattle.sp_term.specs.View.{view_all}
use Rattle.sp_spec_system.specs.Picked.{only_term}

pub not_alone : (ts : List (Term Variable)) → (length ts ≡ 1 → ⊥) → only_term (view_all ts) ≡ None
not_alone [] more = refl
not_alone (x ∷ []) more = absurd (more refl)
not_alone (x ∷ y ∷ ts) more = refl
