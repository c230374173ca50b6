-- Facts that are the same one by one.
use Rattle.std.specs.Prelude.{List, [], ◌∷◌}
use Rattle.sp_spec.specs.Signature.{Equation}
use Rattle.sp_spec.specs.Rule.{Facts, SameFact, SameAction}

-- the lists are of one length, and it holds of the elements at each place
abbrev pub EachWith : {A B : Type 0} → (A → B → Type 0) → List A → List B → Type 0
EachWith R [] [] = Unit {0}
EachWith R [] (y ∷ ys) = ⊥
EachWith R (x ∷ xs) [] = ⊥
EachWith R (x ∷ xs) (y ∷ ys) = R x y × EachWith R xs ys

-- the same facts and actions modulo the equations, in their order
pub record AreSameFacts (es : List Equation) (f g : Facts ⊥) : Type 0 where
  pub premises : EachWith (SameFact es) f.premises g.premises
  pub actions : EachWith (SameAction es) f.actions g.actions
  pub conclusions : EachWith (SameFact es) f.conclusions g.conclusions
