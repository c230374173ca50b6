-- What is made of parts that are as true as others is as true as what is made of those.
use Rattle.std.proofs.Common.{◌⊎◌, inl, inr}
use Rattle.std.specs.Prelude.{◌↔◌}
use Rattle.sp_spec.specs.Lists.{Classically}
use Rattle.sp_law_truth.proofs.Stable.{classically}

pub as_itself : {A : Type 0} → A ↔ A
as_itself = ((λ x. x), (λ x. x))

pub as_both : {A B C D : Type 0} → (A ↔ C) → (B ↔ D) → (A × B) ↔ (C × D)
as_both f g = ((λ x. (f.0 x.0, g.0 x.1)), (λ x. (f.1 x.0, g.1 x.1)))

pub as_either : {A B C D : Type 0} → (A ↔ C) → (B ↔ D) → (A ⊎ B) ↔ (C ⊎ D)
as_either f g = (part f.0 g.0, part f.1 g.1)
  where
    part : {A B C D : Type 0} → (A → C) → (B → D) → A ⊎ B → C ⊎ D
    part f g (inl x) = inl (f x)
    part f g (inr x) = inr (g x)

pub as_implies : {A B C D : Type 0} → (A ↔ C) → (B ↔ D) → (A → B) ↔ (C → D)
as_implies f g = ((λ h x. g.0 (h (f.1 x))), (λ h x. g.1 (h (f.0 x))))

pub as_not : {A C : Type 0} → (A ↔ C) → (A → ⊥) ↔ (C → ⊥)
as_not f = ((λ h x. h (f.1 x)), (λ h x. h (f.0 x)))

pub as_classically : {A C : Type 0} → (A ↔ C) → Classically A ↔ Classically C
as_classically f = (classically f.0, classically f.1)

pub as_turned : {A C : Type 0} → (A ↔ C) → C ↔ A
as_turned f = (f.1, f.0)

pub as_through : {A B C : Type 0} → (A ↔ B) → (B ↔ C) → A ↔ C
as_through f g = ((λ x. g.0 (f.0 x)), (λ x. f.1 (g.1 x)))
