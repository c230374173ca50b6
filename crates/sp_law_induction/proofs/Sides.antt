-- Restrictions fall into those without "some" and the others.
use Rattle.std.proofs.Common.{◌≡◌, Bool, true, false, List, [], ◌∷◌, if◌then◌else◌, refl}
use Rattle.sp_spec.specs.Lists.{Every}
use Rattle.sp_spec.specs.Guarded.{Guarded}
use Rattle.sp_law_induction.specs.Hypothesis.{is_safety}
use Rattle.sp_law_induction.specs.Covering.{safe_among, others_among}

module _ (P : Guarded → Type 0) where
  pub every_safe : (fs : List Guarded) → Every P fs → Every P (safe_among fs)
  every_safe [] e = tt
  every_safe (f ∷ fs) e = at (is_safety f) (every_safe fs e.1)
    where
      at : (b : Bool) → Every P (safe_among fs) → Every P (if b then f ∷ safe_among fs else safe_among fs)
      at true below = (e.0, below)
      at false below = below

  pub every_other : (fs : List Guarded) → Every P fs → Every P (others_among fs)
  every_other [] e = tt
  every_other (f ∷ fs) e = at (is_safety f) (every_other fs e.1)
    where
      at : (b : Bool) → Every P (others_among fs) → Every P (if b then others_among fs else f ∷ others_among fs)
      at true below = below
      at false below = (e.0, below)

  pub every_side : (fs : List Guarded) → Every P (safe_among fs) → Every P (others_among fs) → Every P fs
  every_side [] s o = tt
  every_side (f ∷ fs) s o = at (is_safety f) s o (every_side fs)
    where
      at : (b : Bool) → Every P (if b then f ∷ safe_among fs else safe_among fs) → Every P (if b then others_among fs else f ∷ others_among fs)
          → (Every P (safe_among fs) → Every P (others_among fs) → Every P fs) → Every P (f ∷ fs)
      at true s o below = (s.0, below s.1 o)
      at false s o below = (o.0, below s o.1)

pub safe_are_safe : (fs : List Guarded) → Every (λ f. is_safety f ≡ true) (safe_among fs)
safe_are_safe [] = tt
safe_are_safe (f ∷ fs) = at (is_safety f) refl (safe_are_safe fs)
  where
    at : (b : Bool) → is_safety f ≡ b → Every (λ f. is_safety f ≡ true) (safe_among fs) → Every (λ f. is_safety f ≡ true) (if b then f ∷ safe_among fs else safe_among fs)
    at true e below = (e, below)
    at false e below = below
