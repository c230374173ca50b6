-- Terms that stand in terms.
use Rattle.std.specs.Prelude.{◌≡◌, ◌⊎◌}
use Rattle.sp_spec.specs.Term.{Term, app, Terms, none, more}

-- the first is the second, or stands in it
abbrev mutual
  pub IsPart : {V : Type 0} → Term V → Term V → Type 0
  IsPart r (app f ts) = (r ≡ app f ts) ⊎ IsPartOfOne r ts
  IsPart r t = r ≡ t

  pub IsPartOfOne : {V : Type 0} → Term V → Terms V → Type 0
  IsPartOfOne r none = ⊥
  IsPartOfOne r (more t ts) = IsPart r t ⊎ IsPartOfOne r ts

-- the first stands in the second, and isn't the whole
abbrev pub IsProperPart : {V : Type 0} → Term V → Term V → Type 0
IsProperPart r (app f ts) = IsPartOfOne r ts
IsProperPart r t = ⊥
