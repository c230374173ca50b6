-- Ground terms of a sort.
use Rattle.std.proofs.Common.{◌≡◌, ℕ, refl}
use Rattle.sp_spec.specs.Term.{Fresh, var, constant, name, app, Ground}
use Rattle.sp_spec.specs.Signature.{HasSort}

-- what is of sort fresh is a fresh name
pub is_name : (t : Ground) → HasSort Fresh t → (n : ℕ) × (t ≡ name n)
is_name (var x) h = absurd x
is_name (constant c) h = absurd h
is_name (name n) h = (n, refl)
is_name (app f ts) h = absurd h
