-- What becomes of the parts of a conjunction below a quantifier.
use Rattle.std.specs.Prelude.{Bool, true, false, List, [], ◌∷◌}
use Rattle.sp_spec.specs.Guarded.{Binder, Atom, acts, same, same_time, before, last, Guarded, some}
use Rattle.sp_law_guard.specs.GuardedForm.{guard_in, rest_in, body_of}

-- an atom that guards
abbrev pub guards : Atom → Bool
guards (acts a i) = true
guards (same t u) = true
guards (same_time i j) = false
guards (before i j) = false
guards (last i) = false

-- the quantifier of one binder over the parts
abbrev pub quantified : Binder → List Guarded → Guarded
quantified b gs = some (b ∷ []) (guard_in gs) (body_of (rest_in gs))
