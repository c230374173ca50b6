-- How negation goes through the parts of a formula, and that a universal quantifier is turned, or an action's negation taken back.
use Rattle.std.proofs.Common.{◌≡◌, refl, ap, ◌∙◌, true, false, List, [], ◌∷◌, map}
use Rattle.sp_spec.specs.Guarded.{Binder, Atom, acts, same, same_time, before, last, Guarded, falsity, holds, some, every, and_then, guardeds_of}
use Rattle.sp_law_guard.specs.GuardedForm.{negate, negate_each}
use Rattle.sp_guard.specs.NegatedAction.{is_action, is_negated_action, held}

negated_parts : (fs : List Guarded) → guardeds_of (map negate fs) ≡ negate_each (guardeds_of fs)
negated_parts [] = refl
negated_parts (f ∷ fs) = ap (and_then (negate f)) (negated_parts fs)

pub each_negated : (fs made : List Guarded) → made ≡ map negate fs → guardeds_of made ≡ negate_each (guardeds_of fs)
each_negated fs made e = ap guardeds_of e ∙ negated_parts fs

only_taken_back : (a : Atom) → is_action a ≡ true → holds a ≡ negate (every [] (a ∷ []) falsity)
only_taken_back (acts a i) h = refl
only_taken_back (same t u) h = absurd (cc h)
only_taken_back (same_time i j) h = absurd (cc h)
only_taken_back (before i j) h = absurd (cc h)
only_taken_back (last i) h = absurd (cc h)

pub taken_back : (bs : List Binder) (guard : List Atom) (g : Guarded) → is_negated_action bs guard g ≡ true → held guard ≡ negate (every bs guard g)
taken_back [] (a ∷ []) falsity h = only_taken_back a h
taken_back bs guard g h = absurd (cc h)

pub turned : (bs : List Binder) (guard : List Atom) (g : Guarded) → is_negated_action bs guard g ≡ false → some bs guard (negate g) ≡ negate (every bs guard g)
turned [] (acts a i ∷ []) falsity h = absurd (cc h)
turned bs guard g h = refl
