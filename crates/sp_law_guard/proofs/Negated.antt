-- Where each variable of a formula is guarded, so is each of its negation.
use Rattle.std.proofs.Common.{◌≡◌, true, ◌&&◌, List, [], ◌∷◌, refl}
use Rattle.std.proofs.lemmas.Bool.{and_parts, and_from}
use Rattle.sp_spec.specs.Guarded.{Binder, Atom, acts, same, same_time, before, last, Guarded, Guardeds, truth, falsity, holds, fails, all_of, one_of, some, every, no_more, and_then}
use Rattle.sp_law_guard.specs.GuardedForm.{negated_atom, negate, negate_each}
use Rattle.sp_law_guard.specs.IsGuarded.{messages_in, each_guarded, is_guarded, are_guarded}

pub negated_guarded : (a : Atom) → is_guarded (negated_atom a) ≡ true
negated_guarded (acts a i) = refl
negated_guarded (same t u) = refl
negated_guarded (same_time i j) = refl
negated_guarded (before i j) = refl
negated_guarded (last i) = refl

-- the quantifier stays, with another body
body_guarded : (bs : List Binder) (guard : List Atom) (g h : Guarded) → (is_guarded g ≡ true → is_guarded h ≡ true)
    → (each_guarded (messages_in bs) guard bs && is_guarded g) ≡ true → (each_guarded (messages_in bs) guard bs && is_guarded h) ≡ true
body_guarded bs guard g h below e =
    let r = and_parts (each_guarded (messages_in bs) guard bs) (is_guarded g) e in
    and_from (each_guarded (messages_in bs) guard bs) (is_guarded h) r.0 (below r.1)

every_guarded : (bs : List Binder) (guard : List Atom) (g : Guarded) → (is_guarded g ≡ true → is_guarded (negate g) ≡ true)
    → is_guarded (every bs guard g) ≡ true → is_guarded (negate (every bs guard g)) ≡ true
every_guarded [] (acts a i ∷ []) falsity below e = refl
every_guarded bs guard g below e = body_guarded bs guard g (negate g) below e

mutual
  pub negate_guarded : (g : Guarded) → is_guarded g ≡ true → is_guarded (negate g) ≡ true
  negate_guarded truth e = refl
  negate_guarded falsity e = refl
  negate_guarded (holds a) e = negated_guarded a
  negate_guarded (fails a) e = refl
  negate_guarded (all_of gs) e = negate_each_guarded gs e
  negate_guarded (one_of gs) e = negate_each_guarded gs e
  negate_guarded (some bs guard g) e = body_guarded bs guard g (negate g) (negate_guarded g) e
  negate_guarded (every bs guard g) e = every_guarded bs guard g (negate_guarded g) e

  negate_each_guarded : (gs : Guardeds) → are_guarded gs ≡ true → are_guarded (negate_each gs) ≡ true
  negate_each_guarded no_more e = refl
  negate_each_guarded (and_then g gs) e =
      let r = and_parts (is_guarded g) (are_guarded gs) e in
      and_from (is_guarded (negate g)) (are_guarded (negate_each gs)) (negate_guarded g r.0) (negate_each_guarded gs r.1)
