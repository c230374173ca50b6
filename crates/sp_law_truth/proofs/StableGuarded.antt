-- The truth of guarded formulas is that of classical logic too.
use Rattle.std.proofs.Common.{ℕ, List, [], ◌∷◌, length}
use Rattle.sp_spec.specs.Lists.{Classically}
use Rattle.sp_spec.specs.Signature.{Signature}
use Rattle.sp_spec.specs.Execution.{Trace}
use Rattle.sp_spec.specs.Guarded.{Binder, message, time, Atom, acts, same, same_time, before, last, Guarded, Guardeds, truth, falsity, holds, fails, all_of, one_of, some, every, no_more, and_then, Assignment, with_term, with_time, time_in, AtomHolds, AtomsHold, SomeValues, EachValues, GuardedHolds, EachHolds}
use Rattle.sp_law_truth.proofs.Stable.{classically, stable_negation, stable_classically, stable_less}

pub stable_atom : (signature : Signature) (trace : Trace) (m : Assignment) (a : Atom) → Classically (AtomHolds signature trace m a) → AtomHolds signature trace m a
stable_atom signature trace m (acts action i) h = stable_classically h
stable_atom signature trace m (same t u) h = stable_classically h
stable_atom signature trace m (same_time i j) h = stable_classically h
stable_atom signature trace m (before i j) h = stable_less (time_in m i) (time_in m j) h
stable_atom signature trace m (last i) h = stable_classically h

pub stable_atoms : (signature : Signature) (trace : Trace) (m : Assignment) (atoms : List Atom) → Classically (AtomsHold signature trace m atoms) → AtomsHold signature trace m atoms
stable_atoms signature trace m [] h = tt
stable_atoms signature trace m (a ∷ atoms) h =
    (stable_atom signature trace m a (classically (λ p. p.0) h), stable_atoms signature trace m atoms (classically (λ p. p.1) h))

module _ (signature : Signature) (n : ℕ) (P : Assignment → Type 0) (below : (w : Assignment) → Classically (P w) → P w) where
  pub stable_some : (bs : List Binder) (m : Assignment) → Classically (SomeValues signature n bs P m) → SomeValues signature n bs P m
  stable_some [] m h = below m h
  stable_some (message sort ∷ bs) m h = stable_classically h
  stable_some (time ∷ bs) m h = stable_classically h

  pub stable_every : (bs : List Binder) (m : Assignment) → Classically (EachValues signature n bs P m) → EachValues signature n bs P m
  stable_every [] m h = below m h
  stable_every (message sort ∷ bs) m h = λ t s. stable_every bs (with_term t m) (classically (λ p. p t s) h)
  stable_every (time ∷ bs) m h = λ p l. stable_every bs (with_time p m) (classically (λ q. q p l) h)

mutual
  pub stable_guarded : (signature : Signature) (trace : Trace) (m : Assignment) (f : Guarded) → Classically (GuardedHolds signature trace m f) → GuardedHolds signature trace m f
  stable_guarded signature trace m truth h = tt
  stable_guarded signature trace m falsity h = h (λ x. x)
  stable_guarded signature trace m (holds a) h = stable_atom signature trace m a h
  stable_guarded signature trace m (fails a) h = stable_negation h
  stable_guarded signature trace m (all_of fs) h = stable_each signature trace m fs h
  stable_guarded signature trace m (one_of fs) h = stable_classically h
  stable_guarded signature trace m (some bs guard f) h =
      stable_some signature (length trace) (λ (w : Assignment). AtomsHold signature trace w guard × GuardedHolds signature trace w f)
      (λ w k. (stable_atoms signature trace w guard (classically (λ p. p.0) k), stable_guarded signature trace w f (classically (λ p. p.1) k))) bs m h
  stable_guarded signature trace m (every bs guard f) h =
      stable_every signature (length trace) (λ (w : Assignment). AtomsHold signature trace w guard → GuardedHolds signature trace w f)
      (λ w k x. stable_guarded signature trace w f (classically (λ p. p x) k)) bs m h

  pub stable_each : (signature : Signature) (trace : Trace) (m : Assignment) (fs : Guardeds) → Classically (EachHolds signature trace m fs) → EachHolds signature trace m fs
  stable_each signature trace m no_more h = tt
  stable_each signature trace m (and_then f fs) h =
      (stable_guarded signature trace m f (classically (λ p. p.0) h), stable_each signature trace m fs (classically (λ p. p.1) h))
