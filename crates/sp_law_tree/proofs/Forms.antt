-- Guarded formulas whose atoms are flat: they are timed, and a log over whose trace one is true solves the system that begins with it.
use Rattle.std.proofs.Common.{◌≡◌, ◌<◌, ℕ, zero, true, List, length, arith}
use Rattle.sp_spec.specs.Lists.{Every}
use Rattle.sp_spec.specs.Term.{Names, Variable}
use Rattle.sp_spec.specs.Signature.{Signature}
use Rattle.sp_spec.specs.Theory.{Theory, signature_of}
use Rattle.sp_spec.specs.Guarded.{Place, free, bound, place_in, Atom, Guarded, Guardeds, truth, falsity, holds, fails, all_of, one_of, some, every, no_more, and_then, Assignment, GuardedHolds}
use Rattle.sp_spec.specs.Log.{Log, log_trace}
use Rattle.sp_spec.proofs.Lists.{every_weaken}
use Rattle.sp_law_equal.specs.NormalForms.{HaveNormalForms}
use Rattle.sp_law_truth.specs.Shown.{times_within, IsTimedAtom, IsTimed}
use Rattle.sp_law_guard.specs.Closed.{IsClosedAtom}
use Rattle.sp_law_guard.specs.GuardedForm.{negate}
use Rattle.sp_law_guard.specs.IsGuarded.{is_guarded}
use Rattle.sp_law_guard.proofs.Throughout.{Throughout, ThroughoutEach, negate_throughout, throughout_weaken, throughout_both}
use Rattle.sp_law_guard.proofs.Timed.{timed}
use Rattle.sp_law_guard.proofs.Negated.{negate_guarded}
use Rattle.sp_law_decide.proofs.Matched.{IsNormalValue}
use Rattle.sp_spec_system.specs.Solutions.{assignment, AtomSettled, Settled, EachSettled, Solves}
use Rattle.sp_spec_system.specs.Numbered.{InFormula, InEach, IsNumbered}
use Rattle.sp_spec_proof.specs.Root.{root}
use Rattle.sp_law_basic.proofs.Named.{NamedAtom}
use Rattle.sp_law_tree.proofs.Flat.{FlatAtom, closed_atom_in, each_in, Bounded, flat_settled, each_bounded}
use Rattle.sp_law_cover.specs.Admitted.{start}
use Rattle.sp_law_tree.proofs.Starts.{start_sorts, start_normal}

pub record IsRight (signature : Signature) (h : Guarded) : Type 0 where
  pub each : Throughout (FlatAtom signature) zero h
  pub guarded : is_guarded h ≡ true

module _ (signature : Signature) where
  pub right_negation : (h : Guarded) → IsRight signature h → IsRight signature (negate h)
  right_negation h r = record { each = negate_throughout (FlatAtom signature) zero h r.each; guarded = negate_guarded h r.guarded }

  pub right_timed : (h : Guarded) → IsRight signature h → IsTimed zero h
  right_timed h r = timed zero h (throughout_weaken (FlatAtom signature) IsTimedAtom (λ n a p. p.0) zero h r.each) r.guarded

-- nothing free stands in the atom, and its names are such ones
abbrev pub ClosedNamed : Names → ℕ → Atom → Type 0
ClosedNamed N n a = IsClosedAtom a × NamedAtom N n a

module _ (N : Names) (P : Variable → Type 0) (Q : ℕ → Type 0) where
  mutual
    closed_in : (n : ℕ) (h : Guarded) → Throughout (ClosedNamed N) n h → InFormula N P Q h
    closed_in n truth f = tt
    closed_in n falsity f = tt
    closed_in n (holds a) f = closed_atom_in N P Q n a f
    closed_in n (fails a) f = closed_atom_in N P Q n a f
    closed_in n (all_of gs) f = each_closed_in n gs f
    closed_in n (one_of gs) f = each_closed_in n gs f
    closed_in n (some bs guard g) f = (each_in N P Q (times_within bs n) guard f.0, closed_in (times_within bs n) g f.1)
    closed_in n (every bs guard g) f = (each_in N P Q (times_within bs n) guard f.0, closed_in (times_within bs n) g f.1)

    each_closed_in : (n : ℕ) (gs : Guardeds) → ThroughoutEach (ClosedNamed N) n gs → InEach N P Q gs
    each_closed_in n no_more f = tt
    each_closed_in n (and_then g gs) f = (closed_in n g f.0, each_closed_in n gs f.1)

-- their atoms are settled, whatever normal values are bound
module _ (signature : Signature) (good : HaveNormalForms signature.equations) (limit : ℕ) where
  abbrev SettledUnder : List Atom → Guarded → Assignment → Type 0
  SettledUnder guard g w = Every (AtomSettled signature limit w) guard × Settled signature limit w g

  guard_settled : (n : ℕ) (w : Assignment) → Bounded signature limit n w → (atoms : List Atom) → Every (FlatAtom signature n) atoms → Every (AtomSettled signature limit w) atoms
  guard_settled n w b atoms f = every_weaken (FlatAtom signature n) (AtomSettled signature limit w) (flat_settled signature good limit n w b) atoms f

  mutual
    settled : (h : Guarded) (n : ℕ) (m : Assignment) → Bounded signature limit n m → Throughout (FlatAtom signature) n h → Settled signature limit m h
    settled truth n m b f = tt
    settled falsity n m b f = tt
    settled (holds a) n m b f = flat_settled signature good limit n m b a f
    settled (fails a) n m b f = flat_settled signature good limit n m b a f
    settled (all_of gs) n m b f = each_settled gs n m b f
    settled (one_of gs) n m b f = each_settled gs n m b f
    settled (some bs guard g) n m b f =
        each_bounded signature limit (SettledUnder guard g) bs n m (λ w c. (guard_settled (times_within bs n) w c guard f.0, settled g (times_within bs n) w c f.1)) b
    settled (every bs guard g) n m b f =
        each_bounded signature limit (SettledUnder guard g) bs n m (λ w c. (guard_settled (times_within bs n) w c guard f.0, settled g (times_within bs n) w c f.1)) b

    each_settled : (gs : Guardeds) (n : ℕ) (m : Assignment) → Bounded signature limit n m → ThroughoutEach (FlatAtom signature) n gs → EachSettled signature limit m gs
    each_settled no_more n m b f = tt
    each_settled (and_then g gs) n m b f = (settled g n m b f.0, each_settled gs n m b f.1)

-- the system that begins with one
pub right_numbered : (signature : Signature) (N : Names) (h : Guarded) → IsRight signature h → Throughout (NamedAtom N) zero h → IsNumbered N (root h)
right_numbered signature N h r k =
    let closed = throughout_weaken (FlatAtom signature) (λ n a. IsClosedAtom a) (λ n a p. p.1) zero h r.each in
    record {
      events = tt;
      formulas = (closed_in N (λ x. x.number < zero) (λ i. i < zero) zero h (throughout_both (λ n a. IsClosedAtom a) (NamedAtom N) zero h closed k), tt);
      spent = tt;
      unequal = tt;
      links = tt;
      order = tt;
      last = tt;
    }

start_bounded : (signature : Signature) (limit : ℕ) → Bounded signature limit zero (assignment start)
start_bounded signature limit = record { values = at; positions = λ k l. absurd (omega (arith, l)) }
  where
    at : (p : Place) → IsNormalValue signature (place_in (assignment start) p)
    at (free x) = (start_normal signature x, (start_sorts signature x).1)
    at (bound k) = (tt, tt)

pub right_solved : (theory : Theory) → HaveNormalForms (signature_of theory).equations → (log : Log) (h : Guarded) → IsRight (signature_of theory) h
    → GuardedHolds (signature_of theory) (log_trace log) (assignment start) h → Solves theory log start (root h)
right_solved theory good log h r true_there =
    let signature = signature_of theory in
    record {
      sorts = start_sorts signature;
      normal = start_normal signature;
      events = tt;
      formulas = ((true_there, settled signature good (length log) h zero (assignment start) (start_bounded signature (length log)) r.each), tt);
      spent = tt;
      unequal = tt;
      links = tt;
      order = tt;
      last = tt;
      closed = λ e. absurd cc;
    }
