-- Such formulas are settled over each log, whatever normal values the system's variables have.
use Rattle.std.proofs.Common.{ℕ, zero, List, arith}
use Rattle.sp_spec.specs.Lists.{Every}
use Rattle.sp_spec.specs.Term.{Names, Variable}
use Rattle.sp_spec.specs.Signature.{Signature, IsValuation}
use Rattle.sp_spec.specs.Equal.{IsNormal}
use Rattle.sp_spec.specs.Guarded.{Place, free, bound, free_time, bound_time, Atom, acts, same, same_time, before, last}
use Rattle.sp_spec.specs.Guarded.{Guarded, Guardeds, truth, falsity, holds, fails, all_of, one_of, some, every, no_more, and_then, Assignment, place_in}
use Rattle.sp_spec.proofs.Lists.{every_weaken}
use Rattle.sp_law_equal.specs.NormalForms.{HaveNormalForms}
use Rattle.sp_law_truth.specs.Shown.{times_within}
use Rattle.sp_law_guard.proofs.Throughout.{Throughout, ThroughoutEach}
use Rattle.sp_law_decide.proofs.Matched.{IsNormalValue}
use Rattle.sp_spec_system.specs.Solutions.{Valuation, assignment, AtomSettled, Settled, EachSettled}
use Rattle.sp_law_tree.proofs.Flat.{Bounded, flat_settled, each_bounded}
use Rattle.sp_law_inductive.proofs.Bound.{BoundAtom, IsBoundForm}

module _ (signature : Signature) (good : HaveNormalForms signature.equations) (N : Names) (limit : ℕ) where
  module _ (n : ℕ) (m : Assignment) (b : Bounded signature limit n m) where
    atom_settled : (a : Atom) → BoundAtom signature N n a → AtomSettled signature limit m a
    atom_settled (acts a i) h = flat_settled signature good limit n m b (acts a i) h.0
    atom_settled (same t u) h = flat_settled signature good limit n m b (same t u) h.0
    atom_settled (same_time i j) h = flat_settled signature good limit n m b (same_time i j) h.0
    atom_settled (before i j) h = flat_settled signature good limit n m b (before i j) h.0
    atom_settled (last (bound_time k)) h = b.positions k h
    atom_settled (last (free_time i)) h = absurd h

    guard_settled : (atoms : List Atom) → Every (BoundAtom signature N n) atoms → Every (AtomSettled signature limit m) atoms
    guard_settled atoms e = every_weaken (BoundAtom signature N n) (AtomSettled signature limit m) atom_settled atoms e

  abbrev SettledUnder : List Atom → Guarded → Assignment → Type 0
  SettledUnder guard g w = Every (AtomSettled signature limit w) guard × Settled signature limit w g

  mutual
    settled : (h : Guarded) (n : ℕ) (m : Assignment) → Bounded signature limit n m → Throughout (BoundAtom signature N) n h → Settled signature limit m h
    settled truth n m b f = tt
    settled falsity n m b f = tt
    settled (holds a) n m b f = atom_settled n m b a f
    settled (fails a) n m b f = atom_settled n m b a f
    settled (all_of gs) n m b f = each_settled gs n m b f
    settled (one_of gs) n m b f = each_settled gs n m b f
    settled (some bs guard g) n m b f =
        let k = times_within bs n in
        each_bounded signature limit (SettledUnder guard g) bs n m (λ w c. (guard_settled k w c guard f.0, settled g k w c f.1)) b
    settled (every bs guard g) n m b f =
        let k = times_within bs n in
        each_bounded signature limit (SettledUnder guard g) bs n m (λ w c. (guard_settled k w c guard f.0, settled g k w c f.1)) b

    each_settled : (gs : Guardeds) (n : ℕ) (m : Assignment) → Bounded signature limit n m → ThroughoutEach (BoundAtom signature N) n gs → EachSettled signature limit m gs
    each_settled no_more n m b f = tt
    each_settled (and_then g gs) n m b f = (settled g n m b f.0, each_settled gs n m b f.1)

  module _ (v : Valuation) (sorts : IsValuation signature v.terms) (normal : (x : Variable) → IsNormal signature.equations (v.terms x)) where
    values_bounded : Bounded signature limit zero (assignment v)
    values_bounded = record { values = at; positions = λ k l. absurd (omega (arith, l)) }
      where
        at : (p : Place) → IsNormalValue signature (place_in (assignment v) p)
        at (free x) = (normal x, (sorts x).1)
        at (bound k) = (tt, tt)

    pub bound_settled : (h : Guarded) → IsBoundForm signature N h → Settled signature limit (assignment v) h
    bound_settled h b = settled h zero (assignment v) values_bounded b
