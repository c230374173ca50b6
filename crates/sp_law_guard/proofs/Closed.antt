-- Each variable and each time of a guarded form is bound.
use Rattle.std.proofs.Common.{◌≡◌, ℕ, [], Some, sym, subst}
use Rattle.sp_spec.specs.Formula.{Formula}
use Rattle.sp_spec.specs.Guarded.{Time, free_time, bound_time, Atom, Guarded, Guardeds, truth, falsity, holds, fails, all_of, one_of, some, every, no_more, and_then}
use Rattle.sp_law_truth.specs.Shown.{times_within, IsBound}
use Rattle.sp_law_guard.specs.GuardedForm.{guarded_form}
use Rattle.sp_law_guard.specs.Closed.{IsClosedTime, IsClosedAtom, IsClosed, AreClosed}
use Rattle.sp_law_guard.proofs.Throughout.{Throughout, ThroughoutEach, OfAtoms, any_formula, form_throughout}
use Rattle.sp_law_guard.proofs.Places.{term_closed, action_made, order_made, equality_made}

abbrev OfClosed : ℕ → Atom → Type 0
OfClosed n a = IsClosedAtom a

pub closed_time : (n : ℕ) (i : Time) → IsBound n i → IsClosedTime i
closed_time n (free_time i) b = b
closed_time n (bound_time k) b = tt

closed_atoms : OfAtoms OfClosed (λ f. Unit {0})
closed_atoms = record {
  of_actions = λ bs a i atom w e. let r = action_made bs a i atom e in subst IsClosedAtom (sym r.is) (r.closed, closed_time _ r.time r.bounded);
  of_equalities = λ bs t u atom w e. equality_made bs t u atom IsClosedAtom e (λ i j k l. (closed_time _ i k, closed_time _ j l)) (λ x y k l. (term_closed bs t x k, term_closed bs u y l));
  of_order = λ bs i j atom w e. let r = order_made bs i j atom e in subst IsClosedAtom (sym r.is) (closed_time _ r.first r.first_bound, closed_time _ r.second r.second_bound);
}

mutual
  closed : (n : ℕ) (g : Guarded) → Throughout OfClosed n g → IsClosed g
  closed n truth t = tt
  closed n falsity t = tt
  closed n (holds a) t = t
  closed n (fails a) t = t
  closed n (all_of gs) t = each_closed n gs t
  closed n (one_of gs) t = each_closed n gs t
  closed n (some bs guard g) t = (t.0, closed (times_within bs n) g t.1)
  closed n (every bs guard g) t = (t.0, closed (times_within bs n) g t.1)

  each_closed : (n : ℕ) (gs : Guardeds) → ThroughoutEach OfClosed n gs → AreClosed gs
  each_closed n no_more t = tt
  each_closed n (and_then g gs) t = (closed n g t.0, each_closed n gs t.1)

pub form_closed : (f : Formula) (g : Guarded) → guarded_form [] f ≡ Some g → IsClosed g
form_closed f g e = closed 0 g (form_throughout OfClosed (λ f. Unit {0}) any_formula closed_atoms [] f g tt e)
