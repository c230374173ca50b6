-- Flat atoms: their times are bound, nothing free stands in them, and their terms are constructor terms. So they are settled under normal values, and
-- have numbers and names of any kind.
use Rattle.std.proofs.Common.{◌<◌, ℕ, zero, suc, List, [], ◌∷◌, arith}
use Rattle.sp_spec.specs.Lists.{Every}
use Rattle.sp_spec.specs.Term.{Names, Variable, Term, var, constant, name, app, Terms, none, more, Ground, MadeOf, AllMadeOf}
use Rattle.sp_spec.specs.Signature.{Signature}
use Rattle.sp_spec.specs.Guarded.{Place, free, bound, Time, free_time, bound_time, Binder, message, time, Atom, acts, same, same_time, before, last, Assignment, with_term, with_time, pushed, place_in, time_in}
use Rattle.sp_law_equal.specs.NormalForms.{HaveNormalForms}
use Rattle.sp_law_truth.specs.Shown.{times_within, IsBound, IsTimedAtom}
use Rattle.sp_law_guard.specs.Closed.{IsBoundPlace, IsClosedTerm, AreClosedTerms, IsClosedTime, IsClosedAtom}
use Rattle.sp_law_decide.specs.Normal.{IsConstructorAtom}
use Rattle.sp_law_decide.proofs.Matched.{IsNormalValue}
use Rattle.sp_law_decide.proofs.Terms.{constructor_normal, constructors_normal}
use Rattle.sp_spec_system.specs.Numbered.{AtFree, AtFreeTime, InAtom}
use Rattle.sp_spec_system.specs.Solutions.{EachNormal, AtomSettled}
use Rattle.sp_law_basic.proofs.Named.{NamedTerm, NamedTerms, NamedAtom}

-- n times are bound outside
abbrev pub FlatAtom : Signature → ℕ → Atom → Type 0
FlatAtom signature n a = IsTimedAtom n a × IsClosedAtom a × IsConstructorAtom signature a

-- what holds of an atom in which nothing free stands
module _ (N : Names) (P : Variable → Type 0) (Q : ℕ → Type 0) where
  place_within : (p : Place) → IsBoundPlace p → AtFree P p
  place_within (bound k) h = tt
  place_within (free x) h = absurd h

  mutual
    closed_in : (t : Term Place) → IsClosedTerm t → NamedTerm N t → MadeOf N (AtFree P) t
    closed_in (var p) h e = place_within p h
    closed_in (constant c) h e = e
    closed_in (name n) h e = e
    closed_in (app f ts) h e = all_closed_in ts h e

    all_closed_in : (ts : Terms Place) → AreClosedTerms ts → NamedTerms N ts → AllMadeOf N (AtFree P) ts
    all_closed_in none h e = tt
    all_closed_in (more t ts) h e = (closed_in t h.0 e.0, all_closed_in ts h.1 e.1)

  closed_time_in : (i : Time) → IsClosedTime i → AtFreeTime Q i
  closed_time_in (bound_time k) h = tt
  closed_time_in (free_time i) h = absurd h

  pub closed_atom_in : (n : ℕ) (a : Atom) → IsClosedAtom a × NamedAtom N n a → InAtom N P Q a
  closed_atom_in n (acts a i) h = (all_closed_in a.args h.0.0 h.1, closed_time_in i h.0.1)
  closed_atom_in n (same t u) h = (closed_in t h.0.0 h.1.0, closed_in u h.0.1 h.1.1)
  closed_atom_in n (same_time i j) h = (closed_time_in i h.0.0, closed_time_in j h.0.1)
  closed_atom_in n (before i j) h = (closed_time_in i h.0.0, closed_time_in j h.0.1)
  closed_atom_in n (last i) h = closed_time_in i h.0

  pub each_in : (n : ℕ) (atoms : List Atom) → Every (λ (a : Atom). IsClosedAtom a × NamedAtom N n a) atoms → Every (InAtom N P Q) atoms
  each_in n [] h = tt
  each_in n (a ∷ atoms) h = (closed_atom_in n a h.0, each_in n atoms h.1)

-- values that are normal and over the signature, and positions for the times that are bound
pub record Bounded (signature : Signature) (limit n : ℕ) (m : Assignment) : Type 0 where
  pub values : (p : Place) → IsNormalValue signature (place_in m p)
  pub positions : (k : ℕ) → k < n → m.bound_times k < limit

module _ (signature : Signature) (good : HaveNormalForms signature.equations) (limit n : ℕ) (m : Assignment) (b : Bounded signature limit n m) where
  flat_position : (i : Time) → IsBound n i → time_in m i < limit
  flat_position (bound_time k) h = b.positions k h
  flat_position (free_time i) h = absurd h

  pub flat_settled : (a : Atom) → FlatAtom signature n a → AtomSettled signature limit m a
  flat_settled (acts a i) h = (constructors_normal signature good (place_in m) b.values a.args h.2, flat_position i h.0)
  flat_settled (same t u) h = (constructor_normal signature good (place_in m) b.values t h.2.0, constructor_normal signature good (place_in m) b.values u h.2.1)
  flat_settled (same_time i j) h = (flat_position i h.0.0, flat_position j h.0.1)
  flat_settled (before i j) h = (flat_position i h.0.0, flat_position j h.0.1)
  flat_settled (last i) h = absurd h.0

-- under all binders
module _ (signature : Signature) (limit : ℕ) where
  bounded_message : (n : ℕ) (m : Assignment) (t : Ground) → IsNormalValue signature t → Bounded signature limit n m → Bounded signature limit n (with_term t m)
  bounded_message n m t h b = record { values = at; positions = b.positions }
    where
      at : (p : Place) → IsNormalValue signature (place_in (with_term t m) p)
      at (free x) = b.values (free x)
      at (bound zero) = h
      at (bound (suc k)) = b.values (bound k)

  bounded_time : (n : ℕ) (m : Assignment) (p : ℕ) → p < limit → Bounded signature limit n m → Bounded signature limit (suc n) (with_time p m)
  bounded_time n m p h b = record { values = values; positions = at }
    where
      values : (q : Place) → IsNormalValue signature (place_in (with_time p m) q)
      values (free x) = b.values (free x)
      values (bound k) = b.values (bound k)

      at : (k : ℕ) → k < suc n → pushed p m.bound_times k < limit
      at zero l = h
      at (suc k) l = b.positions k (omega (arith, l))

  pub each_bounded : (P : Assignment → Type 0) (bs : List Binder) (n : ℕ) (m : Assignment)
      → ((w : Assignment) → Bounded signature limit (times_within bs n) w → P w) → Bounded signature limit n m → EachNormal signature limit bs P m
  each_bounded P [] n m leaf b = leaf m b
  each_bounded P (message sort ∷ bs) n m leaf b = λ t i h. each_bounded P bs n (with_term t m) leaf (bounded_message n m t (h, i.1) b)
  each_bounded P (time ∷ bs) n m leaf b = λ p h. each_bounded P bs (suc n) (with_time p m) leaf (bounded_time n m p h b)
