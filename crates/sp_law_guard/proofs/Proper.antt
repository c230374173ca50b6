-- Guarded forms are proper, and negating a proper formula twice gives it back.
use Rattle.std.proofs.Common.{◌≡◌, List, [], ◌∷◌, Some, option_map, refl, sym, ap, ap₂, subst}
use Rattle.sp_spec.specs.Formula.{Written, Formula, truth, falsity, happens, equals, precedes, not_so, both, either, implies, for_all, for_some}
use Rattle.sp_spec.specs.Guarded.{Binder, Atom, acts, same, same_time, before, last, Guarded, Guardeds, holds, fails, all_of, one_of, some, every, no_more, and_then}
use Rattle.sp_spec.specs.Guarded as guarded
use Rattle.sp_law_truth.proofs.AsTrue.{as_itself, as_both}
use Rattle.std.specs.Prelude.{◌↔◌}
use Rattle.sp_law_guard.specs.GuardedForm.{meant, time_place, placed_action, term_time, acts_at, before_at, equality_at, binder_of, conjunction, disjunction, negated_atom, negate, negate_each, existential, guarded_form}
use Rattle.sp_law_guard.specs.Proper.{IsNoAction, IsProper, AreProper}
use Rattle.sp_spec.proofs.Options.{mapped}
use Rattle.sp_law_guard.proofs.Kept.{joined_forms}
use Rattle.sp_law_guard.proofs.Parts.{EachIs, IsOfParts, conjunction_is, disjunction_is, quantified_is}

each_proper : (gs : Guardeds) → AreProper gs ↔ EachIs IsProper gs
each_proper no_more = as_itself
each_proper (and_then g gs) = as_both as_itself (each_proper gs)

proper_parts : IsOfParts IsProper
proper_parts = record { of_truth = tt; of_all = each_proper; of_one = each_proper }

-- the negation
negated_proper : (a : Atom) → IsProper (negated_atom a)
negated_proper (acts a i) = tt
negated_proper (same t u) = tt
negated_proper (same_time i j) = tt
negated_proper (before i j) = tt
negated_proper (last i) = tt

every_proper : (bs : List Binder) (guard : List Atom) (g : Guarded) → (IsProper g → IsProper (negate g)) → IsProper (every bs guard g) → IsProper (negate (every bs guard g))
every_proper (b ∷ bs) guard g below p = (tt, below p.1)
every_proper [] (acts a i ∷ []) guarded.falsity below p = tt
every_proper [] guard g below p = absurd p.0

mutual
  pub negate_proper : (g : Guarded) → IsProper g → IsProper (negate g)
  negate_proper guarded.truth p = tt
  negate_proper guarded.falsity p = tt
  negate_proper (holds a) p = negated_proper a
  negate_proper (fails a) p = tt
  negate_proper (all_of gs) p = negate_each_proper gs p
  negate_proper (one_of gs) p = negate_each_proper gs p
  negate_proper (some [] guard g) p = absurd p.0
  negate_proper (some (b ∷ bs) guard g) p = (tt, negate_proper g p.1)
  negate_proper (every bs guard g) p = every_proper bs guard g (negate_proper g) p

  negate_each_proper : (gs : Guardeds) → AreProper gs → AreProper (negate_each gs)
  negate_each_proper no_more p = tt
  negate_each_proper (and_then g gs) p = (negate_proper g p.0, negate_each_proper gs p.1)

atom_twice : (a : Atom) → negate (negated_atom a) ≡ holds a
atom_twice (acts a i) = refl
atom_twice (same t u) = refl
atom_twice (same_time i j) = refl
atom_twice (before i j) = refl
atom_twice (last i) = refl

failing_twice : (a : Atom) → IsNoAction a → negated_atom a ≡ fails a
failing_twice (acts a i) p = absurd p
failing_twice (same t u) p = refl
failing_twice (same_time i j) p = refl
failing_twice (before i j) p = refl
failing_twice (last i) p = refl

every_twice : (bs : List Binder) (guard : List Atom) (g : Guarded) → (IsProper g → negate (negate g) ≡ g) → IsProper (every bs guard g) → negate (negate (every bs guard g)) ≡ every bs guard g
every_twice (b ∷ bs) guard g below p = ap (every (b ∷ bs) guard) (below p.1)
every_twice [] (acts a i ∷ []) guarded.falsity below p = refl
every_twice [] guard g below p = absurd p.0

mutual
  pub negate_twice : (g : Guarded) → IsProper g → negate (negate g) ≡ g
  negate_twice guarded.truth p = refl
  negate_twice guarded.falsity p = refl
  negate_twice (holds a) p = atom_twice a
  negate_twice (fails a) p = failing_twice a p
  negate_twice (all_of gs) p = ap all_of (negate_each_twice gs p)
  negate_twice (one_of gs) p = ap one_of (negate_each_twice gs p)
  negate_twice (some [] guard g) p = absurd p.0
  negate_twice (some (b ∷ bs) guard g) p = ap (some (b ∷ bs) guard) (negate_twice g p.1)
  negate_twice (every bs guard g) p = every_twice bs guard g (negate_twice g) p

  negate_each_twice : (gs : Guardeds) → AreProper gs → negate_each (negate_each gs) ≡ gs
  negate_each_twice no_more p = refl
  negate_each_twice (and_then g gs) p = ap₂ and_then (negate_twice g p.0) (negate_each_twice gs p.1)

-- the forms
existential_proper : (b : Binder) (g : Guarded) → IsProper g → IsProper (existential b g)
existential_proper b (some bs guard g) p = (tt, p.1)
existential_proper b guarded.truth p = (tt, quantified_is IsProper proper_parts guarded.truth p)
existential_proper b guarded.falsity p = (tt, quantified_is IsProper proper_parts guarded.falsity p)
existential_proper b (holds a) p = (tt, quantified_is IsProper proper_parts (holds a) p)
existential_proper b (fails a) p = (tt, quantified_is IsProper proper_parts (fails a) p)
existential_proper b (all_of gs) p = (tt, quantified_is IsProper proper_parts (all_of gs) p)
existential_proper b (one_of gs) p = (tt, quantified_is IsProper proper_parts (one_of gs) p)
existential_proper b (every bs guard g) p = (tt, quantified_is IsProper proper_parts (every bs guard g) p)

pub form_proper : (bs : List Written) (f : Formula) (g : Guarded) → guarded_form bs f ≡ Some g → IsProper g
form_proper bs truth g e = subst IsProper (let k : guarded.truth ≡ g = cc in k) tt
form_proper bs falsity g e = subst IsProper (let k : guarded.falsity ≡ g = cc in k) tt
form_proper bs (happens a i) g e = subst IsProper (sym (mapped holds (acts_at (placed_action bs a) (time_place (meant bs i.name))) g e).2) tt
form_proper bs (equals t u) g e = subst IsProper (sym (mapped holds (equality_at bs t u (term_time bs t) (term_time bs u)) g e).2) tt
form_proper bs (precedes i j) g e = subst IsProper (sym (mapped holds (before_at (time_place (meant bs i.name)) (time_place (meant bs j.name))) g e).2) tt
form_proper bs (not_so f) g e =
    let r = mapped negate (guarded_form bs f) g e in
    subst IsProper (sym r.2) (negate_proper r.0 (form_proper bs f r.0 r.1))
form_proper bs (both f k) g e =
    let r = joined_forms conjunction (guarded_form bs f) (guarded_form bs k) g e in
    subst IsProper (sym r.4) (conjunction_is IsProper proper_parts r.0 r.1 (form_proper bs f r.0 r.2) (form_proper bs k r.1 r.3))
form_proper bs (either f k) g e =
    let r = joined_forms disjunction (guarded_form bs f) (guarded_form bs k) g e in
    subst IsProper (sym r.4) (disjunction_is IsProper proper_parts r.0 r.1 (form_proper bs f r.0 r.2) (form_proper bs k r.1 r.3))
form_proper bs (implies f k) g e =
    let r = joined_forms disjunction (option_map negate (guarded_form bs f)) (guarded_form bs k) g e in
    let q = mapped negate (guarded_form bs f) r.0 r.2 in
    subst IsProper (sym r.4)
    (disjunction_is IsProper proper_parts r.0 r.1 (subst IsProper (sym q.2) (negate_proper q.0 (form_proper bs f q.0 q.1))) (form_proper bs k r.1 r.3))
form_proper bs (for_all x f) g e =
    let r = mapped (λ (k : Guarded). negate (existential (binder_of x.mark) (negate k))) (guarded_form (x ∷ bs) f) g e in
    subst IsProper (sym r.2)
    (negate_proper (existential (binder_of x.mark) (negate r.0)) (existential_proper (binder_of x.mark) (negate r.0) (negate_proper r.0 (form_proper (x ∷ bs) f r.0 r.1))))
form_proper bs (for_some x f) g e =
    let r = mapped (existential (binder_of x.mark)) (guarded_form (x ∷ bs) f) g e in
    subst IsProper (sym r.2) (existential_proper (binder_of x.mark) r.0 (form_proper (x ∷ bs) f r.0 r.1))
