-- What holds of each atom that a formula's atoms become, with so many times bound outside it, holds of each atom of its guarded form.
use Rattle.std.proofs.Common.{◌≡◌, ℕ, zero, List, [], ◌∷◌, Some, option_map, sym, subst}
use Rattle.std.specs.Prelude.{◌↔◌}
use Rattle.sp_spec.specs.Lists.{Every}
use Rattle.sp_spec.specs.Term.{Term}
use Rattle.sp_spec.specs.Rule.{Action}
use Rattle.sp_spec.specs.Formula.{Written, Formula, truth, falsity, happens, equals, precedes, not_so, both, either, implies, for_all, for_some}
use Rattle.sp_spec.specs.Guarded.{Binder, message, time, Atom, acts, same, same_time, before, last, Guarded, Guardeds, holds, fails, all_of, one_of, some, every, no_more, and_then}
use Rattle.sp_spec.specs.Guarded as guarded
use Rattle.sp_spec.proofs.Lists.{every_weaken, every_both}
use Rattle.sp_law_truth.specs.Shown.{times_within}
use Rattle.sp_law_truth.proofs.AsTrue.{as_itself, as_both}
use Rattle.sp_law_guard.specs.GuardedForm.{meant, time_place, placed_action, term_time, acts_at, before_at, equality_at, binder_of, guard_in, rest_in, body_of, conjuncts, conjunction, disjunction, negated_atom, negate, negate_each, existential, guarded_form}
use Rattle.sp_spec.proofs.Options.{mapped}
use Rattle.sp_law_guard.proofs.Kept.{joined_forms}
use Rattle.sp_law_guard.proofs.Parts.{EachIs, IsOfParts, conjuncts_are, conjunction_is, disjunction_is, quantified_is}

-- n times are bound outside
abbrev mutual
  pub Throughout : (ℕ → Atom → Type 0) → ℕ → Guarded → Type 0
  Throughout P n guarded.truth = Unit {0}
  Throughout P n guarded.falsity = Unit {0}
  Throughout P n (holds a) = P n a
  Throughout P n (fails a) = P n a
  Throughout P n (all_of gs) = ThroughoutEach P n gs
  Throughout P n (one_of gs) = ThroughoutEach P n gs
  Throughout P n (some bs guard g) = Every (P (times_within bs n)) guard × Throughout P (times_within bs n) g
  Throughout P n (every bs guard g) = Every (P (times_within bs n)) guard × Throughout P (times_within bs n) g

  pub ThroughoutEach : (ℕ → Atom → Type 0) → ℕ → Guardeds → Type 0
  ThroughoutEach P n no_more = Unit {0}
  ThroughoutEach P n (and_then g gs) = Throughout P n g × ThroughoutEach P n gs

abbrev pub one_within : Written → ℕ → ℕ
one_within x n = times_within (binder_of x.mark ∷ []) n

-- how many times these bind
abbrev pub times_bound : List Written → ℕ
times_bound [] = zero
times_bound (x ∷ bs) = one_within x (times_bound bs)

module _ (P : ℕ → Atom → Type 0) where
  each_throughout : (n : ℕ) (gs : Guardeds) → ThroughoutEach P n gs ↔ EachIs (Throughout P n) gs
  each_throughout n no_more = as_itself
  each_throughout n (and_then g gs) = as_both as_itself (each_throughout n gs)

  throughout_parts : (n : ℕ) → IsOfParts (Throughout P n)
  throughout_parts n = record { of_truth = tt; of_all = each_throughout n; of_one = each_throughout n }

  -- the negation
  negated_throughout : (n : ℕ) (a : Atom) → P n a → Throughout P n (negated_atom a)
  negated_throughout n (acts a i) p = ((p, tt), tt)
  negated_throughout n (same t u) p = p
  negated_throughout n (same_time i j) p = p
  negated_throughout n (before i j) p = p
  negated_throughout n (last i) p = p

  every_throughout : (n : ℕ) (bs : List Binder) (guard : List Atom) (g : Guarded) → Throughout P (times_within bs n) (negate g) → Every (P (times_within bs n)) guard → Throughout P n (negate (every bs guard g))
  every_throughout n [] (acts a i ∷ []) guarded.falsity below p = p.0
  every_throughout n bs guard g below p = (p, below)

  mutual
    pub negate_throughout : (n : ℕ) (g : Guarded) → Throughout P n g → Throughout P n (negate g)
    negate_throughout n guarded.truth p = tt
    negate_throughout n guarded.falsity p = tt
    negate_throughout n (holds a) p = negated_throughout n a p
    negate_throughout n (fails a) p = p
    negate_throughout n (all_of gs) p = negate_each_throughout n gs p
    negate_throughout n (one_of gs) p = negate_each_throughout n gs p
    negate_throughout n (some bs guard g) p = (p.0, negate_throughout (times_within bs n) g p.1)
    negate_throughout n (every bs guard g) p = every_throughout n bs guard g (negate_throughout (times_within bs n) g p.1) p.0

    negate_each_throughout : (n : ℕ) (gs : Guardeds) → ThroughoutEach P n gs → ThroughoutEach P n (negate_each gs)
    negate_each_throughout n no_more p = tt
    negate_each_throughout n (and_then g gs) p = (negate_throughout n g p.0, negate_each_throughout n gs p.1)

  -- quantifiers
  guard_throughout : (n : ℕ) (gs : List Guarded) → Every (Throughout P n) gs → Every (P n) (guard_in gs)
  guard_throughout n [] e = tt
  guard_throughout n (holds (acts a i) ∷ gs) e = (e.0, guard_throughout n gs e.1)
  guard_throughout n (holds (same t u) ∷ gs) e = (e.0, guard_throughout n gs e.1)
  guard_throughout n (holds (same_time i j) ∷ gs) e = guard_throughout n gs e.1
  guard_throughout n (holds (before i j) ∷ gs) e = guard_throughout n gs e.1
  guard_throughout n (holds (last i) ∷ gs) e = guard_throughout n gs e.1
  guard_throughout n (guarded.truth ∷ gs) e = guard_throughout n gs e.1
  guard_throughout n (guarded.falsity ∷ gs) e = guard_throughout n gs e.1
  guard_throughout n (fails a ∷ gs) e = guard_throughout n gs e.1
  guard_throughout n (all_of hs ∷ gs) e = guard_throughout n gs e.1
  guard_throughout n (one_of hs ∷ gs) e = guard_throughout n gs e.1
  guard_throughout n (some bs guard g ∷ gs) e = guard_throughout n gs e.1
  guard_throughout n (every bs guard g ∷ gs) e = guard_throughout n gs e.1

  new_throughout : (b : Binder) (n : ℕ) (g : Guarded) → Throughout P (times_within (b ∷ []) n) g → Throughout P n (some (b ∷ []) (guard_in (conjuncts g)) (body_of (rest_in (conjuncts g))))
  new_throughout b n g p =
      let k = times_within (b ∷ []) n in
      (guard_throughout k (conjuncts g) (conjuncts_are (Throughout P k) (throughout_parts k) g p), quantified_is (Throughout P k) (throughout_parts k) g p)

  existential_throughout : (b : Binder) (n : ℕ) (g : Guarded) → Throughout P (times_within (b ∷ []) n) g → Throughout P n (existential b g)
  existential_throughout (message sort) n (some bs guard g) p = p
  existential_throughout time n (some bs guard g) p = p
  existential_throughout b n guarded.truth p = new_throughout b n guarded.truth p
  existential_throughout b n guarded.falsity p = new_throughout b n guarded.falsity p
  existential_throughout b n (holds a) p = new_throughout b n (holds a) p
  existential_throughout b n (fails a) p = new_throughout b n (fails a) p
  existential_throughout b n (all_of gs) p = new_throughout b n (all_of gs) p
  existential_throughout b n (one_of gs) p = new_throughout b n (one_of gs) p
  existential_throughout b n (every bs guard g) p = new_throughout b n (every bs guard g) p

-- what holds of more atoms
module _ (P Q : ℕ → Atom → Type 0) (below : (n : ℕ) (a : Atom) → P n a → Q n a) where
  mutual
    pub throughout_weaken : (n : ℕ) (g : Guarded) → Throughout P n g → Throughout Q n g
    throughout_weaken n guarded.truth p = tt
    throughout_weaken n guarded.falsity p = tt
    throughout_weaken n (holds a) p = below n a p
    throughout_weaken n (fails a) p = below n a p
    throughout_weaken n (all_of gs) p = each_weaken n gs p
    throughout_weaken n (one_of gs) p = each_weaken n gs p
    throughout_weaken n (some bs guard g) p = (every_weaken (P (times_within bs n)) (Q (times_within bs n)) (below (times_within bs n)) guard p.0, throughout_weaken (times_within bs n) g p.1)
    throughout_weaken n (every bs guard g) p = (every_weaken (P (times_within bs n)) (Q (times_within bs n)) (below (times_within bs n)) guard p.0, throughout_weaken (times_within bs n) g p.1)

    each_weaken : (n : ℕ) (gs : Guardeds) → ThroughoutEach P n gs → ThroughoutEach Q n gs
    each_weaken n no_more p = tt
    each_weaken n (and_then g gs) p = (throughout_weaken n g p.0, each_weaken n gs p.1)

-- what holds of each atom both ways
module _ (P Q : ℕ → Atom → Type 0) where
  mutual
    pub throughout_both : (n : ℕ) (g : Guarded) → Throughout P n g → Throughout Q n g → Throughout (λ (m : ℕ) (a : Atom). P m a × Q m a) n g
    throughout_both n guarded.truth p q = tt
    throughout_both n guarded.falsity p q = tt
    throughout_both n (holds a) p q = (p, q)
    throughout_both n (fails a) p q = (p, q)
    throughout_both n (all_of gs) p q = each_both n gs p q
    throughout_both n (one_of gs) p q = each_both n gs p q
    throughout_both n (some bs guard g) p q = (every_both _ _ _ (λ a h k. (h, k)) guard p.0 q.0, throughout_both (times_within bs n) g p.1 q.1)
    throughout_both n (every bs guard g) p q = (every_both _ _ _ (λ a h k. (h, k)) guard p.0 q.0, throughout_both (times_within bs n) g p.1 q.1)

    each_both : (n : ℕ) (gs : Guardeds) → ThroughoutEach P n gs → ThroughoutEach Q n gs → ThroughoutEach (λ (m : ℕ) (a : Atom). P m a × Q m a) n gs
    each_both n no_more p q = tt
    each_both n (and_then g gs) p q = (throughout_both n g p.0 q.0, each_both n gs p.1 q.1)

-- what holds of a formula's parts where it holds of the formula
pub record OfFormulas (W : Formula → Type 0) : Type 0 where
  pub of_not : (f : Formula) → W (not_so f) → W f
  pub of_both : (f g : Formula) → W (both f g) → W f × W g
  pub of_either : (f g : Formula) → W (either f g) → W f × W g
  pub of_implies : (f g : Formula) → W (implies f g) → W f × W g
  pub of_all : (x : Written) (f : Formula) → W (for_all x f) → W f
  pub of_some : (x : Written) (f : Formula) → W (for_some x f) → W f

pub any_formula : OfFormulas (λ f. Unit {0})
any_formula = record {
  of_not = λ f w. tt;
  of_both = λ f g w. (tt, tt);
  of_either = λ f g w. (tt, tt);
  of_implies = λ f g w. (tt, tt);
  of_all = λ x f w. tt;
  of_some = λ x f w. tt;
}

-- what holds of the atoms that the formula's atoms become, if these are of this kind
pub record OfAtoms (P : ℕ → Atom → Type 0) (W : Formula → Type 0) : Type 0 where
  pub of_actions : (bs : List Written) (a : Action Written) (i : Written) (atom : Atom) → W (happens a i) → acts_at (placed_action bs a) (time_place (meant bs i.name)) ≡ Some atom → P (times_bound bs) atom
  pub of_equalities : (bs : List Written) (t u : Term Written) (atom : Atom) → W (equals t u) → equality_at bs t u (term_time bs t) (term_time bs u) ≡ Some atom → P (times_bound bs) atom
  pub of_order : (bs : List Written) (i j : Written) (atom : Atom) → W (precedes i j) → before_at (time_place (meant bs i.name)) (time_place (meant bs j.name)) ≡ Some atom → P (times_bound bs) atom

module _ (P : ℕ → Atom → Type 0) (W : Formula → Type 0) (parts : OfFormulas W) (atoms : OfAtoms P W) where
  pub form_throughout : (bs : List Written) (f : Formula) (g : Guarded) → W f → guarded_form bs f ≡ Some g → Throughout P (times_bound bs) g
  form_throughout bs truth g w e = subst (Throughout P (times_bound bs)) (let k : guarded.truth ≡ g = cc in k) tt
  form_throughout bs falsity g w e = subst (Throughout P (times_bound bs)) (let k : guarded.falsity ≡ g = cc in k) tt
  form_throughout bs (happens a i) g w e =
      let r = mapped holds (acts_at (placed_action bs a) (time_place (meant bs i.name))) g e in
      subst (Throughout P (times_bound bs)) (sym r.2) (atoms.of_actions bs a i r.0 w r.1)
  form_throughout bs (equals t u) g w e =
      let r = mapped holds (equality_at bs t u (term_time bs t) (term_time bs u)) g e in
      subst (Throughout P (times_bound bs)) (sym r.2) (atoms.of_equalities bs t u r.0 w r.1)
  form_throughout bs (precedes i j) g w e =
      let r = mapped holds (before_at (time_place (meant bs i.name)) (time_place (meant bs j.name))) g e in
      subst (Throughout P (times_bound bs)) (sym r.2) (atoms.of_order bs i j r.0 w r.1)
  form_throughout bs (not_so f) g w e =
      let r = mapped negate (guarded_form bs f) g e in
      subst (Throughout P (times_bound bs)) (sym r.2) (negate_throughout P (times_bound bs) r.0 (form_throughout bs f r.0 (parts.of_not f w) r.1))
  form_throughout bs (both f k) g w e =
      let n = times_bound bs in
      let s = parts.of_both f k w in
      let r = joined_forms conjunction (guarded_form bs f) (guarded_form bs k) g e in
      subst (Throughout P n) (sym r.4) (conjunction_is (Throughout P n) (throughout_parts P n) r.0 r.1 (form_throughout bs f r.0 s.0 r.2) (form_throughout bs k r.1 s.1 r.3))
  form_throughout bs (either f k) g w e =
      let n = times_bound bs in
      let s = parts.of_either f k w in
      let r = joined_forms disjunction (guarded_form bs f) (guarded_form bs k) g e in
      subst (Throughout P n) (sym r.4) (disjunction_is (Throughout P n) (throughout_parts P n) r.0 r.1 (form_throughout bs f r.0 s.0 r.2) (form_throughout bs k r.1 s.1 r.3))
  form_throughout bs (implies f k) g w e =
      let n = times_bound bs in
      let s = parts.of_implies f k w in
      let r = joined_forms disjunction (option_map negate (guarded_form bs f)) (guarded_form bs k) g e in
      let q = mapped negate (guarded_form bs f) r.0 r.2 in
      subst (Throughout P n) (sym r.4)
      (disjunction_is (Throughout P n) (throughout_parts P n) r.0 r.1 (subst (Throughout P n) (sym q.2) (negate_throughout P n q.0 (form_throughout bs f q.0 s.0 q.1)))
      (form_throughout bs k r.1 s.1 r.3))
  form_throughout bs (for_all x f) g w e =
      let n = times_bound bs in
      let b = binder_of x.mark in
      let r = mapped (λ (k : Guarded). negate (existential (binder_of x.mark) (negate k))) (guarded_form (x ∷ bs) f) g e in
      subst (Throughout P n) (sym r.2)
      (negate_throughout P n (existential b (negate r.0))
      (existential_throughout P b n (negate r.0) (negate_throughout P (one_within x n) r.0 (form_throughout (x ∷ bs) f r.0 (parts.of_all x f w) r.1))))
  form_throughout bs (for_some x f) g w e =
      let n = times_bound bs in
      let r = mapped (existential (binder_of x.mark)) (guarded_form (x ∷ bs) f) g e in
      subst (Throughout P n) (sym r.2) (existential_throughout P (binder_of x.mark) n r.0 (form_throughout (x ∷ bs) f r.0 (parts.of_some x f w) r.1))
