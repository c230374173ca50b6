-- Formulas of which the cases of an induction consist: those from which a proof may begin, their negations, disjunctions and hypotheses. Their atoms are
-- flat, but for bound times that are said to be the last.
use Rattle.std.proofs.Common.{ℕ, zero, List, sym, subst, ⊎_elim}
use Rattle.sp_spec.specs.Lists.{Every}
use Rattle.sp_spec.specs.Term.{Names, Variable}
use Rattle.sp_spec.specs.Signature.{Signature}
use Rattle.sp_spec.specs.Guarded.{free_time, bound_time, Atom, acts, same, same_time, before, last, Guarded, Guardeds, truth, falsity, holds, fails, all_of, one_of, some, every, no_more, and_then}
use Rattle.sp_spec.proofs.Lists.{every_weaken}
use Rattle.sp_law_truth.specs.Shown.{times_within, IsBound, IsTimed}
use Rattle.sp_law_guard.specs.GuardedForm.{negate}
use Rattle.sp_law_guard.proofs.Checked.{form_checked}
use Rattle.sp_law_guard.proofs.Throughout.{Throughout, ThroughoutEach, negate_throughout, throughout_weaken, throughout_both}
use Rattle.sp_law_induction.specs.Hypothesis.{hypothesis}
use Rattle.sp_law_induction.specs.Covering.{inductive}
use Rattle.sp_law_induction.proofs.Kept.{hypothesis_throughout, inductive_throughout}
use Rattle.sp_law_basic.proofs.Named.{NamedAtom, form_named}
use Rattle.sp_spec_system.specs.Numbered.{InAtom, InFormula, InEach}
use Rattle.sp_law_tree.specs.Laws.{IsRightForm}
use Rattle.sp_law_tree.proofs.Flat.{FlatAtom, closed_atom_in}
use Rattle.sp_law_tree.proofs.Forms.{IsRight, right_negation, right_timed}
use Rattle.sp_law_tree.proofs.PlacedForms.{form_right}

-- n times are bound outside, and these are the names that may stand there
abbrev pub BoundAtom : Signature → Names → ℕ → Atom → Type 0
BoundAtom signature N n (acts a i) = FlatAtom signature n (acts a i) × NamedAtom N n (acts a i)
BoundAtom signature N n (same t u) = FlatAtom signature n (same t u) × NamedAtom N n (same t u)
BoundAtom signature N n (same_time i j) = FlatAtom signature n (same_time i j) × NamedAtom N n (same_time i j)
BoundAtom signature N n (before i j) = FlatAtom signature n (before i j) × NamedAtom N n (before i j)
BoundAtom signature N n (last i) = IsBound n i

abbrev pub IsBoundForm : Signature → Names → Guarded → Type 0
IsBoundForm signature N h = Throughout (BoundAtom signature N) zero h

module _ (signature : Signature) (N : Names) where
  flat_bound : (n : ℕ) (a : Atom) → FlatAtom signature n a × NamedAtom N n a → BoundAtom signature N n a
  flat_bound n (acts a i) h = h
  flat_bound n (same t u) h = h
  flat_bound n (same_time i j) h = h
  flat_bound n (before i j) h = h
  flat_bound n (last i) h = absurd h.0.0

  -- a formula from which a proof may begin, and that it speaks of no last time
  right_form : (h : Guarded) → IsRight signature h → Throughout (NamedAtom N) zero h → IsBoundForm signature N h × IsTimed zero h
  right_form h right named = (
    throughout_weaken (λ n a. FlatAtom signature n a × NamedAtom N n a) (BoundAtom signature N) flat_bound zero h
        (throughout_both (FlatAtom signature) (NamedAtom N) zero h right.each named),
    right_timed signature h right,
  )

  pub right_bound : (h : Guarded) → IsRightForm signature N h → IsBoundForm signature N h × IsTimed zero h
  right_bound h p =
      let c = form_checked p.0 p.3 p.4 in
      let right = form_right signature p.0 p.3 p.1 c.0 c.1 in
      let named = form_named N p.0 p.3 p.2 c.0 in
      let negated = right_form (negate p.3) (right_negation signature p.3 right) (negate_throughout (NamedAtom N) zero p.3 named) in
      ⊎_elim (λ e. subst (λ (x : Guarded). IsBoundForm signature N x × IsTimed zero x) (sym e) (right_form p.3 right named))
      (λ e. subst (λ (x : Guarded). IsBoundForm signature N x × IsTimed zero x) (sym e) negated) p.5

  pub negation_bound : (h : Guarded) → IsBoundForm signature N h → IsBoundForm signature N (negate h)
  negation_bound h b = negate_throughout (BoundAtom signature N) zero h b

  pub hypothesis_bound : (h : Guarded) → IsBoundForm signature N h → IsBoundForm signature N (hypothesis h)
  hypothesis_bound h b = hypothesis_throughout (BoundAtom signature N) (λ n k l. l) zero h b

  pub inductive_bound : (others : List Guarded) (lemma : Guarded) → Every (IsBoundForm signature N) others → IsBoundForm signature N lemma → IsBoundForm signature N (inductive others lemma)
  inductive_bound others lemma e l = inductive_throughout (BoundAtom signature N) (λ n k l. l) others lemma e l

  -- they have numbers of any kind, since they have none
  module _ (P : Variable → Type 0) (Q : ℕ → Type 0) where
    atom_in : (n : ℕ) (a : Atom) → BoundAtom signature N n a → InAtom N P Q a
    atom_in n (acts a i) h = closed_atom_in N P Q n (acts a i) (h.0.1, h.1)
    atom_in n (same t u) h = closed_atom_in N P Q n (same t u) (h.0.1, h.1)
    atom_in n (same_time i j) h = closed_atom_in N P Q n (same_time i j) (h.0.1, h.1)
    atom_in n (before i j) h = closed_atom_in N P Q n (before i j) (h.0.1, h.1)
    atom_in n (last (bound_time k)) h = tt
    atom_in n (last (free_time i)) h = absurd h

    atoms_in : (n : ℕ) (atoms : List Atom) → Every (BoundAtom signature N n) atoms → Every (InAtom N P Q) atoms
    atoms_in n atoms e = every_weaken (BoundAtom signature N n) (InAtom N P Q) (atom_in n) atoms e

    mutual
      pub bound_in : (n : ℕ) (h : Guarded) → Throughout (BoundAtom signature N) n h → InFormula N P Q h
      bound_in n truth b = tt
      bound_in n falsity b = tt
      bound_in n (holds a) b = atom_in n a b
      bound_in n (fails a) b = atom_in n a b
      bound_in n (all_of gs) b = each_bound_in n gs b
      bound_in n (one_of gs) b = each_bound_in n gs b
      bound_in n (some bs guard g) b = (atoms_in (times_within bs n) guard b.0, bound_in (times_within bs n) g b.1)
      bound_in n (every bs guard g) b = (atoms_in (times_within bs n) guard b.0, bound_in (times_within bs n) g b.1)

      each_bound_in : (n : ℕ) (gs : Guardeds) → ThroughoutEach (BoundAtom signature N) n gs → InEach N P Q gs
      each_bound_in n no_more b = tt
      each_bound_in n (and_then g gs) b = (bound_in n g b.0, each_bound_in n gs b.1)
