-- A guarded form speaks of the formula's actions alone.
use Rattle.std.proofs.Common.{◌≡◌, ℕ, List, [], ◌∷◌, Some, sym, subst}
use Rattle.sp_spec.specs.Lists.{Member, Every}
use Rattle.sp_spec.specs.Formula.{Formula}
use Rattle.sp_spec.specs.Guarded.{Atom, Guarded, Guardeds, truth, falsity, holds, fails, all_of, one_of, some, every, no_more, and_then}
use Rattle.sp_spec.proofs.Lists.{every_append, every_parts, every_itself}
use Rattle.sp_law_truth.specs.Shown.{times_within, atom_names, guard_names, action_names, all_action_names}
use Rattle.sp_law_guard.specs.GuardedForm.{guarded_form}
use Rattle.sp_law_guard.specs.Symbols.{symbols_of}
use Rattle.sp_law_guard.proofs.Throughout.{Throughout, ThroughoutEach, OfFormulas, OfAtoms, form_throughout}
use Rattle.sp_law_guard.proofs.Places.{action_made, order_made, equality_made}

module _ (IsNamed : List ℕ → Type 0) where
  abbrev pub OfNames : ℕ → Atom → Type 0
  OfNames n a = Every IsNamed (atom_names a)

  abbrev AreNamed : Formula → Type 0
  AreNamed f = Every IsNamed (symbols_of f)

  named_parts : OfFormulas AreNamed
  named_parts = record {
    of_not = λ f w. w;
    of_both = λ f g. every_parts IsNamed (symbols_of f) (symbols_of g);
    of_either = λ f g. every_parts IsNamed (symbols_of f) (symbols_of g);
    of_implies = λ f g. every_parts IsNamed (symbols_of f) (symbols_of g);
    of_all = λ x f w. w;
    of_some = λ x f w. w;
  }

  named_atoms : OfAtoms OfNames AreNamed
  named_atoms = record {
    of_actions = λ bs a i atom named e. let r = action_made bs a i atom e in subst (OfNames 0) (sym r.is) (subst IsNamed (sym r.symbol) named.0, tt);
    of_equalities = λ bs t u atom named e. equality_made bs t u atom (OfNames 0) e (λ i j k l. tt) (λ x y k l. tt);
    of_order = λ bs i j atom named e. subst (OfNames 0) (sym (order_made bs i j atom e).is) tt;
  }

  guard_named : (n : ℕ) (guard : List Atom) → Every (OfNames n) guard → Every IsNamed (guard_names guard)
  guard_named n [] e = tt
  guard_named n (a ∷ guard) e = every_append IsNamed (atom_names a) (guard_names guard) e.0 (guard_named n guard e.1)

  mutual
    pub named : (n : ℕ) (g : Guarded) → Throughout OfNames n g → Every IsNamed (action_names g)
    named n truth t = tt
    named n falsity t = tt
    named n (holds a) t = t
    named n (fails a) t = t
    named n (all_of gs) t = each_named n gs t
    named n (one_of gs) t = each_named n gs t
    named n (some bs guard g) t = every_append IsNamed (guard_names guard) (action_names g) (guard_named (times_within bs n) guard t.0) (named (times_within bs n) g t.1)
    named n (every bs guard g) t = every_append IsNamed (guard_names guard) (action_names g) (guard_named (times_within bs n) guard t.0) (named (times_within bs n) g t.1)

    each_named : (n : ℕ) (gs : Guardeds) → ThroughoutEach OfNames n gs → Every IsNamed (all_action_names gs)
    each_named n no_more t = tt
    each_named n (and_then g gs) t = every_append IsNamed (action_names g) (all_action_names gs) (named n g t.0) (each_named n gs t.1)

pub form_named : (f : Formula) (g : Guarded) → guarded_form [] f ≡ Some g → Every (λ s. Member s (symbols_of f)) (action_names g)
form_named f g e =
    let IsNamed : List ℕ → Type 0 = λ s. Member s (symbols_of f) in
    named IsNamed 0 g (form_throughout (OfNames IsNamed) (AreNamed IsNamed) (named_parts IsNamed) (named_atoms IsNamed) [] f g (every_itself (symbols_of f)) e)
