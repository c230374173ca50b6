-- Tests tell the truth of atoms, at normal values and over a normal trace.
use Rattle.std.proofs.Common.{◌≡◌, ⊎_elim, inl, inr, ℕ, suc, Bool, true, false, ◌==◌, if◌then◌else◌, List, [], ◌∷◌, length, refl, sym, ap, subst, arith}
use Rattle.std.specs.Bool.{Decides}
use Rattle.std.specs.Str.{bytes_eq}
use Rattle.std.proofs.lemmas.Bool.{eqb-true, eqb-false, eq-eqb, ltb-true, lt-ltb}
use Rattle.std.proofs.lemmas.Bool.Decides.{Decides-and, Decides-or}
use Rattle.std.proofs.lemmas.Slice.Eq.{bytes_eq-Decides}
use Rattle.sp_spec.specs.Lists.{Member, Every, AtPosition, Classically}
use Rattle.sp_spec.proofs.Lists.{position_below}
use Rattle.sp_spec.specs.Signature.{Signature}
use Rattle.sp_spec.specs.Equal.{AreNormal}
use Rattle.sp_spec.specs.Rule.{Action, SameAction}
use Rattle.sp_spec.specs.Same.{same_term, same_terms}
use Rattle.sp_spec.specs.Execution.{Trace}
use Rattle.sp_spec.specs.Truth.{Acts}
use Rattle.sp_spec.specs.Guarded.{Place, Atom, acts, same, same_time, before, last, Assignment, place_in, term_in, action_in, time_in, AtomHolds, AtomsHold}
use Rattle.sp_law_equal.specs.NormalForms.{HaveNormalForms}
use Rattle.sp_spec.proofs.Same.{same_term_decides, same_terms_decides}
use Rattle.sp_law_equal.proofs.Values.{equal_normal_same, equal_all_normal_same}
use Rattle.sp_law_equal.proofs.Chains.{equal_from, same_action_refl}
use Rattle.sp_law_decide.specs.Deciding.{same_action, is_among, is_at, atom_true, atoms_true}
use Rattle.sp_law_decide.specs.Normal.{IsNormalAction, IsNormalTrace, IsConstructorAtom}
use Rattle.sp_law_decide.proofs.Matched.{IsNormalValue}
use Rattle.sp_law_decide.proofs.Terms.{constructor_normal, constructors_normal}
use Rattle.sp_spec.proofs.Facts.{same_action_parts}

pub stable_true : (b : Bool) → Classically (b ≡ true) → b ≡ true
stable_true true h = refl
stable_true false h = absurd (h (λ e. absurd cc))

-- what is decided, is so classically
pub decides_classically : {P : Type 0} (b : Bool) → Decides b P → Decides b (Classically P)
decides_classically b d = (λ e none. none (d.0 e), λ h. stable_true b (λ n. h (λ p. n (d.1 p))))

pub decides_as : {P Q : Type 0} (b : Bool) → (P → Q) → (Q → P) → Decides b P → Decides b Q
decides_as b f g d = (λ e. f (d.0 e), λ q. d.1 (g q))

same_action_decides : (a b : Action ⊥) → Decides (same_action a b) (a ≡ b)
same_action_decides a b =
    decides_as (same_action a b) (λ h. same_action_parts a b h.0 h.1) (λ e. (ap (λ (x : Action ⊥). x.symbol) e, ap (λ (x : Action ⊥). x.args) e))
    (Decides-and (bytes_eq a.symbol b.symbol) (same_terms a.args b.args) (bytes_eq-Decides a.symbol b.symbol) (same_terms_decides a.args b.args))

among_decides : (a : Action ⊥) (entry : List (Action ⊥)) → Decides (is_among a entry) (Member a entry)
among_decides a [] = (λ e. absurd cc, λ m. absurd m)
among_decides a (b ∷ entry) =
    Decides-or (same_action a b) (is_among a entry) (decides_as (same_action a b) sym sym (same_action_decides a b)) (among_decides a entry)

-- the action itself stands at the position
abbrev pub StandsAt : Trace → ℕ → Action ⊥ → Type 0
StandsAt trace p a = (entry : List (Action ⊥)) × AtPosition trace p entry × Member a entry

pub at_decides : (trace : Trace) (p : ℕ) (a : Action ⊥) → Decides (is_at trace p a) (StandsAt trace p a)
at_decides [] p a = (λ e. absurd cc, λ s. absurd s.1)
at_decides (entry ∷ past) p a = at (p == length past) refl (at_decides past p a)
  where
    at : (c : Bool) → (p == length past) ≡ c → Decides (is_at past p a) (StandsAt past p a) → Decides (if c then is_among a entry else is_at past p a) (StandsAt (entry ∷ past) p a)
    at true e below = decides_as (is_among a entry) (λ m. (entry, inl (eqb-true p (length past) e, refl), m)) from (among_decides a entry)
      where
        from : StandsAt (entry ∷ past) p a → Member a entry
        from s = ⊎_elim (λ h. subst (λ (x : List (Action ⊥)). Member a x) (sym h.1) s.2)
            (λ h. let l = position_below past p s.0 h in let k = eqb-true p (length past) e in absurd (omega (arith, l, k))) s.1
    at false e below = decides_as (is_at past p a) (λ s. (s.0, inr s.1, s.2)) from below
      where
        from : StandsAt (entry ∷ past) p a → StandsAt past p a
        from s = ⊎_elim (λ h. absurd (eqb-false p (length past) e h.0)) (λ h. (s.0, h, s.2)) s.1

module _ (signature : Signature) (good : HaveNormalForms signature.equations) where
  entry_normal : (trace : Trace) (p : ℕ) (entry : List (Action ⊥)) → IsNormalTrace signature trace → AtPosition trace p entry → Every (IsNormalAction signature) entry
  entry_normal [] p entry h a = absurd a
  entry_normal (x ∷ past) p entry h a = ⊎_elim (λ e. subst (Every (IsNormalAction signature)) e.1 h.0) (entry_normal past p entry h.1) a

  member_same : (a : Action ⊥) → AreNormal signature.equations a.args → (entry : List (Action ⊥)) → Every (IsNormalAction signature) entry
      → (shown : Action ⊥) → Member shown entry → SameAction signature.equations a shown → Member a entry
  member_same a h [] normal shown m e = absurd m
  member_same a h (b ∷ entry) normal shown m e =
      ⊎_elim
      (λ k.
      let e' : SameAction signature.equations a b = subst (λ (x : Action ⊥). SameAction signature.equations a x) (sym k) e in
      inl (same_action_parts b a (sym e'.0) (sym (equal_all_normal_same signature.equations good a.args b.args h normal.0.0 e'.1))))
      (λ k. inr (member_same a h entry normal.1 shown k e)) m

  acts_stand : (trace : Trace) → IsNormalTrace signature trace → (p : ℕ) (a : Action ⊥) → AreNormal signature.equations a.args
      → Acts signature.equations trace p a → StandsAt trace p a
  acts_stand trace normal p a h s = (s.0, s.1, member_same a h s.0 (entry_normal trace p s.0 normal s.1) s.2 s.3 s.4)

  stand_acts : (trace : Trace) (p : ℕ) (a : Action ⊥) → StandsAt trace p a → Acts signature.equations trace p a
  stand_acts trace p a s = (s.0, s.1, a, s.2, same_action_refl signature.equations a)

  module _ (trace : Trace) (normal : IsNormalTrace signature trace) (m : Assignment) (values : (p : Place) → IsNormalValue signature (place_in m p)) where
    pub atom_decides : (a : Atom) → IsConstructorAtom signature a → Decides (atom_true trace m a) (AtomHolds signature trace m a)
    atom_decides (acts a i) constructors =
        let args = constructors_normal signature good (place_in m) values a.args constructors in
        decides_classically (is_at trace (time_in m i) (action_in m a))
        (decides_as (is_at trace (time_in m i) (action_in m a)) (stand_acts trace (time_in m i) (action_in m a))
        (acts_stand trace normal (time_in m i) (action_in m a) args.0) (at_decides trace (time_in m i) (action_in m a)))
    atom_decides (same t u) constructors =
        let left = constructor_normal signature good (place_in m) values t constructors.0 in
        let right = constructor_normal signature good (place_in m) values u constructors.1 in
        decides_classically (same_term (term_in m t) (term_in m u))
        (decides_as (same_term (term_in m t) (term_in m u)) (equal_from signature.equations (term_in m t) (term_in m u))
        (equal_normal_same signature.equations good (term_in m t) (term_in m u) left.0 right.0) (same_term_decides (term_in m t) (term_in m u)))
    atom_decides (same_time i j) constructors =
        decides_classically (time_in m i == time_in m j) (eqb-true (time_in m i) (time_in m j), eq-eqb (time_in m i) (time_in m j))
    atom_decides (before i j) constructors = (ltb-true (time_in m i) (time_in m j), lt-ltb (time_in m i) (time_in m j))
    atom_decides (last i) constructors =
        decides_classically (suc (time_in m i) == length trace) (eqb-true (suc (time_in m i)) (length trace), eq-eqb (suc (time_in m i)) (length trace))

    pub atoms_decide : (atoms : List Atom) → Every (IsConstructorAtom signature) atoms → Decides (atoms_true trace m atoms) (AtomsHold signature trace m atoms)
    atoms_decide [] constructors = (λ e. tt, λ h. refl)
    atoms_decide (a ∷ atoms) constructors = Decides-and (atom_true trace m a) (atoms_true trace m atoms) (atom_decides a constructors.0) (atoms_decide atoms constructors.1)
