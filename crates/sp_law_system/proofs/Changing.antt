-- A formula after a change is true where the formula is true at the values of what the change puts in.
use Rattle.std.proofs.Common.{◌≡◌, ◌⊎◌, ◌<◌, ℕ, zero, suc, List, [], ◌∷◌, map, length, refl, sym, ap, ap₂, ◌∙◌}
use mathlib.Core.Path.{fun_ext}
use Rattle.sp_spec.specs.Lists.{Every, Classically}
use Rattle.sp_spec.specs.Term.{Names, Variable, Term, var, constant, name, app, Terms, none, more, Ground, Grounds, valued, valued_all, MadeOf, AllMadeOf}
use Rattle.sp_spec.specs.Signature.{Signature, IsValue}
use Rattle.sp_spec.specs.Equal.{Equal, IsNormal}
use Rattle.sp_spec.specs.Rule.{Action, action_at}
use Rattle.sp_spec.specs.Execution.{Trace}
use Rattle.sp_spec.specs.Truth.{Acts}
use Rattle.sp_spec.specs.Guarded.{Place, free, bound, Time, free_time, bound_time, Binder, message, time, Atom, acts, same, same_time, before, last, Guarded, truth, falsity, holds, fails, all_of, one_of, some, every, Guardeds, no_more, and_then, Assignment, with_term, with_time, place_in, term_in, action_in, time_in, pushed, AtomHolds, AtomsHold, SomeValues, EachValues, GuardedHolds, EachHolds, SomeHolds}
use Rattle.sp_spec.specs.Change.{Change, placed, place_changed, time_changed, raised_place, raised, raised_time, under_message, under_time, under, atom_changed, changed, changed_each}
use Rattle.sp_spec_system.specs.Numbered.{AtFree, AtFreeTime, InAtom, InFormula, InEach}
use Rattle.sp_spec_system.specs.Solutions.{EachNormal, IsSettled, AreSettled, AtomSettled, Settled, EachSettled}
use Rattle.sp_spec.proofs.Values.{valued-valued}

-- The second assignment reads as the first does what the change puts in: for what is bound, and for the system's variables and times
-- of which A and B hold.
pub record Reads (A : Variable → Type 0) (B : ℕ → Type 0) (c : Change) (m r : Assignment) : Type 0 where
  pub variables : (x : Variable) → A x → r.terms x ≡ valued m.terms (c.terms x)
  pub moments : (i : ℕ) → B i → r.times i ≡ m.times (c.times i)
  pub terms : (k : ℕ) → r.bound_terms k ≡ term_in m (c.bound_terms k)
  pub times : (k : ℕ) → r.bound_times k ≡ time_in m (c.bound_times k)

mutual
  same_raised : (t : Ground) (m : Assignment) (u : Term Place) → term_in (with_term t m) (raised u) ≡ term_in m u
  same_raised t m (var (free x)) = refl
  same_raised t m (var (bound k)) = refl
  same_raised t m (constant c) = refl
  same_raised t m (name n) = refl
  same_raised t m (app f ts) = ap (app f) (same_raised_all t m ts)

  same_raised_all : (t : Ground) (m : Assignment) (us : Terms Place) → valued_all (place_in (with_term t m)) (valued_all raised_place us) ≡ valued_all (place_in m) us
  same_raised_all t m none = refl
  same_raised_all t m (more u us) = ap₂ more (same_raised t m u) (same_raised_all t m us)

mutual
  -- binders of times change nothing for messages, nor the other way round
  same_terms : (p : ℕ) (m : Assignment) (u : Term Place) → term_in (with_time p m) u ≡ term_in m u
  same_terms p m (var (free x)) = refl
  same_terms p m (var (bound k)) = refl
  same_terms p m (constant c) = refl
  same_terms p m (name n) = refl
  same_terms p m (app f ts) = ap (app f) (same_terms_all p m ts)

  same_terms_all : (p : ℕ) (m : Assignment) (us : Terms Place) → valued_all (place_in (with_time p m)) us ≡ valued_all (place_in m) us
  same_terms_all p m none = refl
  same_terms_all p m (more u us) = ap₂ more (same_terms p m u) (same_terms_all p m us)

same_times : (t : Ground) (m : Assignment) (i : Time) → time_in (with_term t m) i ≡ time_in m i
same_times t m (free_time i) = refl
same_times t m (bound_time k) = refl

same_raised_time : (p : ℕ) (m : Assignment) (i : Time) → time_in (with_time p m) (raised_time i) ≡ time_in m i
same_raised_time p m (free_time i) = refl
same_raised_time p m (bound_time k) = refl

placed_value : (m : Assignment) (t : Term Variable) → term_in m (placed t) ≡ valued m.terms t
placed_value m t = valued-valued (λ x. var (free x)) (place_in m) t

module _ (N : Names) (A : Variable → Type 0) (B : ℕ → Type 0) where
  reads_message : (c : Change) (m r : Assignment) (t : Ground) → Reads A B c m r → Reads A B (under_message c) (with_term t m) (with_term t r)
  reads_message c m r t h = record { variables = h.variables; moments = h.moments; terms = terms; times = λ k. h.times k ∙ sym (same_times t m (c.bound_times k)) }
    where
      terms : (k : ℕ) → pushed t r.bound_terms k ≡ term_in (with_term t m) (pushed (var (bound zero)) (λ j. raised (c.bound_terms j)) k)
      terms zero = refl
      terms (suc k) = h.terms k ∙ sym (same_raised t m (c.bound_terms k))

  reads_time : (c : Change) (m r : Assignment) (p : ℕ) → Reads A B c m r → Reads A B (under_time c) (with_time p m) (with_time p r)
  reads_time c m r p h = record { variables = h.variables; moments = h.moments; terms = λ k. h.terms k ∙ sym (same_terms p m (c.bound_terms k)); times = times }
    where
      times : (k : ℕ) → pushed p r.bound_times k ≡ time_in (with_time p m) (pushed (bound_time zero) (λ j. raised_time (c.bound_times j)) k)
      times zero = refl
      times (suc k) = h.times k ∙ sym (same_raised_time p m (c.bound_times k))

  mutual
    pub term_read : (c : Change) (m r : Assignment) → Reads A B c m r → (t : Term Place) → MadeOf N (AtFree A) t → term_in m (valued (place_changed c) t) ≡ term_in r t
    term_read c m r h (var (free x)) e = placed_value m (c.terms x) ∙ sym (h.variables x e)
    term_read c m r h (var (bound k)) e = sym (h.terms k)
    term_read c m r h (constant a) e = refl
    term_read c m r h (name n) e = refl
    term_read c m r h (app f ts) e = ap (app f) (terms_read c m r h ts e)

    pub terms_read : (c : Change) (m r : Assignment) → Reads A B c m r → (ts : Terms Place) → AllMadeOf N (AtFree A) ts → valued_all (place_in m) (valued_all (place_changed c) ts) ≡ valued_all (place_in r) ts
    terms_read c m r h none e = refl
    terms_read c m r h (more t ts) e = ap₂ more (term_read c m r h t e.0) (terms_read c m r h ts e.1)

  pub time_read : (c : Change) (m r : Assignment) → Reads A B c m r → (i : Time) → AtFreeTime B i → time_in m (time_changed c i) ≡ time_in r i
  time_read c m r h (free_time i) e = sym (h.moments i e)
  time_read c m r h (bound_time k) e = sym (h.times k)

  pub action_read : (c : Change) (m r : Assignment) → Reads A B c m r → (a : Action Place) → AllMadeOf N (AtFree A) a.args → action_in m (action_at (place_changed c) a) ≡ action_in r a
  action_read c m r h a e = ap (λ (ts : Grounds). let x : Action ⊥ = record { symbol = a.symbol; args = ts } in x) (terms_read c m r h a.args e)

  module _ (signature : Signature) where
    some_same : (n : ℕ) (bs : List Binder) (P Q : Assignment → Type 0) (c : Change) (m r : Assignment)
        → ((m' r' : Assignment) → Reads A B (under bs c) m' r' → P m' ≡ Q r') → Reads A B c m r → SomeValues signature n bs P m ≡ SomeValues signature n bs Q r
    some_same n [] P Q c m r below h = below m r h
    some_same n (message sort ∷ bs) P Q c m r below h =
        ap (λ (X : Ground → Type 0). Classically ((t : Ground) × IsValue signature sort t × X t))
        (fun_ext (λ t. some_same n bs P Q (under_message c) (with_term t m) (with_term t r) below (reads_message c m r t h)))
    some_same n (time ∷ bs) P Q c m r below h =
        ap (λ (X : ℕ → Type 0). Classically ((p : ℕ) × (p < n) × X p))
        (fun_ext (λ p. some_same n bs P Q (under_time c) (with_time p m) (with_time p r) below (reads_time c m r p h)))

    each_same : (n : ℕ) (bs : List Binder) (P Q : Assignment → Type 0) (c : Change) (m r : Assignment)
        → ((m' r' : Assignment) → Reads A B (under bs c) m' r' → P m' ≡ Q r') → Reads A B c m r → EachValues signature n bs P m ≡ EachValues signature n bs Q r
    each_same n [] P Q c m r below h = below m r h
    each_same n (message sort ∷ bs) P Q c m r below h =
        ap (λ (X : Ground → Type 0). (t : Ground) → IsValue signature sort t → X t)
        (fun_ext (λ t. each_same n bs P Q (under_message c) (with_term t m) (with_term t r) below (reads_message c m r t h)))
    each_same n (time ∷ bs) P Q c m r below h =
        ap (λ (X : ℕ → Type 0). (p : ℕ) → p < n → X p)
        (fun_ext (λ p. each_same n bs P Q (under_time c) (with_time p m) (with_time p r) below (reads_time c m r p h)))

    each_normal_same : (n : ℕ) (bs : List Binder) (P Q : Assignment → Type 0) (c : Change) (m r : Assignment)
        → ((m' r' : Assignment) → Reads A B (under bs c) m' r' → P m' ≡ Q r') → Reads A B c m r → EachNormal signature n bs P m ≡ EachNormal signature n bs Q r
    each_normal_same n [] P Q c m r below h = below m r h
    each_normal_same n (message sort ∷ bs) P Q c m r below h =
        ap (λ (X : Ground → Type 0). (t : Ground) → IsValue signature sort t → IsNormal signature.equations t → X t)
        (fun_ext (λ t. each_normal_same n bs P Q (under_message c) (with_term t m) (with_term t r) below (reads_message c m r t h)))
    each_normal_same n (time ∷ bs) P Q c m r below h =
        ap (λ (X : ℕ → Type 0). (p : ℕ) → p < n → X p)
        (fun_ext (λ p. each_normal_same n bs P Q (under_time c) (with_time p m) (with_time p r) below (reads_time c m r p h)))

    module _ (trace : Trace) where
      atom_same : (c : Change) (m r : Assignment) → Reads A B c m r → (a : Atom) → InAtom N A B a → AtomHolds signature trace m (atom_changed c a) ≡ AtomHolds signature trace r a
      atom_same c m r h (acts a i) e = ap₂ (λ p x. Classically (Acts signature.equations trace p x)) (time_read c m r h i e.1) (action_read c m r h a e.0)
      atom_same c m r h (same t u) e = ap₂ (λ x y. Classically (Equal signature.equations x y)) (term_read c m r h t e.0) (term_read c m r h u e.1)
      atom_same c m r h (same_time i j) e = ap₂ (λ (x y : ℕ). Classically (x ≡ y)) (time_read c m r h i e.0) (time_read c m r h j e.1)
      atom_same c m r h (before i j) e = ap₂ (λ x y. x < y) (time_read c m r h i e.0) (time_read c m r h j e.1)
      atom_same c m r h (last i) e = ap (λ x. Classically (suc x ≡ length trace)) (time_read c m r h i e)

      pub atoms_same : (c : Change) (m r : Assignment) → Reads A B c m r → (atoms : List Atom) → Every (InAtom N A B) atoms
          → AtomsHold signature trace m (map (atom_changed c) atoms) ≡ AtomsHold signature trace r atoms
      atoms_same c m r h [] e = refl
      atoms_same c m r h (a ∷ atoms) e = ap₂ (λ (X Y : Type 0). X × Y) (atom_same c m r h a e.0) (atoms_same c m r h atoms e.1)

      -- the formula after the change is as true
      mutual
        pub changed_same : (c : Change) (m r : Assignment) → Reads A B c m r → (f : Guarded) → InFormula N A B f → GuardedHolds signature trace m (changed c f) ≡ GuardedHolds signature trace r f
        changed_same c m r h truth e = refl
        changed_same c m r h falsity e = refl
        changed_same c m r h (holds a) e = atom_same c m r h a e
        changed_same c m r h (fails a) e = ap (λ (X : Type 0). X → ⊥) (atom_same c m r h a e)
        changed_same c m r h (all_of fs) e = each_changed c m r h fs e
        changed_same c m r h (one_of fs) e = ap Classically (some_changed c m r h fs e)
        changed_same c m r h (some bs guard f) e =
            some_same (length trace) bs _ _ c m r (λ m' r' k. ap₂ (λ (X Y : Type 0). X × Y) (atoms_same (under bs c) m' r' k guard e.0) (changed_same (under bs c) m' r' k f e.1)) h
        changed_same c m r h (every bs guard f) e =
            each_same (length trace) bs _ _ c m r (λ m' r' k. ap₂ (λ (X Y : Type 0). X → Y) (atoms_same (under bs c) m' r' k guard e.0) (changed_same (under bs c) m' r' k f e.1)) h

        each_changed : (c : Change) (m r : Assignment) → Reads A B c m r → (fs : Guardeds) → InEach N A B fs → EachHolds signature trace m (changed_each c fs) ≡ EachHolds signature trace r fs
        each_changed c m r h no_more e = refl
        each_changed c m r h (and_then f fs) e = ap₂ (λ (X Y : Type 0). X × Y) (changed_same c m r h f e.0) (each_changed c m r h fs e.1)

        some_changed : (c : Change) (m r : Assignment) → Reads A B c m r → (fs : Guardeds) → InEach N A B fs → SomeHolds signature trace m (changed_each c fs) ≡ SomeHolds signature trace r fs
        some_changed c m r h no_more e = refl
        some_changed c m r h (and_then f fs) e = ap₂ (λ (X Y : Type 0). X ⊎ Y) (changed_same c m r h f e.0) (some_changed c m r h fs e.1)

    module _ (n : ℕ) where
      atom_settled : (c : Change) (m r : Assignment) → Reads A B c m r → (a : Atom) → InAtom N A B a → AtomSettled signature n m (atom_changed c a) ≡ AtomSettled signature n r a
      atom_settled c m r h (acts a i) e = ap₂ (λ (x : Action ⊥) (p : ℕ). AreSettled signature x.args × (p < n)) (action_read c m r h a e.0) (time_read c m r h i e.1)
      atom_settled c m r h (same t u) e = ap₂ (λ x y. IsSettled signature x × IsSettled signature y) (term_read c m r h t e.0) (term_read c m r h u e.1)
      atom_settled c m r h (same_time i j) e = ap₂ (λ x y. (x < n) × (y < n)) (time_read c m r h i e.0) (time_read c m r h j e.1)
      atom_settled c m r h (before i j) e = ap₂ (λ x y. (x < n) × (y < n)) (time_read c m r h i e.0) (time_read c m r h j e.1)
      atom_settled c m r h (last i) e = ap (λ x. x < n) (time_read c m r h i e)

      pub atoms_settled : (c : Change) (m r : Assignment) → Reads A B c m r → (atoms : List Atom) → Every (InAtom N A B) atoms
          → Every (AtomSettled signature n m) (map (atom_changed c) atoms) ≡ Every (AtomSettled signature n r) atoms
      atoms_settled c m r h [] e = refl
      atoms_settled c m r h (a ∷ atoms) e = ap₂ (λ (X Y : Type 0). X × Y) (atom_settled c m r h a e.0) (atoms_settled c m r h atoms e.1)

      mutual
        pub settled_same : (c : Change) (m r : Assignment) → Reads A B c m r → (f : Guarded) → InFormula N A B f → Settled signature n m (changed c f) ≡ Settled signature n r f
        settled_same c m r h truth e = refl
        settled_same c m r h falsity e = refl
        settled_same c m r h (holds a) e = atom_settled c m r h a e
        settled_same c m r h (fails a) e = atom_settled c m r h a e
        settled_same c m r h (all_of fs) e = each_settled_same c m r h fs e
        settled_same c m r h (one_of fs) e = each_settled_same c m r h fs e
        settled_same c m r h (some bs guard f) e =
            each_normal_same n bs _ _ c m r (λ m' r' k. ap₂ (λ (X Y : Type 0). X × Y) (atoms_settled (under bs c) m' r' k guard e.0) (settled_same (under bs c) m' r' k f e.1)) h
        settled_same c m r h (every bs guard f) e =
            each_normal_same n bs _ _ c m r (λ m' r' k. ap₂ (λ (X Y : Type 0). X × Y) (atoms_settled (under bs c) m' r' k guard e.0) (settled_same (under bs c) m' r' k f e.1)) h

        each_settled_same : (c : Change) (m r : Assignment) → Reads A B c m r → (fs : Guardeds) → InEach N A B fs → EachSettled signature n m (changed_each c fs) ≡ EachSettled signature n r fs
        each_settled_same c m r h no_more e = refl
        each_settled_same c m r h (and_then f fs) e = ap₂ (λ (X Y : Type 0). X × Y) (settled_same c m r h f e.0) (each_settled_same c m r h fs e.1)
