-- A formula and its guarded form are as true as one another.
use Rattle.std.proofs.Common.{◌≡◌, ◌⊎◌, ℕ, List, [], ◌∷◌, length, inl, inr, Option, Some, None, option_map, refl, sym, subst}
use Rattle.std.specs.Prelude.{◌↔◌}
use Rattle.sp_spec.specs.Lists.{Classically}
use Rattle.sp_spec.specs.Term.{Term, Ground}
use Rattle.sp_spec.specs.Signature.{Signature}
use Rattle.sp_spec.specs.Rule.{Action, action_at}
use Rattle.sp_spec.specs.Formula.{Mark, bare, of_sort, of_time, Written, Formula, truth, falsity, happens, equals, precedes, not_so, both, either, implies, for_all, for_some}
use Rattle.sp_spec.specs.Execution.{Trace}
use Rattle.sp_spec.specs.Truth.{Value, message, position, Environment, value_of, message_of, value_in, ActsAt, IsSame, IsEarlier, EachValue, SomeValue, IsTrueIn, IsTrueOver}
use Rattle.sp_spec.specs.Guarded.{Place, Time, Atom, acts, same, same_time, before, Guarded, holds, Assignment, with_term, with_time, term_in, action_in, time_in, AtomHolds, SomeValues, EachValues, GuardedHolds}
use Rattle.sp_spec.specs.Guarded as guarded
use Rattle.sp_law_truth.proofs.StableGuarded.{stable_guarded}
use Rattle.sp_law_truth.proofs.AsTrue.{as_both, as_either, as_implies, as_not, as_classically, as_turned, as_through}
use Rattle.sp_law_guard.specs.GuardedForm.{meant, time_place, placed_term, placed_action, term_time, acts_at, before_at, same_at, equality_at, binder_of, conjunction, disjunction, negate, existential, both_forms, guarded_form}
use Rattle.sp_spec.proofs.Options.{mapped}
use Rattle.sp_law_guard.proofs.Values.{each_not}
use Rattle.sp_law_guard.proofs.Turned.{turned}
use Rattle.sp_law_guard.proofs.Meant.{Corresponds, corresponds_message, corresponds_time, action_read, time_read, term_time_read, value_read}
use Rattle.sp_law_guard.proofs.Joined.{conjunction_both, disjunction_either, existential_some}

-- both forms are there where their join is
pub joined_forms : (join : Guarded → Guarded → Guarded) (o p : Option Guarded) (g : Guarded) → both_forms join o p ≡ Some g
    → (x : Guarded) × (y : Guarded) × (o ≡ Some x) × (p ≡ Some y) × (g ≡ join x y)
joined_forms join None p g e = absurd cc
joined_forms join (Some x) None g e = absurd cc
joined_forms join (Some x) (Some y) g e = (x, y, refl, refl, let k : g ≡ join x y = cc in k)

as_same : {A : Type 0} (P : A → Type 0) (x y : A) → x ≡ y → P x ↔ P y
as_same P x y e = (subst P e, subst P (sym e))

module _ (signature : Signature) (trace : Trace) where
  -- atoms
  module _ (bs : List Written) (env : Environment) (m : Assignment) (h : Corresponds bs env m) where
    action_kept : (a : Action Written) (i : Written) (o : Option (Action Place)) (p : Option Time) → placed_action bs a ≡ o → time_place (meant bs i.name) ≡ p
        → (atom : Atom) → acts_at o p ≡ Some atom → IsTrueIn signature trace env (happens a i) ↔ AtomHolds signature trace m atom
    action_kept a i None p e k atom is = absurd cc
    action_kept a i (Some b) None e k atom is = absurd cc
    action_kept a i (Some b) (Some j) e k atom is =
        let g : acts b j ≡ atom = cc in
        let written = λ (x : Written). message_of (value_of env x.name) in
        as_through (as_same (λ (v : Value). Classically (ActsAt signature.equations trace v (action_at written a))) _ _ (time_read bs env m h i.name j k))
        (as_through (as_same (λ (b : Action ⊥). Classically (ActsAt signature.equations trace (position (time_in m j)) b)) _ _ (action_read bs env m h a b e))
        (as_same (AtomHolds signature trace m) _ _ g))

    before_kept : (i j : Written) (o p : Option Time) → time_place (meant bs i.name) ≡ o → time_place (meant bs j.name) ≡ p
        → (atom : Atom) → before_at o p ≡ Some atom → IsTrueIn signature trace env (precedes i j) ↔ AtomHolds signature trace m atom
    before_kept i j None p e k atom is = absurd cc
    before_kept i j (Some r) None e k atom is = absurd cc
    before_kept i j (Some r) (Some s) e k atom is =
        let g : before r s ≡ atom = cc in
        as_through (as_same (λ (v : Value). IsEarlier v (value_of env j.name)) _ _ (time_read bs env m h i.name r e))
        (as_through (as_same (λ (v : Value). IsEarlier (position (time_in m r)) v) _ _ (time_read bs env m h j.name s k))
        (as_same (AtomHolds signature trace m) _ _ g))

    -- two values as they are read
    read_same : (t u : Term Written) (a b : Value) → value_in env t ≡ a → value_in env u ≡ b → IsTrueIn signature trace env (equals t u) ↔ Classically (IsSame signature.equations a b)
    read_same t u a b e k =
        as_through (as_same (λ (v : Value). Classically (IsSame signature.equations v (value_in env u))) _ _ e)
        (as_same (λ (v : Value). Classically (IsSame signature.equations a v)) _ _ k)

    messages_kept : (t u : Term Written) (o p : Option (Term Place)) → placed_term bs t ≡ o → placed_term bs u ≡ p
        → (atom : Atom) → same_at o p ≡ Some atom → IsTrueIn signature trace env (equals t u) ↔ AtomHolds signature trace m atom
    messages_kept t u None p e k atom is = absurd cc
    messages_kept t u (Some x) None e k atom is = absurd cc
    messages_kept t u (Some x) (Some y) e k atom is =
        let g : same x y ≡ atom = cc in
        as_through (read_same t u (message (term_in m x)) (message (term_in m y)) (value_read bs env m h t x e) (value_read bs env m h u y k))
        (as_same (AtomHolds signature trace m) _ _ g)

    equality_kept : (t u : Term Written) (o p : Option Time) → term_time bs t ≡ o → term_time bs u ≡ p
        → (atom : Atom) → equality_at bs t u o p ≡ Some atom → IsTrueIn signature trace env (equals t u) ↔ AtomHolds signature trace m atom
    equality_kept t u (Some i) (Some j) e k atom is =
        let g : same_time i j ≡ atom = cc in
        as_through (read_same t u (position (time_in m i)) (position (time_in m j)) (term_time_read bs env m h t i e) (term_time_read bs env m h u j k))
        (as_same (AtomHolds signature trace m) _ _ g)
    equality_kept t u (Some i) None e k atom is = absurd cc
    equality_kept t u None (Some j) e k atom is = absurd cc
    equality_kept t u None None e k atom is = messages_kept t u (placed_term bs t) (placed_term bs u) refl refl atom is

  -- the values of a binder
  module _ (x : Written) (bs : List Written) (env : Environment) (m : Assignment) (h : Corresponds bs env m) (T : Value → Type 0) (P : Assignment → Type 0)
      (below : (a : Value) (w : Assignment) → Corresponds (x ∷ bs) ((x.name, a) ∷ env) w → T a ↔ P w) where
    some_bound : (mark : Mark) → x.mark ≡ mark → SomeValue signature trace mark T ↔ SomeValues signature (length trace) (binder_of mark ∷ []) P m
    some_bound bare e =
        let at : (t : Ground) → _ = λ t. below (message t) (with_term t m) (corresponds_message x bs env m t (λ q. cc) h) in
        as_classically ((λ y. (y.0, y.1, (at y.0).0 y.2)), (λ y. (y.0, y.1, (at y.0).1 y.2)))
    some_bound (of_sort sort) e =
        let at : (t : Ground) → _ = λ t. below (message t) (with_term t m) (corresponds_message x bs env m t (λ q. cc) h) in
        as_classically ((λ y. (y.0, y.1, (at y.0).0 y.2)), (λ y. (y.0, y.1, (at y.0).1 y.2)))
    some_bound of_time e =
        let at : (p : ℕ) → _ = λ p. below (position p) (with_time p m) (corresponds_time x bs env m p e h) in
        as_classically ((λ y. (y.0, y.1, (at y.0).0 y.2)), (λ y. (y.0, y.1, (at y.0).1 y.2)))

    each_bound : (mark : Mark) → x.mark ≡ mark → EachValue signature trace mark T ↔ EachValues signature (length trace) (binder_of mark ∷ []) P m
    each_bound bare e =
        let at : (t : Ground) → _ = λ t. below (message t) (with_term t m) (corresponds_message x bs env m t (λ q. cc) h) in
        ((λ y t i. (at t).0 (y t i)), (λ y t i. (at t).1 (y t i)))
    each_bound (of_sort sort) e =
        let at : (t : Ground) → _ = λ t. below (message t) (with_term t m) (corresponds_message x bs env m t (λ q. cc) h) in
        ((λ y t i. (at t).0 (y t i)), (λ y t i. (at t).1 (y t i)))
    each_bound of_time e =
        let at : (p : ℕ) → _ = λ p. below (position p) (with_time p m) (corresponds_time x bs env m p e h) in
        ((λ y p i. (at p).0 (y p i)), (λ y p i. (at p).1 (y p i)))

  abbrev Holds : Assignment → Guarded → Type 0
  Holds m g = GuardedHolds signature trace m g

  -- for all is not for some not
  universal_each : (b : guarded.Binder) (f : Guarded) (m : Assignment) → Holds m (negate (existential b (negate f))) ↔ EachValues signature (length trace) (b ∷ []) (λ w. Holds w f) m
  universal_each b f m =
      as_through (turned signature trace (existential b (negate f)) m)
      (as_through (as_not (existential_some signature trace b (negate f) m))
      (as_turned (each_not signature (length trace) (λ w. Holds w (negate f)) (λ w. Holds w f)
      (λ w. ((λ y k. (turned signature trace f w).0 k y), (λ k. stable_guarded signature trace w f (λ none. k ((turned signature trace f w).1 none))))) (b ∷ []) m)))

  implication_either : (f k : Guarded) (m : Assignment) → Holds m (disjunction (negate f) k) ↔ (Holds m f → Holds m k)
  implication_either f k m = as_through (disjunction_either signature trace m (negate f) k) (
    (λ s x. stable_guarded signature trace m k (λ none. s (λ y. at x none y))),
    (λ s none. none (inl ((turned signature trace f m).1 (λ x. none (inr (s x)))))),
  )
    where
      at : Holds m f → (Holds m k → ⊥) → Holds m (negate f) ⊎ Holds m k → ⊥
      at x none (inl y) = (turned signature trace f m).0 y x
      at x none (inr y) = none y

  abbrev Kept : List Written → Formula → Type 0
  Kept bs f = (g : Guarded) → guarded_form bs f ≡ Some g → (env : Environment) (m : Assignment) → Corresponds bs env m → IsTrueIn signature trace env f ↔ Holds m g

  kept : (bs : List Written) (f : Formula) → Kept bs f
  kept bs truth g e env m h = as_same (Holds m) guarded.truth g (let k : guarded.truth ≡ g = cc in k)
  kept bs falsity g e env m h = as_same (Holds m) guarded.falsity g (let k : guarded.falsity ≡ g = cc in k)
  kept bs (happens a i) g e env m h =
      let r = mapped holds (acts_at (placed_action bs a) (time_place (meant bs i.name))) g e in
      as_through (action_kept bs env m h a i (placed_action bs a) (time_place (meant bs i.name)) refl refl r.0 r.1) (as_same (Holds m) (holds r.0) g (sym r.2))
  kept bs (equals t u) g e env m h =
      let r = mapped holds (equality_at bs t u (term_time bs t) (term_time bs u)) g e in
      as_through (equality_kept bs env m h t u (term_time bs t) (term_time bs u) refl refl r.0 r.1) (as_same (Holds m) (holds r.0) g (sym r.2))
  kept bs (precedes i j) g e env m h =
      let r = mapped holds (before_at (time_place (meant bs i.name)) (time_place (meant bs j.name))) g e in
      as_through (before_kept bs env m h i j (time_place (meant bs i.name)) (time_place (meant bs j.name)) refl refl r.0 r.1) (as_same (Holds m) (holds r.0) g (sym r.2))
  kept bs (not_so f) g e env m h =
      let r = mapped negate (guarded_form bs f) g e in
      as_through (as_not (kept bs f r.0 r.1 env m h)) (as_through (as_turned (turned signature trace r.0 m)) (as_same (Holds m) (negate r.0) g (sym r.2)))
  kept bs (both f k) g e env m h =
      let r = joined_forms conjunction (guarded_form bs f) (guarded_form bs k) g e in
      as_through (as_both (kept bs f r.0 r.2 env m h) (kept bs k r.1 r.3 env m h))
      (as_through (as_turned (conjunction_both signature trace m r.0 r.1)) (as_same (Holds m) (conjunction r.0 r.1) g (sym r.4)))
  kept bs (either f k) g e env m h =
      let r = joined_forms disjunction (guarded_form bs f) (guarded_form bs k) g e in
      as_through (as_classically (as_either (kept bs f r.0 r.2 env m h) (kept bs k r.1 r.3 env m h)))
      (as_through (as_turned (disjunction_either signature trace m r.0 r.1)) (as_same (Holds m) (disjunction r.0 r.1) g (sym r.4)))
  kept bs (implies f k) g e env m h =
      let r = joined_forms disjunction (option_map negate (guarded_form bs f)) (guarded_form bs k) g e in
      let q = mapped negate (guarded_form bs f) r.0 r.2 in
      as_through (as_implies (kept bs f q.0 q.1 env m h) (kept bs k r.1 r.3 env m h))
      (as_through (as_turned (implication_either q.0 r.1 m))
      (as_through (as_same (λ (x : Guarded). Holds m (disjunction x r.1)) (negate q.0) r.0 (sym q.2)) (as_same (Holds m) (disjunction r.0 r.1) g (sym r.4))))
  kept bs (for_all x f) g e env m h =
      let make : Guarded → Guarded = λ k. negate (existential (binder_of x.mark) (negate k)) in
      let r = mapped make (guarded_form (x ∷ bs) f) g e in
      as_through (each_bound x bs env m h (λ a. IsTrueIn signature trace ((x.name, a) ∷ env) f) (λ w. Holds w r.0) (λ a w c. kept (x ∷ bs) f r.0 r.1 ((x.name, a) ∷ env) w c) x.mark refl)
      (as_through (as_turned (universal_each (binder_of x.mark) r.0 m)) (as_same (Holds m) (make r.0) g (sym r.2)))
  kept bs (for_some x f) g e env m h =
      let r = mapped (existential (binder_of x.mark)) (guarded_form (x ∷ bs) f) g e in
      as_through (some_bound x bs env m h (λ a. IsTrueIn signature trace ((x.name, a) ∷ env) f) (λ w. Holds w r.0) (λ a w c. kept (x ∷ bs) f r.0 r.1 ((x.name, a) ∷ env) w c) x.mark refl)
      (as_through (as_turned (existential_some signature trace (binder_of x.mark) r.0 m)) (as_same (Holds m) (existential (binder_of x.mark) r.0) g (sym r.2)))

  pub form_kept : (f : Formula) (g : Guarded) → guarded_form [] f ≡ Some g → (m : Assignment) → IsTrueOver signature trace f ↔ Holds m g
  form_kept f g e m = kept [] f g e [] m (record { each = λ x w e. absurd cc })
