-- What comes of comparing the actions of a guard with those of a trace in normal form.
use Rattle.std.proofs.Common.{◌≡◌, ◌⊎◌, ⊎_elim, inl, inr, ℕ, ◌<◌, ◌≤◌, Bool, true, false, ◌||◌, if◌then◌else◌, List, [], ◌∷◌, ◌++◌, length, Option, Some, None, refl, sym, ap₂, ◌∙◌, subst, arith}
use Rattle.std.specs.Str.{bytes_eq}
use Rattle.std.proofs.lemmas.Slice.Eq.{bytes_eq-Decides}
use Rattle.sp_spec.specs.Lists.{Member, Every, AtPosition}
use Rattle.sp_spec.proofs.Lists.{member_left, member_right, member_either}
use Rattle.sp_spec.specs.Term.{Ground}
use Rattle.sp_spec.specs.Signature.{Signature}
use Rattle.sp_spec.specs.Rule.{Action, action_at}
use Rattle.sp_spec.specs.Execution.{Trace}
use Rattle.sp_spec.specs.Guarded.{Place, Time, Atom, acts, same, same_time, before, last}
use Rattle.sp_law_guard.specs.IsGuarded.{stands_among, in_action, is_time_place, time_guarded}
use Rattle.sp_law_decide.specs.Deciding.{nothing, Environment, environment, is_filled, matched_all, matched_time, both_matched, by_action, by_entry, by_trace, by_each, by_actions}
use Rattle.sp_law_decide.specs.Normal.{IsNormalAction, IsNormalTrace}
use Rattle.sp_law_decide.proofs.Slots.{grown_none, grown_twice}
use Rattle.sp_law_decide.proofs.Matched.{Messages, Times, value_by, time_by, either_is, IsGood, MessagesFit, MessagesGrown, matched_all_grown, matched_all_found, IsPosition, TimesFit, TimesGrown, time_grown, time_found}

member_under : {A : Type 0} (c : Bool) (xs : List A) (x : A) → Member x (if c then xs else []) → Member x xs
member_under true xs x m = m
member_under false xs x m = absurd m

under_test : {A : Type 0} (c : Bool) (xs : List A) → c ≡ true → (if c then xs else []) ≡ xs
under_test true xs e = refl
under_test false xs e = absurd cc

module _ (signature : Signature) (n : ℕ) where
  -- the second grows from the first, and has values at these places of messages and of times
  pub record Covered (P Q : ℕ → Bool) (a b : Environment) : Type 0 where
    pub messages : MessagesGrown signature a.messages b.messages
    pub times : TimesGrown n a.times b.times
    pub fills_messages : (k : ℕ) → P k ≡ true → is_filled b.messages k ≡ true
    pub fills_times : (k : ℕ) → Q k ≡ true → is_filled b.times k ≡ true

  covered_none : (a : Environment) → Covered (λ k. false) (λ k. false) a a
  covered_none a = record {
    messages = grown_none (IsGood signature) nothing a.messages;
    times = grown_none (IsPosition n) 0 a.times;
    fills_messages = λ k e. absurd cc;
    fills_times = λ k e. absurd cc;
  }

  covered_both : (P Q R S : ℕ → Bool) (a b c : Environment) → Covered P Q a b → Covered R S b c → Covered (λ k. P k || R k) (λ k. Q k || S k) a c
  covered_both P Q R S a b c g h = record {
    messages = grown_twice (IsGood signature) nothing a.messages b.messages c.messages g.messages h.messages;
    times = grown_twice (IsPosition n) 0 a.times b.times c.times g.times h.times;
    fills_messages = λ k e. either_is (P k) (R k) e (λ x. h.messages.keeps k (g.fills_messages k x)) (h.fills_messages k);
    fills_times = λ k e. either_is (Q k) (S k) e (λ x. h.times.keeps k (g.fills_times k x)) (h.fills_times k);
  }

  -- by an action of the trace
  abbrev CoveredBy : Action Place → Time → Environment → Environment → Type 0
  CoveredBy a i = Covered (λ k. stands_among k a.args) (λ k. is_time_place k i)

  action_covered : (a : Action Place) (i : Time) (p : ℕ) (shown : Action ⊥) (env c : Environment) → IsNormalAction signature shown → p < n
      → Member c (by_action a i p shown env) → CoveredBy a i env c
  action_covered a i p shown env c good l m =
      at (matched_all a.args shown.args env.messages) (matched_time i p env.times) refl refl (member_under (bytes_eq a.symbol shown.symbol) _ c m)
    where
      at : (o : Option Messages) (q : Option Times) → matched_all a.args shown.args env.messages ≡ o → matched_time i p env.times ≡ q → Member c (both_matched o q) → CoveredBy a i env c
      at None q e g m = absurd m
      at (Some b) None e g m = absurd m
      at (Some b) (Some ts) e g (inr m) = absurd m
      at (Some b) (Some ts) e g (inl m) =
          let r = matched_all_grown signature a.args shown.args good env.messages b e in
          let q = time_grown n i p l env.times ts g in
          subst (CoveredBy a i env) m (record { messages = r.0; times = q.0; fills_messages = r.1; fills_times = q.1 })

  entry_covered : (a : Action Place) (i : Time) (p : ℕ) (entry : List (Action ⊥)) (env c : Environment) → Every (IsNormalAction signature) entry → p < n
      → Member c (by_entry a i p entry env) → CoveredBy a i env c
  entry_covered a i p [] env c good l m = absurd m
  entry_covered a i p (shown ∷ entry) env c good l m =
      ⊎_elim (action_covered a i p shown env c good.0 l) (entry_covered a i p entry env c good.1 l) (member_either c (by_action a i p shown env) (by_entry a i p entry env) m)

  trace_covered : (a : Action Place) (i : Time) (trace : Trace) (env c : Environment) → IsNormalTrace signature trace → length trace ≤ n
      → Member c (by_trace a i trace env) → CoveredBy a i env c
  trace_covered a i [] env c good l m = absurd m
  trace_covered a i (entry ∷ past) env c good l m =
      ⊎_elim (trace_covered a i past env c good.1 (omega (arith, l))) (entry_covered a i (length past) entry env c good.0 (omega (arith, l)))
      (member_either c (by_trace a i past env) (by_entry a i (length past) entry env) m)

  -- by the actions of a guard
  abbrev pub CoveredByAll : List Atom → Environment → Environment → Type 0
  CoveredByAll guard = Covered (λ k. in_action k guard) (λ k. time_guarded guard k)

  module _ (trace : Trace) (normal : IsNormalTrace signature trace) (within : length trace ≤ n) where
    each_covered : (a : Action Place) (i : Time) (envs : List Environment) (c : Environment) → Member c (by_each a i trace envs)
        → (env : Environment) × Member env envs × CoveredBy a i env c
    each_covered a i [] c m = absurd m
    each_covered a i (env ∷ envs) c m = at (member_either c (by_trace a i trace env) (by_each a i trace envs) m) (each_covered a i envs c)
      where
        at : Member c (by_trace a i trace env) ⊎ Member c (by_each a i trace envs)
            → (Member c (by_each a i trace envs) → (x : Environment) × Member x envs × CoveredBy a i x c) → (x : Environment) × Member x (env ∷ envs) × CoveredBy a i x c
        at (inl m) below = (env, inl refl, trace_covered a i trace env c normal within m)
        at (inr m) below = let r = below m in (r.0, inr r.1, r.2)

    pub actions_covered : (guard : List Atom) (envs : List Environment) (c : Environment) → Member c (by_actions trace guard envs)
        → (env : Environment) × Member env envs × CoveredByAll guard env c
    actions_covered [] envs c m = (c, m, covered_none c)
    actions_covered (acts a i ∷ guard) envs c m =
        let r = actions_covered guard (by_each a i trace envs) c m in
        let q = each_covered a i envs r.0 r.1 in
        (q.0, q.1, covered_both _ _ _ _ q.0 r.0 c q.2 r.2)
    actions_covered (same t u ∷ guard) envs c m = actions_covered guard envs c m
    actions_covered (same_time i j ∷ guard) envs c m = actions_covered guard envs c m
    actions_covered (before i j ∷ guard) envs c m = actions_covered guard envs c m
    actions_covered (last i ∷ guard) envs c m = actions_covered guard envs c m

  -- Values of all places with which the actions of the guard stand in the trace are those of some environment that is reached.
  module _ (f : ℕ → Ground) (g : ℕ → ℕ) where
    pub record Reached (envs : List Environment) : Type 0 where
      pub reached : Environment
      pub member : Member reached envs
      pub messages : MessagesFit signature reached.messages f
      pub times : TimesFit n reached.times g

    abbrev Fit : Environment → Type 0
    Fit env = MessagesFit signature env.messages f × TimesFit n env.times g

    reached_left : (xs ys : List Environment) → Reached xs → Reached (xs ++ ys)
    reached_left xs ys r = record { reached = r.reached; member = member_left r.reached xs ys r.member; messages = r.messages; times = r.times }

    reached_right : (xs ys : List Environment) → Reached ys → Reached (xs ++ ys)
    reached_right xs ys r = record { reached = r.reached; member = member_right r.reached xs ys r.member; messages = r.messages; times = r.times }

    action_found : (a : Action Place) (i : Time) (env : Environment) → Fit env → Reached (by_action a i (time_by g i) (action_at (value_by f) a) env)
    action_found a i env fits =
        let r = matched_all_found signature a.args env.messages f fits.0 in
        let q = time_found n i env.times g fits.1 in
        let e = under_test (bytes_eq a.symbol a.symbol) (both_matched (matched_all a.args (action_at (value_by f) a).args env.messages) (matched_time i (time_by g i) env.times)) ((bytes_eq-Decides a.symbol a.symbol).1 refl) in
        let here : Reached (both_matched (Some r.0) (Some q.0)) = record { reached = environment r.0 q.0; member = inl refl; messages = r.2; times = q.2 } in
        subst Reached (sym (e ∙ ap₂ both_matched r.1 q.1)) here

    entry_found : (a : Action Place) (i : Time) (entry : List (Action ⊥)) (env : Environment) → Fit env → Member (action_at (value_by f) a) entry
        → Reached (by_entry a i (time_by g i) entry env)
    entry_found a i [] env fits m = absurd m
    entry_found a i (shown ∷ entry) env fits (inl m) =
        reached_left (by_action a i (time_by g i) shown env) (by_entry a i (time_by g i) entry env)
        (subst (λ (x : Action ⊥). Reached (by_action a i (time_by g i) x env)) (sym m) (action_found a i env fits))
    entry_found a i (shown ∷ entry) env fits (inr m) =
        reached_right (by_action a i (time_by g i) shown env) (by_entry a i (time_by g i) entry env) (entry_found a i entry env fits m)

    trace_found : (a : Action Place) (i : Time) (trace : Trace) (entry : List (Action ⊥)) (env : Environment) → Fit env
        → AtPosition trace (time_by g i) entry → Member (action_at (value_by f) a) entry → Reached (by_trace a i trace env)
    trace_found a i [] entry env fits p m = absurd p
    trace_found a i (shown ∷ past) entry env fits (inr p) m =
        reached_left (by_trace a i past env) (by_entry a i (length past) shown env) (trace_found a i past entry env fits p m)
    trace_found a i (shown ∷ past) entry env fits (inl p) m =
        reached_right (by_trace a i past env) (by_entry a i (length past) shown env)
        (subst (λ (q : ℕ). Reached (by_entry a i q shown env)) p.0
        (entry_found a i shown env fits (subst (λ (x : List (Action ⊥)). Member (action_at (value_by f) a) x) (sym p.1) m)))

    each_found : (a : Action Place) (i : Time) (trace : Trace) (envs : List Environment) (env : Environment) → Member env envs → Reached (by_trace a i trace env)
        → Reached (by_each a i trace envs)
    each_found a i trace [] env m r = absurd m
    each_found a i trace (x ∷ envs) env (inl m) r =
        reached_left (by_trace a i trace x) (by_each a i trace envs) (subst (λ (y : Environment). Reached (by_trace a i trace y)) (sym m) r)
    each_found a i trace (x ∷ envs) env (inr m) r = reached_right (by_trace a i trace x) (by_each a i trace envs) (each_found a i trace envs env m r)

    -- the action itself stands in the trace
    abbrev pub Stands : Trace → Atom → Type 0
    Stands trace (acts a i) = (entry : List (Action ⊥)) × AtPosition trace (time_by g i) entry × Member (action_at (value_by f) a) entry
    Stands trace a = Unit {0}

    pub actions_found : (trace : Trace) (guard : List Atom) (envs : List Environment) → Every (Stands trace) guard → Reached envs → Reached (by_actions trace guard envs)
    actions_found trace [] envs h r = r
    actions_found trace (acts a i ∷ guard) envs h r =
        let s = trace_found a i trace h.0.0 r.reached (r.messages, r.times) h.0.1 h.0.2 in
        actions_found trace guard (by_each a i trace envs) h.1 (each_found a i trace envs r.reached r.member s)
    actions_found trace (same t u ∷ guard) envs h r = actions_found trace guard envs h.1 r
    actions_found trace (same_time i j ∷ guard) envs h r = actions_found trace guard envs h.1 r
    actions_found trace (before i j ∷ guard) envs h r = actions_found trace guard envs h.1 r
    actions_found trace (last i ∷ guard) envs h r = actions_found trace guard envs h.1 r
