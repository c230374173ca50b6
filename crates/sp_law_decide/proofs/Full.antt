-- Where a quantifier is guarded, each environment that may make its guard true has all its values.
use Rattle.std.proofs.Common.{◌≡◌, ⊎_elim, inl, inr, ℕ, ◌<◌, ◌≤◌, Bool, true, false, List, [], ◌∷◌, length, Some, refl, sym, subst, arith}
use Rattle.std.specs.Prelude.{nat_lt}
use Rattle.std.proofs.lemmas.Bool.{and_parts, ltb-true, ltb-false, cases_lt}
use Rattle.sp_spec.specs.Lists.{Member, Every}
use Rattle.sp_spec.specs.Signature.{Signature}
use Rattle.sp_spec.specs.Execution.{Trace}
use Rattle.sp_spec.specs.Guarded.{Binder, message, time, Atom}
use Rattle.sp_law_equal.specs.NormalForms.{HaveNormalForms}
use Rattle.sp_law_guard.specs.IsGuarded.{in_action, by_equality, message_guarded, time_guarded, messages_in, times_in, each_guarded}
use Rattle.sp_law_decide.specs.Deciding.{nothing, is_filled, Environment, entered, by_equalities, by_actions, candidates}
use Rattle.sp_law_decide.specs.Normal.{IsNormalTrace, IsConstructorAtom}
use Rattle.sp_spec.proofs.Slots.{AreGood}
use Rattle.sp_law_decide.proofs.Slots.{grown_twice}
use Rattle.sp_law_decide.proofs.Matched.{IsGood, Times, MessagesGrown, IsPosition, TimesGrown, either_is}
use Rattle.sp_law_decide.proofs.Terms.{Given}
use Rattle.sp_law_decide.proofs.Actions.{CoveredByAll, actions_covered}
use Rattle.sp_law_decide.proofs.Equalities.{equalities_grown, equalities_reached}
use Rattle.sp_law_decide.proofs.Entered.{entered_messages, entered_times, GoodEnvironment, entered_good}

-- each bound message, and each bound time, is guarded
guarded_message : (n : ℕ) (guard : List Atom) (bs : List Binder) → each_guarded n guard bs ≡ true → (k : ℕ) → k < messages_in bs → message_guarded n guard k ≡ true
guarded_message n guard [] e k l = absurd (omega (arith, l))
guarded_message n guard (message sort ∷ bs) e k l =
    let r = and_parts (message_guarded n guard (messages_in bs)) (each_guarded n guard bs) e in
    ⊎_elim (λ h. guarded_message n guard bs r.1 k h)
    (λ h. let same : messages_in bs ≡ k = omega (arith, l, h) in subst (λ (j : ℕ). message_guarded n guard j ≡ true) same r.0) (cases_lt k (messages_in bs))
guarded_message n guard (time ∷ bs) e k l =
    guarded_message n guard bs (and_parts (time_guarded guard (times_in bs)) (each_guarded n guard bs) e).1 k l

guarded_time : (n : ℕ) (guard : List Atom) (bs : List Binder) → each_guarded n guard bs ≡ true → (k : ℕ) → k < times_in bs → time_guarded guard k ≡ true
guarded_time n guard [] e k l = absurd (omega (arith, l))
guarded_time n guard (message sort ∷ bs) e k l =
    guarded_time n guard bs (and_parts (message_guarded n guard (messages_in bs)) (each_guarded n guard bs) e).1 k l
guarded_time n guard (time ∷ bs) e k l =
    let r = and_parts (time_guarded guard (times_in bs)) (each_guarded n guard bs) e in
    ⊎_elim (λ h. guarded_time n guard bs r.1 k h)
    (λ h. let same : times_in bs ≡ k = omega (arith, l, h) in subst (λ (j : ℕ). time_guarded guard j ≡ true) same r.0) (cases_lt k (times_in bs))

module _ (signature : Signature) (n : ℕ) where
  -- each value is there, and is good
  pub record IsReady (env : Environment) : Type 0 where
    pub good : GoodEnvironment signature n env
    pub messages : (k : ℕ) → is_filled env.messages k ≡ true
    pub times : (k : ℕ) → is_filled env.times k ≡ true

  pub record Follows (a b : Environment) : Type 0 where
    pub messages : MessagesGrown signature a.messages b.messages
    pub times : TimesGrown n a.times b.times

  module _ (good : HaveNormalForms signature.equations) (trace : Trace) (normal : IsNormalTrace signature trace) (within : length trace ≤ n) where
    -- an environment in which the actions of the guard were found
    abbrev OfActions : List Binder → List Atom → Environment → Environment → Type 0
    OfActions bs guard env mid = CoveredByAll signature n guard (entered bs env) mid

    of_actions : (bs : List Binder) (guard : List Atom) (env mid : Environment) → Member mid (by_actions trace guard (entered bs env ∷ [])) → OfActions bs guard env mid
    of_actions bs guard env mid m = let r = actions_covered signature n trace normal within guard (entered bs env ∷ []) mid m in at r.0 r.1 r.2
      where
        at : (x : Environment) → Member x (entered bs env ∷ []) → CoveredByAll signature n guard x mid → OfActions bs guard env mid
        at x (inl e) covered = subst (λ (y : Environment). CoveredByAll signature n guard y mid) (sym e) covered
        at x (inr e) covered = absurd e

    module _ (bs : List Binder) (guard : List Atom) (env : Environment) (guarded : each_guarded (messages_in bs) guard bs ≡ true)
        (constructors : Every (IsConstructorAtom signature) guard) (ready : IsReady env) where
      given_after : (mid : Environment) → OfActions bs guard env mid → Given (messages_in bs) guard mid.messages
      given_after mid covered = record {
        outside = λ k e.
            let l = ltb-false k (messages_in bs) e in
            covered.messages.keeps k (entered_messages bs env 0 (λ j h. ready.messages j) k (omega (arith, l)));
        inside = covered.fills_messages;
      }

      times_filled : (mid : Environment) → OfActions bs guard env mid → (k : ℕ) → is_filled mid.times k ≡ true
      times_filled mid covered k =
          ⊎_elim (λ l. covered.fills_times k (guarded_time (messages_in bs) guard bs guarded k l))
          (λ l. covered.times.keeps k (entered_times bs env 0 (λ j h. ready.times j) k (omega (arith, l)))) (cases_lt k (times_in bs))

      module _ (mid c : Environment) (covered : OfActions bs guard env mid) (gives : by_equalities guard mid.messages ≡ Some c.messages) (same : mid.times ≡ c.times) where
        goods : GoodEnvironment signature n mid
        goods =
            let r = entered_good signature n bs env ready.good in
            record { messages = covered.messages.good r.messages; times = covered.times.good r.times }

        by_all : MessagesGrown signature mid.messages c.messages × ((k : ℕ) → by_equality (messages_in bs) guard k guard ≡ true → is_filled c.messages k ≡ true)
        by_all = equalities_grown signature good (messages_in bs) guard guard constructors mid.messages c.messages goods.messages (given_after mid covered) gives

        messages_filled : (k : ℕ) → is_filled c.messages k ≡ true
        messages_filled k = at (nat_lt k (messages_in bs)) refl
          where
            at : (b : Bool) → nat_lt k (messages_in bs) ≡ b → is_filled c.messages k ≡ true
            at true l =
                either_is (in_action k guard) (by_equality (messages_in bs) guard k guard) (guarded_message (messages_in bs) guard bs guarded k (ltb-true k (messages_in bs) l))
                (λ h. by_all.0.keeps k (covered.fills_messages k h)) (by_all.1 k)
            at false l = by_all.0.keeps k ((given_after mid covered).outside k l)

        reached_ready : IsReady c × Follows (entered bs env) c
        reached_ready = (
          record {
            good = record { messages = by_all.0.good goods.messages; times = subst (AreGood (IsPosition n)) same goods.times };
            messages = messages_filled;
            times = subst (λ (x : Times). (k : ℕ) → is_filled x k ≡ true) same (times_filled mid covered);
          },
          record {
            messages = grown_twice (IsGood signature) nothing (entered bs env).messages mid.messages c.messages covered.messages by_all.0;
            times = subst (TimesGrown n (entered bs env).times) same covered.times;
          },
        )

      pub candidate_ready : (c : Environment) → Member c (candidates trace bs guard env) → IsReady c × Follows (entered bs env) c
      candidate_ready c m =
          let r = equalities_reached guard (by_actions trace guard (entered bs env ∷ [])) c m in
          reached_ready r.0 c (of_actions bs guard env r.0 r.1) r.2 r.3
