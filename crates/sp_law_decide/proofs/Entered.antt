-- Slots for the binders of a quantifier: what has a value, and what fits.
use Rattle.std.proofs.Common.{◌≡◌, ℕ, zero, suc, ◌+◌, ◌≤◌, true, List, [], ◌∷◌, None, refl, subst, arith}
use Rattle.sp_spec.specs.Signature.{Signature}
use Rattle.sp_spec.specs.Guarded.{Binder, message, time, Assignment, with_term, with_time}
use Rattle.sp_law_equal.specs.NormalForms.{HaveNormalForms, KeepSymbols}
use Rattle.sp_law_equal.specs.Normal.{normal}
use Rattle.sp_law_equal.proofs.Forms.{normal_has_sort}
use Rattle.sp_law_guard.specs.IsGuarded.{messages_in, times_in}
use Rattle.sp_law_decide.specs.Deciding.{nothing, is_filled, Environment, environment, entered}
use Rattle.sp_spec.specs.Slots.{Slot, slot}
use Rattle.sp_spec.proofs.Slots.{AreGood}
use Rattle.sp_law_decide.proofs.Matched.{IsGood, MessagesFit, IsPosition, TimesFit}
use Rattle.sp_law_decide.proofs.Ranges.{Arises, assigned, outside, term_again, time_again}

-- each place from n on has a value
abbrev pub FilledFrom : {K A : Type 0} → ℕ → List (Slot K A) → Type 0
FilledFrom n slots = (k : ℕ) → n ≤ k → is_filled slots k ≡ true

one_more : {K A : Type 0} (n : ℕ) (s : Slot K A) (slots : List (Slot K A)) → FilledFrom n slots → FilledFrom (suc n) (s ∷ slots)
one_more n s slots h zero l = absurd (omega (arith, l))
one_more n s slots h (suc k) l = h k (omega (arith, l))

pub entered_messages : (bs : List Binder) (env : Environment) (n : ℕ) → FilledFrom n env.messages → FilledFrom (messages_in bs + n) (entered bs env).messages
entered_messages [] env n h = λ k l. h k (omega (arith, l))
entered_messages (message sort ∷ bs) env n h =
    λ k l. entered_messages bs (environment (slot sort None ∷ env.messages) env.times) (suc n) (one_more n (slot sort None) env.messages h) k (omega (arith, l))
entered_messages (time ∷ bs) env n h = entered_messages bs (environment env.messages (slot tt None ∷ env.times)) n h

pub entered_times : (bs : List Binder) (env : Environment) (n : ℕ) → FilledFrom n env.times → FilledFrom (times_in bs + n) (entered bs env).times
entered_times [] env n h = λ k l. h k (omega (arith, l))
entered_times (message sort ∷ bs) env n h = entered_times bs (environment (slot sort None ∷ env.messages) env.times) n h
entered_times (time ∷ bs) env n h =
    λ k l. entered_times bs (environment env.messages (slot tt None ∷ env.times)) (suc n) (one_more n (slot tt None) env.times h) k (omega (arith, l))

module _ (signature : Signature) (n : ℕ) where
  pub record GoodEnvironment (env : Environment) : Type 0 where
    pub messages : AreGood (IsGood signature) env.messages
    pub times : AreGood (IsPosition n) env.times

  pub entered_good : (bs : List Binder) (env : Environment) → GoodEnvironment env → GoodEnvironment (entered bs env)
  entered_good [] env h = h
  entered_good (message sort ∷ bs) env h = entered_good bs (environment (slot sort None ∷ env.messages) env.times) (record { messages = (tt, h.messages); times = h.times })
  entered_good (time ∷ bs) env h = entered_good bs (environment env.messages (slot tt None ∷ env.times)) (record { messages = h.messages; times = (tt, h.times) })

  -- values of all that is bound fit
  pub record FitsIn (env : Environment) (w : Assignment) : Type 0 where
    pub messages : MessagesFit signature env.messages w.bound_terms
    pub times : TimesFit n env.times w.bound_times

  pub fits_outside : (bs : List Binder) (env : Environment) (w : Assignment) → FitsIn (entered bs env) w → FitsIn env (outside bs w)
  fits_outside [] env w h = h
  fits_outside (message sort ∷ bs) env w h =
      let r = fits_outside bs (environment (slot sort None ∷ env.messages) env.times) w h in
      record { messages = r.messages.2; times = r.times }
  fits_outside (time ∷ bs) env w h =
      let r = fits_outside bs (environment env.messages (slot tt None ∷ env.times)) w h in
      record { messages = r.messages; times = r.times.2 }

  -- what fits arises from what is outside of it
  pub arises_outside : (bs : List Binder) (env : Environment) (w : Assignment) → FitsIn (entered bs env) w → Arises signature n bs (outside bs w) w
  arises_outside [] env w h = refl
  arises_outside (message sort ∷ bs) env w h =
      let inner = environment (slot sort None ∷ env.messages) env.times in
      let m = outside bs w in
      let r = fits_outside bs inner w h in
      let s = r.messages.0 in
      (m.bound_terms zero, (s.0, s.2), subst (λ (x : Assignment). Arises signature n bs x w) (term_again m) (arises_outside bs inner w h))
  arises_outside (time ∷ bs) env w h =
      let inner = environment env.messages (slot tt None ∷ env.times) in
      let m = outside bs w in
      let r = fits_outside bs inner w h in
      (m.bound_times zero, r.times.0, subst (λ (x : Assignment). Arises signature n bs x w) (time_again m) (arises_outside bs inner w h))

  module _ (good : HaveNormalForms signature.equations) (keeps : KeepSymbols signature.symbols signature.equations) where
    -- the values in normal form, and of nothing else
    abbrev pub normalized : Assignment → Assignment
    normalized w = assigned (λ x. nothing) (λ i. 0) (λ k. normal signature.equations (w.bound_terms k)) w.bound_times

    pub fits_entered : (bs : List Binder) (env : Environment) (m w : Assignment) → Arises signature n bs m w → FitsIn env (normalized m) → FitsIn (entered bs env) (normalized w)
    fits_entered [] env m w a h = subst (λ (x : Assignment). FitsIn env (normalized x)) a h
    fits_entered (message sort ∷ bs) env m w a h =
        let t = a.0 in
        let es = signature.equations in
        fits_entered bs (environment (slot sort None ∷ env.messages) env.times) (with_term t m) w a.2
        (record { messages = ((normal_has_sort es sort t a.1.0, good.is_normal t, keeps.kept t a.1.1), tt, h.messages); times = h.times })
    fits_entered (time ∷ bs) env m w a h =
        fits_entered bs (environment env.messages (slot tt None ∷ env.times)) (with_time a.0 m) w a.2 (record { messages = h.messages; times = (a.1, tt, h.times) })
