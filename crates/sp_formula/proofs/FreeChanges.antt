-- A change of the system's variables and times is the same under binders.
use Rattle.std.proofs.Common.{◌≡◌, ℕ, zero, suc, List, [], ◌∷◌, Bool, true, false, ◌==◌, if◌then◌else◌, refl, sym, ap, ◌∙◌}
use Rattle.std.proofs.lemmas.Bool.{eqb-true}
use Rattle.std.proofs.Math.Path.{fun_ext}
use Rattle.sp_spec.specs.Term.{Variable, Term, var}
use Rattle.sp_spec.specs.Guarded.{Place, bound, Time, bound_time, Binder, message, time, pushed}
use Rattle.sp_spec.specs.Change.{Change, under, under_message, under_time, free_change}
use Rattle.sp_spec.specs.Change.{time_replaced}

module _ (terms : Variable → Term Variable) (times : ℕ → ℕ) where
  messages_stay : (k : ℕ) → pushed (var (bound zero)) (λ j. var (bound (suc j))) k ≡ var (bound k)
  messages_stay zero = refl
  messages_stay (suc k) = refl

  times_stay : (k : ℕ) → pushed (bound_time zero) (λ j. bound_time (suc j)) k ≡ bound_time k
  times_stay zero = refl
  times_stay (suc k) = refl

  under_message-free_change : under_message (free_change terms times) ≡ free_change terms times
  under_message-free_change = ap (λ (f : ℕ → Term Place). let c : Change = record { terms = terms; times = times; bound_terms = f; bound_times = bound_time } in c) (fun_ext messages_stay)

  under_time-free_change : under_time (free_change terms times) ≡ free_change terms times
  under_time-free_change = ap (λ (f : ℕ → Time). let c : Change = record { terms = terms; times = times; bound_terms = λ k. var (bound k); bound_times = f } in c) (fun_ext times_stay)

  pub under-free_change : (bs : List Binder) → under bs (free_change terms times) ≡ free_change terms times
  under-free_change [] = refl
  under-free_change (message sort ∷ bs) = ap (under bs) under_message-free_change ∙ under-free_change bs
  under-free_change (time ∷ bs) = ap (under bs) under_time-free_change ∙ under-free_change bs

-- no time changes where one replaces itself
pub time_replaced-same : (i : ℕ) → time_replaced i i ≡ (λ k. k)
time_replaced-same i = fun_ext (λ k. stays k (k == i) refl)
  where
    stays : (k : ℕ) (b : Bool) → (k == i) ≡ b → (if b then i else k) ≡ k
    stays k true e = sym (eqb-true k i e)
    stays k false e = refl
