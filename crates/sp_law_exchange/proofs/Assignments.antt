-- Assignments whose values are those of another with other names, as far as bound places are reached.
use Rattle.std.proofs.Common.{◌≡◌, ℕ, zero, suc, refl}
use Rattle.sp_spec.specs.Term.{Variable, Term, any_names, MadeOf, AllMadeOf, Ground}
use Rattle.sp_spec.specs.Rule.{Action}
use Rattle.sp_spec.specs.Guarded.{Place, free, bound, Time, free_time, bound_time, Assignment, with_term, with_time, pushed, place_in, term_in, action_in, time_in}
use Rattle.sp_spec_system.specs.Numbered.{AtFree}
use Rattle.sp_law_exchange.specs.Renaming.{Renaming, renamed, action_renamed, assignment_renamed, kept_by}
use Rattle.sp_law_exchange.specs.Reach.{IsReached, OneMore}
use Rattle.sp_law_equal.proofs.Made.{each_weaken, each_weaken_all, made_both, all_made_both}
use Rattle.sp_law_exchange.proofs.Terms.{valued_renamed}
use Rattle.sp_law_exchange.proofs.Logs.{action_values}

pub record Renames (r : Renaming) (B : ℕ → Type 0) (m w : Assignment) : Type 0 where
  pub terms : (x : Variable) → renamed r (m.terms x) ≡ w.terms x
  pub times : (i : ℕ) → m.times i ≡ w.times i
  pub bound_terms : (k : ℕ) → B k → renamed r (m.bound_terms k) ≡ w.bound_terms k
  pub bound_times : (k : ℕ) → m.bound_times k ≡ w.bound_times k

module _ (r : Renaming) where
  pub renames_all : (B : ℕ → Type 0) (m : Assignment) → Renames r B m (assignment_renamed r m)
  renames_all B m = record { terms = λ x. refl; times = λ i. refl; bound_terms = λ k b. refl; bound_times = λ k. refl }

  module _ (B : ℕ → Type 0) (m w : Assignment) (h : Renames r B m w) where
    pub with_renamed_term : (t u : Ground) → renamed r t ≡ u → Renames r (OneMore B) (with_term t m) (with_term u w)
    with_renamed_term t u e = record { terms = h.terms; times = h.times; bound_terms = bound_terms; bound_times = h.bound_times }
      where
        bound_terms : (k : ℕ) → OneMore B k → renamed r (pushed t m.bound_terms k) ≡ pushed u w.bound_terms k
        bound_terms zero b = e
        bound_terms (suc k) b = h.bound_terms k b

    pub with_same_time : (p : ℕ) → Renames r B (with_time p m) (with_time p w)
    with_same_time p = record { terms = h.terms; times = h.times; bound_terms = h.bound_terms; bound_times = bound_times }
      where
        bound_times : (k : ℕ) → pushed p m.bound_times k ≡ pushed p w.bound_times k
        bound_times zero = refl
        bound_times (suc k) = h.bound_times k

    place_renamed : (x : Place) → IsReached B x → renamed r (place_in m x) ≡ place_in w x
    place_renamed (free x) b = h.terms x
    place_renamed (bound k) b = h.bound_terms k b

    pub time_same : (i : Time) → time_in m i ≡ time_in w i
    time_same (free_time i) = h.times i
    time_same (bound_time k) = h.bound_times k

    module _ (P : Variable → Type 0) where
      pub term_renamed : (t : Term Place) → MadeOf (kept_by r) (AtFree P) t → MadeOf any_names (IsReached B) t → renamed r (term_in m t) ≡ term_in w t
      term_renamed t k b =
          valued_renamed r (IsReached B) (place_in m) (place_in w) place_renamed t
          (made_both (kept_by r) any_names (IsReached B) t (each_weaken (kept_by r) (AtFree P) (λ x. Unit {0}) (λ x p. tt) t k) b)

      pub action_in_renamed : (a : Action Place) → AllMadeOf (kept_by r) (AtFree P) a.args → AllMadeOf any_names (IsReached B) a.args → action_renamed r (action_in m a) ≡ action_in w a
      action_in_renamed a k b =
          action_values r (IsReached B) (place_in m) (place_in w) place_renamed a
          (all_made_both (kept_by r) any_names (IsReached B) a.args (each_weaken_all (kept_by r) (AtFree P) (λ x. Unit {0}) (λ x p. tt) a.args k) b)
