-- What doesn't speak of learning sees the same of an execution's trace and of the log's.
use Rattle.std.proofs.Common.{◌≡◌, ◌↔◌, ℕ, zero, Bool, true, false, List, [], ◌∷◌, refl, sym, ap, ◌∙◌, subst}
use Rattle.std.specs.Prelude.{codes}
use Rattle.sp_spec.specs.Lists.{Member, is_listed}
use Rattle.sp_spec.proofs.Lists.{every_itself}
use Rattle.sp_spec.specs.Rule.{Action, sends}
use Rattle.sp_spec.specs.Theory.{Theory, signature_of}
use Rattle.sp_spec.specs.Execution.{Trace, with_entry}
use Rattle.sp_spec.specs.Guarded.{Guarded, Assignment, GuardedHolds}
use Rattle.sp_spec.specs.Log.{step, send, learn, Log, log_trace, visible_trace}
use Rattle.sp_law_truth.specs.Same.{EqualTraces}
use Rattle.sp_law_truth.specs.Shown.{only_actions, shown, action_names, IsTimed}
use Rattle.sp_law_truth.proofs.Only.{is_among_member}
use Rattle.sp_law_truth.proofs.Shown.{equal_shown_same, equal_shown}
use Rattle.sp_law_adversary.specs.Laws.{Learns}

not_listed : (s : List ℕ) (names : List (List ℕ)) → (Member s names → ⊥) → is_listed s names ≡ false
not_listed s names h = at (is_listed s names) refl
  where
    at : (b : Bool) → is_listed s names ≡ b → b ≡ false
    at true e = absurd (h (is_among_member s names e))
    at false e = refl

module _ (names : List (List ℕ)) where
  -- an entry without what isn't named
  pub shown_entry : (xs : List (Action ⊥)) (t : Trace) → shown names (with_entry xs t) ≡ with_entry (only_actions names xs) (shown names t)
  shown_entry [] t = refl
  shown_entry (x ∷ xs) t = refl

  -- what is learnt isn't seen
  log_shown : is_listed (codes "KU") names ≡ false → (log : Log) → shown names (log_trace log) ≡ shown names (visible_trace log)
  log_shown e [] = refl
  log_shown e (step r facts sources ∷ past) =
      ap (with_entry (only_actions names facts.actions)) (log_shown e past) ∙ sym (shown_entry facts.actions (visible_trace past))
  log_shown e (send m ∷ past) = ap (with_entry (only_actions names (sends m ∷ []))) (log_shown e past) ∙ sym (shown_entry (sends m ∷ []) (visible_trace past))
  log_shown e (learn m how ∷ past) = rw e (log_shown e past)

pub logs_truth : (theory : Theory) (trace : Trace) (log : Log) → Learns theory trace log → (f : Guarded) → IsTimed zero f
    → (Member (codes "KU") (action_names f) → ⊥)
    → (m : Assignment) → GuardedHolds (signature_of theory) trace m f ↔ GuardedHolds (signature_of theory) (log_trace log) m f
logs_truth theory trace log learnt f timed unnamed m =
    let es = (signature_of theory).equations in
    let names = action_names f in
    equal_shown_same (signature_of theory) names trace (log_trace log)
    (subst (λ (o : Trace). EqualTraces es (shown names trace) o) (sym (log_shown names (not_listed (codes "KU") names unnamed) log))
    (equal_shown es names trace (visible_trace log) learnt.same_trace))
    m f timed
    (every_itself names)
