-- What is untrue of a trace is untrue of a shortest prefix of it.
use Rattle.std.proofs.Common.{◌≡◌, ◌⊎◌, List, [], ◌∷◌, ◌++◌, refl, ap, sym, subst, inl, inr}
use Rattle.sp_spec.specs.Lists.{Classically}
use Rattle.sp_spec.specs.Rule.{Action}
use Rattle.sp_spec.specs.Execution.{Trace}
use Rattle.sp_law_truth.proofs.Stable.{classically}
use Rattle.sp_law_induction.specs.Prefix.{IsProperPrefix, IsShortest}

abbrev pub without_newest : Trace → Trace
without_newest [] = []
without_newest (entry ∷ past) = past

module _ (T : Trace → Type 0) where
  -- of each prefix
  abbrev OfEachPrefix : Trace → Type 0
  OfEachPrefix [] = T []
  OfEachPrefix (entry ∷ past) = T (entry ∷ past) × OfEachPrefix past

  here_of_each : (trace : Trace) → OfEachPrefix trace → T trace
  here_of_each [] h = h
  here_of_each (entry ∷ past) h = h.0

  each_behind : (newer older : Trace) → OfEachPrefix (newer ++ older) → OfEachPrefix older
  each_behind [] older h = h
  each_behind (entry ∷ newer) older h = each_behind newer older h.1

  behind : (newer : Trace) (entry : List (Action ⊥)) (oldest : Trace) (first : List (Action ⊥)) (past : Trace)
      → newer ++ entry ∷ oldest ≡ first ∷ past → OfEachPrefix past → T oldest
  behind [] entry oldest first past e h = here_of_each oldest (subst OfEachPrefix (sym (ap without_newest e)) h)
  behind (x ∷ newer) entry oldest first past e h =
      here_of_each oldest (each_behind newer (entry ∷ oldest) (subst OfEachPrefix (sym (ap without_newest e)) h)).1

  abbrev pub Found : Trace → Type 0
  Found trace = (older : Trace) × IsShortest T trace older

  longer : (entry : List (Action ⊥)) (past : Trace) → Found past → Found (entry ∷ past)
  longer entry past h = (h.0, record { prefix = (entry ∷ h.1.prefix.0, ap (λ (x : Trace). entry ∷ x) h.1.prefix.1); untrue = h.1.untrue; before = h.1.before })

  decided_empty : T [] ⊎ (T [] → ⊥) → OfEachPrefix [] ⊎ Found []
  decided_empty (inl t) = inl t
  decided_empty (inr u) = inr ([], record { prefix = ([], refl); untrue = u; before = nothing })
    where
      nothing : (oldest : Trace) → IsProperPrefix oldest [] → T oldest
      nothing oldest (entry, ([], e)) = absurd cc
      nothing oldest (entry, (x ∷ newer, e)) = absurd cc

  decided_next : (entry : List (Action ⊥)) (past : Trace) → T (entry ∷ past) ⊎ (T (entry ∷ past) → ⊥) → OfEachPrefix past ⊎ Found past → OfEachPrefix (entry ∷ past) ⊎ Found (entry ∷ past)
  decided_next entry past d (inr f) = inr (longer entry past f)
  decided_next entry past (inl t) (inl h) = inl (t, h)
  decided_next entry past (inr u) (inl h) =
      inr (entry ∷ past, record { prefix = ([], refl); untrue = u; before = λ oldest p. behind p.1.0 p.0 oldest entry past p.1.1 h })

  decided : ((t : Trace) → T t ⊎ (T t → ⊥)) → (trace : Trace) → OfEachPrefix trace ⊎ Found trace
  decided d [] = decided_empty (d [])
  decided d (entry ∷ past) = decided_next entry past (d (entry ∷ past)) (decided d past)

  either_way : {A : Type 0} → Classically (A ⊎ (A → ⊥))
  either_way none = none (inr (λ x. none (inl x)))

  classical : (trace : Trace) → Classically (OfEachPrefix trace ⊎ Found trace)
  classical [] = classically decided_empty either_way
  classical (entry ∷ past) = λ none. classical past (λ r. either_way (λ d. none (decided_next entry past d r)))

  found : (trace : Trace) → (T trace → ⊥) → OfEachPrefix trace ⊎ Found trace → Found trace
  found trace u (inl h) = absurd (u (here_of_each trace h))
  found trace u (inr f) = f

  pub shortest_decided : ((t : Trace) → T t ⊎ (T t → ⊥)) → (trace : Trace) → (T trace → ⊥) → Found trace
  shortest_decided d trace u = found trace u (decided d trace)

  pub shortest_classical : (trace : Trace) → (T trace → ⊥) → Classically (Found trace)
  shortest_classical trace u = classically (found trace u) (classical trace)
