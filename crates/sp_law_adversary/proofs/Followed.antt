-- What is kept along an execution, and what keeps it.
use Rattle.std.proofs.Common.{◌≡◌, ◌⊎◌, ⊎_elim, inl, inr, ℕ, zero, suc, ◌<◌, List, [], ◌∷◌, ◌++◌, length, refl, sym, ap, ◌∙◌, subst, arith}
use Rattle.std.specs.Prelude.{codes}
use Rattle.sp_spec.specs.Lists.{Member, Distinct, AtPosition}
use Rattle.sp_spec.specs.Term.{name, Ground}
use Rattle.sp_spec.specs.Signature.{Equation}
use Rattle.sp_spec.specs.Rule.{Fact, fr, in_of, knows, sends}
use Rattle.sp_spec.specs.Theory.{Theory, signature_of}
use Rattle.sp_spec.specs.Execution.{Trace, with_entry}
use Rattle.sp_spec.specs.Log.{Source, fresh_rule, conclusion, own_name, Entry, send, learn, Log, fresh_of, all_fresh_uses, linear_sources, all_sources, Concludes, visible_trace, IsLearnt, Clause, rule_instance, premise_sources, fresh_names_once, sent_is_learnt, learnt_once, way_of_learning, made_alone, chain_is_new, Keeps, IsLog}
use Rattle.sp_spec.proofs.Lists.{distinct_right}
use Rattle.sp_spec.proofs.Logs.{log_fresh}
use Rattle.sp_law_equal.specs.Normal.{normal, normal_fact}
use Rattle.sp_law_equal.specs.Pointwise.{EachWith}
use Rattle.sp_law_equal.proofs.Pairs.{names_apart}
use Rattle.sp_law_log.proofs.Rearranged.{Covers, covers_distinct, covers_rest, covers_used}
use Rattle.sp_law_log.proofs.Below.{IsBelow, below_later}
use Rattle.sp_law_adversary.specs.Held.{Grows}
use Rattle.sp_law_run.specs.NormalStep.{normal_trace}
use Rattle.sp_law_adversary.proofs.Held.{position_later, learnt_later}
use Rattle.sp_law_adversary.proofs.Grown.{grows_keep, grows_sources, grows_fresh, grows_visible, log_own}
use Rattle.sp_law_log.proofs.Taking.{Taken}

-- What is known is learnt in normal form, and a fresh name has no source in the log. Any other fact is, in normal form, a conclusion there.
abbrev pub HasOrigin : List Equation → Log → Fact ⊥ → Source → Type 0
HasOrigin es log f fresh_rule = ((t : Ground) × (f ≡ knows t) × IsLearnt log (normal es t)) ⊎ ((n : ℕ) × (f ≡ fr (name n)))
HasOrigin es log f (conclusion p k) =
    (f.symbol ≡ codes "Fr" → ⊥) × (f.symbol ≡ codes "K" → ⊥) × ((e : Entry) × AtPosition log p e × Concludes e k (normal_fact es f))

module _ (es : List Equation) where
  pub origin_later : (new : List Entry) (log : Log) (f : Fact ⊥) (o : Source) → HasOrigin es log f o → HasOrigin es (new ++ log) f o
  origin_later new log f fresh_rule (inl h) = inl (h.0, h.1, learnt_later new log (normal es h.0) h.2)
  origin_later new log f fresh_rule (inr h) = inr h
  origin_later new log f (conclusion p k) h = (h.0, h.1, (h.2.0, position_later new log p h.2.0 h.2.1, h.2.2))

  pub origins_later : (new : List Entry) (log : Log) (fs : List (Fact ⊥)) (os : List Source) → EachWith (HasOrigin es log) fs os
      → EachWith (HasOrigin es (new ++ log)) fs os
  origins_later new log [] [] h = tt
  origins_later new log [] (o ∷ os) h = absurd h
  origins_later new log (f ∷ fs) [] h = absurd h
  origins_later new log (f ∷ fs) (o ∷ os) h = (origin_later new log f o h.0, origins_later new log fs os h.1)

below_grown : (new : List Entry) (log : Log) (o : Source) → IsBelow (length log) o → IsBelow (length (new ++ log)) o
below_grown [] log o h = h
below_grown (e ∷ new) log o h = below_later (length (new ++ log)) o (below_grown new log o h)

module _ (theory : Theory) where
  -- Each fact has its origin, no linear source or fresh name of the state or of the log is there twice, and the log shows the trace.
  pub record Followed (facts : List (Fact ⊥)) (origins : List Source) (made : List Ground) (trace : Trace) (log : Log) : Type 0 where
    pub have_origins : EachWith (HasOrigin (signature_of theory).equations log) facts origins
    pub sources_once : Distinct (linear_sources facts origins ++ all_sources log)
    pub sources_below : (o : Source) → Member o (linear_sources facts origins ++ all_sources log) → IsBelow (length log) o
    pub fresh_once : Distinct (fresh_of facts ++ all_fresh_uses log)
    pub fresh_made : (t : Ground) → Member t (fresh_of facts ++ all_fresh_uses log) → Member t made
    pub is_log : IsLog theory log
    pub shows : visible_trace log ≡ normal_trace (signature_of theory).equations trace

  -- what is sent keeps each clause where it is learnt
  send_keeps : (log : Log) (m : Ground) → IsLearnt log m → Distinct (all_fresh_uses log) → (clause : Clause) → Keeps theory clause (send m) log
  send_keeps log m h names rule_instance = tt
  send_keeps log m h names premise_sources = tt
  send_keeps log m h names fresh_names_once = names
  send_keeps log m h names sent_is_learnt = h
  send_keeps log m h names learnt_once = tt
  send_keeps log m h names way_of_learning = tt
  send_keeps log m h names made_alone = tt
  send_keeps log m h names chain_is_new = tt

  module _ (facts : List (Fact ⊥)) (origins : List Source) (made : List Ground) (trace : Trace) (log : Log) (old : Followed facts origins made trace log) where
    -- more is learnt
    pub followed_grows : (later : Log) → Grows theory log later → Followed facts origins made trace later
    followed_grows later g = record {
      have_origins =
          grows_keep theory (λ (x : Log). EachWith (HasOrigin (signature_of theory).equations x) facts origins)
          (λ new x h. origins_later (signature_of theory).equations new x facts origins h) log later g old.have_origins;
      sources_once = subst (λ (xs : List Source). Distinct (linear_sources facts origins ++ xs)) (sym (grows_sources theory log later g)) old.sources_once;
      sources_below = λ o m.
          grows_keep theory (λ (x : Log). IsBelow (length x) o) (λ new x h. below_grown new x o h) log later g
          (old.sources_below o (subst (λ (xs : List Source). Member o (linear_sources facts origins ++ xs)) (grows_sources theory log later g) m));
      fresh_once = subst (λ (xs : List Ground). Distinct (fresh_of facts ++ xs)) (sym (grows_fresh theory log later g)) old.fresh_once;
      fresh_made = λ t m. old.fresh_made t (subst (λ (xs : List Ground). Member t (fresh_of facts ++ xs)) (grows_fresh theory log later g) m);
      is_log = g.is_log;
      shows = grows_visible theory log later g ∙ old.shows;
    }

    -- what is learnt is known
    pub followed_knows : (t : Ground) → IsLearnt log (normal (signature_of theory).equations t)
        → Followed (knows t ∷ facts) (fresh_rule ∷ origins) made trace log
    followed_knows t h = record {
      have_origins = (inl (t, refl, h), old.have_origins);
      sources_once = old.sources_once;
      sources_below = old.sources_below;
      fresh_once = old.fresh_once;
      fresh_made = old.fresh_made;
      is_log = old.is_log;
      shows = old.shows;
    }

    pub followed_fresh : (n : ℕ) → (Member (name n) made → ⊥) → Followed (fr (name n) ∷ facts) (fresh_rule ∷ origins) (name n ∷ made) trace log
    followed_fresh n new = record {
      have_origins = (inr (n, refl), old.have_origins);
      sources_once = old.sources_once;
      sources_below = old.sources_below;
      fresh_once = ((λ m. new (old.fresh_made (name n) m)), old.fresh_once);
      fresh_made = λ t m. ⊎_elim (λ e. inl e) (λ k. inr (old.fresh_made t k)) m;
      is_log = old.is_log;
      shows = old.shows;
    }

    -- what is learnt is sent
    pub followed_send : (t : Ground) → IsLearnt log (normal (signature_of theory).equations t)
        → Followed (in_of t ∷ facts) (conclusion (length log) zero ∷ origins) made (with_entry (sends t ∷ []) trace)
        (send (normal (signature_of theory).equations t) ∷ log)
    followed_send t h =
        let m = normal (signature_of theory).equations t in
        let later : Log = send m ∷ log in
        record {
          have_origins = (
            (names_apart (codes "In") (codes "Fr") refl, names_apart (codes "In") (codes "K") refl, (send m, inl (refl, refl), (refl, refl))),
            origins_later (signature_of theory).equations (send m ∷ []) log facts origins old.have_origins,
          );
          sources_once = ((λ k. not_below (length log) (old.sources_below (conclusion (length log) zero) k)), old.sources_once);
          sources_below = λ o k.
              ⊎_elim (λ e. subst (λ (x : Source). IsBelow (suc (length log)) x) e (below_next (length log)))
              (λ n. below_later (length log) o (old.sources_below o n)) k;
          fresh_once = old.fresh_once;
          fresh_made = old.fresh_made;
          is_log = (old.is_log, send_keeps log m h (log_fresh theory log old.is_log));
          shows = ap (λ (x : Trace). (sends m ∷ []) ∷ x) old.shows;
        }
      where
        not_below : (n : ℕ) → n < n → ⊥
        not_below n l = omega arith

        below_next : (n : ℕ) → n < suc n
        below_next n = omega arith

    module _ (taken_facts rest : List (Fact ⊥))
        (t : Taken (signature_of theory).equations (HasOrigin (signature_of theory).equations log) taken_facts facts origins rest) where
      -- facts are taken away
      pub followed_rest : Followed rest t.left made trace log
      followed_rest =
          let covers_sources =
          covers_rest (linear_sources facts origins) (linear_sources t.founds t.sources) (linear_sources rest t.left) (all_sources log) t.linear in
          let covers_fresh = covers_rest (fresh_of facts) (fresh_of t.founds) (fresh_of rest) (all_fresh_uses log) t.fresh in
          record {
            have_origins = t.have_left;
            sources_once = covers_distinct _ _ covers_sources old.sources_once;
            sources_below = λ o m. old.sources_below o (covers_sources.members o m);
            fresh_once = covers_distinct _ _ covers_fresh old.fresh_once;
            fresh_made = λ n m. old.fresh_made n (covers_fresh.members n m);
            is_log = old.is_log;
            shows = old.shows;
          }

      -- a fresh name is taken for the adversary's own
      pub followed_own : (n : ℕ) → fresh_of t.founds ≡ name n ∷ [] → (IsLearnt log (name n) → ⊥)
          → Followed rest t.left made trace (learn (name n) own_name ∷ log)
      followed_own n is new =
          let covers_sources =
          covers_rest (linear_sources facts origins) (linear_sources t.founds t.sources) (linear_sources rest t.left) (all_sources log) t.linear in
          let covers_fresh : Covers (fresh_of facts ++ all_fresh_uses log) (fresh_of rest ++ (name n ∷ all_fresh_uses log)) =
          subst (λ (xs : List Ground). Covers (fresh_of facts ++ all_fresh_uses log) (fresh_of rest ++ (xs ++ all_fresh_uses log))) is
          (covers_used (fresh_of facts) (fresh_of t.founds) (fresh_of rest) (all_fresh_uses log) t.fresh) in
          let once = covers_distinct _ _ covers_fresh old.fresh_once in
          let apart = distinct_right (fresh_of rest) (name n ∷ all_fresh_uses log) once in
          record {
            have_origins = origins_later (signature_of theory).equations (learn (name n) own_name ∷ []) log rest t.left t.have_left;
            sources_once = covers_distinct _ _ covers_sources old.sources_once;
            sources_below = λ o m. below_later (length log) o (old.sources_below o (covers_sources.members o m));
            fresh_once = once;
            fresh_made = λ u m. old.fresh_made u (covers_fresh.members u m);
            is_log = log_own theory log (name n) old.is_log apart.0 new tt;
            shows = old.shows;
          }
