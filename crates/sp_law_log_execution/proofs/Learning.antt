-- The entries of the adversary's: what is learnt, in each way, and what is sent.
use Rattle.std.proofs.Common.{◌≡◌, ⊎_elim, ℕ, zero, if◌then◌else◌, List, [], ◌∷◌, ◌++◌, length, inl, inr, refl, sym, ap, ◌∙◌, subst, append_assoc}
use Rattle.std.specs.Prelude.{codes}
use Rattle.sp_spec.specs.Lists.{Distinct, AtPlace, AtPosition}
use Rattle.sp_spec.specs.Term.{constant, none, more, Ground}
use Rattle.sp_spec.specs.Signature.{Signature, Equation, IsOver, AreOver}
use Rattle.sp_spec.specs.Equal.{IsNormal}
use Rattle.sp_spec.specs.Rule.{Fact, Facts, in_of, out_of, knows, sends}
use Rattle.sp_spec.specs.Theory.{Theory, signature_of}
use Rattle.sp_spec.specs.Execution.{Step, take_out, put_in, with_entry, Leads}
use Rattle.sp_spec.specs.Log.{Entry, step, send, learn, Log, How, public_name, own_name, constructed, by_chain, Concludes, IsLearnt, IsChain, MayLearn, fresh_uses, all_fresh_uses, visible_trace}
use Rattle.sp_law_equal.proofs.Chains.{same_fact_refl}
use Rattle.sp_law_equal.proofs.Forms.{normal_of_normal}
use Rattle.sp_law_equal.proofs.Pairs.{names_apart}
use Rattle.sp_law_log.specs.Laws.{HoldsInLog}
use Rattle.sp_law_log.proofs.Places.{every_place}
use Rattle.sp_law_log_steps.proofs.FreshRuns.{state_of}
use Rattle.sp_law_log_steps.proofs.Stepped.{concluded_label, entry_normal}
use Rattle.sp_law_log_execution.specs.Executed.{linking_of, is_taken, messages_learnt, chain_steps, making, learning}
use Rattle.sp_law_log_execution.proofs.Lifted.{IsKnownIn, takes_known}
use Rattle.sp_law_log_execution.proofs.Links.{learnt_of, has_learnt, reaches_chain}
use Rattle.sp_law_log_execution.proofs.Kept.{Taken, taken_in, and_taken, Carried, WithKnown, has_later}
use Rattle.sp_law_log_execution.proofs.Knowing.{public_known, own_known, reached, constructed_known, out_known}

module _ (theory : Theory) (past : Log) where
  abbrev signature : Signature
  signature = signature_of theory

  abbrev es : List Equation
  es = signature.equations

  -- a message that is known is learnt
  carried_learn : (taken : Taken) (m : Ground) (how : How) (steps : List Step)
      → WithKnown theory taken past (fresh_uses (learn m how) ++ all_fresh_uses past) steps m
      → Carried theory taken (learn m how ∷ past) (all_fresh_uses (learn m how ∷ past)) steps
  carried_learn taken m how steps c = record {
    run = c.carried.run;
    steps_are = c.carried.steps_are;
    has = record {
      others = record {
        there = λ p k e f at con other free.
            ⊎_elim (λ here. absurd (subst (λ (x : Entry). Concludes x k f) (sym here.1) con))
            (λ earlier. c.carried.has.others.there p k e f earlier con other free) at;
      };
      outs = λ p k e t at con.
          ⊎_elim (λ here. absurd (subst (λ (x : Entry). Concludes x k (out_of t)) (sym here.1) con)) (λ earlier. c.carried.has.outs p k e t earlier con) at;
      learnt = λ n l.
          ⊎_elim (λ here. subst (λ (t : Ground). IsKnownIn theory c.carried.run.actual t) (ap learnt_of here.1) c.known)
          (λ earlier. c.carried.has.learnt n (l.0, (l.1.0, earlier))) l.1.1;
    };
  }

  module _ (steps : List Step) (c : Carried theory (taken_in past) past (all_fresh_uses past) steps) where
    -- along the chain from what was put out, which is taken if it wasn't yet
    chain_known : (p k : ℕ) (e : Entry) (t : Ground) → IsOver signature.symbols t → AtPosition past p e → Concludes e k (out_of t)
        → (chain : List Ground) (m : Ground) → IsChain signature past t chain m
        → WithKnown theory (and_taken (taken_in past) p k) past (all_fresh_uses past)
        ((chain_steps (linking_of signature) (messages_learnt past) t chain ++ (if is_taken past p k then [] else take_out t ∷ [])) ++ steps) m
    chain_known p k e t over at con chain m h =
        let first = if is_taken past p k then [] else take_out t ∷ [] in
        let links = chain_steps (linking_of signature) (messages_learnt past) t chain in
        let taken = and_taken (taken_in past) p k in
        let w = out_known theory past (taken_in past) steps c p k e t over at con in
        let d = w.carried in
        let r = reaches_chain theory d.run.made (messages_learnt past) past (has_learnt past) d.run.actual t chain m
        (λ n l. d.has.learnt n ((has_learnt past n).0 l)) w.known h in
        subst (λ (xs : List Step). WithKnown theory taken past (all_fresh_uses past) xs m) (sym (append_assoc links first steps))
        (reached theory past taken (first ++ steps) d m links r)

    pub learnt_by : HoldsInLog theory past (IsOver signature.symbols) (AreOver signature.symbols) → (m : Ground) (how : How)
        → MayLearn signature past m how → Distinct (all_fresh_uses (learn m how ∷ past))
        → Carried theory (taken_in (learn m how ∷ past)) (learn m how ∷ past) (all_fresh_uses (learn m how ∷ past)) (learning (linking_of signature) past m how ++ steps)
    learnt_by over m public_name may once = carried_learn (taken_in past) m public_name _ (public_known theory past (taken_in past) steps c m may)
    learnt_by over m own_name may once = carried_learn (taken_in past) m own_name _ (own_known theory past (taken_in past) steps c m may once.0)
    learnt_by over m constructed may once =
        carried_learn (taken_in past) m constructed (making m ++ steps)
        (subst (λ (t : Ground). WithKnown theory (taken_in past) past (all_fresh_uses past) (making t ++ steps) t) (sym may.2)
        (constructed_known theory past (taken_in past) steps c may.0 may.1 may.3 may.4))
    learnt_by over m (by_chain p k []) may once = absurd may.6
    learnt_by over m (by_chain p k (t ∷ chain)) may once =
        let facts = may.1 in
        let con : AtPlace facts.conclusions k (out_of t) = subst (λ (u : Ground). AtPlace facts.conclusions k (out_of u)) (sym may.6.0) may.5 in
        let put_out =
        every_place (λ (f : Fact ⊥). AreOver signature.symbols f.args) facts.conclusions k (out_of t) con (over.facts p may.0 facts may.2 may.3).conclusions in
        carried_learn (and_taken (taken_in past) p k) m (by_chain p k (t ∷ chain)) (learning (linking_of signature) past m (by_chain p k (t ∷ chain)) ++ steps)
        (chain_known p k (step may.0 facts may.2) t put_out.0 may.3 con chain m may.6.1)

    -- an In is no Out
    sends_no_out : (m : Ground) (k : ℕ) (e : Entry) (t : Ground) → send m ≡ e → Concludes e k (out_of t) → ⊥
    sends_no_out m k e t same con =
        let is = subst (λ (x : Entry). Concludes x k (out_of t)) (sym same) con in
        names_apart (codes "Out") (codes "In") refl (ap (λ (f : Fact ⊥). f.symbol) is.1)

    -- a learnt message is put in
    pub sent : (m : Ground) → IsLearnt past m → IsNormal es m
        → Carried theory (taken_in (send m ∷ past)) (send m ∷ past) (all_fresh_uses (send m ∷ past)) (put_in m ∷ steps)
    sent m learnt normal =
        let label = concluded_label (length past) (in_of m) zero in
        let state = label ∷ c.run.state in
        let actual = in_of m ∷ c.run.actual in
        let facts : Facts ⊥ = record { premises = knows m ∷ []; actions = sends m ∷ []; conclusions = in_of m ∷ [] } in
        let known = c.has.learnt m learnt in
        let leads : Leads theory (put_in m) facts (state_of c.run.actual c.run.made) (state_of actual c.run.made) = record {
          values = λ x. constant [];
          rest = c.run.actual;
          named = tt;
          is_instance = refl;
          takes = takes_known theory c.run.actual (more m none) (known, tt);
          is_new = tt;
          sorts = (tt, known.0);
          adds = refl;
        } in
        let old = has_later theory (taken_in past) past c.run.actual actual (λ g n p. inr n) c.run.state state (λ y n. inr n) c.has in
        record {
          run = record {
            steps = put_in m ∷ c.run.steps;
            state = state;
            actual = actual;
            alike = (same_fact_refl es (in_of m), c.run.alike);
            made = c.run.made;
            trace = with_entry (sends m ∷ []) c.run.trace;
            shown =
                entry_normal es (sends m ∷ []) (sends m ∷ []) c.run.trace (visible_trace past)
                (ap (λ (t : Ground). sends t ∷ []) (normal_of_normal es m normal)) c.run.shown;
            runs = (state_of c.run.actual c.run.made, c.run.trace, facts, c.run.runs, leads, refl);
            used = c.run.used;
          };
          steps_are = ap (λ (xs : List Step). put_in m ∷ xs) c.steps_are;
          has = record {
            others = record {
              there = λ p k e f at con other free.
                  ⊎_elim (λ here.
                  let is = subst (λ (x : Entry). Concludes x k f) (sym here.1) con in
                  inl
                  (ap (λ q. concluded_label q (in_of m) zero) (sym here.0) ∙ ap (λ j. concluded_label p (in_of m) j) (sym is.0)
                  ∙ ap (λ (g : Fact ⊥). concluded_label p g k) (sym is.1)))
                  (λ earlier. old.others.there p k e f earlier con other free) at;
            };
            outs = λ p k e t at con. ⊎_elim (λ here. absurd (sends_no_out m k e t here.1 con)) (λ earlier. old.outs p k e t earlier con) at;
            learnt = λ n l. ⊎_elim (λ here. let wrong = here.1 in absurd cc) (λ earlier. old.learnt n (l.0, (l.1.0, earlier))) l.1.1;
          };
        }
