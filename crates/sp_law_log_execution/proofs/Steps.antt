-- A step of a log behind an execution that carries it; and so the steps that a log stands for are an execution.
use Rattle.std.proofs.Common.{◌≡◌, ⊎_elim, ℕ, ◌<◌, Bool, true, false, ◌&&◌, ◌||◌, ◌==◌, List, [], ◌∷◌, ◌++◌, map, length, inl, refl, sym, ap, ◌∙◌, subst, arith}
use Rattle.std.specs.Prelude.{codes}
use Rattle.std.proofs.lemmas.Bool.{and_parts, eqb-true}
use Rattle.sp_spec.specs.Lists.{Member, Distinct, AtPosition}
use Rattle.sp_spec.proofs.Lists.{every_member, every_map, position_below}
use Rattle.sp_spec.specs.Term.{Variable, Ground}
use Rattle.sp_spec.specs.Signature.{Symbol, Equation, IsOver, AreOver}
use Rattle.sp_spec.specs.Equal.{IsNormal, AreNormal}
use Rattle.sp_spec.specs.Rule.{Fact, Facts, fact_at, out_of}
use Rattle.sp_spec.specs.Theory.{Theory, signature_of}
use Rattle.sp_spec.specs.Execution.{Step}
use Rattle.sp_spec.specs.Log.{Source, conclusion, Entry, step, send, learn, Log, public_name, own_name, constructed, by_chain, Concludes, all_fresh_uses, all_sources, HasSources, rule_instance, premise_sources, fresh_names_once, sent_is_learnt, way_of_learning, IsLog, visible_trace}
use Rattle.sp_spec_forms.specs.Forms.{RuleForms, forms_of}
use Rattle.sp_law_equal.specs.RightTheory.{LeavesReserved}
use Rattle.sp_law_log.proofs.Lasting.{holds_in_log}
use Rattle.sp_law_log.proofs.Over.{over_lasts, normal_lasts}
use Rattle.sp_law_log_steps.specs.Execution.{IsExecutionWith}
use Rattle.sp_law_log_steps.proofs.Premises.{labelled_member, AreNotAside}
use Rattle.sp_law_log_steps.proofs.Entries.{Found, found}
use Rattle.sp_law_log_steps.proofs.Stepped.{nothing_run, is_execution, Stepped, stepped}
use Rattle.sp_law_log_execution.specs.Executed.{linking_of, is_taken, executed_entry, executed_by, executed_of}
use Rattle.sp_law_log_execution.specs.Laws.{IsRunnable}
use Rattle.sp_law_log_execution.proofs.Lifted.{known_stays}
use Rattle.sp_law_log_execution.proofs.Kept.{IsOut, out_label, HasOut, out_later, taken_in, Carried}
use Rattle.sp_law_log_execution.proofs.Learning.{learnt_by, sent}

-- what is taken was concluded earlier
taken_below : (theory : Theory) (log : Log) → IsLog theory log → (p k : ℕ) → is_taken log p k ≡ true → p < length log
taken_below theory [] is p k e = absurd cc
taken_below theory (step r facts os ∷ past) is p k e = let l = taken_below theory past is.0 p k e in omega arith
taken_below theory (send m ∷ past) is p k e = let l = taken_below theory past is.0 p k e in omega arith
taken_below theory (learn m public_name ∷ past) is p k e = let l = taken_below theory past is.0 p k e in omega arith
taken_below theory (learn m own_name ∷ past) is p k e = let l = taken_below theory past is.0 p k e in omega arith
taken_below theory (learn m constructed ∷ past) is p k e = let l = taken_below theory past is.0 p k e in omega arith
taken_below theory (learn m (by_chain q j chain) ∷ past) is p k e =
    by_test ((q == p) && (j == k)) (is_taken past p k) refl e (λ old. taken_below theory past is.0 p k old)
  where
    by_test : (here earlier : Bool) → (q == p) && (j == k) ≡ here → here || earlier ≡ true → (earlier ≡ true → p < length past)
        → p < length (learn m (by_chain q j chain) ∷ past)
    by_test true earlier h e below =
        let way = is.1 way_of_learning in
        let position : q ≡ p = eqb-true q p (and_parts (q == p) (j == k) h).0 in
        let l = position_below past q (step way.0 way.1 way.2) way.3 in
        omega arith
    by_test false earlier h e below = let l = below e in omega arith

module _ (theory : Theory) (good : IsRunnable theory) where
  abbrev es : List Equation
  es = (signature_of theory).equations

  abbrev rules : List RuleForms
  rules = map (forms_of es) theory.rules

  abbrev symbols : List Symbol
  symbols = (signature_of theory).symbols

  -- no premise of a step is an Out
  no_outs : (r : List ℕ) (facts : Facts ⊥) → Found theory good.executable r facts → AreNotAside IsOut facts.premises
  no_outs r facts i =
      let rule = i.is_instance.0 in
      let reserved = every_member LeavesReserved theory.rules rule i.is_instance.1 good.reserved in
      let same : i.actual.premises ≡ map (fact_at i.values) rule.facts.premises = ap (λ (f : Facts ⊥). f.premises) i.is_instance.4 in
      subst (AreNotAside IsOut) (sym same ∙ i.premises)
      (every_map (λ (f : Fact Variable). Member f.symbol (codes "Out" ∷ codes "K" ∷ []) → ⊥) (λ (f : Fact ⊥). IsOut f → ⊥) (fact_at i.values)
      (λ f h e. h (inl (sym e))) rule.facts.premises reserved.premises)

  module _ (past : Log) (is : IsLog theory past) (steps : List Step) (old : Carried theory (taken_in past) past (all_fresh_uses past) steps)
      (r : List ℕ) (facts : Facts ⊥) (os : List Source) (i : Found theory good.executable r facts)
      (sources : HasSources facts.premises os past) (fresh_once : Distinct (all_fresh_uses (step r facts os ∷ past)))
      (sources_once : Distinct (all_sources (step r facts os ∷ past))) where
    abbrev others : AreNotAside IsOut facts.premises
    others = no_outs r facts i

    abbrev next : Stepped theory good.executable past r facts os old.run i sources fresh_once sources_once IsOut others old.has.others
    next = stepped theory good.executable past r facts os old.run i sources fresh_once sources_once IsOut others old.has.others

    -- no premise takes an Out
    old_out : (p k : ℕ) (e : Entry) (t : Ground) → AtPosition past p e → Concludes e k (out_of t)
        → HasOut theory (is_taken past p k) next.run.state next.run.actual (conclusion p k) t
    old_out p k e t at con =
        out_later theory old.run.actual next.run.actual next.persists old.run.state next.run.state (conclusion p k) t (is_taken past p k)
        (λ m. next.keeps (out_label (conclusion p k) t) m
        (λ linear q.
        every_member (λ (f : Fact ⊥). IsOut f → ⊥) facts.premises (out_of t) (labelled_member (conclusion p k) (out_of t) facts.premises os q) others refl))
        (old.has.outs p k e t at con)

    -- what the step puts out isn't taken yet
    new_out : (p k : ℕ) (t : Ground) → p ≡ length past → Member (out_label (conclusion p k) t) next.run.state → (b : Bool) → is_taken past p k ≡ b
        → HasOut theory b next.run.state next.run.actual (conclusion p k) t
    new_out p k t here m true e = let l = taken_below theory past is p k e in absurd (omega arith)
    new_out p k t here m false e = m

    carried_step : Carried theory (taken_in (step r facts os ∷ past)) (step r facts os ∷ past) (all_fresh_uses (step r facts os ∷ past))
        (executed_entry es rules (linking_of (signature_of theory)) past (step r facts os) ++ steps)
    carried_step = record {
      run = next.run;
      steps_are = next.steps_are ∙ ap (λ (xs : List Step). executed_entry es rules (linking_of (signature_of theory)) past (step r facts os) ++ xs) old.steps_are;
      has = record {
        others = next.has_others;
        outs = λ p k e t at con.
            ⊎_elim (λ here. new_out p k t here.0 (next.has_new p k e (out_of t) here.0 here.1 con) (is_taken past p k) refl)
            (λ earlier. old_out p k e t earlier con) at;
        learnt = λ m l.
            ⊎_elim (λ here. let wrong = here.1 in absurd cc)
            (λ earlier. known_stays theory old.run.actual next.run.actual next.persists m (old.has.learnt m (l.0, (l.1.0, earlier)))) l.1.1;
      };
    }

  carried : (log : Log) → IsLog theory log → Carried theory (taken_in log) log (all_fresh_uses log) (executed_by es rules (linking_of (signature_of theory)) log)
  carried [] is = record {
    run = nothing_run theory;
    steps_are = refl;
    has = record {
      others = record { there = λ p k e f at con other free. absurd at };
      outs = λ p k e t at con. absurd at;
      learnt = λ m l. absurd l.1.1;
    };
  }
  carried (step r facts os ∷ past) is =
      let s = is.1 premise_sources in
      carried_step past is.0 (executed_by es rules (linking_of (signature_of theory)) past) (carried past is.0) r facts os
      (found theory good.executable r facts (is.1 rule_instance)) s.0 (is.1 fresh_names_once) s.1
  carried (send m ∷ past) is =
      let normal = holds_in_log theory (IsNormal es) (AreNormal es) (normal_lasts theory) (send m ∷ past) is in
      sent theory past (executed_by es rules (linking_of (signature_of theory)) past) (carried past is.0) m (is.1 sent_is_learnt)
      (normal.messages (length past) (send m) (inl (refl, refl))).0
  carried (learn m how ∷ past) is =
      let over = holds_in_log theory (IsOver symbols) (AreOver symbols) (over_lasts theory good.executable.instances) past is.0 in
      learnt_by theory past (executed_by es rules (linking_of (signature_of theory)) past) (carried past is.0) over m how (is.1 way_of_learning) (is.1 fresh_names_once)

  pub log_runs : (log : Log) → IsLog theory log → IsExecutionWith theory (executed_of theory log) (visible_trace log)
  log_runs log is =
      let c = carried log is in
      subst (λ (steps : List Step). IsExecutionWith theory steps (visible_trace log)) c.steps_are
      (is_execution theory (visible_trace log) (all_fresh_uses log) c.run)
