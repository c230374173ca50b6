-- An execution that shows what a log shows, and a step behind it: its fresh names are made, and then its rule is used.
use Rattle.std.proofs.Common.{◌≡◌, ⊎_elim, ℕ, zero, suc, ◌+◌, true, false, List, [], ◌∷◌, ◌++◌, map, length, unwrap_or, inl, inr, refl, sym, ap, ap₂, ◌∙◌, subst, arith}
use Rattle.sp_spec.specs.Lists.{Member, Distinct, AtPlace, AtPosition}
use Rattle.sp_spec.proofs.Lists.{member_left, member_right, distinct_apart, distinct_left}
use Rattle.sp_spec.specs.Term.{Ground}
use Rattle.sp_spec.specs.Signature.{Equation}
use Rattle.sp_spec.specs.Rule.{Fact, Action, Facts}
use Rattle.sp_spec.specs.Theory.{Theory, signature_of}
use Rattle.sp_spec.specs.Execution.{Step, use_rule, Trace, with_entry, Takes, Leads, Runs}
use Rattle.sp_spec.specs.Log.{Source, conclusion, Entry, step, Log, Concludes, fresh_of, all_fresh_uses, linear_sources, all_sources, HasSources, visible_trace}
use Rattle.sp_law_equal.specs.Normal.{normal_fact, normal_action}
use Rattle.sp_law_equal.proofs.Forms.{to_normal_all}
use Rattle.sp_law_run.specs.NormalStep.{normal_trace}
use Rattle.sp_spec_forms.specs.Forms.{forms_of}
use Rattle.sp_law_run.proofs.Taking.{map_append}
use Rattle.sp_law_log_steps.specs.Found.{given_by, fresh_steps, entry_steps}
use Rattle.sp_law_log_steps.specs.Execution.{IsExecutionWith}
use Rattle.sp_law_log_steps.specs.Executable.{IsExecutable}
use Rattle.sp_law_log_steps.proofs.Alike.{persistent_stays, AreAlike, alike_append, takes_alike}
use Rattle.sp_law_log_steps.proofs.Entries.{Found}
use Rattle.sp_law_log_steps.proofs.Labels.{Labelled, facts_in, labelled, labelled_facts, Taking, take_all}
use Rattle.sp_law_log_steps.proofs.Premises.{AreNotAside, fresh_sorts, linear_member, premises_apart, HasConclusions, premises_there}
use Rattle.sp_law_log_steps.proofs.FreshRuns.{made_keeps, state_of, with_fresh, with_made_facts, with_made, fresh_keeps, fresh_there, fresh_alike, made_either, run_fresh}

-- the conclusions of the entry at position p, from the k-th on
abbrev concluded : ℕ → ℕ → List (Fact ⊥) → List Labelled
concluded p k [] = []
concluded p k (f ∷ fs) = (conclusion p k, f) ∷ concluded p (suc k) fs

concluded_facts : (p k : ℕ) (fs : List (Fact ⊥)) → facts_in (concluded p k fs) ≡ fs
concluded_facts p k [] = refl
concluded_facts p k (f ∷ fs) = ap (λ gs. f ∷ gs) (concluded_facts p (suc k) fs)

abbrev pub concluded_label : ℕ → Fact ⊥ → ℕ → Labelled
concluded_label p f k = (conclusion p k, f)

concluded_there : (p k : ℕ) (fs : List (Fact ⊥)) (j n : ℕ) (f : Fact ⊥) → n ≡ k + j → AtPlace fs j f → Member (concluded_label p f n) (concluded p k fs)
concluded_there p k [] j n f e at = absurd at
concluded_there p k (g ∷ fs) zero n f e at =
    let number : k ≡ n = omega (arith, e) in
    inl (ap (λ (h : Fact ⊥). concluded_label p h k) at ∙ ap (concluded_label p f) number)
concluded_there p k (g ∷ fs) (suc j) n f e at = let number : n ≡ suc k + j = omega (arith, e) in inr (concluded_there p (suc k) fs j n f number at)

-- ---- traces

-- an entry's actions in normal form, on a trace
pub entry_normal : (es : List Equation) (actions shown : List (Action ⊥)) (earlier before : Trace) → map (normal_action es) actions ≡ shown
    → normal_trace es earlier ≡ before → normal_trace es (with_entry actions earlier) ≡ with_entry shown before
entry_normal es [] [] earlier before same old = old
entry_normal es [] (b ∷ shown) earlier before same old = absurd cc
entry_normal es (a ∷ actions) [] earlier before same old = absurd cc
entry_normal es (a ∷ actions) (b ∷ shown) earlier before same old = ap₂ (λ (x : List (Action ⊥)) (xs : Trace). x ∷ xs) same old

-- facts are the same as their normal forms
alike_normal : (es : List Equation) (fs : List (Fact ⊥)) → AreAlike es fs (map (normal_fact es) fs)
alike_normal es [] = tt
alike_normal es (f ∷ fs) = ((refl, refl, to_normal_all es f.args), alike_normal es fs)

module _ (theory : Theory) where
  abbrev es : List Equation
  es = (signature_of theory).equations

  -- An execution whose trace has this normal form. The facts of its state are, modulo the equations, those of a state with sources, and the names that
  -- were made are among these.
  pub record RunShowing (normal : Trace) (uses : List Ground) : Type 0 where
    pub steps : List Step
    pub state : List Labelled
    pub actual : List (Fact ⊥)
    pub alike : AreAlike es actual (facts_in state)
    pub made : List Ground
    pub trace : Trace
    pub shown : normal_trace es trace ≡ normal
    pub runs : Runs theory steps (state_of actual made) trace
    pub used : (t : Ground) → Member t made → Member t uses

  abbrev pub nothing_run : RunShowing [] []
  nothing_run = record { steps = []; state = []; actual = []; alike = tt; made = []; trace = []; shown = refl; runs = (refl, refl); used = λ t m. m }

  pub is_execution : (normal : Trace) (uses : List Ground) (run : RunShowing normal uses) → IsExecutionWith theory run.steps normal
  is_execution normal uses run = record { trace = run.trace; executed = (state_of run.actual run.made, run.runs); is = run.shown }

  -- a step behind an execution whose state has the conclusions of the log so far, where none of the premises is left aside
  module _ (good : IsExecutable theory) (past : Log) (r : List ℕ) (facts : Facts ⊥) (os : List Source)
      (old : RunShowing (visible_trace past) (all_fresh_uses past)) (i : Found theory good r facts) (sources : HasSources facts.premises os past)
      (fresh_once : Distinct (all_fresh_uses (step r facts os ∷ past))) (sources_once : Distinct (all_sources (step r facts os ∷ past)))
      (IsAside : Fact ⊥ → Type 0) (others : AreNotAside IsAside facts.premises) (has : HasConclusions IsAside past old.state) where
    abbrev pub names : List Ground
    names = fresh_of facts.premises

    abbrev named : List Source
    named = linear_sources facts.premises os

    abbrev state_before : List Labelled
    state_before = with_fresh names old.state

    abbrev actual_before : List (Fact ⊥)
    actual_before = with_made_facts names old.actual

    abbrev made_after : List Ground
    made_after = with_made names old.made

    has_before : HasConclusions IsAside past state_before
    has_before = record { there = λ p k e f at con other free. fresh_keeps names old.state (conclusion p k, f) (has.there p k e f at con other free) }

    runs_before : Runs theory (fresh_steps names ++ old.steps) (state_of actual_before made_after) old.trace
    runs_before =
        run_fresh theory names old.steps old.actual old.made old.trace old.runs (fresh_sorts facts.premises i.fresh)
        (distinct_left names (all_fresh_uses past) fresh_once)
        (λ t m k. distinct_apart t names (all_fresh_uses past) fresh_once m (old.used t k))

    taking : Taking es (labelled facts.premises os) state_before
    taking =
        take_all es (labelled facts.premises os) state_before
        (premises_apart past facts.premises os sources i.fresh (distinct_left named (all_sources past) sources_once)
        (distinct_left names (all_fresh_uses past) fresh_once))
        (premises_there IsAside past facts.premises os state_before sources i.fresh others has_before
        (λ o m k. distinct_apart o named (all_sources past) sources_once m k)
        (λ t m. fresh_there names old.state t m))

    abbrev new : List Labelled
    new = concluded (length past) zero facts.conclusions

    abbrev state_after : List Labelled
    state_after = new ++ taking.left

    -- so the premises can be taken from the state itself
    takes : (left : List (Fact ⊥)) × Takes es i.actual.premises actual_before left × AreAlike es left (facts_in taking.left)
    takes =
        let there : Takes es i.actual.premises (facts_in state_before) (facts_in taking.left) =
        subst (λ (fs : List (Fact ⊥)). Takes es fs (facts_in state_before) (facts_in taking.left)) (labelled_facts past facts.premises os sources ∙ sym i.premises)
        taking.takes in
        takes_alike es i.actual.premises actual_before (facts_in state_before) (facts_in taking.left)
        (fresh_alike es names old.actual old.state old.alike) there

    abbrev actual_after : List (Fact ⊥)
    actual_after = i.actual.conclusions ++ takes.0

    alike_after : AreAlike es actual_after (facts_in state_after)
    alike_after =
        let same : facts.conclusions ++ facts_in taking.left ≡ facts_in state_after =
        ap (λ (fs : List (Fact ⊥)). fs ++ facts_in taking.left) (sym (concluded_facts (length past) zero facts.conclusions))
        ∙ sym (map_append (λ (x : Labelled). x.1) new taking.left) in
        let conclusions : AreAlike es i.actual.conclusions facts.conclusions =
        subst (λ (f : Facts ⊥). AreAlike es i.actual.conclusions f.conclusions) i.normal (alike_normal es i.actual.conclusions) in
        subst (AreAlike es actual_after) same (alike_append es i.actual.conclusions facts.conclusions takes.0 (facts_in taking.left) conclusions takes.2)

    leads : Leads theory (use_rule r (unwrap_or (given_by es (map (forms_of es) theory.rules) r facts) [])) i.actual (state_of actual_before made_after)
        (state_of actual_after made_after)
    leads = record {
      values = i.values;
      rest = takes.0;
      named = (i.is_instance.0, i.is_instance.1, i.is_instance.2);
      is_instance = i.is_instance;
      takes = takes.1;
      is_new = tt;
      sorts = i.valuation;
      adds = refl;
    }

    -- what isn't one of the linear premises stays
    stays : (y : Labelled) → Member y old.state → (y.1.persistent ≡ false → Member y (labelled facts.premises os) → ⊥) → Member y state_after
    stays y m free = member_right y new taking.left (taking.keeps y (fresh_keeps names old.state y m) free)

    -- a conclusion of the log before that no entry takes was not taken by this one
    old_there : (p k : ℕ) (e : Entry) (f : Fact ⊥) → AtPosition past p e → Concludes e k f → (IsAside f → ⊥)
        → (f.persistent ≡ false → Member (conclusion p k) (all_sources (step r facts os ∷ past)) → ⊥) → Member (conclusion p k, f) state_after
    old_there p k e f at con other free =
        stays (conclusion p k, f)
        (has.there p k e f at con other (λ linear m. free linear (member_right (conclusion p k) named (all_sources past) m)))
        (λ linear m. free linear (member_left (conclusion p k) named (all_sources past) (linear_member p k f linear facts.premises os m)))

    new_there : (p k : ℕ) (e : Entry) (f : Fact ⊥) → p ≡ length past → step r facts os ≡ e → Concludes e k f → Member (conclusion p k, f) state_after
    new_there p k e f position same con =
        let at : AtPlace facts.conclusions k f = subst (λ (x : Entry). Concludes x k f) (sym same) con in
        let number : k ≡ zero + k = omega arith in
        let m = concluded_there (length past) zero facts.conclusions k k f number at in
        member_left (conclusion p k, f) new taking.left (subst (λ (q : ℕ). Member (concluded_label q f k) new) (sym position) m)

    -- the execution goes on with the step, and what its state has
    pub record Stepped : Type 0 where
      pub run : RunShowing (visible_trace (step r facts os ∷ past)) (all_fresh_uses (step r facts os ∷ past))
      pub steps_are : run.steps ≡ entry_steps es (map (forms_of es) theory.rules) (step r facts os) ++ old.steps
      pub has_others : HasConclusions IsAside (step r facts os ∷ past) run.state
      pub has_new : (p k : ℕ) (e : Entry) (f : Fact ⊥) → p ≡ length past → step r facts os ≡ e → Concludes e k f → Member (conclusion p k, f) run.state
      pub keeps : (y : Labelled) → Member y old.state → (y.1.persistent ≡ false → Member y (labelled facts.premises os) → ⊥) → Member y run.state
      pub persists : (g : Fact ⊥) → Member g old.actual → g.persistent ≡ true → Member g run.actual

    pub stepped : Stepped
    stepped = record {
      run = record {
        steps = entry_steps es (map (forms_of es) theory.rules) (step r facts os) ++ old.steps;
        state = state_after;
        actual = actual_after;
        alike = alike_after;
        made = made_after;
        trace = with_entry i.actual.actions old.trace;
        shown = entry_normal es i.actual.actions facts.actions old.trace (visible_trace past) (ap (λ (f : Facts ⊥). f.actions) i.normal) old.shown;
        runs = (state_of actual_before made_after, old.trace, i.actual, runs_before, leads, refl);
        used = λ t m.
            ⊎_elim (λ k. member_left t names (all_fresh_uses past) k) (λ k. member_right t names (all_fresh_uses past) (old.used t k))
            (made_either names old.made t m);
      };
      steps_are = refl;
      has_others = record {
        there = λ p k e f at con other free. ⊎_elim (λ here. new_there p k e f here.0 here.1 con) (λ earlier. old_there p k e f earlier con other free) at;
      };
      has_new = new_there;
      keeps = stays;
      persists = λ g m p.
          member_right g i.actual.conclusions takes.0
          (persistent_stays es i.actual.premises actual_before takes.0 takes.1 g (made_keeps names old.actual g m) p);
    }
