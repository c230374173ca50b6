-- What is answered is what comes of the text.
use Rattle.std.proofs.Common.{◌≡◌, ℕ, Bool, List, ◌++◌, map, drop, sym, ap, ap₂, ◌∙◌, subst}
use Rattle.sp_spec.specs.Lists.{Every, newest_first}
use Rattle.sp_spec.specs.Signature as spec
use Rattle.sp_spec.specs.Signature.{Symbol}
use Rattle.sp_spec.specs.Rule.{Rule}
use Rattle.sp_spec.specs.Theory as theories
use Rattle.sp_spec.specs.Theory.{Theory, Lemma}
use Rattle.sp_spec.specs.Execution as execution
use Rattle.sp_law_run.specs.NormalStep.{normal_step, normal_trace}
use Rattle.sp_law_equal.specs.Right.{AreRight}
use Rattle.sp_law_run.proofs.Written.{rules_right}
use Rattle.sp_law_basic.specs.BasicTheory.{IsBasicFormula}
use Rattle.sp_law_basic.specs.Restrictions.{restriction_forms}
use Rattle.sp_fact.specs.View.{rule_of}
use Rattle.sp_fact.specs.GroundView.{signature_of, symbol_of, step_of, entries_of, trace_of}
use Rattle.sp_spec_printed.specs.Printed.{trace_block}
use Rattle.sp_fact.specs.declared.ground_fact.Trace.{Trace}
use Rattle.sp_fact.specs.declared.step.Step.{Step}
use Rattle.sp_spec_text.specs.Blanks.{lines}
use Rattle.sp_spec_printed.specs.StepLines.{AreSteps, IsFirstUnread}
use Rattle.sp_exec.specs.Replay.{IsReplayed, IsFirstFault}
use Rattle.sp_exec.specs.View.{cause_of}
use Rattle.sp_exec.specs.declared.cause.Cause.{Cause}
use Rattle.sp_spec_text.specs.Declared.{theory_in}
use Rattle.sp_written.specs.Views as view
use Rattle.sp_pose.specs.Asked.{asked_of, lemmas_read}
use Rattle.sp_pose.specs.Required.{required_of}
use Rattle.sp_pose.specs.Posed.{IsPosedBy}
use Rattle.sp_pose.specs.declared.problem.Problem.{Problem}
use Rattle.sp_pose.proofs.BasicTheories.{normal_forms, lemmas_are_basic, restrictions_are_basic}
use Rattle.sp_pose.proofs.Known.{rules_are_over}
use Rattle.sp_replay.specs.Held.{held, required_lines, held_lines}
use Rattle.sp_replay.specs.Replay.{theory_said, behind_line, HasLines, steps_done, IsUnread, IsStopped, AreMet, restriction_formulas, lemma_formulas, restriction_lines, met_lines, IsReplay}
use Rattle.sp_pose.proofs.Forms.{HasForms, has_forms, lemmas_said}
use Rattle.sp_replay.proofs.Truths.{restrictions_met, lemmas_met, restrictions_same, lemmas_same}

-- the rules in memory are right
pub posed_right : {text : List ℕ} (p : Problem) → IsPosedBy text p → AreRight (map rule_of p.rules.items)
posed_right p h = subst (λ (rs : List Rule). AreRight rs) (sym h.rules_are) (rules_right (theory_in h.said).rules h.poses.fine.rule_names)

module _ {text : List ℕ} (p : Problem) (posed : IsPosedBy text p) (bytes : List ℕ) (behind : bytes ≡ behind_line (drop p.behind_end text)) where
  abbrev said : Theory
  said = theory_said posed.said

  has_lines : HasLines text posed.said (lines bytes)
  has_lines = record {
    poses = posed.poses;
    spans = view.spans posed.theory.items.items;
    behind_end = p.behind_end;
    places_are = posed.places_are;
    lines_are = ap lines behind;
  }

  symbols_are : map symbol_of p.signature.symbols.items ≡ (theories.signature_of said).symbols
  symbols_are = ap (λ (x : spec.Signature). x.symbols) posed.signature_is

  pub unread_line : (number : ℕ) → IsFirstUnread (map symbol_of p.signature.symbols.items) (lines bytes) number → IsUnread text number
  unread_line number h = record {
    theory = posed.said;
    found = lines bytes;
    has_lines = has_lines;
    unread = subst (λ (symbols : List Symbol). IsFirstUnread symbols (lines bytes) number) symbols_are h;
  }

  module _ (steps : List Step) (read : AreSteps (map symbol_of p.signature.symbols.items) (lines bytes) (map step_of steps)) where
    read_over : AreSteps (theories.signature_of said).symbols (lines bytes) (map step_of steps)
    read_over = subst (λ (symbols : List Symbol). AreSteps symbols (lines bytes) (map step_of steps)) symbols_are read

    steps_are : map (normal_step (signature_of p.signature).equations) (map step_of steps) ≡ steps_done said (map step_of steps)
    steps_are = ap (λ (x : spec.Signature). map (normal_step x.equations) (map step_of steps)) posed.signature_is

    pub stopped_step : (number : ℕ) (cause : Cause)
        → ((theory : Theory) → theory.rules ≡ map rule_of p.rules.items → theories.signature_of theory ≡ signature_of p.signature → IsFirstFault theory (map (normal_step (signature_of p.signature).equations) (map step_of steps)) number (cause_of cause))
        → IsStopped text number (cause_of cause)
    stopped_step number cause h = record {
      theory = posed.said;
      found = lines bytes;
      has_lines = has_lines;
      steps = map step_of steps;
      read = read_over;
      fault = subst (λ (xs : List execution.Step). IsFirstFault said xs number (cause_of cause)) steps_are (h said (sym posed.rules_are) (sym posed.signature_is));
    }

    -- what is written of restrictions and lemmas is true over the trace
    module _ (trace : Trace) (done : IsReplayed said (steps_done said (map step_of steps)) (trace_of trace)) where
      abbrev forms : HasForms (lemmas_read posed.theory.items.items) (map asked_of p.lemmas.items)
      forms = has_forms (lemmas_read posed.theory.items.items) (map asked_of p.lemmas.items) posed.lemmas_are

      abbrev kept : List Bool
      kept = map (held (trace_of trace)) (restriction_forms said.restrictions)

      abbrev met : List Bool
      met = map (held (trace_of trace)) forms.forms

      normal : normal_trace (theories.signature_of said).equations done.shown ≡ trace_of trace
      normal = done.each done.shown done.executed

      kept_are : AreMet (theories.signature_of said) done.shown (restriction_formulas said.restrictions) kept
      kept_are =
          let good = normal_forms posed.poses in
          subst (λ (t : execution.Trace). AreMet (theories.signature_of said) done.shown (restriction_formulas said.restrictions) (map (held t) (restriction_forms said.restrictions))) normal
          (restrictions_met said good.normal_forms good.keeps (rules_are_over posed.poses) (newest_first (steps_done said (map step_of steps))) done.shown done.executed
          said.restrictions (restrictions_are_basic posed.poses))

      met_are : AreMet (theories.signature_of said) done.shown (lemma_formulas said.lemmas) met
      met_are =
          let signature = theories.signature_of said in
          let ls = lemmas_read posed.theory.items.items in
          let good = normal_forms posed.poses in
          let basic : Every (λ (l : Lemma). IsBasicFormula signature l.formula) (map view.lemma ls) =
          subst (λ (ms : List Lemma). Every (λ (l : Lemma). IsBasicFormula signature l.formula) ms) (lemmas_said p posed) (lemmas_are_basic posed.poses) in
          let told = lemmas_met said good.normal_forms good.keeps (rules_are_over posed.poses) (newest_first (steps_done said (map step_of steps))) done.shown done.executed ls forms.forms basic forms.are in
          let over : AreMet signature done.shown (lemma_formulas (map view.lemma ls)) met =
          subst (λ (t : execution.Trace). AreMet signature done.shown (lemma_formulas (map view.lemma ls)) (map (held t) forms.forms)) normal told in
          subst (λ (ms : List Lemma). AreMet signature done.shown (lemma_formulas ms) met) (sym (lemmas_said p posed)) over

      lines_are : required_lines (trace_of trace) (map required_of p.restrictions.items) ++ held_lines (trace_of trace) (map asked_of p.lemmas.items)
          ≡ restriction_lines said.restrictions kept ++ met_lines said.lemmas met
      lines_are =
          ap₂ (λ (front back : List ℕ). front ++ back)
          (ap (required_lines (trace_of trace)) posed.restrictions_are ∙ restrictions_same (theories.signature_of said) (trace_of trace) said.restrictions (restrictions_are_basic posed.poses))
          (ap (held_lines (trace_of trace)) forms.is ∙ lemmas_same (trace_of trace) (lemmas_read posed.theory.items.items) forms.forms ∙ ap (λ (ms : List Lemma). met_lines ms met) (sym (lemmas_said p posed)))

    pub done_steps : (trace : Trace) (written : List ℕ)
        → ((theory : Theory) → theory.rules ≡ map rule_of p.rules.items → theories.signature_of theory ≡ signature_of p.signature → IsReplayed theory (map (normal_step (signature_of p.signature).equations) (map step_of steps)) (trace_of trace))
        → written ≡ trace_block (entries_of trace) ++ (required_lines (trace_of trace) (map required_of p.restrictions.items) ++ held_lines (trace_of trace) (map asked_of p.lemmas.items)) → IsReplay text written
    done_steps trace written h e =
        let done : IsReplayed said (steps_done said (map step_of steps)) (trace_of trace) =
        subst (λ (ys : List execution.Step). IsReplayed said ys (trace_of trace)) steps_are (h said (sym posed.rules_are) (sym posed.signature_is)) in
        record {
          theory = posed.said;
          found = lines bytes;
          has_lines = has_lines;
          steps = map step_of steps;
          read = read_over;
          entries = entries_of trace;
          replayed = done;
          kept = kept trace done;
          kept_are = kept_are trace done;
          met = met trace done;
          met_are = met_are trace done;
          written_is = e ∙ ap (λ (words : List ℕ). trace_block (entries_of trace) ++ words) (lines_are trace done);
        }
