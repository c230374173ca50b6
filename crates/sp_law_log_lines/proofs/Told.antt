-- The lines of a log tell of its entries.
use Rattle.std.proofs.Common.{ℕ, List, [], ◌∷◌, map, length, inl, refl, sym, subst, arith}
use Rattle.sp_spec.specs.Lists.{Every, newest_first}
use Rattle.sp_spec.proofs.Lists.{every_member, every_both, every_weaken}
use Rattle.sp_spec.specs.Term.{Sort, Msg, Fresh, Pub, Variable, Ground}
use Rattle.sp_spec.specs.Signature.{Symbol, Equation, IsOver, AreOver}
use Rattle.sp_spec.specs.Rule.{Facts, Declared, IsNormalFormOf, FactsMadeOf}
use Rattle.sp_spec.specs.Theory.{Theory, signature_of}
use Rattle.sp_spec.specs.Log.{Source, How, Entry, step, send, learn, Log, rule_instance, IsLog}
use Rattle.sp_law_equal.proofs.Facts.{facts_normal_form}
use Rattle.sp_law_log.proofs.Lasting.{message_first, holds_in_log}
use Rattle.sp_law_log.proofs.Over.{over_lasts}
use Rattle.sp_law_log_steps.specs.Found.{stand_in}
use Rattle.sp_law_log_steps.proofs.Entries.{Found, found}
use Rattle.sp_law_log_execution.specs.Laws.{IsRunnable}
use Rattle.sp_spec_text.specs.Names.{IsNameWord}
use Rattle.sp_spec_printed.specs.StepLines.{HaveNames, IsGiven}
use Rattle.sp_law_printed_log.specs.Shown.{shown_names, numbered_names, no_variable, HasNames, LogHasNames, IsNamedRule}
use Rattle.sp_law_printed_log.proofs.Writable.{term_writable}
use Rattle.sp_law_printed_log.proofs.GivenNames.{given_each, form_given_named}
use Rattle.sp_law_printed_log.proofs.LogSteps.{stand_in_shown, sent_over}
use Rattle.sp_law_printed_log.proofs.CandidateNames.{every_newest}
use Rattle.sp_spec_log_lines.specs.Line.{Giving, line_of, line_text}
use Rattle.sp_spec_log_lines.specs.Told.{IsWritableLine, IsInstanceBy, IsSaidOf, TellOf}
use Rattle.sp_show_log.specs.Numbers.{LineHasNames}
use Rattle.sp_law_log_lines.specs.Block.{given_in}
use Rattle.sp_law_log_lines.specs.Laws.{LogsAreTold}

abbrev Given : Type 0
Given = List ℕ × Ground

module _ (theory : Theory) (good : IsRunnable theory) (symbols_named : HaveNames (signature_of theory).symbols) (named : Every IsNamedRule theory.rules) where
  abbrev es : List Equation
  es = (signature_of theory).equations

  abbrev symbols : List Symbol
  symbols = (signature_of theory).symbols

  abbrev given : Giving
  given = given_in theory

  -- where the numbers of names in the line have an end, it may be written, and what it says is so of the entry
  abbrev IsTold : Entry → Type 0
  IsTold e = LineHasNames numbered_names (line_of given e) → IsWritableLine symbols (line_of given e) × IsSaidOf theory (line_of given e) e

  -- ---- a step

  module _ (r : List ℕ) (facts : Facts ⊥) (i : Found theory good.executable r facts) where
    rule_named : IsNamedRule i.rule
    rule_named = every_member IsNamedRule theory.rules i.rule i.member named

    instance_named : IsNamedRule i.is_instance.0
    instance_named = every_member IsNamedRule theory.rules i.is_instance.0 i.is_instance.1 named

    values_over : Every (λ (g : Given). IsNameWord g.0 × IsOver symbols g.1) (given r facts)
    values_over =
        given_each (λ (g : Given). IsNameWord g.0 × IsOver symbols g.1) i.values 0 i.is_instance.0.variables (given r facts) i.is_instance.3
        (every_weaken (λ (d : Declared). IsNameWord d.name) (λ (d : Declared). (x : Variable) → IsNameWord d.name × IsOver symbols (i.values x))
        (λ d h x. (h, (i.valuation x).1)) i.is_instance.0.variables instance_named.variables)

    values_shown : FactsMadeOf shown_names no_variable facts → Every (λ (g : Given). HasNames shown_names g.1) (given r facts)
    values_shown shown =
        let forms = good.executable.instances.forms in
        subst (Every (λ (g : Given). HasNames shown_names g.1)) (sym i.given)
        (form_given_named shown_names es forms.normal_forms forms.nameless i.rule rule_named.facts i.first.form i.first.member stand_in_shown facts i.first.bindings i.first.matched shown)

    values_writable : FactsMadeOf shown_names no_variable facts → Every (λ (g : Given). HasNames numbered_names g.1) (given r facts) → Every (IsGiven symbols) (given r facts)
    values_writable shown numbered =
        every_both (λ (g : Given). (IsNameWord g.0 × IsOver symbols g.1) × HasNames shown_names g.1) (λ (g : Given). HasNames numbered_names g.1)
        (IsGiven symbols) (λ g a b. (a.0.0, term_writable symbols g.1 a.0.1 a.1 b)) (given r facts)
        (every_both (λ (g : Given). IsNameWord g.0 × IsOver symbols g.1) (λ (g : Given). HasNames shown_names g.1)
        (λ (g : Given). (IsNameWord g.0 × IsOver symbols g.1) × HasNames shown_names g.1) (λ g a b. (a, b)) (given r facts) values_over (values_shown shown))
        numbered

    -- the values make an instance of which the facts are the normal form
    by_values : IsInstanceBy theory r (given r facts) facts
    by_values =
        let is = i.is_instance in
        let normal : IsNormalFormOf es i.actual facts =
        subst (IsNormalFormOf es i.actual) i.normal (facts_normal_form es good.executable.instances.forms.normal_forms i.actual) in
        (is.0, is.1, is.2, i.values, is.3, i.valuation, subst (λ (f : Facts ⊥). IsNormalFormOf es f facts) is.4 normal)

    step_told : (sources : List Source) → FactsMadeOf shown_names no_variable facts → IsTold (step r facts sources)
    step_told sources shown numbered =
        ((subst IsNameWord i.is_instance.2 instance_named.name, values_writable shown numbered), (refl, by_values))

  -- ---- a log

  -- what is learnt is over the symbols
  learnt_over : (m : Ground) (how : How) (past : Log) → IsLog theory (learn m how ∷ past) → IsOver symbols m
  learnt_over m how past is =
      let over = holds_in_log theory (IsOver symbols) (AreOver symbols) (over_lasts theory good.executable.instances) (learn m how ∷ past) is in
      message_first (IsOver symbols) m how (over.messages (length past) (learn m how) (inl (refl, refl)))

  each_told : (log : Log) → IsLog theory log → LogHasNames shown_names log → Every IsTold log
  each_told [] is shown = tt
  each_told (step r facts sources ∷ past) is shown =
      (step_told r facts (found theory good.executable r facts (is.1 rule_instance)) sources shown.0, each_told past is.0 shown.1)
  each_told (send m ∷ past) is shown =
      (λ numbered. (term_writable symbols m (sent_over theory good named m past is) shown.0 numbered, refl), each_told past is.0 shown.1)
  each_told (learn m how ∷ past) is shown =
      (λ numbered. (term_writable symbols m (learnt_over m how past is) shown.0.0 numbered, (refl, refl)), each_told past is.0 shown.1)

  all_written : (entries : List Entry) → Every IsTold entries → Every (LineHasNames numbered_names) (map (line_of given) entries)
      → Every (IsWritableLine symbols) (map (line_of given) entries)
  all_written [] h numbered = tt
  all_written (e ∷ entries) h numbered = ((h.0 numbered.0).0, all_written entries h.1 numbered.1)

  in_order : (entries : List Entry) → Every IsTold entries → Every (LineHasNames numbered_names) (map (line_of given) entries)
      → TellOf theory (map line_text (map (line_of given) entries)) entries
  in_order [] h numbered = tt
  in_order (e ∷ entries) h numbered =
      let told = h.0 numbered.0 in
      ((line_of given e, record { text_is = refl; writable = told.0 }, told.1), in_order entries h.1 numbered.1)

  -- the oldest first
  oldest_told : (log : Log) → IsLog theory log → LogHasNames shown_names log → Every IsTold (newest_first log)
  oldest_told log is shown = every_newest IsTold log (each_told log is shown)

pub logs_are_told_lem : LogsAreTold
logs_are_told_lem = record {
  writable = λ theory good symbols_named named log is shown numbered.
      all_written theory good symbols_named named (newest_first log) (oldest_told theory good symbols_named named log is shown) numbered;
  told = λ theory good symbols_named named log is shown numbered.
      in_order theory good symbols_named named (newest_first log) (oldest_told theory good symbols_named named log is shown) numbered;
}
