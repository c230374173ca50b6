-- The steps of a log whose names may be shown may be written, and its trace may be shown.
use Rattle.std.proofs.Common.{ℕ, Bool, true, false, if◌then◌else◌, List, [], ◌∷◌, map, length, unwrap_or, inl, refl, sym, subst, arith}
use Rattle.std.specs.Prelude.{codes}
use Rattle.sp_spec.specs.Lists.{Every}
use Rattle.sp_spec.proofs.Lists.{every_member, every_append, every_both, every_map}
use Rattle.sp_spec.specs.Term.{Sort, Msg, Fresh, Pub, Names, AllMadeOf, Variable, Ground, Grounds, none, more}
use Rattle.sp_spec.specs.Signature.{Symbol, Equation, IsOver, AreOver}
use Rattle.sp_spec.specs.Rule.{Fact, Action, Facts, Rule, action_at, facts_at, AreNormalActions, OfArguments, FactsMadeOf}
use Rattle.sp_spec.specs.Theory.{Theory, signature_of}
use Rattle.sp_spec.specs.Written.{theory_of}
use Rattle.sp_spec.specs.Execution.{Step, make_fresh, use_rule, take_out, put_in, know_public, make_own, apply_symbol, Trace, with_entry}
use Rattle.sp_spec.specs.Log.{step, send, learn, Log, is_fr, first_arg, fresh_of, IsRuleInstance, rule_instance, IsLog, visible_trace}
use Rattle.sp_spec_forms.specs.Forms.{RuleForms, forms_of}
use Rattle.sp_law_equal.specs.Right.{AreTermsOver}
use Rattle.sp_law_log.proofs.Lasting.{holds_in_log}
use Rattle.sp_law_log.proofs.Over.{over_lasts}
use Rattle.sp_law_log_steps.specs.Found.{stand_in, given_by}
use Rattle.sp_law_log_steps.proofs.Entries.{Found, found}
use Rattle.sp_law_log_steps.proofs.Instances.{instance_over}
use Rattle.sp_law_log_execution.specs.Executed.{Linking, linking_of, executed_entry, executed_by, executed_of}
use Rattle.sp_law_log_execution.specs.Laws.{IsRunnable}
use Rattle.sp_law_log_execution.proofs.Steps.{log_runs}
use Rattle.sp_spec_text.specs.Names.{is_reserved, IsNameWord}
use Rattle.sp_spec_text.specs.Lex.{skip}
use Rattle.sp_spec_printed.specs.StepLines.{HaveNames, IsGiven, IsWritableStep}
use Rattle.sp_law_printed_log.specs.Laws.{LogsMayBeWritten}
use Rattle.sp_law_printed_log.specs.Shown.{shown_names, numbered_names, no_variable, HasNames, StepHasNames, LogHasNames, IsNamedRule, IsShownAction, IsShownTrace}
use Rattle.sp_law_printed_log.proofs.Writable.{term_writable, terms_writable}
use Rattle.sp_law_printed_log.proofs.GivenNames.{form_given_named}
use Rattle.sp_law_printed_log.proofs.StepsOver.{IsOverStep, steps_over}
use Rattle.sp_law_printed_log.proofs.StepNames.{learning_named, fresh_made_named}

-- ---- a step

abbrev Given : Type 0
Given = List ℕ × Ground

given_writable : (symbols : List Symbol) (given : List Given) → Every (λ (g : Given). IsNameWord g.0 × IsOver symbols g.1) given
    → Every (λ (g : Given). HasNames shown_names g.1) given → Every (λ (g : Given). HasNames numbered_names g.1) given → Every (IsGiven symbols) given
given_writable symbols given over shown numbered =
    every_both (λ (g : Given). (IsNameWord g.0 × IsOver symbols g.1) × HasNames shown_names g.1) (λ (g : Given). HasNames numbered_names g.1)
    (IsGiven symbols) (λ g a b. (a.0.0, term_writable symbols g.1 a.0.1 a.1 b)) given
    (every_both (λ (g : Given). IsNameWord g.0 × IsOver symbols g.1) (λ (g : Given). HasNames shown_names g.1)
    (λ (g : Given). (IsNameWord g.0 × IsOver symbols g.1) × HasNames shown_names g.1) (λ g a b. (a, b)) given over shown)
    numbered

-- a step over the symbols, of names that may be shown and whose numbers have an end, may be written
step_writable : (symbols : List Symbol) (s : Step) → IsOverStep symbols s → StepHasNames shown_names s → StepHasNames numbered_names s
    → IsWritableStep symbols s
step_writable symbols (make_fresh t) over shown numbered = term_writable symbols t over shown numbered
step_writable symbols (use_rule r given) over shown numbered = (over.0, given_writable symbols given over.1 shown numbered)
step_writable symbols (take_out t) over shown numbered = term_writable symbols t over shown numbered
step_writable symbols (put_in t) over shown numbered = term_writable symbols t over shown numbered
step_writable symbols (know_public t) over shown numbered = term_writable symbols t over shown numbered
step_writable symbols (make_own t) over shown numbered = term_writable symbols t over shown numbered
step_writable symbols (apply_symbol f ts) over shown numbered = (over.0, terms_writable symbols ts over.1 shown numbered)

each_writable : (symbols : List Symbol) (steps : List Step) → Every (IsOverStep symbols) steps → Every (StepHasNames shown_names) steps
    → Every (StepHasNames numbered_names) steps → Every (IsWritableStep symbols) steps
each_writable symbols [] over shown numbered = tt
each_writable symbols (s ∷ steps) over shown numbered =
    (step_writable symbols s over.0 shown.0 numbered.0, each_writable symbols steps over.1 shown.1 numbered.1)

-- ---- names

fresh_named : (N : Names) (fs : List (Fact ⊥)) → Every (λ (f : Fact ⊥). AllMadeOf N no_variable f.args) fs → Every (HasNames N) (fresh_of fs)
fresh_named N [] h = tt
fresh_named N (f ∷ fs) h = every_append (HasNames N) (if is_fr f then first_arg f.args else []) (fresh_of fs) (by_test (is_fr f)) (fresh_named N fs h.1)
  where
    first : (ts : Grounds) → AllMadeOf N no_variable ts → Every (HasNames N) (first_arg ts)
    first none k = tt
    first (more t ts) k = (k.0, tt)

    by_test : (b : Bool) → Every (HasNames N) (if b then first_arg f.args else [])
    by_test true = first f.args h.0
    by_test false = tt

pub stand_in_shown : (s : Sort) → HasNames shown_names (stand_in s)
stand_in_shown Msg = (refl, (refl, tt))
stand_in_shown Fresh = omega arith
stand_in_shown Pub = (refl, (refl, tt))

-- the name of the action of sending
sending_named : IsNameWord (codes "K")
unfolding is_reserved skip
sending_named = (refl, (refl, refl))

-- ---- a log

module _ (theory : Theory) (good : IsRunnable theory) (named : Every IsNamedRule theory.rules) where
  abbrev es : List Equation
  es = (signature_of theory).equations

  abbrev symbols : List Symbol
  symbols = (signature_of theory).symbols

  abbrev rules : List RuleForms
  rules = map (forms_of es) theory.rules

  abbrev by : Linking
  by = linking_of (signature_of theory)

  abbrev AreShown : Facts ⊥ → Type 0
  AreShown facts = FactsMadeOf shown_names no_variable facts

  abbrev given_in : List ℕ → Facts ⊥ → List Given
  given_in r facts = unwrap_or (given_by es rules r facts) []

  given_shown : (r : List ℕ) (facts : Facts ⊥) → Found theory good.executable r facts → AreShown facts → Every (λ (g : Given). HasNames shown_names g.1) (given_in r facts)
  given_shown r facts i shown =
      let made = (every_member IsNamedRule theory.rules i.rule i.member named).facts in
      let forms = good.executable.instances.forms in
      subst (Every (λ (g : Given). HasNames shown_names g.1)) (sym i.given)
      (form_given_named shown_names es forms.normal_forms forms.nameless i.rule made i.first.form i.first.member stand_in_shown facts i.first.bindings i.first.matched shown)

  steps_shown : (log : Log) → IsLog theory log → LogHasNames shown_names log → Every (StepHasNames shown_names) (executed_by es rules by log)
  steps_shown [] is shown = tt
  steps_shown (step r facts sources ∷ past) is shown =
      let here = found theory good.executable r facts (is.1 rule_instance) in
      every_append (StepHasNames shown_names) (executed_entry es rules by past (step r facts sources)) (executed_by es rules by past)
      (given_shown r facts here shown.0, fresh_made_named shown_names (fresh_of facts.premises) (fresh_named shown_names facts.premises shown.0.premises))
      (steps_shown past is.0 shown.1)
  steps_shown (send m ∷ past) is shown = (shown.0, steps_shown past is.0 shown.1)
  steps_shown (learn m how ∷ past) is shown =
      every_append (StepHasNames shown_names) (executed_entry es rules by past (learn m how)) (executed_by es rules by past)
      (learning_named shown_names by past shown.1 m how shown.0.0 shown.0.1) (steps_shown past is.0 shown.1)

  pub steps_writable : HaveNames symbols → (log : Log) → IsLog theory log → LogHasNames shown_names log
      → Every (StepHasNames numbered_names) (executed_of theory log) → Every (IsWritableStep symbols) (executed_of theory log)
  steps_writable symbols_named log is shown numbered =
      let execution = log_runs theory good log is in
      each_writable symbols (executed_of theory log) (steps_over theory symbols_named named (executed_of theory log) execution.trace execution.executed)
      (steps_shown log is shown) numbered

  -- ---- the trace

  normal_named : (xs ys : List (Action ⊥)) → AreNormalActions es xs ys → Every (λ (a : Action ⊥). IsNameWord a.symbol) xs → Every (λ (a : Action ⊥). IsNameWord a.symbol) ys
  normal_named [] [] n h = tt
  normal_named [] (y ∷ ys) n h = absurd n
  normal_named (x ∷ xs) [] n h = absurd n
  normal_named (x ∷ xs) (y ∷ ys) n h = (subst IsNameWord n.0 h.0, normal_named xs ys n.2 h.1)

  -- what an entry's actions say
  actions_shown : (r : List ℕ) (facts : Facts ⊥) → IsRuleInstance theory r facts → AreShown facts → Every (IsShownAction symbols) facts.actions
  actions_shown r facts (rule, member, same, v, valuation, normal) shown =
      let n = every_member IsNamedRule theory.rules rule member named in
      let instances = good.executable.instances in
      let over = every_member (λ (q : Rule). OfArguments (AreTermsOver symbols) q.facts) theory.rules rule member instances.over.each in
      let forms = instances.forms in
      let names = normal_named (facts_at v rule.facts).actions facts.actions normal.actions
      (every_map (λ (a : Action Variable). IsNameWord a.symbol) (λ (a : Action ⊥). IsNameWord a.symbol) (action_at v) (λ a h. h) rule.facts.actions n.actions) in
      let terms = instance_over es forms.normal_forms symbols forms.keeps v (λ x. (valuation x).1) rule.facts facts over normal in
      every_both (λ (a : Action ⊥). IsNameWord a.symbol × AreOver symbols a.args) (λ (a : Action ⊥). AllMadeOf shown_names no_variable a.args) (IsShownAction symbols)
      (λ a h k. (h.0, h.1, k)) facts.actions
      (every_both (λ (a : Action ⊥). IsNameWord a.symbol) (λ (a : Action ⊥). AreOver symbols a.args) (λ (a : Action ⊥). IsNameWord a.symbol × AreOver symbols a.args)
      (λ a h k. (h, k)) facts.actions names terms.actions)
      shown.actions

  with_entry_shown : (actions : List (Action ⊥)) (trace : Trace) → Every (IsShownAction symbols) actions → IsShownTrace symbols trace → IsShownTrace symbols (with_entry actions trace)
  with_entry_shown [] trace h k = k
  with_entry_shown (a ∷ actions) trace h k = (h, k)

  -- what is sent is over the symbols
  pub sent_over : (m : Ground) (past : Log) → IsLog theory (send m ∷ past) → IsOver symbols m
  sent_over m past is =
      let over = holds_in_log theory (IsOver symbols) (AreOver symbols) (over_lasts theory good.executable.instances) (send m ∷ past) is in
      (over.messages (length past) (send m) (inl (refl, refl))).0

  pub trace_shown : (log : Log) → IsLog theory log → LogHasNames shown_names log → IsShownTrace symbols (visible_trace log)
  trace_shown [] is shown = tt
  trace_shown (step r facts sources ∷ past) is shown =
      with_entry_shown facts.actions (visible_trace past) (actions_shown r facts (is.1 rule_instance) shown.0) (trace_shown past is.0 shown.1)
  trace_shown (send m ∷ past) is shown = (((sending_named, (sent_over m past is, tt), (shown.0, tt)), tt), trace_shown past is.0 shown.1)
  trace_shown (learn m how ∷ past) is shown = trace_shown past is.0 shown.1

pub logs_may_be_written_lem : LogsMayBeWritten
logs_may_be_written_lem = record {
  steps = λ theory good symbols_named named log is shown numbered. steps_writable (theory_of theory) good named symbols_named log is shown numbered;
  trace = λ theory good named log is shown. trace_shown (theory_of theory) good named log is shown;
}
