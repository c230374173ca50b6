-- The terms of a trace are over the symbols that the rules' terms are over.
use Rattle.std.proofs.Common.{◌≡◌, ℕ, suc, List, [], ◌∷◌, refl, sym, ap, subst, map}
use Rattle.sp_spec.specs.Lists.{Every}
use Rattle.sp_spec.proofs.Lists.{every_member, every_map}
use Rattle.sp_spec.specs.Term.{Variable, Term, var, constant, name, app, Terms, none, more, Values, count, valued, valued_all}
use Rattle.sp_spec.specs.Signature.{Symbol, Equation, HasSymbol, IsOver, AreOver}
use Rattle.sp_spec.specs.Rule.{Action, Facts, Rule, action_at, OfArguments}
use Rattle.sp_spec.specs.Theory.{Theory, signature_of}
use Rattle.sp_spec.specs.Execution.{Step, make_fresh, use_rule, take_out, put_in, know_public, make_own, apply_symbol, State, Trace, IsInstance, HasSorts, with_entry, Runs, IsExecution}
use Rattle.sp_law_equal.specs.NormalForms.{KeepSymbols}
use Rattle.sp_law_equal.specs.Normal.{normal_action}
use Rattle.sp_law_equal.proofs.Over.{normal_all_over}
use Rattle.sp_law_run.specs.NormalStep.{normal_trace}
use Rattle.sp_law_equal.specs.Right.{IsTermOver, AreTermsOver, RulesAreOver}
use Rattle.sp_law_run.specs.Laws.{IsTraceOver}

pub count_valued : (v : Values) (ts : Terms Variable) → count (valued_all v ts) ≡ count ts
count_valued v none = refl
count_valued v (more t ts) = ap (λ k. suc k) (count_valued v ts)

module _ (symbols : List Symbol) where
  module _ (v : Values) (over : (x : Variable) → IsOver symbols (v x)) where
    mutual
      valued_over : (t : Term Variable) → IsTermOver symbols t → IsOver symbols (valued v t)
      valued_over (var x) h = over x
      valued_over (constant c) h = tt
      valued_over (name n) h = tt
      valued_over (app f ts) h = (subst (λ (k : ℕ). HasSymbol symbols f k) (sym (count_valued v ts)) h.0, valued_all_over ts h.1)

      pub valued_all_over : (ts : Terms Variable) → AreTermsOver symbols ts → AreOver symbols (valued_all v ts)
      valued_all_over none h = tt
      valued_all_over (more t ts) h = (valued_over t h.0, valued_all_over ts h.1)

  abbrev pub AreActionsOver : List (Action ⊥) → Type 0
  AreActionsOver actions = Every (λ (a : Action ⊥). AreOver symbols a.args) actions

  with_entry_over : (actions : List (Action ⊥)) (trace : Trace) → AreActionsOver actions → IsTraceOver symbols trace → IsTraceOver symbols (with_entry actions trace)
  with_entry_over [] trace h k = k
  with_entry_over (a ∷ actions) trace h k = (h, k)

  normal_actions_over : (es : List Equation) → KeepSymbols symbols es → (actions : List (Action ⊥)) → AreActionsOver actions → AreActionsOver (map (normal_action es) actions)
  normal_actions_over es keeps actions h =
      every_map (λ (a : Action ⊥). AreOver symbols a.args) (λ (a : Action ⊥). AreOver symbols a.args) (normal_action es)
      (λ a k. normal_all_over symbols es keeps a.args k) actions h

  pub normal_trace_over : (es : List Equation) → KeepSymbols symbols es → (trace : Trace) → IsTraceOver symbols trace → IsTraceOver symbols (normal_trace es trace)
  normal_trace_over es keeps trace h =
      every_map AreActionsOver AreActionsOver (map (normal_action es)) (normal_actions_over es keeps) trace h

module _ (theory : Theory) (rules_over : RulesAreOver (signature_of theory).symbols theory.rules) where
  abbrev symbols : List Symbol
  symbols = (signature_of theory).symbols

  instance_over : (step : Step) (v : Values) (facts : Facts ⊥) → IsInstance theory step v facts → HasSorts (signature_of theory) step v → AreActionsOver symbols facts.actions
  instance_over (use_rule r given) v facts i s =
      let over = every_member (λ (q : Rule). OfArguments (AreTermsOver symbols) q.facts) theory.rules i.0 i.1 rules_over.each in
      subst (λ (f : Facts ⊥). AreActionsOver symbols f.actions) (sym i.4)
      (every_map (λ (a : Action Variable). AreTermsOver symbols a.args) (λ (a : Action ⊥). AreOver symbols a.args) (action_at v)
      (λ a k. valued_all_over symbols v (λ x. (s x).1) a.args k) i.0.facts.actions over.actions)
  instance_over (make_fresh t) v facts i s = subst (λ (f : Facts ⊥). AreActionsOver symbols f.actions) (sym i) tt
  instance_over (take_out t) v facts i s = subst (λ (f : Facts ⊥). AreActionsOver symbols f.actions) (sym i) tt
  instance_over (put_in t) v facts i s = subst (λ (f : Facts ⊥). AreActionsOver symbols f.actions) (sym i) ((s.1, tt), tt)
  instance_over (know_public t) v facts i s = subst (λ (f : Facts ⊥). AreActionsOver symbols f.actions) (sym i) tt
  instance_over (make_own t) v facts i s = subst (λ (f : Facts ⊥). AreActionsOver symbols f.actions) (sym i) tt
  instance_over (apply_symbol f ts) v facts i s = subst (λ (f : Facts ⊥). AreActionsOver symbols f.actions) (sym i) tt

  runs_over : (steps : List Step) (state : State) (trace : Trace) → Runs theory steps state trace → IsTraceOver symbols trace
  runs_over [] state trace h = subst (λ (t : Trace). IsTraceOver symbols t) (sym h.1) tt
  runs_over (step ∷ past) state trace h =
      let earlier = runs_over past h.0 h.1 h.3 in
      subst (λ (t : Trace). IsTraceOver symbols t) (sym h.5)
      (with_entry_over symbols h.2.actions h.1 (instance_over step h.4.values h.2 h.4.is_instance h.4.sorts) earlier)

  pub execution_over : (steps : List Step) (trace : Trace) → IsExecution theory steps trace → IsTraceOver symbols trace
  execution_over steps trace h = runs_over steps h.0 trace h.1
