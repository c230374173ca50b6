-- What holds of the executions of a theory.
use Rattle.std.specs.Prelude.{◌≡◌, List, map, Some}
use Rattle.sp_spec.specs.Lists.{Every, Distinct}
use Rattle.sp_spec.specs.Signature.{Symbol, Equation, AreOver}
use Rattle.sp_spec.specs.Rule.{Fact, Action, OfArguments}
use Rattle.sp_spec.specs.Theory.{Theory, signature_of}
use Rattle.sp_spec.specs.Written.{WrittenRule, rule_of}
use Rattle.sp_spec.specs.Execution.{Step, State, Trace, Takes, Runs, IsExecution}
use Rattle.sp_law_equal.specs.NormalForms.{HaveNormalForms, KeepSymbols}
use Rattle.sp_law_equal.specs.Normal.{normal_fact}
use Rattle.sp_law_run.specs.NormalStep.{normal_trace}
use Rattle.sp_law_equal.specs.Right.{AreTermsOver, AreRight, RulesAreOver}
use Rattle.sp_law_run.specs.Taken.{SameFacts, taken}

-- Over convergent equations facts can be taken from a state exactly where their normal forms can be taken, each from the first place where it
-- stands, from normal facts that are the same as those of the state; and what is left is the same again.
pub record FirstPlaceWillDo : Type 0 where
  pub found : (es : List Equation) → HaveNormalForms es → (wanted facts state rest : List (Fact ⊥)) → SameFacts facts (map (normal_fact es) state)
      → Takes es wanted state rest → (left : List (Fact ⊥)) × (taken (map (normal_fact es) wanted) facts ≡ Some left) × SameFacts left (map (normal_fact es) rest)
  pub there : (es : List Equation) → HaveNormalForms es → (wanted facts state left : List (Fact ⊥)) → SameFacts facts (map (normal_fact es) state)
      → taken (map (normal_fact es) wanted) facts ≡ Some left → (rest : List (Fact ⊥)) × Takes es wanted state rest × SameFacts left (map (normal_fact es) rest)

-- the same facts modulo the equations, each as often, and the same fresh names
pub record AreAlike (es : List Equation) (s t : State) : Type 0 where
  pub facts : SameFacts (map (normal_fact es) s.facts) (map (normal_fact es) t.facts)
  pub made : s.made ≡ t.made

-- Over convergent equations the same steps of right rules lead to states that are alike, with one trace.
pub record StatesAreOne : Type 0 where
  pub each : (theory : Theory) → HaveNormalForms (signature_of theory).equations → AreRight theory.rules
      → (steps : List Step) (s t : State) (shown other : Trace) → Runs theory steps s shown → Runs theory steps t other
      → AreAlike (signature_of theory).equations s t × (shown ≡ other)

-- the arguments of each action are over these symbols
abbrev pub IsTraceOver : List Symbol → Trace → Type 0
IsTraceOver symbols trace = Every (Every (λ (a : Action ⊥). AreOver symbols a.args)) trace

-- Where the rules' terms are over the signature's symbols, so are the terms of each trace, and their normal forms where the equations
-- keep the symbols.
pub record TracesAreOver : Type 0 where
  pub each : (theory : Theory) → RulesAreOver (signature_of theory).symbols theory.rules
      → (steps : List Step) (trace : Trace) → IsExecution theory steps trace → IsTraceOver (signature_of theory).symbols trace
  pub in_normal_form : (theory : Theory) → RulesAreOver (signature_of theory).symbols theory.rules
      → KeepSymbols (signature_of theory).symbols (signature_of theory).equations
      → (steps : List Step) (trace : Trace) → IsExecution theory steps trace
      → IsTraceOver (signature_of theory).symbols (normal_trace (signature_of theory).equations trace)

-- The rules that a text writes are right, if no two have one name, and over the symbols that the text's terms are over.
pub record WrittenRulesAreRight : Type 0 where
  pub each : (rules : List WrittenRule) → Distinct (map (λ (r : WrittenRule). r.name) rules) → AreRight (map rule_of rules)
  pub over : (symbols : List Symbol) (rules : List WrittenRule) → Every (λ (r : WrittenRule). OfArguments (AreTermsOver symbols) r.facts) rules
      → RulesAreOver symbols (map rule_of rules)
