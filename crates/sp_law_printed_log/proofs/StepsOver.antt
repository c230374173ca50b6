-- Each step of an execution is over the symbols, and names what has a name in a text.
use Rattle.std.proofs.Common.{ℕ, false, List, [], ◌∷◌, subst}
use Rattle.sp_spec.specs.Lists.{Every}
use Rattle.sp_spec.proofs.Lists.{every_member, every_weaken}
use Rattle.sp_spec.specs.Term.{Variable, Ground, Values, count}
use Rattle.sp_spec.specs.Signature.{Symbol, IsOver, AreOver}
use Rattle.sp_spec.specs.Rule.{Facts, Declared}
use Rattle.sp_spec.specs.Theory.{Theory, signature_of}
use Rattle.sp_spec.specs.Execution.{Step, make_fresh, use_rule, take_out, put_in, know_public, make_own, apply_symbol, State, Trace, IsNamed, IsInstance, HasSorts, Runs, IsExecution}
use Rattle.sp_spec_text.specs.Names.{IsNameWord}
use Rattle.sp_spec_printed.specs.StepLines.{HaveNames}
use Rattle.sp_law_printed_log.specs.Shown.{IsNamedRule}
use Rattle.sp_law_printed_log.proofs.GivenNames.{given_each}

-- the names and the terms of the step are such ones
abbrev pub IsOverStep : List Symbol → Step → Type 0
IsOverStep symbols (make_fresh t) = IsOver symbols t
IsOverStep symbols (use_rule r given) = IsNameWord r × Every (λ (g : List ℕ × Ground). IsNameWord g.0 × IsOver symbols g.1) given
IsOverStep symbols (take_out t) = IsOver symbols t
IsOverStep symbols (put_in t) = IsOver symbols t
IsOverStep symbols (know_public t) = IsOver symbols t
IsOverStep symbols (make_own t) = IsOver symbols t
IsOverStep symbols (apply_symbol f ts) = IsNameWord f × AreOver symbols ts

module _ (theory : Theory) (symbols_named : HaveNames (signature_of theory).symbols) (named : Every IsNamedRule theory.rules) where
  abbrev symbols : List Symbol
  symbols = (signature_of theory).symbols

  step_over : (s : Step) (v : Values) (facts : Facts ⊥) → IsNamed theory s → IsInstance theory s v facts → HasSorts (signature_of theory) s v
      → IsOverStep symbols s
  step_over (make_fresh t) v facts n i sorts = sorts.1
  step_over (use_rule r given) v facts n i sorts =
      let rule = every_member IsNamedRule theory.rules i.0 i.1 named in (
        subst IsNameWord i.2 rule.name,
        given_each (λ (g : List ℕ × Ground). IsNameWord g.0 × IsOver symbols g.1) v 0 i.0.variables given i.3
            (every_weaken (λ (d : Declared). IsNameWord d.name) (λ (d : Declared). (x : Variable) → IsNameWord d.name × IsOver symbols (v x))
            (λ d h x. (h, (sorts x).1)) i.0.variables rule.variables),
      )
  step_over (take_out t) v facts n i sorts = sorts.1
  step_over (put_in t) v facts n i sorts = sorts.1
  step_over (know_public t) v facts n i sorts = sorts.1
  step_over (make_own t) v facts n i sorts = sorts.1
  step_over (apply_symbol f ts) v facts n i sorts =
      let applied : Symbol = record { name = f; arity = count ts; private = false } in
      (every_member (λ (x : Symbol). IsNameWord x.name) symbols applied n symbols_named, sorts)

  runs_over : (steps : List Step) (state : State) (trace : Trace) → Runs theory steps state trace → Every (IsOverStep symbols) steps
  runs_over [] state trace r = tt
  runs_over (s ∷ past) state trace r =
      (step_over s r.4.values r.2 r.4.named r.4.is_instance r.4.sorts, runs_over past r.0 r.1 r.3)

  pub steps_over : (steps : List Step) (trace : Trace) → IsExecution theory steps trace → Every (IsOverStep symbols) steps
  steps_over steps trace e = runs_over steps e.0 trace e.1
