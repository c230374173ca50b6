-- What ground terms, facts, traces, steps and signatures in memory stand for.
use Rattle.std.specs.Prelude.{ℕ, List, map}
use Rattle.sp_spec.specs.Lists.{newest_first}
use Rattle.sp_spec.specs.Term.{Ground, Grounds}
use Rattle.sp_spec.specs.Rule as rule
use Rattle.sp_spec.specs.Signature as signature
use Rattle.sp_spec.specs.Execution as execution
use Rattle.sp_spec.specs.Execution.{make_fresh, use_rule, take_out, put_in, know_public, make_own, apply_symbol}
use Rattle.sp_term.specs.View.{name_of, never_of, terms_of, view, view_by, view_all_by, Never}
use Rattle.sp_term.specs.declared.term.Term.{Term}
use Rattle.sp_fact.specs.View.{fact_by, action_by, facts_by}
use Rattle.sp_fact.specs.declared.fact.Fact.{Fact}
use Rattle.sp_fact.specs.declared.fact.Action.{Action}
use Rattle.sp_fact.specs.declared.fact.Facts.{Facts}
use Rattle.sp_fact.specs.declared.ground_fact.Trace.{Trace}
use Rattle.sp_fact.specs.declared.step.Given.{Given}
use Rattle.sp_fact.specs.declared.step.Step.{Step}
use Rattle.sp_fact.specs.declared.step.Step.TheVariants.{MakeFresh, UseRule, TakeOut, PutIn, KnowPublic, MakeOwn, ApplySymbol}
use Rattle.sp_fact.specs.declared.signature.Symbol.{Symbol}
use Rattle.sp_fact.specs.declared.signature.Equation.{Equation}
use Rattle.sp_fact.specs.declared.signature.Signature.{Signature}

abbrev pub row : List Ground → Grounds
row ts = terms_of ts

abbrev pub ground_of : Term Never → Ground
ground_of t = view_by never_of t

abbrev pub grounds_of : List (Term Never) → Grounds
grounds_of ts = view_all_by never_of ts

abbrev pub ground_fact : Fact Never → rule.Fact ⊥
ground_fact f = fact_by never_of f

abbrev pub ground_action : Action Never → rule.Action ⊥
ground_action a = action_by never_of a

abbrev pub ground_facts : Facts Never → rule.Facts ⊥
ground_facts f = facts_by never_of f

-- the entries, the oldest first
abbrev pub entries_of : Trace → List (List (rule.Action ⊥))
entries_of t = map (λ entry. map ground_action entry.items) t.entries.items

abbrev pub trace_of : Trace → execution.Trace
trace_of t = newest_first (entries_of t)

abbrev pub given_of : Given → List ℕ × Ground
given_of g = (name_of g.variable, ground_of g.value)

abbrev pub step_of : Step → execution.Step
step_of (MakeFresh t) = make_fresh (ground_of t)
step_of (UseRule r given) = use_rule (name_of r) (map given_of given.items)
step_of (TakeOut t) = take_out (ground_of t)
step_of (PutIn t) = put_in (ground_of t)
step_of (KnowPublic t) = know_public (ground_of t)
step_of (MakeOwn t) = make_own (ground_of t)
step_of (ApplySymbol f ts) = apply_symbol (name_of f) (grounds_of ts.items)

abbrev pub symbol_of : Symbol → signature.Symbol
symbol_of s = record { name = name_of s.name; arity = s.arity; private = s.private }

abbrev pub equation_of : Equation → signature.Equation
equation_of e = record { left = view e.left; right = view e.right }

abbrev pub signature_of : Signature → signature.Signature
signature_of s = record { symbols = map symbol_of s.symbols.items; equations = map equation_of s.equations.items }
