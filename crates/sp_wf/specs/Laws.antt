-- The report is empty exactly on the theories that are analysed.
use Rattle.std.specs.Prelude.{◌≡◌, ◌↔◌, ℕ, ◌≤◌, List, [], ◌++◌, map, false, Some}
use Rattle.std.specs.List.{flat_map}
use Rattle.sp_spec.specs.Lists.{Member, Every, Distinct}
use Rattle.sp_spec.specs.Signature.{Symbol, Equation}
use Rattle.sp_spec.specs.Theory.{Restriction, Lemma, signature_of}
use Rattle.sp_spec.specs.Written.{WrittenRule, theory_of}
use Rattle.sp_spec.specs.Findings.{rule_is_wrong}
use Rattle.sp_spec.specs.Verdict.{names_learning}
use Rattle.sp_spec.specs.Guarded.{Guarded}
use Rattle.sp_law_guard.specs.CheckedForm.{checked_form}
use Rattle.sp_law_conv.specs.Accepted.{AreAccepted}
use Rattle.sp_law_equal.specs.Right.{EquationsAreOver}
use Rattle.sp_spec_text.specs.Written.{Attribute, unknown, WrittenText, item_attributes, builtins_in, functions_in}
use Rattle.sp_spec_text.specs.Declared.{Builtin, builtin_of, declared_symbols, all_symbols, theory_in}
use Rattle.sp_wf_rules.specs.RuleFindings.{unknown_in_rule, facts_have_destructor}
use Rattle.sp_wf_rules.specs.BindingFindings.{BoundNames, bound_in}
use Rattle.sp_wf_formulas.specs.FormulaFindings.{unknown_in_formula, formula_has_destructor}
use Rattle.sp_wf_formulas.specs.Statements.{as_lemma}
use Rattle.sp_wf.specs.Report.{findings, fatal_lines}

-- each builtin is known, each symbol is declared in one way and has no more than sixteen arguments
pub record DeclaresWell (t : WrittenText) : Type 0 where
  pub builtins : Every (λ (b : List ℕ). (found : Builtin) × (builtin_of b ≡ Some found)) (builtins_in t.items)
  pub symbols : Every (λ (s : Symbol). Member s (all_symbols t.items)) (declared_symbols t.items)
  pub arities : Every (λ (s : Symbol). s.arity ≤ 16) (functions_in t.items)

-- no name is bound twice, and none stands with another mark than its binding's
pub record BindsWell (b : BoundNames) : Type 0 where
  pub once : Distinct b.bound
  pub marks : b.misused ≡ []

-- nothing is wrong with the rule by itself, its symbols are there, and no destructor stands in a premise
pub record IsFineRule (symbols : List Symbol) (es : List Equation) (r : WrittenRule) : Type 0 where
  pub right : rule_is_wrong r ≡ false
  pub known : unknown_in_rule symbols r ≡ []
  pub plain : facts_have_destructor es r.facts.premises ≡ false

-- it has a guarded form without findings, its symbols are there, and no destructor stands in it
pub record IsFineLemma (symbols : List Symbol) (es : List Equation) (l : Lemma) : Type 0 where
  pub form : (g : Guarded) × (checked_form l.formula ≡ Some g)
  pub known : unknown_in_formula symbols l.formula ≡ []
  pub plain : formula_has_destructor es l.formula ≡ false

-- the same of its formula, which doesn't name the action of learning
pub record IsFineRestriction (symbols : List Symbol) (es : List Equation) (r : Restriction) : Type 0 where
  pub fine : IsFineLemma symbols es (as_lemma r)
  pub silent : names_learning r.formula ≡ false

abbrev pub IsKnown : Attribute → Type 0
IsKnown (unknown w) = ⊥
IsKnown a = Unit {0}

-- No two rules have one name, and no two restrictions or lemmas, and nothing is wrong with any of them, nor with the symbols and the equations.
pub record IsWellFormed (t : WrittenText) : Type 0 where
  pub declares : DeclaresWell t
  pub over : let theory = theory_of (theory_in t) in EquationsAreOver (signature_of theory).symbols (signature_of theory).equations
  pub accepted : let theory = theory_of (theory_in t) in AreAccepted (signature_of theory).symbols (signature_of theory).equations
  pub rule_names : Distinct (map (λ (r : WrittenRule). r.name) (theory_in t).rules)
  pub statement_names : Distinct (map (λ (r : Restriction). r.name) (theory_in t).restrictions ++ map (λ (l : Lemma). l.name) (theory_in t).lemmas)
  pub bindings : Every BindsWell (bound_in t.items)
  pub rules : let theory = theory_of (theory_in t) in Every (IsFineRule (signature_of theory).symbols (signature_of theory).equations) (theory_in t).rules
  pub restrictions : let theory = theory_of (theory_in t) in Every (IsFineRestriction (signature_of theory).symbols (signature_of theory).equations) (theory_in t).restrictions
  pub lemmas : let theory = theory_of (theory_in t) in Every (IsFineLemma (signature_of theory).symbols (signature_of theory).equations) (theory_in t).lemmas
  pub attributes : Every IsKnown (flat_map item_attributes t.items)

pub record ReportIsRight : Type 0 where
  pub no_finding : (t : WrittenText) → (findings t ≡ []) ↔ IsWellFormed t
  pub no_line : (t : WrittenText) → (fatal_lines t ≡ []) ↔ IsWellFormed t
