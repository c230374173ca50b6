-- A text without findings has basic rules, restrictions and lemmas: what the grammar spells has no fresh names, also with the values of bound names, and the findings
-- tell of symbols that aren't there and of destructors.
use Rattle.std.proofs.Common.{ℕ, Bool, true, false, if◌then◌else◌, List, [], ◌∷◌, map, not, ◌&&◌}
use Rattle.sp_spec.specs.Lists.{Every, is_listed}
use Rattle.sp_spec.specs.Term.{MadeOf, AllMadeOf, Term, var, Terms, app, none, valued}
use Rattle.sp_spec.specs.Signature.{Symbol}
use Rattle.sp_spec.specs.Rule.{Fact, Action, FactsMadeOf}
use Rattle.sp_spec.specs.Formula.{Written, Formula, truth, falsity, happens, equals, precedes, not_so, both, either, implies, for_all, for_some}
use Rattle.sp_spec.specs.Theory.{Restriction, Lemma}
use Rattle.sp_spec.specs.Written.{WrittenRule}
use Rattle.sp_spec_text.specs.Token.{Lexeme}
use Rattle.sp_spec_text.specs.Signs.{Sign}
use Rattle.sp_spec_text.specs.Bindings.{Binding, value_by, whole, with_values}
use Rattle.sp_spec_text.proofs.Valued.{IsBoundSo, values_so}
use Rattle.sp_spec_text.specs.Written.{Attribute, Item, WrittenText, rules_in, restrictions_in, lemmas_in}
use Rattle.sp_spec_text.specs.Declared.{is_bare, is_constant, resolved_name, resolved_term, resolved_formula, resolved_rule, resolved_item, all_symbols, theory_in}
use Rattle.sp_spec_text.specs.Shapes.{action_of, quantified}
use Rattle.sp_spec_text.specs.Formulas.{SpellsTerm, fixed, variable, brackets, tuple, application, braced, SpellsTuple, last_part, next_part, SpellsArguments, no_argument, some_arguments, SpellsTerms, last_term, next_term, SpellsFact, linear, persistent, quantified_some, SpellsUnit, bracketed, every, there_is, true_unit, false_unit, action, equation, order, SpellsNegation, unit_alone, negated, SpellsConjunction, conjunction, SpellsAnds, no_more_and, and_then, SpellsDisjunction, disjunction, SpellsOrs, no_more_or, or_then, SpellsImplication, alone, implication, SpellsFormula, one, two, SpellsReach, reach_one, reach_two}
use Rattle.sp_spec_text.specs.Theories.{SpellsFacts, facts, SpellsArrow, unlabelled, labelled, SpellsBinding, binding, SpellsBindings, last_binding, next_binding, SpellsLet, no_let, let_in, SpellsRule, rule, SpellsRestriction, restriction, SpellsLemma, lemma, SpellsDeclaration, builtins, functions, equations, heuristic, text_block, a_rule, a_restriction, SpellsItems, no_item, declaration_first, lemma_first, SpellsTheory, theory}
use Rattle.sp_law_equal.specs.RightTheory.{no_fresh_names}
use Rattle.sp_law_equal.proofs.Made.{each_valued, each_valued_all, facts_valued}
use Rattle.sp_pose.proofs.Named.{every_item}

-- ---- what the grammar spells

-- no fresh name stands in it
abbrev pub IsSpelledTerm : Term Written → Type 0
IsSpelledTerm t = MadeOf no_fresh_names (λ x. Unit {0}) t

abbrev pub AreSpelledTerms : Terms Written → Type 0
AreSpelledTerms ts = AllMadeOf no_fresh_names (λ x. Unit {0}) ts

abbrev pub IsSpelledFact : Fact Written → Type 0
IsSpelledFact f = AreSpelledTerms f.args

abbrev pub IsSpelledAction : Action Written → Type 0
IsSpelledAction a = AreSpelledTerms a.args

abbrev pub IsSpelledRule : WrittenRule → Type 0
IsSpelledRule r = FactsMadeOf no_fresh_names (λ x. Unit {0}) r.facts

abbrev pub IsSpelledFormula : Formula → Type 0
IsSpelledFormula truth = Unit {0}
IsSpelledFormula falsity = Unit {0}
IsSpelledFormula (happens a i) = AreSpelledTerms a.args
IsSpelledFormula (equals t u) = IsSpelledTerm t × IsSpelledTerm u
IsSpelledFormula (precedes i j) = Unit {0}
IsSpelledFormula (not_so f) = IsSpelledFormula f
IsSpelledFormula (both f g) = IsSpelledFormula f × IsSpelledFormula g
IsSpelledFormula (either f g) = IsSpelledFormula f × IsSpelledFormula g
IsSpelledFormula (implies f g) = IsSpelledFormula f × IsSpelledFormula g
IsSpelledFormula (for_all x f) = IsSpelledFormula f
IsSpelledFormula (for_some x f) = IsSpelledFormula f

mutual
  term_spelled : {n : ℕ} {x : Term Written} {tokens rest : List Lexeme} → SpellsTerm n tokens x rest → IsSpelledTerm x
  term_spelled fixed = tt
  term_spelled (variable v) = tt
  term_spelled (brackets within t) = term_spelled t
  term_spelled (tuple within t) = tuple_spelled t
  term_spelled (application named within ts) = arguments_spelled ts
  term_spelled (braced named within t u) = (tuple_spelled t, (term_spelled u, tt))

  tuple_spelled : {n : ℕ} {close : Sign} {x : Term Written} {tokens rest : List Lexeme} → SpellsTuple n close tokens x rest → IsSpelledTerm x
  tuple_spelled (last_part t) = term_spelled t
  tuple_spelled (next_part t within u) = (term_spelled t, (tuple_spelled u, tt))

  arguments_spelled : {n : ℕ} {xs : Terms Written} {tokens rest : List Lexeme} → SpellsArguments n tokens xs rest → AreSpelledTerms xs
  arguments_spelled no_argument = tt
  arguments_spelled (some_arguments ts) = terms_spelled ts

  terms_spelled : {n : ℕ} {xs : Terms Written} {tokens rest : List Lexeme} → SpellsTerms n tokens xs rest → AreSpelledTerms xs
  terms_spelled (last_term t) = (term_spelled t, tt)
  terms_spelled (next_term t ts) = (term_spelled t, terms_spelled ts)

fact_spelled : {n : ℕ} {f : Fact Written} {tokens rest : List Lexeme} → SpellsFact n tokens f rest → IsSpelledFact f
fact_spelled (linear named within ts annotated) = arguments_spelled ts
fact_spelled (persistent named within ts annotated) = arguments_spelled ts

facts_spelled : {fs : List (Fact Written)} {tokens rest : List Lexeme} → SpellsFacts tokens fs rest → Every IsSpelledFact fs
facts_spelled (facts items) = every_item IsSpelledFact (λ ts x us. fact_spelled) items

arrow_spelled : {fs : List (Fact Written)} {tokens rest : List Lexeme} → SpellsArrow tokens fs rest → Every IsSpelledFact fs
arrow_spelled unlabelled = tt
arrow_spelled (labelled items) = every_item IsSpelledFact (λ ts x us. fact_spelled) items

actions_spelled : (fs : List (Fact Written)) → Every IsSpelledFact fs → Every IsSpelledAction (map action_of fs)
actions_spelled [] e = tt
actions_spelled (f ∷ fs) e = (e.0, actions_spelled fs e.1)

-- ---- values that stand for bound names

binding_spelled : {b : Binding} {tokens rest : List Lexeme} → SpellsBinding tokens b rest → IsSpelledTerm b.value
binding_spelled (binding v t) = term_spelled t

bindings_spelled : {bs : List Binding} {tokens rest : List Lexeme} → SpellsBindings tokens bs rest → Every (IsBoundSo IsSpelledTerm) bs
bindings_spelled (last_binding b) = (binding_spelled b, tt)
bindings_spelled (next_binding b bs) = (binding_spelled b, bindings_spelled bs)

let_spelled : {bs : List Binding} {tokens rest : List Lexeme} → SpellsLet tokens bs rest → Every (IsBoundSo IsSpelledTerm) bs
let_spelled no_let = tt
let_spelled (let_in bs) = bindings_spelled bs

values_keep : (v : Written → Term Written) (t : Term Written) → ((x : Written) → IsSpelledTerm (var x) → IsSpelledTerm (v x)) → IsSpelledTerm t → IsSpelledTerm (valued v t)
values_keep v t h e = each_valued no_fresh_names (λ x. Unit {0}) (λ x. Unit {0}) v h t e

with_values_spelled : (bs : List Binding) (r : WrittenRule) → Every (IsBoundSo IsSpelledTerm) bs → IsSpelledRule r → IsSpelledRule (with_values bs r)
with_values_spelled [] r h e = e
with_values_spelled (b ∷ bs) r h e =
    facts_valued no_fresh_names (λ x. Unit {0}) (λ x. Unit {0}) (value_by (whole (b ∷ bs))) (λ x u. values_so IsSpelledTerm values_keep (b ∷ bs) h x tt) r.facts e

rule_spelled : {bs : List Binding} {r : WrittenRule} {tokens rest : List Lexeme} → SpellsRule tokens bs r rest → IsSpelledRule (with_values bs r)
rule_spelled {bs = bs} {r = r} (rule {actions = actions} head bound premises arrow conclusions) =
    let e : IsSpelledRule r = record { premises = facts_spelled premises; actions = actions_spelled actions (arrow_spelled arrow); conclusions = facts_spelled conclusions } in
    with_values_spelled bs r (let_spelled bound) e

-- ---- formulas

all_bound : (vs : List Written) (f : Formula) → IsSpelledFormula f → IsSpelledFormula (quantified vs f)
all_bound [] f h = h
all_bound (v ∷ vs) f h = all_bound vs f h

some_bound : (vs : List Written) (f : Formula) → IsSpelledFormula f → IsSpelledFormula (quantified_some vs f)
some_bound [] f h = h
some_bound (v ∷ vs) f h = some_bound vs f h

mutual
  unit_spelled : {n : ℕ} {f : Formula} {tokens rest : List Lexeme} → SpellsUnit n tokens f rest → IsSpelledFormula f
  unit_spelled (bracketed within f) = formula_spelled f
  unit_spelled (every {vs = vs} {f = f} within binders h) = all_bound vs f (reach_spelled h)
  unit_spelled (there_is {vs = vs} {f = f} within binders h) = some_bound vs f (reach_spelled h)
  unit_spelled true_unit = tt
  unit_spelled false_unit = tt
  unit_spelled (action f v) = fact_spelled f
  unit_spelled (equation t u) = (term_spelled t, term_spelled u)
  unit_spelled (order i j) = tt

  negation_spelled : {n : ℕ} {f : Formula} {tokens rest : List Lexeme} → SpellsNegation n tokens f rest → IsSpelledFormula f
  negation_spelled (unit_alone f) = unit_spelled f
  negation_spelled (negated f) = unit_spelled f

  conjunction_spelled : {n : ℕ} {f : Formula} {tokens rest : List Lexeme} → SpellsConjunction n tokens f rest → IsSpelledFormula f
  conjunction_spelled (conjunction f others) = ands_spelled (negation_spelled f) others

  ands_spelled : {n : ℕ} {f g : Formula} {tokens rest : List Lexeme} → IsSpelledFormula f → SpellsAnds n f tokens g rest → IsSpelledFormula g
  ands_spelled h no_more_and = h
  ands_spelled h (and_then g others) = ands_spelled (h, negation_spelled g) others

  disjunction_spelled : {n : ℕ} {f : Formula} {tokens rest : List Lexeme} → SpellsDisjunction n tokens f rest → IsSpelledFormula f
  disjunction_spelled (disjunction f others) = ors_spelled (conjunction_spelled f) others

  ors_spelled : {n : ℕ} {f g : Formula} {tokens rest : List Lexeme} → IsSpelledFormula f → SpellsOrs n f tokens g rest → IsSpelledFormula g
  ors_spelled h no_more_or = h
  ors_spelled h (or_then g others) = ors_spelled (h, conjunction_spelled g) others

  implication_spelled : {n : ℕ} {f : Formula} {tokens rest : List Lexeme} → SpellsImplication n tokens f rest → IsSpelledFormula f
  implication_spelled (alone f) = disjunction_spelled f
  implication_spelled (implication f within g) = (disjunction_spelled f, implication_spelled g)

  formula_spelled : {n : ℕ} {f : Formula} {tokens rest : List Lexeme} → SpellsFormula n tokens f rest → IsSpelledFormula f
  formula_spelled (one f) = implication_spelled f
  formula_spelled (two f g) =
      let a = implication_spelled f in
      let b = implication_spelled g in
      ((a, b), (b, a))

  reach_spelled : {n : ℕ} {f : Formula} {tokens rest : List Lexeme} → SpellsReach n tokens f rest → IsSpelledFormula f
  reach_spelled (reach_one f last behind) = implication_spelled f
  reach_spelled (reach_two f g last) =
      let a = implication_spelled f in
      let b = implication_spelled g in
      ((a, b), (b, a))

restriction_spelled : {r : Restriction} {tokens rest : List Lexeme} → SpellsRestriction tokens r rest → IsSpelledFormula r.formula
restriction_spelled (restriction word named f) = formula_spelled f

lemma_spelled : {l : Lemma} {each : List Attribute} {tokens rest : List Lexeme} → SpellsLemma tokens l each rest → IsSpelledFormula l.formula
lemma_spelled (lemma named attributes kind f) = formula_spelled f

-- ---- symbols in the place of names keep it

module _ (symbols : List Symbol) where
  name_kept : (bound : List (List ℕ)) (x : Written) → IsSpelledTerm (resolved_name symbols bound x)
  name_kept bound x = at (is_bare x.mark && (is_constant symbols x.name && not (is_listed x.name bound)))
    where
      at : (b : Bool) → IsSpelledTerm (if b then app x.name none else var x)
      at true = tt
      at false = tt

  term_kept : (bound : List (List ℕ)) (t : Term Written) → IsSpelledTerm t → IsSpelledTerm (resolved_term symbols bound t)
  term_kept bound t h = each_valued no_fresh_names (λ x. Unit {0}) (λ x. Unit {0}) (resolved_name symbols bound) (λ x u. name_kept bound x) t h

  formula_kept : (bound : List (List ℕ)) (f : Formula) → IsSpelledFormula f → IsSpelledFormula (resolved_formula symbols bound f)
  formula_kept bound truth h = tt
  formula_kept bound falsity h = tt
  formula_kept bound (happens a i) h = each_valued_all no_fresh_names (λ x. Unit {0}) (λ x. Unit {0}) (resolved_name symbols bound) (λ x u. name_kept bound x) a.args h
  formula_kept bound (equals t u) h = (term_kept bound t h.0, term_kept bound u h.1)
  formula_kept bound (precedes i j) h = tt
  formula_kept bound (not_so f) h = formula_kept bound f h
  formula_kept bound (both f g) h = (formula_kept bound f h.0, formula_kept bound g h.1)
  formula_kept bound (either f g) h = (formula_kept bound f h.0, formula_kept bound g h.1)
  formula_kept bound (implies f g) h = (formula_kept bound f h.0, formula_kept bound g h.1)
  formula_kept bound (for_all x f) h = formula_kept (x.name ∷ bound) f h
  formula_kept bound (for_some x f) h = formula_kept (x.name ∷ bound) f h

  rule_kept : (r : WrittenRule) → IsSpelledRule r → IsSpelledRule (resolved_rule symbols r)
  rule_kept r h = facts_valued no_fresh_names (λ x. Unit {0}) (λ x. Unit {0}) (resolved_name symbols []) (λ x u. name_kept [] x) r.facts h

-- the rules, the restrictions and the lemmas of a theory
pub record AreSpelled (rules : List WrittenRule) (restrictions : List Restriction) (lemmas : List Lemma) : Type 0 where
  pub rules_are : Every IsSpelledRule rules
  pub restrictions_are : Every (λ (r : Restriction). IsSpelledFormula r.formula) restrictions
  pub lemmas_are : Every (λ (l : Lemma). IsSpelledFormula l.formula) lemmas

module _ (symbols : List Symbol) where
  abbrev AreKept : List Item → Type 0
  AreKept items = AreSpelled (rules_in (map (resolved_item symbols) items)) (restrictions_in (map (resolved_item symbols) items)) (lemmas_in (map (resolved_item symbols) items))

  declaration_kept : {x : Item} {tokens rest : List Lexeme} (items : List Item) → SpellsDeclaration tokens x rest → AreKept items → AreKept (x ∷ items)
  declaration_kept items (builtins bs) m = record { rules_are = m.rules_are; restrictions_are = m.restrictions_are; lemmas_are = m.lemmas_are }
  declaration_kept items (functions fs) m = record { rules_are = m.rules_are; restrictions_are = m.restrictions_are; lemmas_are = m.lemmas_are }
  declaration_kept items (equations es) m = record { rules_are = m.rules_are; restrictions_are = m.restrictions_are; lemmas_are = m.lemmas_are }
  declaration_kept items (heuristic ws) m = record { rules_are = m.rules_are; restrictions_are = m.restrictions_are; lemmas_are = m.lemmas_are }
  declaration_kept items (text_block w) m = record { rules_are = m.rules_are; restrictions_are = m.restrictions_are; lemmas_are = m.lemmas_are }
  declaration_kept items (a_rule {bs = bs} {r = r} h) m = record { rules_are = (rule_kept symbols (with_values bs r) (rule_spelled h), m.rules_are); restrictions_are = m.restrictions_are; lemmas_are = m.lemmas_are }
  declaration_kept items (a_restriction {r = r} h) m =
      record { rules_are = m.rules_are; restrictions_are = (formula_kept symbols [] r.formula (restriction_spelled h), m.restrictions_are); lemmas_are = m.lemmas_are }

  items_kept : {items : List Item} {tokens rest : List Lexeme} → SpellsItems tokens items rest → AreKept items
  items_kept no_item = record { rules_are = tt; restrictions_are = tt; lemmas_are = tt }
  items_kept (declaration_first {items = items} d later) = declaration_kept items d (items_kept later)
  items_kept (lemma_first {l = l} h p later) =
      let m = items_kept later in
      record { rules_are = m.rules_are; restrictions_are = m.restrictions_are; lemmas_are = (formula_kept symbols [] l.formula (lemma_spelled h), m.lemmas_are) }

pub theory_spelled : {tokens : List Lexeme} {t : WrittenText} → SpellsTheory tokens t → AreSpelled (theory_in t).rules (theory_in t).restrictions (theory_in t).lemmas
theory_spelled (theory {items = items} named h) = items_kept (all_symbols items) h
