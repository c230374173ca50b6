-- The symbols, rules, variables, actions and lemmas of a text have names as a text may have them, and its public names may stand in quotes.
use Rattle.std.proofs.Common.{ℕ, Bool, true, false, if◌then◌else◌, List, [], ◌∷◌, ◌++◌, Option}
use Rattle.sp_spec.specs.Lists.{Every, is_listed}
use Rattle.sp_spec.specs.Term.{Variable, Term, var, constant, name, app, Terms, none, more, in_term, in_terms}
use Rattle.sp_spec.specs.Rule.{Fact, Action, Declared, FactsMadeOf, in_facts, in_actions, occurrences, action_at}
use Rattle.sp_spec.specs.Formula.{Written}
use Rattle.sp_spec.specs.Theory.{Restriction, Lemma}
use Rattle.sp_spec.specs.Written.{WrittenRule, sort_in, names_after, rule_names, numbered_in, rule_of}
use Rattle.sp_spec.specs.Constants as constants
use Rattle.sp_spec.specs.Constants.{in_rule, in_rules, in_restrictions, in_lemmas, in_formula, once_after}
use Rattle.sp_spec.proofs.Lists.{every_map, every_weaken, every_append}
use Rattle.sp_spec_text.specs.Token.{Lexeme}
use Rattle.sp_spec_text.specs.Written.{WrittenProof, WrittenCases, Method, Item, builtins_item, functions_item, equations_item, heuristic_item, block_item, rule_item, restriction_item, lemma_item, rules_in, restrictions_in, lemmas_in, WrittenText}
use Rattle.sp_spec_text.specs.Declared.{all_symbols, resolved}
use Rattle.sp_spec_text.specs.Proofs as p
use Rattle.sp_spec_text.specs.Proofs.{SpellsMethod, SpellsProof, SpellsCases, SpellsMore}
use Rattle.sp_spec_text.specs.Theories as t
use Rattle.sp_spec_text.specs.Theories.{SpellsProofPart, SpellsItems, SpellsTheory}
use Rattle.sp_spec_text.specs.Texts.{IsTextOf}
use Rattle.sp_spec_text.specs.Names.{IsNameWord}
use Rattle.sp_spec_printed.specs.StepLines.{IsQuotable}
use Rattle.sp_law_equal.proofs.Made.{facts_valued}
use Rattle.sp_law_printed_log.specs.Shown.{shown_names, IsNamedRule}
use Rattle.sp_law_printed_log.specs.Laws.{TextsHaveNames}
use Rattle.sp_law_printed_log.proofs.TokenWords.{Spoken, tokens_spoken}
use Rattle.sp_law_printed_log.proofs.SpelledNames.{IsNamedVariable, IsNamedTerm, AreNamedTerms, IsNamedFact, IsNamedAction, quotable_in_terms, IsNamedWritten, IsNamedRestriction, IsNamedLemma, lemma_named}
use Rattle.sp_law_printed_log.proofs.DeclaredNames.{IsNamedItem, declaration_named, symbols_named}
use Rattle.sp_law_printed_log.proofs.ResolvedNames.{resolved_items_named}

-- ---- what follows a proof is spoken too

behind_method : {m : Method} {tokens rest : List Lexeme} → SpellsMethod tokens m rest → Every Spoken tokens → Every Spoken rest
behind_method (p.by_word e) k = k.1
behind_method p.by_goal k = k.1

mutual
  behind_proof : {q : WrittenProof} {tokens rest : List Lexeme} → SpellsProof tokens q rest → Every Spoken tokens → Every Spoken rest
  behind_proof p.solved k = k.1
  behind_proof (p.by_method h) k = behind_method h k.1
  behind_proof (p.method_proof h i) k = behind_proof i (behind_method h k)
  behind_proof (p.method_cases h i) k = behind_cases i (behind_method h k)

  behind_cases : {cs : WrittenCases} {tokens rest : List Lexeme} → SpellsCases tokens cs rest → Every Spoken tokens → Every Spoken rest
  behind_cases (p.case n h i) k = behind_more i (behind_proof h k.1.1)

  behind_more : {cs : WrittenCases} {tokens rest : List Lexeme} → SpellsMore tokens cs rest → Every Spoken tokens → Every Spoken rest
  behind_more p.qed k = k.1
  behind_more (p.next h) k = behind_cases h k.1

pub behind_part : {o : Option WrittenProof} {tokens rest : List Lexeme} → SpellsProofPart tokens o rest → Every Spoken tokens → Every Spoken rest
behind_part t.no_proof k = k
behind_part (t.a_proof h) k = behind_proof h k

-- ---- the items

items_named : {items : List Item} {tokens rest : List Lexeme} → SpellsItems tokens items rest → Every Spoken tokens → Every IsNamedItem items
items_named t.no_item k = tt
items_named (t.declaration_first h i) k = let x = declaration_named h k in (x.says, items_named i x.behind)
items_named (t.lemma_first h q i) k = let l = lemma_named h k in (l.says, items_named i (behind_part q l.behind))

theory_named : {tokens : List Lexeme} {theory : WrittenText} → SpellsTheory tokens theory → Every Spoken tokens → Every IsNamedItem theory.items
theory_named (t.theory n i) k = items_named i k.1.1.1

rules_named : (items : List Item) → Every IsNamedItem items → Every IsNamedWritten (rules_in items)
rules_named [] e = tt
rules_named (builtins_item bs ∷ items) e = rules_named items e.1
rules_named (functions_item ss ∷ items) e = rules_named items e.1
rules_named (equations_item es ∷ items) e = rules_named items e.1
rules_named (heuristic_item ws ∷ items) e = rules_named items e.1
rules_named (block_item w ∷ items) e = rules_named items e.1
rules_named (rule_item bs r ∷ items) e = (e.0, rules_named items e.1)
rules_named (restriction_item r ∷ items) e = rules_named items e.1
rules_named (lemma_item l as' p ∷ items) e = rules_named items e.1

restrictions_named : (items : List Item) → Every IsNamedItem items → Every IsNamedRestriction (restrictions_in items)
restrictions_named [] e = tt
restrictions_named (builtins_item bs ∷ items) e = restrictions_named items e.1
restrictions_named (functions_item ss ∷ items) e = restrictions_named items e.1
restrictions_named (equations_item es ∷ items) e = restrictions_named items e.1
restrictions_named (heuristic_item ws ∷ items) e = restrictions_named items e.1
restrictions_named (block_item w ∷ items) e = restrictions_named items e.1
restrictions_named (rule_item bs r ∷ items) e = restrictions_named items e.1
restrictions_named (restriction_item r ∷ items) e = (e.0, restrictions_named items e.1)
restrictions_named (lemma_item l as' p ∷ items) e = restrictions_named items e.1

lemmas_named : (items : List Item) → Every IsNamedItem items → Every IsNamedLemma (lemmas_in items)
lemmas_named [] e = tt
lemmas_named (builtins_item bs ∷ items) e = lemmas_named items e.1
lemmas_named (functions_item ss ∷ items) e = lemmas_named items e.1
lemmas_named (equations_item es ∷ items) e = lemmas_named items e.1
lemmas_named (heuristic_item ws ∷ items) e = lemmas_named items e.1
lemmas_named (block_item w ∷ items) e = lemmas_named items e.1
lemmas_named (rule_item bs r ∷ items) e = lemmas_named items e.1
lemmas_named (restriction_item r ∷ items) e = lemmas_named items e.1
lemmas_named (lemma_item l as' p ∷ items) e = (e.0, lemmas_named items e.1)

-- ---- the variables of a rule

mutual
  named_in_term : (t : Term Written) → IsNamedTerm t → Every IsNamedVariable (in_term t)
  named_in_term (var x) h = (h, tt)
  named_in_term (constant c) h = tt
  named_in_term (name n) h = tt
  named_in_term (app f ts) h = named_in_terms ts h

  named_in_terms : (ts : Terms Written) → AreNamedTerms ts → Every IsNamedVariable (in_terms ts)
  named_in_terms none h = tt
  named_in_terms (more t ts) h = every_append IsNamedVariable (in_term t) (in_terms ts) (named_in_term t h.0) (named_in_terms ts h.1)

named_in_facts : (fs : List (Fact Written)) → Every IsNamedFact fs → Every IsNamedVariable (in_facts fs)
named_in_facts [] e = tt
named_in_facts (f ∷ fs) e = every_append IsNamedVariable (in_terms f.args) (in_facts fs) (named_in_terms f.args e.0.1) (named_in_facts fs e.1)

named_in_actions : (xs : List (Action Written)) → Every IsNamedAction xs → Every IsNamedVariable (in_actions xs)
named_in_actions [] e = tt
named_in_actions (a ∷ xs) e = every_append IsNamedVariable (in_terms a.args) (in_actions xs) (named_in_terms a.args e.0.1) (named_in_actions xs e.1)

named_occurrences : (r : WrittenRule) → IsNamedWritten r → Every IsNamedVariable (occurrences r.facts)
named_occurrences r h =
    let f = r.facts in
    every_append IsNamedVariable (in_facts f.premises) (in_actions f.actions ++ in_facts f.conclusions) (named_in_facts f.premises h.premises)
    (every_append IsNamedVariable (in_actions f.actions) (in_facts f.conclusions) (named_in_actions f.actions h.actions) (named_in_facts f.conclusions h.conclusions))

-- what holds of the names in a list holds of them with one more where it isn't there
every_then : (P : List ℕ → Type 0) (b : Bool) (x : List ℕ) (xs : List (List ℕ)) → P x → Every P xs → Every P (if b then xs else xs ++ x ∷ [])
every_then P true x xs h e = e
every_then P false x xs h e = every_append P xs (x ∷ []) e (h, tt)

every_name : (seen : List (List ℕ)) (xs : List Written) → Every IsNameWord seen → Every IsNamedVariable xs → Every IsNameWord (names_after seen xs)
every_name seen [] e k = e
every_name seen (x ∷ xs) e k =
    let b = is_listed x.name seen in every_name (if b then seen else seen ++ x.name ∷ []) xs (every_then IsNameWord b x.name seen k.0 e) k.1

written_facts : (r : WrittenRule) → IsNamedWritten r → FactsMadeOf shown_names IsNamedVariable r.facts
written_facts r h = record {
  premises = every_weaken IsNamedFact (λ (f : Fact Written). AreNamedTerms f.args) (λ f k. k.1) r.facts.premises h.premises;
  actions = every_weaken IsNamedAction (λ (a : Action Written). AreNamedTerms a.args) (λ a k. k.1) r.facts.actions h.actions;
  conclusions = every_weaken IsNamedFact (λ (f : Fact Written). AreNamedTerms f.args) (λ f k. k.1) r.facts.conclusions h.conclusions;
}

named_rule : (r : WrittenRule) → IsNamedWritten r → IsNamedRule (rule_of r)
named_rule r h = record {
  name = h.name;
  variables = every_map IsNameWord (λ (d : Declared). IsNameWord d.name) (λ x. record { name = x; sort = sort_in r.facts x }) (λ x k. k) (rule_names r.facts)
      (every_name [] (occurrences r.facts) tt (named_occurrences r h));
  actions = every_map IsNamedAction (λ (a : Action Variable). IsNameWord a.symbol) (action_at (numbered_in r.facts)) (λ a k. k.0) r.facts.actions h.actions;
  facts = facts_valued shown_names IsNamedVariable (λ (x : Variable). Unit {0}) (numbered_in r.facts) (λ x k. tt) r.facts (written_facts r h);
}

-- ---- the public names

quotable_in_facts : (fs : List (Fact Written)) → Every IsNamedFact fs → Every IsQuotable (constants.in_facts fs)
quotable_in_facts [] e = tt
quotable_in_facts (f ∷ fs) e = every_append IsQuotable (constants.in_terms f.args) (constants.in_facts fs) (quotable_in_terms f.args e.0.1) (quotable_in_facts fs e.1)

quotable_in_actions : (xs : List (Action Written)) → Every IsNamedAction xs → Every IsQuotable (constants.in_actions xs)
quotable_in_actions [] e = tt
quotable_in_actions (a ∷ xs) e = every_append IsQuotable (constants.in_terms a.args) (constants.in_actions xs) (quotable_in_terms a.args e.0.1) (quotable_in_actions xs e.1)

quotable_in_rule : (r : WrittenRule) → IsNamedWritten r → Every IsQuotable (in_rule r)
quotable_in_rule r h =
    let f = r.facts in
    every_append IsQuotable (constants.in_facts f.premises) (constants.in_actions f.actions ++ constants.in_facts f.conclusions) (quotable_in_facts f.premises h.premises)
    (every_append IsQuotable (constants.in_actions f.actions) (constants.in_facts f.conclusions) (quotable_in_actions f.actions h.actions) (quotable_in_facts f.conclusions h.conclusions))

quotable_in_rules : (rs : List WrittenRule) → Every IsNamedWritten rs → Every IsQuotable (in_rules rs)
quotable_in_rules [] e = tt
quotable_in_rules (r ∷ rs) e = every_append IsQuotable (in_rule r) (in_rules rs) (quotable_in_rule r e.0) (quotable_in_rules rs e.1)

quotable_in_lemmas : (ls : List Lemma) → Every IsNamedLemma ls → Every IsQuotable (in_lemmas ls)
quotable_in_lemmas [] e = tt
quotable_in_lemmas (l ∷ ls) e = every_append IsQuotable (in_formula l.formula) (in_lemmas ls) e.0.1 (quotable_in_lemmas ls e.1)

every_once : (seen cs : List (List ℕ)) → Every IsQuotable seen → Every IsQuotable cs → Every IsQuotable (once_after seen cs)
every_once seen [] e k = e
every_once seen (c ∷ cs) e k = let b = is_listed c seen in every_once (if b then seen else seen ++ c ∷ []) cs (every_then IsQuotable b c seen k.0 e) k.1

quotable_in_restrictions : (rs : List Restriction) → Every IsNamedRestriction rs → Every IsQuotable (in_restrictions rs)
quotable_in_restrictions [] e = tt
quotable_in_restrictions (r ∷ rs) e = every_append IsQuotable (in_formula r.formula) (in_restrictions rs) e.0.1 (quotable_in_restrictions rs e.1)

quotable_constants : (rules : List WrittenRule) (restrictions : List Restriction) (lemmas : List Lemma) → Every IsNamedWritten rules → Every IsNamedRestriction restrictions → Every IsNamedLemma lemmas
    → Every IsQuotable (once_after [] (in_rules rules ++ (in_restrictions restrictions ++ in_lemmas lemmas)))
quotable_constants rules restrictions lemmas r s l =
    every_once [] (in_rules rules ++ (in_restrictions restrictions ++ in_lemmas lemmas)) tt
    (every_append IsQuotable (in_rules rules) (in_restrictions restrictions ++ in_lemmas lemmas) (quotable_in_rules rules r)
    (every_append IsQuotable (in_restrictions restrictions) (in_lemmas lemmas) (quotable_in_restrictions restrictions s) (quotable_in_lemmas lemmas l)))

-- ---- the text, and what it says

text_named : (text : List ℕ) (theory : WrittenText) → IsTextOf text theory → Every IsNamedItem theory.items
text_named text theory h = theory_named h.spells (tokens_spoken h.cut)

resolved_named : (text : List ℕ) (theory : WrittenText) → IsTextOf text theory → Every IsNamedItem (resolved theory).items
resolved_named text theory h = resolved_items_named (all_symbols theory.items) theory.items (text_named text theory h)

pub texts_have_names_lem : TextsHaveNames
texts_have_names_lem = record {
  symbols = λ text theory h. symbols_named theory.items (text_named text theory h);
  rules = λ text theory h.
      every_map IsNamedWritten IsNamedRule rule_of named_rule (rules_in (resolved theory).items) (rules_named (resolved theory).items (resolved_named text theory h));
  lemmas = λ text theory h.
      every_weaken IsNamedLemma (λ (l : Lemma). IsNameWord l.name) (λ l k. k.0) (lemmas_in (resolved theory).items) (lemmas_named (resolved theory).items (resolved_named text theory h));
  constants = λ text theory h.
      let items = (resolved theory).items in
      let e = resolved_named text theory h in
      quotable_constants (rules_in items) (restrictions_in items) (lemmas_in items) (rules_named items e) (restrictions_named items e) (lemmas_named items e);
}
