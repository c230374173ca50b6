-- A text has the public names of its rules, of its restrictions and of its lemmas.
use Rattle.std.proofs.Common.{◌≡◌, ℕ, true, List, [], ◌∷◌, ◌++◌}
use Rattle.sp_spec.specs.Lists.{Every, Member, is_listed}
use Rattle.sp_spec.specs.Term.{any_names, Term, var, constant, name, app, Terms, none, more, MadeOf, AllMadeOf, EachVariables}
use Rattle.sp_spec.specs.Signature.{Signature}
use Rattle.sp_spec.specs.Formula.{Written, Formula, truth, falsity, happens, equals, precedes, not_so, both, either, implies, for_all, for_some}
use Rattle.sp_spec.specs.Rule.{Fact, Action}
use Rattle.sp_spec.specs.Theory.{Restriction, Lemma, signature_of}
use Rattle.sp_spec.specs.Written.{WrittenRule, WrittenTheory, theory_of}
use Rattle.sp_spec.specs.Constants.{in_term, in_terms, in_facts, in_actions, in_rule, in_rules, in_formula, in_restrictions, in_lemmas, constants_of}
use Rattle.sp_spec.proofs.Lists.{every_parts, every_member}
use Rattle.sp_spec.proofs.Standing.{all_stand}
use Rattle.sp_spec_system.specs.Numbered.{names_in}
use Rattle.sp_law_equal.specs.RightTheory.{no_fresh_names}
use Rattle.sp_law_equal.proofs.Made.{all_made_both}
use Rattle.sp_law_basic.specs.BasicTheory.{IsBasicFormula, HasNames}

-- each of these names is in the list
abbrev pub AreListed : List (List ℕ) → List (List ℕ) → Type 0
AreListed listed names = Every (λ (c : List ℕ). is_listed c listed ≡ true) names

-- terms without fresh names, all of whose public names are listed
module _ (listed : List (List ℕ)) where
  abbrev any_written : Written → Type 0
  any_written x = Unit {0}

  mutual
    listed_made : (t : Term Written) → MadeOf no_fresh_names any_written t → AreListed listed (in_term t) → MadeOf (names_in listed) any_written t
    listed_made (var x) a k = tt
    listed_made (constant c) a k = k.0
    listed_made (name n) a k = absurd a
    listed_made (app f ts) a k = all_listed_made ts a k

    all_listed_made : (ts : Terms Written) → AllMadeOf no_fresh_names any_written ts → AreListed listed (in_terms ts) → AllMadeOf (names_in listed) any_written ts
    all_listed_made none a k = tt
    all_listed_made (more t ts) a k = let both = every_parts _ (in_term t) (in_terms ts) k in (listed_made t a.0 both.0, all_listed_made ts a.1 both.1)

  module _ (P : Written → Type 0) where
    arguments_made : (ts : Terms Written) → AllMadeOf no_fresh_names any_written ts → AreListed listed (in_terms ts) → EachVariables P ts → AllMadeOf (names_in listed) P ts
    arguments_made ts a k h = all_made_both (names_in listed) any_names P ts (all_listed_made ts a k) h

    pub facts_made : (fs : List (Fact Written)) → Every (λ (f : Fact Written). AllMadeOf no_fresh_names any_written f.args) fs → AreListed listed (in_facts fs) → Every (λ (f : Fact Written). EachVariables P f.args) fs
        → Every (λ (f : Fact Written). AllMadeOf (names_in listed) P f.args) fs
    facts_made [] a k h = tt
    facts_made (f ∷ fs) a k h = let both = every_parts _ (in_terms f.args) (in_facts fs) k in (arguments_made f.args a.0 both.0 h.0, facts_made fs a.1 both.1 h.1)

    pub actions_made : (xs : List (Action Written)) → Every (λ (a : Action Written). AllMadeOf no_fresh_names any_written a.args) xs → AreListed listed (in_actions xs) → Every (λ (a : Action Written). EachVariables P a.args) xs
        → Every (λ (a : Action Written). AllMadeOf (names_in listed) P a.args) xs
    actions_made [] a k h = tt
    actions_made (x ∷ xs) a k h = let both = every_parts _ (in_terms x.args) (in_actions xs) k in (arguments_made x.args a.0 both.0 h.0, actions_made xs a.1 both.1 h.1)

  formula_named : (signature : Signature) (f : Formula) → IsBasicFormula signature f → AreListed listed (in_formula f) → HasNames (names_in listed) f
  formula_named signature truth a k = tt
  formula_named signature falsity a k = tt
  formula_named signature (happens x i) a k = all_listed_made x.args a.1 k
  formula_named signature (equals t u) a k = let both = every_parts _ (in_term t) (in_term u) k in (listed_made t a.0.1 both.0, listed_made u a.1.1 both.1)
  formula_named signature (precedes i j) a k = tt
  formula_named signature (not_so f) a k = formula_named signature f a k
  formula_named signature (both f g) a k = let c = every_parts _ (in_formula f) (in_formula g) k in (formula_named signature f a.0 c.0, formula_named signature g a.1 c.1)
  formula_named signature (either f g) a k = let c = every_parts _ (in_formula f) (in_formula g) k in (formula_named signature f a.0 c.0, formula_named signature g a.1 c.1)
  formula_named signature (implies f g) a k = let c = every_parts _ (in_formula f) (in_formula g) k in (formula_named signature f a.0 c.0, formula_named signature g a.1 c.1)
  formula_named signature (for_all x f) a k = formula_named signature f a k
  formula_named signature (for_some x f) a k = formula_named signature f a k

-- of lists behind each other
rule_listed : (listed : List (List ℕ)) (rules : List WrittenRule) → AreListed listed (in_rules rules) → Every (λ (r : WrittenRule). AreListed listed (in_rule r)) rules
rule_listed listed [] k = tt
rule_listed listed (r ∷ rules) k = let both = every_parts _ (in_rule r) (in_rules rules) k in (both.0, rule_listed listed rules both.1)

restriction_listed : (listed : List (List ℕ)) (restrictions : List Restriction) → AreListed listed (in_restrictions restrictions) → Every (λ (r : Restriction). AreListed listed (in_formula r.formula)) restrictions
restriction_listed listed [] k = tt
restriction_listed listed (r ∷ restrictions) k = let both = every_parts _ (in_formula r.formula) (in_restrictions restrictions) k in (both.0, restriction_listed listed restrictions both.1)

lemma_listed : (listed : List (List ℕ)) (lemmas : List Lemma) → AreListed listed (in_lemmas lemmas) → Every (λ (l : Lemma). AreListed listed (in_formula l.formula)) lemmas
lemma_listed listed [] k = tt
lemma_listed listed (l ∷ lemmas) k = let both = every_parts _ (in_formula l.formula) (in_lemmas lemmas) k in (both.0, lemma_listed listed lemmas both.1)

-- the names of its rules, and those behind them
text_listed : (theory : WrittenTheory) → AreListed (constants_of theory) (in_rules theory.rules) × AreListed (constants_of theory) (in_restrictions theory.restrictions ++ in_lemmas theory.lemmas)
text_listed theory =
    every_parts _ (in_rules theory.rules) (in_restrictions theory.restrictions ++ in_lemmas theory.lemmas) (all_stand (in_rules theory.rules ++ (in_restrictions theory.restrictions ++ in_lemmas theory.lemmas)) [])

formulas_listed : (theory : WrittenTheory) → AreListed (constants_of theory) (in_restrictions theory.restrictions) × AreListed (constants_of theory) (in_lemmas theory.lemmas)
formulas_listed theory = every_parts _ (in_restrictions theory.restrictions) (in_lemmas theory.lemmas) (text_listed theory).1

pub rules_listed : (theory : WrittenTheory) → Every (λ (r : WrittenRule). AreListed (constants_of theory) (in_rule r)) theory.rules
rules_listed theory = rule_listed (constants_of theory) theory.rules (text_listed theory).0

pub restriction_has_names : (theory : WrittenTheory) (r : Restriction) → Member r theory.restrictions → IsBasicFormula (signature_of (theory_of theory)) r.formula
    → HasNames (names_in (constants_of theory)) r.formula
restriction_has_names theory r member basic =
    let each = restriction_listed (constants_of theory) theory.restrictions (formulas_listed theory).0 in
    formula_named (constants_of theory) (signature_of (theory_of theory)) r.formula basic (every_member _ theory.restrictions r member each)

pub lemma_has_names : (theory : WrittenTheory) (lemma : Lemma) → Member lemma theory.lemmas → IsBasicFormula (signature_of (theory_of theory)) lemma.formula
    → HasNames (names_in (constants_of theory)) lemma.formula
lemma_has_names theory lemma member basic =
    let each = lemma_listed (constants_of theory) theory.lemmas (formulas_listed theory).1 in
    formula_named (constants_of theory) (signature_of (theory_of theory)) lemma.formula basic (every_member _ theory.lemmas lemma member each)
