-- The names and the public names in what the grammar spells are among the lexemes that spell it: those are names, and may stand in quotes.
use Rattle.std.proofs.Common.{◌≡◌, ℕ, Bool, true, false, List, [], ◌∷◌, ◌++◌, refl}
use Rattle.std.specs.Prelude.{not, ◌&&◌, ◌||◌, if◌then◌else◌, codes}
use Rattle.std.specs.Str.{bytes_eq}
use Rattle.sp_spec.specs.Lists.{Every}
use Rattle.sp_spec.specs.Term.{Term, var, constant, name, app, Terms, none, more, valued, MadeOf, AllMadeOf}
use Rattle.sp_spec.specs.Rule.{Fact, Action, fact_at, action_at, facts_at}
use Rattle.sp_spec.specs.Formula.{Written, Formula}
use Rattle.sp_spec.specs.Theory.{TraceKind, Restriction, Lemma}
use Rattle.sp_spec.specs.Written.{WrittenRule}
use Rattle.sp_spec.specs.Constants.{in_term, in_terms, in_formula}
use Rattle.sp_spec.proofs.Lists.{every_map, every_append}
use Rattle.sp_spec_text.specs.Signs.{Sign}
use Rattle.sp_spec_text.specs.Token.{Lexeme}
use Rattle.sp_spec_text.specs.Names.{is_reserved, is_capital, names_fact, IsName, IsNameWord}
use Rattle.sp_spec_text.specs.Plain.{plain_to_quote}
use Rattle.sp_spec_text.specs.Attributes.{attribute_of}
use Rattle.sp_spec_text.specs.Bindings.{Binding, value_by, whole, with_values}
use Rattle.sp_spec_text.specs.Written.{Attribute, reused, of_sources, by_induction, hiding, ranked_by, unknown}
use Rattle.sp_spec_text.proofs.Valued.{IsBoundSo, values_so}
use Rattle.sp_spec_text.specs.Lists as l
use Rattle.sp_spec_text.specs.Lists.{AreParts, AreItems, AreListed}
use Rattle.sp_spec_text.specs.Shapes.{action_of, quantified}
use Rattle.sp_spec_text.specs.Formulas as g
use Rattle.sp_spec_text.specs.Formulas.{SpellsVariable, SpellsTerm, SpellsTuple, SpellsArguments, SpellsTerms, SpellsAnnotation, SpellsAnnotations, SpellsFact, SpellsBinders, quantified_some, equivalent, SpellsUnit, SpellsNegation, SpellsConjunction, SpellsAnds, SpellsDisjunction, SpellsOrs, SpellsImplication, SpellsFormula, SpellsReach}
use Rattle.sp_spec_text.specs.Theories as t
use Rattle.sp_spec_text.specs.Theories.{SpellsFacts, SpellsArrow, SpellsModulo, SpellsBalanced, SpellsRuleAttributes, SpellsBinding, SpellsBindings, SpellsLet, SpellsRuleHead, SpellsRule, SpellsQuoted, SpellsRestriction, SpellsKind, SpellsLemmaAttribute, SpellsLemmaAttributes, SpellsLemma}
use Rattle.sp_spec_printed.specs.StepLines.{IsQuotable}
use Rattle.sp_law_printed_log.specs.Shown.{shown_names}
use Rattle.sp_law_equal.proofs.Made.{each_valued, each_valued_all}
use Rattle.sp_law_printed_log.proofs.TokenWords.{Spoken, spoken_plain}

abbrev pub IsNamedVariable : Written → Type 0
IsNamedVariable x = IsNameWord x.name

-- a text writes no fresh names
abbrev pub IsNamedTerm : Term Written → Type 0
IsNamedTerm t = MadeOf shown_names IsNamedVariable t

abbrev pub AreNamedTerms : Terms Written → Type 0
AreNamedTerms ts = AllMadeOf shown_names IsNamedVariable ts

abbrev pub IsNamedFact : Fact Written → Type 0
IsNamedFact f = IsNameWord f.symbol × AreNamedTerms f.args

abbrev pub IsNamedAction : Action Written → Type 0
IsNamedAction a = IsNameWord a.symbol × AreNamedTerms a.args

-- what holds of what is spelled; what follows is spoken too
pub record Spelled (P : Type 0) (rest : List Lexeme) : Type 0 where
  pub says : P
  pub behind : Every Spoken rest

-- ---- variables, terms and facts

variable_named : {v : Written} {tokens rest : List Lexeme} → SpellsVariable tokens v rest → Every Spoken tokens → Spelled (IsNamedVariable v) rest
variable_named (g.marked e n) k = record { says = (n, k.1.0); behind = k.1.1 }
variable_named (g.unmarked n) k = record { says = (n, k.0); behind = k.1 }
variable_named (g.sorted n e) k = record { says = (n, k.0); behind = k.1.1.1 }

mutual
  pub term_named : {n : ℕ} {x : Term Written} {tokens rest : List Lexeme} → SpellsTerm n tokens x rest → Every Spoken tokens → Spelled (IsNamedTerm x) rest
  term_named g.fixed k = record { says = k.0; behind = k.1 }
  term_named (g.variable h) k = variable_named h k
  term_named (g.brackets within h) k = let t = term_named h k.1 in record { says = t.says; behind = t.behind.1 }
  term_named (g.tuple within h) k = tuple_named h k.1
  term_named (g.application n within h) k = arguments_named h k.1.1
  term_named (g.braced n within h i) k =
      let a = tuple_named h k.1.1 in
      let b = term_named i a.behind in
      record { says = (a.says, (b.says, tt)); behind = b.behind }

  tuple_named : {n : ℕ} {close : Sign} {x : Term Written} {tokens rest : List Lexeme} → SpellsTuple n close tokens x rest → Every Spoken tokens → Spelled (IsNamedTerm x) rest
  tuple_named (g.last_part h) k = let t = term_named h k in record { says = t.says; behind = t.behind.1 }
  tuple_named (g.next_part h within i) k =
      let a = term_named h k in
      let b = tuple_named i a.behind.1 in
      record { says = (a.says, (b.says, tt)); behind = b.behind }

  arguments_named : {n : ℕ} {xs : Terms Written} {tokens rest : List Lexeme} → SpellsArguments n tokens xs rest → Every Spoken tokens → Spelled (AreNamedTerms xs) rest
  arguments_named g.no_argument k = record { says = tt; behind = k.1 }
  arguments_named (g.some_arguments h) k = terms_named h k

  terms_named : {n : ℕ} {xs : Terms Written} {tokens rest : List Lexeme} → SpellsTerms n tokens xs rest → Every Spoken tokens → Spelled (AreNamedTerms xs) rest
  terms_named (g.last_term h) k = let t = term_named h k in record { says = (t.says, tt); behind = t.behind.1 }
  terms_named (g.next_term h i) k =
      let a = term_named h k in
      let b = terms_named i a.behind.1 in
      record { says = (a.says, b.says); behind = b.behind }

pub part_named : {A : Type 0} {R : List Lexeme → A → List Lexeme → Type 0} {between close : Sign} {tokens rest : List Lexeme} {xs : List A} (P : A → Type 0)
    → ((ts : List Lexeme) (x : A) (us : List Lexeme) → R ts x us → Every Spoken ts → Spelled (P x) us) → AreParts R between close tokens xs rest → Every Spoken tokens → Spelled (Every P xs) rest
part_named P h (l.last {x = x} {tokens = ts} r) k = let p = h ts x (_) r k in record { says = (p.says, tt); behind = p.behind.1 }
part_named P h (l.next {x = x} {tokens = ts} r parts) k =
    let p = h ts x (_) r k in
    let q = part_named P h parts p.behind.1 in
    record { says = (p.says, q.says); behind = q.behind }

pub item_named : {A : Type 0} {R : List Lexeme → A → List Lexeme → Type 0} {close : Sign} {tokens rest : List Lexeme} {xs : List A} (P : A → Type 0)
    → ((ts : List Lexeme) (x : A) (us : List Lexeme) → R ts x us → Every Spoken ts → Spelled (P x) us) → AreItems R close tokens xs rest → Every Spoken tokens → Spelled (Every P xs) rest
item_named P h l.empty k = record { says = tt; behind = k.1 }
item_named P h (l.some parts) k = part_named P h parts k

pub listed_named : {A : Type 0} {R : List Lexeme → A → List Lexeme → Type 0} {tokens rest : List Lexeme} {xs : List A} (P : A → Type 0)
    → ((ts : List Lexeme) (x : A) (us : List Lexeme) → R ts x us → Every Spoken ts → Spelled (P x) us) → AreListed R tokens xs rest → Every Spoken tokens → Spelled (Every P xs) rest
listed_named P h (l.alone {x = x} {tokens = ts} r) k = let p = h ts x (_) r k in record { says = (p.says, tt); behind = p.behind }
listed_named P h (l.and_more {x = x} {tokens = ts} r others) k =
    let p = h ts x (_) r k in
    let q = listed_named P h others p.behind.1 in
    record { says = (p.says, q.says); behind = q.behind }

-- what names a fact isn't reserved
fact_name : (a b : Bool) → (a && not b) ≡ true → b ≡ false
fact_name true false h = refl
fact_name true true h = absurd (let none : ⊥ = cc in none)
fact_name false b h = absurd (let none : ⊥ = cc in none)

pub symbol_named : (w : List ℕ) → names_fact w ≡ true → IsName w
symbol_named w h = fact_name (is_capital w) (is_reserved w) h

annotation_behind : {x : Lexeme} {tokens rest : List Lexeme} → SpellsAnnotation tokens x rest → Every Spoken tokens → Every Spoken rest
annotation_behind (g.annotation e) k = k.1

pub annotations_behind : {tokens rest : List Lexeme} → SpellsAnnotations tokens rest → Every Spoken tokens → Every Spoken rest
annotations_behind g.no_annotation k = k
annotations_behind (g.annotations parts) k = (part_named (λ (x : Lexeme). Unit {0}) (λ ts x us h j. record { says = tt; behind = annotation_behind h j }) parts k.1).behind

pub fact_named : {n : ℕ} {f : Fact Written} {tokens rest : List Lexeme} → SpellsFact n tokens f rest → Every Spoken tokens → Spelled (IsNamedFact f) rest
fact_named (g.linear {w = w} e within h annotated) k =
    let terms = arguments_named h k.1.1 in
    record { says = ((symbol_named w e, k.0), terms.says); behind = annotations_behind annotated terms.behind }
fact_named (g.persistent {w = w} e within h annotated) k =
    let terms = arguments_named h k.1.1.1 in
    record { says = ((symbol_named w e, k.1.0), terms.says); behind = annotations_behind annotated terms.behind }

-- ---- formulas: their public names

mutual
  pub quotable_in_term : (t : Term Written) → IsNamedTerm t → Every IsQuotable (in_term t)
  quotable_in_term (var x) h = tt
  quotable_in_term (constant c) h = (h, tt)
  quotable_in_term (name n) h = tt
  quotable_in_term (app f ts) h = quotable_in_terms ts h

  pub quotable_in_terms : (ts : Terms Written) → AreNamedTerms ts → Every IsQuotable (in_terms ts)
  quotable_in_terms none h = tt
  quotable_in_terms (more t ts) h = every_append IsQuotable (in_term t) (in_terms ts) (quotable_in_term t h.0) (quotable_in_terms ts h.1)

abbrev pub IsQuotableFormula : Formula → Type 0
IsQuotableFormula f = Every IsQuotable (in_formula f)

two_quotable : (f g : Formula) → IsQuotableFormula f → IsQuotableFormula g → Every IsQuotable (in_formula f ++ in_formula g)
two_quotable f g a b = every_append IsQuotable (in_formula f) (in_formula g) a b

equivalent_quotable : (f g : Formula) → IsQuotableFormula f → IsQuotableFormula g → IsQuotableFormula (equivalent f g)
equivalent_quotable f g a b = every_append IsQuotable (in_formula f ++ in_formula g) (in_formula g ++ in_formula f) (two_quotable f g a b) (two_quotable g f b a)

all_bound : (vs : List Written) (f : Formula) → IsQuotableFormula f → IsQuotableFormula (quantified vs f)
all_bound [] f h = h
all_bound (v ∷ vs) f h = all_bound vs f h

some_bound : (vs : List Written) (f : Formula) → IsQuotableFormula f → IsQuotableFormula (quantified_some vs f)
some_bound [] f h = h
some_bound (v ∷ vs) f h = some_bound vs f h

binders_behind : {vs : List Written} {tokens rest : List Lexeme} → SpellsBinders tokens vs rest → Every Spoken tokens → Every Spoken rest
binders_behind (g.one_binder h) k = (variable_named h k).behind.1
binders_behind (g.more_binders h binders) k = binders_behind binders (variable_named h k).behind

mutual
  unit_quotable : {n : ℕ} {f : Formula} {tokens rest : List Lexeme} → SpellsUnit n tokens f rest → Every Spoken tokens → Spelled (IsQuotableFormula f) rest
  unit_quotable (g.bracketed within h) k = let f = formula_quotable h k.1 in record { says = f.says; behind = f.behind.1 }
  unit_quotable (g.every {vs = vs} {f = f} within binders h) k =
      let body = reach_quotable h (binders_behind binders k.1) in
      record { says = all_bound vs f body.says; behind = body.behind }
  unit_quotable (g.there_is {vs = vs} {f = f} within binders h) k =
      let body = reach_quotable h (binders_behind binders k.1) in
      record { says = some_bound vs f body.says; behind = body.behind }
  unit_quotable g.true_unit k = record { says = tt; behind = k.1 }
  unit_quotable g.false_unit k = record { says = tt; behind = k.1 }
  unit_quotable (g.action {f = f} h v) k =
      let a = fact_named h k in
      record { says = quotable_in_terms f.args a.says.1; behind = (variable_named v a.behind.1).behind }
  unit_quotable (g.equation {x = x} {y = y} h i) k =
      let a = term_named h k in
      let b = term_named i a.behind.1 in
      record { says = every_append IsQuotable (in_term x) (in_term y) (quotable_in_term x a.says) (quotable_in_term y b.says); behind = b.behind }
  unit_quotable (g.order i j) k = record { says = tt; behind = (variable_named j (variable_named i k).behind.1).behind }

  negation_quotable : {n : ℕ} {f : Formula} {tokens rest : List Lexeme} → SpellsNegation n tokens f rest → Every Spoken tokens → Spelled (IsQuotableFormula f) rest
  negation_quotable (g.unit_alone h) k = unit_quotable h k
  negation_quotable (g.negated h) k = let f = unit_quotable h k.1 in record { says = f.says; behind = f.behind }

  conjunction_quotable : {n : ℕ} {f : Formula} {tokens rest : List Lexeme} → SpellsConjunction n tokens f rest → Every Spoken tokens → Spelled (IsQuotableFormula f) rest
  conjunction_quotable (g.conjunction h more_ands) k = let f = negation_quotable h k in ands_quotable f.says more_ands f.behind

  ands_quotable : {n : ℕ} {f h : Formula} {tokens rest : List Lexeme} → IsQuotableFormula f → SpellsAnds n f tokens h rest → Every Spoken tokens → Spelled (IsQuotableFormula h) rest
  ands_quotable a g.no_more_and k = record { says = a; behind = k }
  ands_quotable a (g.and_then {f = f} {g = e} h more_ands) k = let b = negation_quotable h k.1 in ands_quotable (two_quotable f e a b.says) more_ands b.behind

  disjunction_quotable : {n : ℕ} {f : Formula} {tokens rest : List Lexeme} → SpellsDisjunction n tokens f rest → Every Spoken tokens → Spelled (IsQuotableFormula f) rest
  disjunction_quotable (g.disjunction h more_ors) k = let f = conjunction_quotable h k in ors_quotable f.says more_ors f.behind

  ors_quotable : {n : ℕ} {f h : Formula} {tokens rest : List Lexeme} → IsQuotableFormula f → SpellsOrs n f tokens h rest → Every Spoken tokens → Spelled (IsQuotableFormula h) rest
  ors_quotable a g.no_more_or k = record { says = a; behind = k }
  ors_quotable a (g.or_then {f = f} {g = e} h more_ors) k = let b = conjunction_quotable h k.1 in ors_quotable (two_quotable f e a b.says) more_ors b.behind

  implication_quotable : {n : ℕ} {f : Formula} {tokens rest : List Lexeme} → SpellsImplication n tokens f rest → Every Spoken tokens → Spelled (IsQuotableFormula f) rest
  implication_quotable (g.alone h) k = disjunction_quotable h k
  implication_quotable (g.implication {f = f} {g = e} h within i) k =
      let a = disjunction_quotable h k in
      let b = implication_quotable i a.behind.1 in
      record { says = two_quotable f e a.says b.says; behind = b.behind }

  pub formula_quotable : {n : ℕ} {f : Formula} {tokens rest : List Lexeme} → SpellsFormula n tokens f rest → Every Spoken tokens → Spelled (IsQuotableFormula f) rest
  formula_quotable (g.one h) k = implication_quotable h k
  formula_quotable (g.two {f = f} {g = e} h i) k =
      let a = implication_quotable h k in
      let b = implication_quotable i a.behind.1 in
      record { says = equivalent_quotable f e a.says b.says; behind = b.behind }

  reach_quotable : {n : ℕ} {f : Formula} {tokens rest : List Lexeme} → SpellsReach n tokens f rest → Every Spoken tokens → Spelled (IsQuotableFormula f) rest
  reach_quotable (g.reach_one h no_sign no_iff) k = implication_quotable h k
  reach_quotable (g.reach_two {f = f} {g = e} h i no_sign) k =
      let a = implication_quotable h k in
      let b = implication_quotable i a.behind.1 in
      record { says = equivalent_quotable f e a.says b.says; behind = b.behind }

-- behind its opening quote, where signs of logic are read as the text beside them
pub quoted_named : (tokens : List Lexeme) {f : Formula} {rest : List Lexeme} → SpellsQuoted tokens f rest → Every Spoken tokens → Spelled (IsQuotableFormula f) rest
quoted_named tokens h k = let f = formula_quotable h (spoken_plain tokens k) in record { says = f.says; behind = f.behind.1 }

-- ---- rules

-- a rule, its facts and its actions have names, and so have its variables
pub record IsNamedWritten (r : WrittenRule) : Type 0 where
  pub name : IsNameWord r.name
  pub premises : Every IsNamedFact r.facts.premises
  pub actions : Every IsNamedAction r.facts.actions
  pub conclusions : Every IsNamedFact r.facts.conclusions

facts_named : {fs : List (Fact Written)} {tokens rest : List Lexeme} → SpellsFacts tokens fs rest → Every Spoken tokens → Spelled (Every IsNamedFact fs) rest
facts_named (t.facts items) k = item_named IsNamedFact (λ ts x us. fact_named) items k.1

arrow_named : {fs : List (Fact Written)} {tokens rest : List Lexeme} → SpellsArrow tokens fs rest → Every Spoken tokens → Spelled (Every IsNamedFact fs) rest
arrow_named t.unlabelled k = record { says = tt; behind = k.1 }
arrow_named (t.labelled items) k = item_named IsNamedFact (λ ts x us. fact_named) items k.1

pub modulo_behind : {tokens rest : List Lexeme} → SpellsModulo tokens rest → Every Spoken tokens → Every Spoken rest
modulo_behind t.no_modulo k = k
modulo_behind (t.modulo n) k = k.1.1.1.1

balanced_behind : {tokens rest : List Lexeme} → SpellsBalanced tokens rest → Every Spoken tokens → Every Spoken rest
balanced_behind t.closed k = k.1
balanced_behind (t.nested h i) k = balanced_behind i (balanced_behind h k.1)
balanced_behind (t.passed e d h) k = balanced_behind h k.1

pub rule_attributes_behind : {tokens rest : List Lexeme} → SpellsRuleAttributes tokens rest → Every Spoken tokens → Every Spoken rest
rule_attributes_behind t.no_rule_attribute k = k
rule_attributes_behind (t.rule_attributes h) k = balanced_behind h k.1

pub head_named : {w : List ℕ} {tokens rest : List Lexeme} → SpellsRuleHead tokens w rest → Every Spoken tokens → Spelled (IsNameWord w) rest
head_named (t.rule_head m n a) k = let named = modulo_behind m k.1 in record { says = (n, named.0); behind = (rule_attributes_behind a named.1).1 }

-- what is bound has names, and so has each value that stands for a name
binding_named : {b : Binding} {tokens rest : List Lexeme} → SpellsBinding tokens b rest → Every Spoken tokens → Spelled (IsNamedTerm b.value) rest
binding_named (t.binding v h) k = term_named h (variable_named v k).behind.1

bindings_named : {bs : List Binding} {tokens rest : List Lexeme} → SpellsBindings tokens bs rest → Every Spoken tokens → Spelled (Every (IsBoundSo IsNamedTerm) bs) rest
bindings_named (t.last_binding h) k = let b = binding_named h k in record { says = (b.says, tt); behind = b.behind.1 }
bindings_named (t.next_binding h later) k =
    let b = binding_named h k in
    let others = bindings_named later b.behind in
    record { says = (b.says, others.says); behind = others.behind }

let_named : {bs : List Binding} {tokens rest : List Lexeme} → SpellsLet tokens bs rest → Every Spoken tokens → Spelled (Every (IsBoundSo IsNamedTerm) bs) rest
let_named t.no_let k = record { says = tt; behind = k }
let_named (t.let_in h) k = bindings_named h k.1

pub rule_valued : (v : Written → Term Written) → ((x : Written) → IsNamedVariable x → IsNamedTerm (v x)) → (r : WrittenRule) → IsNamedWritten r → IsNamedWritten (record { name = r.name; facts = facts_at v r.facts })
rule_valued v h r e =
    let args : (ts : Terms Written) → AreNamedTerms ts → AreNamedTerms _ = λ ts k. each_valued_all shown_names IsNamedVariable IsNamedVariable v h ts k in
    record {
      name = e.name;
      premises = every_map IsNamedFact IsNamedFact (fact_at v) (λ f k. (k.0, args f.args k.1)) r.facts.premises e.premises;
      actions = every_map IsNamedAction IsNamedAction (action_at v) (λ a k. (k.0, args a.args k.1)) r.facts.actions e.actions;
      conclusions = every_map IsNamedFact IsNamedFact (fact_at v) (λ f k. (k.0, args f.args k.1)) r.facts.conclusions e.conclusions;
    }

values_keep : (v : Written → Term Written) (t : Term Written) → ((x : Written) → IsNamedTerm (var x) → IsNamedTerm (v x)) → IsNamedTerm t → IsNamedTerm (valued v t)
values_keep v t h e = each_valued shown_names IsNamedVariable IsNamedVariable v h t e

with_values_named : (bs : List Binding) (r : WrittenRule) → Every (IsBoundSo IsNamedTerm) bs → IsNamedWritten r → IsNamedWritten (with_values bs r)
with_values_named [] r h e = e
with_values_named (b ∷ bs) r h e = rule_valued (value_by (whole (b ∷ bs))) (values_so IsNamedTerm values_keep (b ∷ bs) h) r e

pub rule_named : {bs : List Binding} {r : WrittenRule} {tokens rest : List Lexeme} → SpellsRule tokens bs r rest → Every Spoken tokens → Spelled (IsNamedWritten (with_values bs r)) rest
rule_named {bs = bs} {r = r} (t.rule {actions = actions} head bound premises arrow conclusions) k =
    let n = head_named head k in
    let b = let_named bound n.behind in
    let p = facts_named premises b.behind in
    let a = arrow_named arrow p.behind in
    let c = facts_named conclusions a.behind in
    let e : IsNamedWritten r = record { name = n.says; premises = p.says; actions = every_map IsNamedFact IsNamedAction action_of (λ f h. h) actions a.says; conclusions = c.says } in
    record { says = with_values_named bs r b.says e; behind = c.behind }

-- ---- restrictions and lemmas

abbrev pub IsNamedRestriction : Restriction → Type 0
IsNamedRestriction r = IsNameWord r.name × IsQuotableFormula r.formula

pub restriction_named : {r : Restriction} {tokens rest : List Lexeme} → SpellsRestriction tokens r rest → Every Spoken tokens → Spelled (IsNamedRestriction r) rest
restriction_named (t.restriction {tokens = body} e n h) k = let f = quoted_named body h k.1.1.1.1 in record { says = ((n, k.1.0), f.says); behind = f.behind }

abbrev pub IsNamedLemma : Lemma → Type 0
IsNamedLemma l = IsNameWord l.name × IsQuotableFormula l.formula

pub kind_behind : {kind : TraceKind} {tokens rest : List Lexeme} → SpellsKind tokens kind rest → Every Spoken tokens → Every Spoken rest
kind_behind t.no_kind k = k
kind_behind t.all_kind k = k.1.1.1
kind_behind t.exists_kind k = k.1.1.1

-- the words of attributes are names
abbrev pub IsNamedAttribute : Attribute → Type 0
IsNamedAttribute (hiding w) = IsNameWord w
IsNamedAttribute (ranked_by w) = IsNameWord w
IsNamedAttribute (unknown w) = IsNameWord w
IsNamedAttribute each = Unit {0}

word_named : (w : List ℕ) → IsNameWord w → IsNamedAttribute (attribute_of w)
unfolding attribute_of
word_named w h = at (bytes_eq w (codes "reuse")) (bytes_eq w (codes "sources") || bytes_eq w (codes "typing")) (bytes_eq w (codes "use_induction"))
  where
    at : (a b c : Bool) → IsNamedAttribute (if a then reused else if b then of_sources else if c then by_induction else unknown w)
    at true b c = tt
    at false true c = tt
    at false false true = tt
    at false false false = h

lemma_attribute_named : {x : Attribute} {tokens rest : List Lexeme} → SpellsLemmaAttribute tokens x rest → Every Spoken tokens → Spelled (IsNamedAttribute x) rest
lemma_attribute_named (t.by_word {w = w} n) k = record { says = word_named w (n, k.0); behind = k.1 }
lemma_attribute_named (t.hides n) k = record { says = (n, k.1.1.0); behind = k.1.1.1 }
lemma_attribute_named (t.ranks n) k = record { says = (n, k.1.1.0); behind = k.1.1.1 }

pub lemma_attributes_named : {each : List Attribute} {tokens rest : List Lexeme} → SpellsLemmaAttributes tokens each rest → Every Spoken tokens → Spelled (Every IsNamedAttribute each) rest
lemma_attributes_named t.no_lemma_attribute k = record { says = tt; behind = k }
lemma_attributes_named (t.lemma_attributes parts) k = part_named IsNamedAttribute (λ ts x us. lemma_attribute_named) parts k.1

pub lemma_named : {l : Lemma} {each : List Attribute} {tokens rest : List Lexeme} → SpellsLemma tokens l each rest → Every Spoken tokens → Spelled (IsNamedLemma l) rest
lemma_named (t.lemma {body = body} n attributes kind h) k =
    let a = lemma_attributes_named attributes k.1.1 in
    let f = quoted_named body h (kind_behind kind a.behind.1).1 in
    record { says = ((n, k.1.0), f.says); behind = f.behind }
