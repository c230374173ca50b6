-- No name in what a text declares has a closing bracket, also where values stand for bound names and symbols for the names that are such.
use Rattle.std.proofs.Common.{ℕ, Bool, true, false, cond, List, [], ◌∷◌, ◌++◌, map, codes, refl}
use Rattle.std.specs.Prelude.{not, ◌&&◌, ◌||◌}
use Rattle.std.specs.Str.{bytes_eq}
use Rattle.sp_spec.specs.Lists.{Every, is_listed}
use Rattle.sp_spec.proofs.Lists.{every_map, every_weaken}
use Rattle.sp_spec.specs.Term.{Term, var, constant, name, app, Terms, none, more, valued, valued_all}
use Rattle.sp_spec.specs.Signature.{Symbol}
use Rattle.sp_spec.specs.Rule.{Fact, fact_at, action_at, facts_at}
use Rattle.sp_spec.specs.Formula.{Written, Formula, truth, falsity, happens, equals, precedes, not_so, both, either, implies, for_all, for_some}
use Rattle.sp_spec.specs.Theory.{Restriction, Lemma}
use Rattle.sp_spec.specs.Written.{WrittenRule}
use Rattle.sp_spec_text.specs.Token.{Lexeme}
use Rattle.sp_spec_text.specs.Shapes.{action_of}
use Rattle.sp_spec_text.specs.Attributes.{attribute_of}
use Rattle.sp_spec_text.specs.Bindings.{Binding, value_by, whole, with_values}
use Rattle.sp_spec_text.specs.Theories as t
use Rattle.sp_spec_text.specs.Theories.{SpellsFacts, SpellsArrow, SpellsBinding, SpellsBindings, SpellsLet, SpellsRuleHead, SpellsRule, SpellsRestriction, SpellsLemmaAttribute, SpellsLemmaAttributes, SpellsLemma, SpellsBuiltin, SpellsFunction, SpellsEquation, SpellsDeclaration, SpellsItems, SpellsTheory}
use Rattle.sp_spec_text.specs.Texts.{IsTextOf}
use Rattle.sp_spec_text.specs.Written.{Attribute, reused, of_sources, by_induction, unknown, Item, builtins_item, functions_item, equations_item, heuristic_item, block_item, rule_item, restriction_item, lemma_item, WrittenText}
use Rattle.sp_spec_text.specs.Declared.{is_bare, is_constant, resolved_name, resolved_term, resolved_formula, resolved_equation, resolved_item, all_symbols, resolved}
use Rattle.sp_spec_text.proofs.Valued.{IsBoundSo, values_so}
use Rattle.sp_law_printed_log.proofs.TokenWords.{Spoken, tokens_spoken}
use Rattle.sp_law_printed_log.proofs.SpelledNames.{Spelled, part_named, item_named, listed_named, modulo_behind, rule_attributes_behind, kind_behind, lemma_named}
use Rattle.sp_law_printed_log.proofs.DeclaredNames.{attribute_behind, declaration_named}
use Rattle.sp_law_printed_log.proofs.TextNames.{behind_part}
use Rattle.sp_top.proofs.PlainNames.{IsPlain, plain_in, plain_word, plain_append, IsPlainTerm, ArePlainTerms, IsPlainFact, IsPlainAction, variable_plain, term_plain, fact_plain, IsPlainFormula, quoted_plain}

-- ---- items

pub record IsPlainRule (r : WrittenRule) : Type 0 where
  pub name : IsPlain r.name
  pub premises : Every IsPlainFact r.facts.premises
  pub actions : Every IsPlainAction r.facts.actions
  pub conclusions : Every IsPlainFact r.facts.conclusions

abbrev pub IsPlainSymbol : Symbol → Type 0
IsPlainSymbol s = IsPlain s.name

abbrev pub IsPlainEquation : Term Written × Term Written → Type 0
IsPlainEquation e = IsPlainTerm e.0 × IsPlainTerm e.1

abbrev pub IsPlainBinding : Binding → Type 0
IsPlainBinding b = IsPlain b.variable.name × IsPlainTerm b.value

abbrev pub IsPlainLemma : Lemma → Type 0
IsPlainLemma l = IsPlain l.name × IsPlainFormula l.formula

-- one that isn't known is told by its word
abbrev pub IsPlainAttribute : Attribute → Type 0
IsPlainAttribute (unknown w) = IsPlain w
IsPlainAttribute each = Unit {0}

abbrev pub IsPlainItem : Item → Type 0
IsPlainItem (builtins_item bs) = Every IsPlain bs
IsPlainItem (functions_item ss) = Every IsPlainSymbol ss
IsPlainItem (equations_item es) = Every IsPlainEquation es
IsPlainItem (heuristic_item ws) = Unit {0}
IsPlainItem (block_item w) = Unit {0}
IsPlainItem (rule_item bs r) = Every IsPlainBinding bs × IsPlainRule r
IsPlainItem (restriction_item r) = IsPlain r.name × IsPlainFormula r.formula
IsPlainItem (lemma_item l as' p) = IsPlainLemma l × Every IsPlainAttribute as'

facts_plain : {fs : List (Fact Written)} {tokens rest : List Lexeme} → SpellsFacts tokens fs rest → Every Spoken tokens → Spelled (Every IsPlainFact fs) rest
facts_plain (t.facts items) k = item_named IsPlainFact (λ ts x us. fact_plain) items k.1

arrow_plain : {fs : List (Fact Written)} {tokens rest : List Lexeme} → SpellsArrow tokens fs rest → Every Spoken tokens → Spelled (Every IsPlainFact fs) rest
arrow_plain t.unlabelled k = record { says = tt; behind = k.1 }
arrow_plain (t.labelled items) k = item_named IsPlainFact (λ ts x us. fact_plain) items k.1

head_plain : {w : List ℕ} {tokens rest : List Lexeme} → SpellsRuleHead tokens w rest → Every Spoken tokens → Spelled (IsPlain w) rest
head_plain (t.rule_head {w = w} m n a) k = let named = modulo_behind m k.1 in record { says = plain_word w named.0; behind = (rule_attributes_behind a named.1).1 }

binding_plain : {b : Binding} {tokens rest : List Lexeme} → SpellsBinding tokens b rest → Every Spoken tokens → Spelled (IsPlainBinding b) rest
binding_plain (t.binding v h) k =
    let x = variable_plain v k in
    let value = term_plain h x.behind.1 in
    record { says = (x.says, value.says); behind = value.behind }

bindings_plain : {bs : List Binding} {tokens rest : List Lexeme} → SpellsBindings tokens bs rest → Every Spoken tokens → Spelled (Every IsPlainBinding bs) rest
bindings_plain (t.last_binding h) k = let b = binding_plain h k in record { says = (b.says, tt); behind = b.behind.1 }
bindings_plain (t.next_binding h later) k =
    let b = binding_plain h k in
    let others = bindings_plain later b.behind in
    record { says = (b.says, others.says); behind = others.behind }

let_plain : {bs : List Binding} {tokens rest : List Lexeme} → SpellsLet tokens bs rest → Every Spoken tokens → Spelled (Every IsPlainBinding bs) rest
let_plain t.no_let k = record { says = tt; behind = k }
let_plain (t.let_in h) k = bindings_plain h k.1

rule_plain : {bs : List Binding} {r : WrittenRule} {tokens rest : List Lexeme} → SpellsRule tokens bs r rest → Every Spoken tokens → Every IsPlainBinding bs × IsPlainRule r
rule_plain (t.rule {actions = actions} head bound premises arrow conclusions) k =
    let n = head_plain head k in
    let b = let_plain bound n.behind in
    let p = facts_plain premises b.behind in
    let a = arrow_plain arrow p.behind in
    let c = facts_plain conclusions a.behind in (
      b.says,
      record {
        name = n.says;
        premises = p.says;
        actions = every_map IsPlainFact IsPlainAction action_of (λ f h. h) actions a.says;
        conclusions = c.says;
      },
    )

restriction_plain : {r : Restriction} {tokens rest : List Lexeme} → SpellsRestriction tokens r rest → Every Spoken tokens → IsPlain r.name × IsPlainFormula r.formula
restriction_plain (t.restriction {w = w} {tokens = body} e n h) k = (plain_word w k.1.0, (quoted_plain body h k.1.1.1.1).says)

word_plain : (w : List ℕ) → IsPlain w → IsPlainAttribute (attribute_of w)
unfolding attribute_of
word_plain w h = at (bytes_eq w (codes "reuse")) (bytes_eq w (codes "sources") || bytes_eq w (codes "typing")) (bytes_eq w (codes "use_induction"))
  where
    at : (a b c : Bool) → IsPlainAttribute (cond a reused (cond b of_sources (cond c by_induction (unknown w))))
    at true b c = tt
    at false true c = tt
    at false false true = tt
    at false false false = h

lemma_attribute_plain : {x : Attribute} {tokens rest : List Lexeme} → SpellsLemmaAttribute tokens x rest → Every Spoken tokens → Spelled (IsPlainAttribute x) rest
lemma_attribute_plain (t.by_word {w = w} n) k = record { says = word_plain w (plain_word w k.0); behind = k.1 }
lemma_attribute_plain (t.hides n) k = record { says = tt; behind = k.1.1.1 }
lemma_attribute_plain (t.ranks n) k = record { says = tt; behind = k.1.1.1 }

lemma_attributes_plain : {each : List Attribute} {tokens rest : List Lexeme} → SpellsLemmaAttributes tokens each rest → Every Spoken tokens → Spelled (Every IsPlainAttribute each) rest
lemma_attributes_plain t.no_lemma_attribute k = record { says = tt; behind = k }
lemma_attributes_plain (t.lemma_attributes parts) k = part_named IsPlainAttribute (λ ts x us. lemma_attribute_plain) parts k.1

lemma_plain : {l : Lemma} {each : List Attribute} {tokens rest : List Lexeme} → SpellsLemma tokens l each rest → Every Spoken tokens → IsPlainLemma l × Every IsPlainAttribute each
lemma_plain (t.lemma {w = w} {body = body} n attributes kind h) k =
    let a = lemma_attributes_plain attributes k.1.1 in
    ((plain_word w k.1.0, (quoted_plain body h (kind_behind kind a.behind.1).1).says), a.says)

builtin_plain : {b : List ℕ} {tokens rest : List Lexeme} → SpellsBuiltin tokens b rest → Every Spoken tokens → Spelled (IsPlain b) rest
builtin_plain (t.single {w = w} n) k = record { says = plain_word w k.0; behind = k.1 }
builtin_plain (t.joined {w = w} {b = b} n h) k =
    let others = builtin_plain h k.1.1 in
    record { says = plain_append w (codes "-" ++ b) (plain_word w k.0) (plain_append (codes "-") b (plain_in (codes "-") refl) others.says); behind = others.behind }

function_plain : {s : Symbol} {tokens rest : List Lexeme} → SpellsFunction tokens s rest → Every Spoken tokens → Spelled (IsPlainSymbol s) rest
function_plain (t.plain {w = w} n e) k = record { says = plain_word w k.0; behind = k.1.1.1 }
function_plain (t.with_attributes {w = w} n e attributes) k =
    let a = part_named (λ (b : Bool). Unit {0}) (λ ts b us h j. record { says = tt; behind = attribute_behind h j }) attributes k.1.1.1.1 in
    record { says = plain_word w k.0; behind = a.behind }

equation_plain : {e : Term Written × Term Written} {tokens rest : List Lexeme} → SpellsEquation tokens e rest → Every Spoken tokens → Spelled (IsPlainEquation e) rest
equation_plain (t.equation h i) k =
    let a = term_plain h k in
    let b = term_plain i a.behind.1 in
    record { says = (a.says, b.says); behind = b.behind }

declaration_plain : {x : Item} {tokens rest : List Lexeme} → SpellsDeclaration tokens x rest → Every Spoken tokens → IsPlainItem x
declaration_plain (t.builtins h) k = (listed_named IsPlain (λ ts b us. builtin_plain) h k.1.1).says
declaration_plain (t.functions h) k = (listed_named IsPlainSymbol (λ ts s us. function_plain) h k.1.1).says
declaration_plain (t.equations h) k = (listed_named IsPlainEquation (λ ts e us. equation_plain) h k.1.1).says
declaration_plain (t.heuristic h) k = tt
declaration_plain (t.text_block n) k = tt
declaration_plain (t.a_rule h) k = rule_plain h k
declaration_plain (t.a_restriction h) k = restriction_plain h k

items_plain : {items : List Item} {tokens rest : List Lexeme} → SpellsItems tokens items rest → Every Spoken tokens → Every IsPlainItem items
items_plain t.no_item k = tt
items_plain (t.declaration_first h i) k = (declaration_plain h k, items_plain i (declaration_named h k).behind)
items_plain (t.lemma_first h q i) k = (lemma_plain h k, items_plain i (behind_part q (lemma_named h k).behind))

theory_plain : {tokens : List Lexeme} {theory : WrittenText} → SpellsTheory tokens theory → Every Spoken tokens → Every IsPlainItem theory.items
theory_plain (t.theory n i) k = items_plain i k.1.1.1

-- ---- values for names

module _ (v : Written → Term Written) (h : (x : Written) → IsPlain x.name → IsPlainTerm (v x)) where
  mutual
    valued_plain : (x : Term Written) → IsPlainTerm x → IsPlainTerm (valued v x)
    valued_plain (var x) k = h x k
    valued_plain (constant c) k = k
    valued_plain (name n) k = tt
    valued_plain (app f ts) k = (k.0, all_valued_plain ts k.1)

    all_valued_plain : (ts : Terms Written) → ArePlainTerms ts → ArePlainTerms (valued_all v ts)
    all_valued_plain none k = tt
    all_valued_plain (more x ts) k = (valued_plain x k.0, all_valued_plain ts k.1)

  facts_valued : (fs : List (Fact Written)) → Every IsPlainFact fs → Every IsPlainFact (map (fact_at v) fs)
  facts_valued fs e = every_map IsPlainFact IsPlainFact (fact_at v) (λ f k. (k.0, all_valued_plain f.args k.1)) fs e

  rule_valued : (r : WrittenRule) → IsPlainRule r → IsPlainRule (record { name = r.name; facts = facts_at v r.facts })
  rule_valued r k = record {
    name = k.name;
    premises = facts_valued r.facts.premises k.premises;
    actions = every_map IsPlainAction IsPlainAction (action_at v) (λ a j. (j.0, all_valued_plain a.args j.1)) r.facts.actions k.actions;
    conclusions = facts_valued r.facts.conclusions k.conclusions;
  }

with_values_plain : (bs : List Binding) (r : WrittenRule) → Every IsPlainBinding bs → IsPlainRule r → IsPlainRule (with_values bs r)
with_values_plain [] r h e = e
with_values_plain (b ∷ bs) r h e =
    let values = every_weaken IsPlainBinding (IsBoundSo IsPlainTerm) (λ c k. k.1) (b ∷ bs) h in
    rule_valued (value_by (whole (b ∷ bs))) (values_so IsPlainTerm (λ v x k j. valued_plain v k x j) (b ∷ bs) values) r e

-- ---- names that are symbols

module _ (symbols : List Symbol) where
  name_plain : (bound : List (List ℕ)) (x : Written) → IsPlain x.name → IsPlainTerm (resolved_name symbols bound x)
  name_plain bound x h = by_test (is_bare x.mark && (is_constant symbols x.name && not (is_listed x.name bound)))
    where
      by_test : (b : Bool) → IsPlainTerm (cond b (app x.name none) (var x))
      by_test true = (h, tt)
      by_test false = h

  resolved_plain : (bound : List (List ℕ)) (x : Term Written) → IsPlainTerm x → IsPlainTerm (resolved_term symbols bound x)
  resolved_plain bound x h = valued_plain (resolved_name symbols bound) (name_plain bound) x h

  each_plain : (bound : List (List ℕ)) (ts : Terms Written) → ArePlainTerms ts → ArePlainTerms (valued_all (resolved_name symbols bound) ts)
  each_plain bound ts h = all_valued_plain (resolved_name symbols bound) (name_plain bound) ts h

  resolved_formula_plain : (bound : List (List ℕ)) (f : Formula) → IsPlainFormula f → IsPlainFormula (resolved_formula symbols bound f)
  resolved_formula_plain bound truth h = tt
  resolved_formula_plain bound falsity h = tt
  resolved_formula_plain bound (happens a i) h = ((h.0.0, each_plain bound a.args h.0.1), h.1)
  resolved_formula_plain bound (equals t u) h = (resolved_plain bound t h.0, resolved_plain bound u h.1)
  resolved_formula_plain bound (precedes i j) h = h
  resolved_formula_plain bound (not_so f) h = resolved_formula_plain bound f h
  resolved_formula_plain bound (both f g) h = (resolved_formula_plain bound f h.0, resolved_formula_plain bound g h.1)
  resolved_formula_plain bound (either f g) h = (resolved_formula_plain bound f h.0, resolved_formula_plain bound g h.1)
  resolved_formula_plain bound (implies f g) h = (resolved_formula_plain bound f h.0, resolved_formula_plain bound g h.1)
  resolved_formula_plain bound (for_all x f) h = (h.0, resolved_formula_plain (x.name ∷ bound) f h.1)
  resolved_formula_plain bound (for_some x f) h = (h.0, resolved_formula_plain (x.name ∷ bound) f h.1)

  item_resolved : (x : Item) → IsPlainItem x → IsPlainItem (resolved_item symbols x)
  item_resolved (builtins_item bs) h = h
  item_resolved (functions_item ss) h = h
  item_resolved (equations_item es) h =
      every_map IsPlainEquation IsPlainEquation (resolved_equation symbols) (λ e k. (resolved_plain [] e.0 k.0, resolved_plain [] e.1 k.1)) es h
  item_resolved (heuristic_item ws) h = tt
  item_resolved (block_item w) h = tt
  item_resolved (rule_item bs r) h = (tt, rule_valued (resolved_name symbols []) (name_plain []) (with_values bs r) (with_values_plain bs r h.0 h.1))
  item_resolved (restriction_item r) h = (h.0, resolved_formula_plain [] r.formula h.1)
  item_resolved (lemma_item l as' p) h = ((h.0.0, resolved_formula_plain [] l.formula h.0.1), h.1)

pub written_plain : (text : List ℕ) (theory : WrittenText) → IsTextOf text theory → Every IsPlainItem theory.items
written_plain text theory h = theory_plain h.spells (tokens_spoken h.cut)

pub text_plain : (text : List ℕ) (theory : WrittenText) → IsTextOf text theory → Every IsPlainItem (resolved theory).items
text_plain text theory h =
    every_map IsPlainItem IsPlainItem (resolved_item (all_symbols theory.items)) (item_resolved (all_symbols theory.items)) theory.items (written_plain text theory h)
