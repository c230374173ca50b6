-- The parts of items with names in the grammar are in the table.
use Rattle.std.proofs.Common.{◌≡◌, ℕ, ◌==◌, eq-eqb, Bool, true, false, List, [], ◌∷◌, codes, refl}
use Rattle.sp_spec_text.specs.Signs.{Sign}
use Rattle.sp_spec_text.specs.Signs as s
use Rattle.sp_spec_text.specs.Token.{Lexeme, word, sign}
use Rattle.sp_spec_text.specs.Lex.{is_end}
use Rattle.sp_spec.specs.Term.{Term}
use Rattle.sp_spec.specs.Rule.{Fact}
use Rattle.sp_spec.specs.Formula.{Written}
use Rattle.sp_spec.specs.Theory.{TraceKind}
use Rattle.sp_spec_text.specs.Names.{IsName}
use Rattle.sp_spec_text.specs.Lists.{AreParts, last, next as next_part, AreItems, empty, some}
use Rattle.sp_spec_text.specs.Bindings.{Binding}
use Rattle.sp_spec_text.specs.Formulas as f
use Rattle.sp_spec_text.specs.Formulas.{SpellsVariable, SpellsTerm, SpellsFact, linear, persistent}
use Rattle.sp_spec_text.specs.Written.{Attribute}
use Rattle.sp_spec_text.specs.Theories as g
use Rattle.sp_spec_text.specs.Theories.{SpellsFacts, SpellsArrow, SpellsModulo, is_list_bracket, SpellsBalanced, SpellsRuleAttributes, SpellsBindings, SpellsLet, SpellsKind, SpellsLemmaAttribute, SpellsLemmaAttributes}
use Rattle.sp_spec_text.proofs.Words.{in_reserved}
use Rattle.sp_await.specs.Keywords.{Rule, Lemma, names}
use Rattle.sp_await.specs.Parts as a
use Rattle.sp_await.specs.Table.{next, takes, code, is_sign, is_word, has_value, binding_parts}
use Rattle.sp_law_await.specs.Language.{Has, by_token, by_parts, HasAll, all_had, and_all}
use Rattle.sp_law_await.proofs.Tokens.{is_some_of, name_differs}
use Rattle.sp_law_await.proofs.Had.{had_append, one_had}
use Rattle.sp_law_await.proofs.CompleteParts.{Without, without, Apart, apart, no_mark, has_name, has_sort, no_sort, has_variable, has_term, has_fact}

-- ---- facts of a rule

-- a sign that closes facts
record Closes (y : Sign) : Type 0 where
  no_bang : (code s.Bang == code y) ≡ false
  no_comma : (code y == code s.Comma) ≡ false
  no_open : (code y == code s.OpenList) ≡ false

facts_left : {y : Sign} {tokens rest : List Lexeme} {fs : List (Fact Written)} → Closes y → AreParts (SpellsFact 0) s.Comma y tokens fs rest → HasAll (a.Fact 0 ∷ a.MoreFacts y ∷ []) tokens rest
facts_left {y} c (last h) = and_all (has_fact h (without c.no_open)) (one_had {part = a.MoreFacts y} (by_token (rw (c.no_comma, eq-eqb (code y) (code y) refl) refl) all_had))
facts_left {y} c (next_part h k) = and_all (has_fact h (without refl)) (one_had {part = a.MoreFacts y} (by_token refl (facts_left c k)))

fact_begins : {y : Sign} {tokens rest : List Lexeme} {f : Fact Written} → Closes y → SpellsFact 0 tokens f rest → Without (is_sign y) tokens
fact_begins c (linear e lt h i) = without refl
fact_begins c (persistent e lt h i) = without c.no_bang

facts_begin : {y : Sign} {tokens rest : List Lexeme} {fs : List (Fact Written)} → Closes y → AreParts (SpellsFact 0) s.Comma y tokens fs rest → Without (is_sign y) tokens
facts_begin c (last h) = fact_begins c h
facts_begin c (next_part h k) = fact_begins c h

some_facts : {y : Sign} {tokens rest : List Lexeme} → Without (is_sign y) tokens → HasAll (a.Fact 0 ∷ a.MoreFacts y ∷ []) tokens rest → Has (a.Facts y) tokens rest
some_facts (without e) h = by_parts (rw e refl) h

has_facts : {y : Sign} {tokens rest : List Lexeme} {fs : List (Fact Written)} → Closes y → AreItems (SpellsFact 0) y tokens fs rest → Has (a.Facts y) tokens rest
has_facts {y} c empty = by_token (rw (eq-eqb (code y) (code y) refl) refl) all_had
has_facts c (some h) = some_facts (facts_begin c h) (facts_left c h)

pub has_fact_list : {tokens rest : List Lexeme} {fs : List (Fact Written)} → SpellsFacts tokens fs rest → Has a.FactList tokens rest
has_fact_list (g.facts h) = by_token refl (one_had (has_facts (record { no_bang = refl; no_comma = refl; no_open = refl }) h))

pub has_arrow : {tokens rest : List Lexeme} {fs : List (Fact Written)} → SpellsArrow tokens fs rest → Has a.Arrow tokens rest
has_arrow g.unlabelled = by_token refl all_had
has_arrow (g.labelled h) = by_token refl (one_had (has_facts (record { no_bang = refl; no_comma = refl; no_open = refl }) h))

-- ---- kinds of lemmas

pub has_kind : {tokens rest : List Lexeme} {k : TraceKind} → SpellsKind tokens k (sign s.Quote ∷ rest) → Has a.Kind tokens rest
has_kind g.no_kind = by_token refl all_had
has_kind g.all_kind = by_token refl (and_all (by_token refl all_had) (and_all (by_token refl all_had) (one_had (by_token refl all_had))))
has_kind g.exists_kind = by_token refl (and_all (by_token refl all_had) (and_all (by_token refl all_had) (one_had (by_token refl all_had))))

-- ---- heads of rules

pub modulo_had : {w : List ℕ} {tokens mid rest : List Lexeme} → SpellsModulo tokens (word w ∷ mid) → IsName w → Has (a.Headed Rule) mid rest → Has (a.Item (names Rule)) tokens rest
modulo_had g.no_modulo n h = by_token (rw n refl) (one_had {part = a.Headed Rule} h)
modulo_had (g.modulo i) n h =
    by_token refl (and_all {part = a.Modulo} (by_token refl all_had) (and_all {part = a.Name} (has_name i) (and_all {part = a.Exactly s.Close} (by_token refl all_had) (and_all {part = a.Name} (has_name n) (one_had {part = a.Headed Rule} h)))))

balanced_passes : (x : Lexeme) → is_list_bracket x ≡ false → is_end x ≡ false → next a.Balanced x ≡ takes (a.Balanced ∷ [])
balanced_passes (word w) d e = rw e refl
balanced_passes (sign s.OpenList) d e = absurd (let none : ⊥ = cc in none)
balanced_passes (sign s.CloseList) d e = absurd (let none : ⊥ = cc in none)
balanced_passes _ d e = refl

balanced_had : {tokens rest : List Lexeme} → SpellsBalanced tokens rest → Has a.Balanced tokens rest
balanced_had g.closed = by_token refl all_had
balanced_had (g.nested h k) = by_token refl (and_all {part = a.Balanced} (balanced_had h) (one_had {part = a.Balanced} (balanced_had k)))
balanced_had (g.passed {x = x} d e h) = by_token (balanced_passes x d e) (one_had {part = a.Balanced} (balanced_had h))

pub rule_headed_had : {tokens body rest : List Lexeme} → SpellsRuleAttributes tokens (sign s.Colon ∷ body) → Has (a.Body Rule) body rest → Has (a.Headed Rule) tokens rest
rule_headed_had g.no_rule_attribute h = by_token refl (one_had {part = a.Body Rule} h)
rule_headed_had (g.rule_attributes b) h = by_token refl (and_all {part = a.Balanced} (balanced_had b) (and_all {part = a.Exactly s.Colon} (by_token refl all_had) (one_had {part = a.Body Rule} h)))

-- ---- bindings

-- a binding where it is not the first
later_binding : {v : Written} {tokens mid rest : List Lexeme} → SpellsVariable tokens v mid → Without (is_sign s.Colon) mid → HasAll binding_parts mid rest → Has a.MoreBindings tokens rest
later_binding (f.marked {x = y} e n) d h = by_token (rw (is_some_of e) refl) (and_all {part = a.Name} (has_name n) h)
later_binding (f.unmarked {w = w} n) d h = by_token (rw (name_differs w (codes "in") in_reserved n, n) refl) (and_all {part = a.Sorted} (no_sort d) h)
later_binding (f.sorted {w = w} n e) d h = by_token (rw (name_differs w (codes "in") in_reserved n, n) refl) (and_all {part = a.Sorted} (by_token refl (one_had {part = a.Sort} (has_sort e))) h)

binding_left : {x : Term Written} {tokens mid rest : List Lexeme} → SpellsTerm 0 tokens x mid → Apart mid → Has a.MoreBindings mid rest → HasAll binding_parts (sign s.Equals ∷ tokens) rest
binding_left t d h = and_all {part = a.Exactly s.Equals} (by_token refl all_had) (and_all {part = a.Term 0} (has_term t d) (one_had {part = a.MoreBindings} h))

variable_apart : {v : Written} {tokens rest : List Lexeme} → SpellsVariable tokens v rest → Apart tokens
variable_apart (f.marked {x = y} e n) = apart (no_mark y s.Colon e refl) (no_mark y s.Open e refl) (no_mark y s.OpenBrace e refl)
variable_apart (f.unmarked n) = apart refl refl refl
variable_apart (f.sorted n e) = apart refl refl refl

bindings_apart : {bs : List Binding} {tokens rest : List Lexeme} → SpellsBindings tokens bs rest → Apart tokens
bindings_apart (g.last_binding (g.binding v t)) = variable_apart v
bindings_apart (g.next_binding (g.binding v t) k) = variable_apart v

bindings_end : {rest : List Lexeme} → Has a.MoreBindings (word (codes "in") ∷ rest) rest
bindings_end = by_token refl all_had

more_bindings_had : {bs : List Binding} {tokens rest : List Lexeme} → SpellsBindings tokens bs rest → Has a.MoreBindings tokens rest
more_bindings_had (g.last_binding (g.binding v t)) = later_binding v (without refl) (binding_left t (apart refl refl refl) bindings_end)
more_bindings_had (g.next_binding (g.binding v t) k) = later_binding v (without refl) (binding_left t (bindings_apart k) (more_bindings_had k))

bindings_left : {bs : List Binding} {tokens rest : List Lexeme} → SpellsBindings tokens bs rest → HasAll (a.Variable ∷ binding_parts) tokens rest
bindings_left (g.last_binding (g.binding v t)) = and_all {part = a.Variable} (has_variable v (without refl)) (binding_left t (apart refl refl refl) bindings_end)
bindings_left (g.next_binding (g.binding v t) k) = and_all {part = a.Variable} (has_variable v (without refl)) (binding_left t (bindings_apart k) (more_bindings_had k))

no_let : {tokens : List Lexeme} → Without (is_word (codes "let")) tokens → Has a.Let tokens tokens
no_let (without e) = by_parts (rw e refl) all_had

pub let_had : {bs : List Binding} {tokens rest : List Lexeme} → SpellsLet tokens bs rest → Without (is_word (codes "let")) rest → Has a.Let tokens rest
let_had g.no_let d = no_let d
let_had (g.let_in h) d = by_token refl (bindings_left h)

pub facts_no_let : {tokens rest : List Lexeme} {fs : List (Fact Written)} → SpellsFacts tokens fs rest → Without (is_word (codes "let")) tokens
facts_no_let (g.facts h) = without refl

-- ---- attributes of lemmas

no_value : {tokens : List Lexeme} → Without (is_sign s.Equals) tokens → Has a.AttributeValue tokens tokens
no_value (without e) = by_parts (rw e refl) all_had

word_attribute : {w : List ℕ} {rest : List Lexeme} → IsName w → Without (is_sign s.Equals) rest → Has a.LemmaAttribute (word w ∷ rest) rest
word_attribute {w} {rest} n d = at (has_value w) refl
  where
    at : (b : Bool) → has_value w ≡ b → Has a.LemmaAttribute (word w ∷ rest) rest
    at true e = by_token (rw e refl) (one_had {part = a.AttributeValue} (no_value d))
    at false e = by_token (rw (e, n) refl) all_had

lemma_attribute_had : {x : Attribute} {tokens rest : List Lexeme} → SpellsLemmaAttribute tokens x rest → Without (is_sign s.Equals) rest → Has a.LemmaAttribute tokens rest
lemma_attribute_had (g.by_word n) d = word_attribute n d
lemma_attribute_had (g.hides n) d = by_token refl (one_had {part = a.AttributeValue} (by_token refl (one_had {part = a.Name} (has_name n))))
lemma_attribute_had (g.ranks n) d = by_token refl (one_had {part = a.AttributeValue} (by_token refl (one_had {part = a.Name} (has_name n))))

lemma_attributes_left : {each : List Attribute} {tokens rest : List Lexeme} → AreParts SpellsLemmaAttribute s.Comma s.CloseList tokens each rest → HasAll (a.LemmaAttribute ∷ a.MoreLemmaAttributes ∷ []) tokens rest
lemma_attributes_left (last h) = and_all (lemma_attribute_had h (without refl)) (one_had {part = a.MoreLemmaAttributes} (by_token refl all_had))
lemma_attributes_left (next_part h k) = and_all (lemma_attribute_had h (without refl)) (one_had {part = a.MoreLemmaAttributes} (by_token refl (lemma_attributes_left k)))

pub lemma_headed_had : {each : List Attribute} {tokens body rest : List Lexeme} → SpellsLemmaAttributes tokens each (sign s.Colon ∷ body) → Has (a.Body Lemma) body rest → Has (a.Headed Lemma) tokens rest
lemma_headed_had g.no_lemma_attribute h = by_token refl (one_had {part = a.Body Lemma} h)
lemma_headed_had (g.lemma_attributes t) h = by_token refl (had_append (lemma_attributes_left t) (and_all {part = a.Exactly s.Colon} (by_token refl all_had) (one_had {part = a.Body Lemma} h)))
