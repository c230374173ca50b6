-- What the table says of items with names, the grammar says.
use Rattle.std.proofs.Common.{◌≡◌, ℕ, ◌⊎◌, inl, inr, true, ◌==◌, not, List, [], ◌∷◌, Some, codes, refl, sym, subst, bytes_eq}
use Rattle.sp_spec_text.specs.Signs.{Sign}
use Rattle.sp_spec_text.specs.Signs as s
use Rattle.sp_spec_text.specs.Token.{Lexeme, word, sign, block}
use Rattle.sp_spec.specs.Theory.{all_traces}
use Rattle.sp_spec.specs.Formula.{Mark, Formula}
use Rattle.sp_spec_text.specs.Names.{IsName, is_reserved, mark_at}
use Rattle.sp_spec_text.specs.Attributes.{is_restriction}
use Rattle.sp_spec_text.specs.Lists.{AreItems, empty}
use Rattle.sp_spec_text.specs.Bindings.{Binding}
use Rattle.sp_spec_text.specs.Formulas.{SpellsFact, SpellsFormula}
use Rattle.sp_spec_text.specs.Theories as g
use Rattle.sp_spec_text.specs.Theories.{SpellsFacts, SpellsArrow, SpellsModulo, SpellsBalanced, SpellsBinding, SpellsBindings, SpellsLet, SpellsQuoted, SpellsLemmaAttribute, SpellsWords}
use Rattle.sp_await.specs.Keywords.{NamedItem, Rule, Restriction, Lemma, ListItem, Builtins, Functions, Equations, Heuristic, Keyword, names, lists, keyword_of, All, Exists}
use Rattle.sp_await.specs.Parts as a
use Rattle.sp_await.specs.Table.{Move, takes, becomes, stuck, single, code, has_value, items_move, name_move, colon_move, open_move, item_move, bracket_move, headed_move, body_parts, quoted_move, balanced_move, let_move, binding_parts, more_bindings_move, lemma_attribute_move, attribute_value_move, more_lemma_attributes_move, fact_list_move, facts_move, more_facts_move, arrow_move, kind_parts, kind_move}
use Rattle.sp_law_await.proofs.Meaning.{Spelled, one_sign, one_word, AfterPart, no_part}
use Rattle.sp_law_await.proofs.Joining.{formula_of}
use Rattle.sp_law_await.proofs.Tokens.{same_sign, either_word, name_is, at_word, hide_named, heuristic_named}
use Rattle.sp_law_await.proofs.Keywords.{Begins, restriction_begins, rule_begins, lemma_begins, builtins_begin, functions_begin, equations_begin, heuristic_begins, keyword_begins}
use Rattle.sp_law_await.proofs.Means.{ItemsOf, KindOf, below, BindingsBehind, no_binding, a_binding, ValueOf, no_value, value, BodyOf, rule_body, restriction_body, lemma_body, HeadedOf, rule_headed, restriction_headed, lemma_headed, WordsThen, no_more_words, another_word, words_of, ListOf, BegunOf, begun_block, begun_rule, begun_restriction, begun_lemma, begun_list, MeansAll, nothing, and_then, Sound, by_if, nothing_is, one_is, by_single}
use Rattle.sp_law_await.proofs.SoundParts.{parts_of, items_of, another_part, no_other_part, marked_variable, named_variable}
use Rattle.sp_law_await.proofs.SoundFormulas.{lone_negation}

-- ---- what an item is, from its first word on

pub the_end : {tokens rest : List Lexeme} → tokens ≡ rest → ItemsOf (word (codes "end") ∷ tokens) rest
the_end {tokens} e = subst (λ (r : List Lexeme). ItemsOf (word (codes "end") ∷ tokens) r) e ([], g.no_item)

pub block_items : {w : List ℕ} {tokens rest : List Lexeme} → IsName w → ItemsOf tokens rest → ItemsOf (word w ∷ block ∷ tokens) rest
block_items n i = (_, g.declaration_first (g.text_block n) i.1)

rule_items : {w : List ℕ} {tokens mid rest : List Lexeme} → SpellsModulo tokens (word w ∷ mid) → IsName w → HeadedOf Rule mid rest → ItemsOf (word (codes "rule") ∷ tokens) rest
rule_items m n (rule_headed t (rule_body l i j k items)) = (_, g.declaration_first (g.a_rule (g.rule (g.rule_head m n t) l i j k)) items.1)

restriction_items : {v w : List ℕ} {tokens rest : List Lexeme} → is_restriction v ≡ true → IsName w → HeadedOf Restriction tokens rest → ItemsOf (word v ∷ word w ∷ tokens) rest
restriction_items e n (restriction_headed (restriction_body q items)) = (_, g.declaration_first (g.a_restriction (g.restriction e n q)) items.1)

lemma_items : {w : List ℕ} {tokens rest : List Lexeme} → IsName w → HeadedOf Lemma tokens rest → ItemsOf (word (codes "lemma") ∷ word w ∷ tokens) rest
lemma_items n (lemma_headed t (lemma_body k q (below b l))) = (_, g.lemma_first (g.lemma n t k q) b l)

builtins_items : {tokens rest : List Lexeme} → ListOf Builtins tokens rest → ItemsOf (word (codes "builtins") ∷ sign s.Colon ∷ tokens) rest
builtins_items l = (_, g.declaration_first (g.builtins l.listed) l.items.1)

functions_items : {tokens rest : List Lexeme} → ListOf Functions tokens rest → ItemsOf (word (codes "functions") ∷ sign s.Colon ∷ tokens) rest
functions_items l = (_, g.declaration_first (g.functions l.listed) l.items.1)

equations_items : {tokens rest : List Lexeme} → ListOf Equations tokens rest → ItemsOf (word (codes "equations") ∷ sign s.Colon ∷ tokens) rest
equations_items l = (_, g.declaration_first (g.equations l.listed) l.items.1)

-- the words of a heuristic, and items
record Worded (tokens rest : List Lexeme) : Type 0 where
  words : List (List ℕ)
  mid : List Lexeme
  spells : SpellsWords tokens words mid
  items : ItemsOf mid rest

worded : {w : List ℕ} {tokens rest : List Lexeme} → IsName w → WordsThen tokens rest → Worded (word w ∷ tokens) rest
worded {w} n (no_more_words {tokens = ts} i) = record { words = w ∷ []; mid = ts; spells = g.one_word n; items = i }
worded {w} n (another_word m h) = let l = worded m h in record { words = w ∷ l.words; mid = l.mid; spells = g.more_words n l.spells; items = l.items }

heuristic_items : {tokens rest : List Lexeme} → ListOf Heuristic tokens rest → ItemsOf (word (codes "heuristic") ∷ sign s.Colon ∷ tokens) rest
heuristic_items (words_of n h) = let l = worded n h in (_, g.declaration_first (g.heuristic l.spells) l.items.1)

-- what is so of a word is so of one that is this one
at_this : (P : List ℕ → Type 0) {w v : List ℕ} → w ≡ v → P v → P w
at_this P e h = subst P (sym e) h

list_items : (l : ListItem) {w : List ℕ} {tokens rest : List Lexeme} → Begins w (lists l) → ListOf l tokens rest → ItemsOf (word w ∷ sign s.Colon ∷ tokens) rest
list_items Builtins {tokens = ts} {rest = r} (builtins_begin e) h = at_this (λ u. ItemsOf (word u ∷ sign s.Colon ∷ ts) r) e (builtins_items h)
list_items Functions {tokens = ts} {rest = r} (functions_begin e) h = at_this (λ u. ItemsOf (word u ∷ sign s.Colon ∷ ts) r) e (functions_items h)
list_items Equations {tokens = ts} {rest = r} (equations_begin e) h = at_this (λ u. ItemsOf (word u ∷ sign s.Colon ∷ ts) r) e (equations_items h)
list_items Heuristic {tokens = ts} {rest = r} (heuristic_begins e) h = at_this (λ u. ItemsOf (word u ∷ sign s.Colon ∷ ts) r) e (heuristic_items h)

pub begun_items : {w : List ℕ} {k : Keyword} {tokens rest : List Lexeme} → IsName w → Begins w k → BegunOf k tokens rest → ItemsOf (word w ∷ tokens) rest
begun_items n b (begun_block i) = block_items n i
begun_items {tokens = ts} {rest = r} n (rule_begins e) (begun_rule m i h) = at_this (λ u. ItemsOf (word u ∷ ts) r) e (rule_items m i h)
begun_items n (restriction_begins e) (begun_restriction i h) = restriction_items e i h
begun_items {rest = r} n (lemma_begins e) (begun_lemma {w = v} {tokens = ts} i h) = at_this (λ u. ItemsOf (word u ∷ word v ∷ ts) r) e (lemma_items i h)
begun_items n b (begun_list {l = l} h) = list_items l b h

-- ---- behind the first word

pub sound_items : (x : Lexeme) → Sound a.Items x (items_move x)
sound_items (word w) =
    by_if (Sound a.Items (word w)) (not (is_reserved w)) (takes (a.Item (keyword_of w) ∷ [])) _ (λ e ts r h. begun_items (name_is e) (keyword_begins w) (one_is h))
    (λ d. by_single a.Items (word w) (bytes_eq w (codes "end")) (λ e rest. at_word (λ u. ItemsOf (word u ∷ rest) rest) w (codes "end") e (the_end refl)))
sound_items _ = tt

pub named_begun : (i : NamedItem) {w : List ℕ} {tokens rest : List Lexeme} → IsName w → HeadedOf i tokens rest → BegunOf (names i) (word w ∷ tokens) rest
named_begun Rule n h = begun_rule g.no_modulo n h
named_begun Restriction n h = begun_restriction n h
named_begun Lemma n h = begun_lemma n h

name_behind : (k : Keyword) (w : List ℕ) → IsName w → Sound (a.Item k) (word w) (name_move k)
name_behind (names i) w n = λ ts r h. named_begun i n (one_is h)
name_behind _ w n = tt

colon_behind : (k : Keyword) → Sound (a.Item k) (sign s.Colon) (colon_move k)
colon_behind (lists l) = λ ts r h. begun_list {l = l} (one_is h)
colon_behind _ = tt

-- `modulo`, a name and `)`, and behind the name of the rule
pub modulo_begun : {tokens rest : List Lexeme} → MeansAll (a.Modulo ∷ a.Name ∷ a.Exactly s.Close ∷ a.Name ∷ a.Headed Rule ∷ []) tokens rest → BegunOf (names Rule) (sign s.Open ∷ tokens) rest
modulo_begun {rest = r} (and_then (one_word {w = m} e) (and_then (one_word {w = v} d) (and_then one_sign (and_then (one_word {w = w} {rest = ts} n) (and_then h nothing))))) =
    at_word (λ u. BegunOf (names Rule) (sign s.Open ∷ word u ∷ word v ∷ sign s.Close ∷ word w ∷ ts) r) m (codes "modulo") e (begun_rule (g.modulo (name_is d)) (name_is n) h)

open_behind : (k : Keyword) → Sound (a.Item k) (sign s.Open) (open_move k)
open_behind (names Rule) = λ ts r h. modulo_begun h
open_behind _ = tt

pub sound_item : (k : Keyword) (x : Lexeme) → Sound (a.Item k) x (item_move k x)
sound_item k block = λ ts r h. begun_block (one_is h)
sound_item k (word w) = by_if (Sound (a.Item k) (word w)) (not (is_reserved w)) (name_move k) stuck (λ e. name_behind k w (name_is e)) (λ d. tt)
sound_item k (sign s.Colon) = colon_behind k
sound_item k (sign s.Open) = open_behind k
sound_item k _ = tt

-- ---- behind the name

pub body_headed : (i : NamedItem) {tokens rest : List Lexeme} → BodyOf i tokens rest → HeadedOf i (sign s.Colon ∷ tokens) rest
body_headed Rule h = rule_headed g.no_rule_attribute h
body_headed Restriction h = restriction_headed h
body_headed Lemma h = lemma_headed g.no_lemma_attribute h

pub rule_bracket : {tokens rest : List Lexeme} → MeansAll (a.Balanced ∷ a.Exactly s.Colon ∷ a.Body Rule ∷ []) tokens rest → HeadedOf Rule (sign s.OpenList ∷ tokens) rest
rule_bracket (and_then b (and_then one_sign (and_then h nothing))) = rule_headed (g.rule_attributes b) h

pub lemma_bracket : {tokens rest : List Lexeme} → MeansAll (a.LemmaAttribute ∷ a.MoreLemmaAttributes ∷ a.Exactly s.Colon ∷ a.Body Lemma ∷ []) tokens rest → HeadedOf Lemma (sign s.OpenList ∷ tokens) rest
lemma_bracket (and_then t (and_then k (and_then one_sign (and_then h nothing)))) = lemma_headed (g.lemma_attributes (parts_of SpellsLemmaAttribute t.0 t.1 k).1) h

bracket_behind : (i : NamedItem) → Sound (a.Headed i) (sign s.OpenList) (bracket_move i)
bracket_behind Rule = λ ts r h. rule_bracket h
bracket_behind Restriction = tt
bracket_behind Lemma = λ ts r h. lemma_bracket h

pub sound_headed : (i : NamedItem) (x : Lexeme) → Sound (a.Headed i) x (headed_move i x)
sound_headed i (sign s.Colon) = λ ts r h. body_headed i (one_is h)
sound_headed i (sign s.OpenList) = bracket_behind i
sound_headed i _ = tt

balanced_end : {tokens rest : List Lexeme} → tokens ≡ rest → SpellsBalanced (sign s.CloseList ∷ tokens) rest
balanced_end {tokens} e = subst (λ (r : List Lexeme). SpellsBalanced (sign s.CloseList ∷ tokens) r) e g.closed

balanced_twice : {tokens rest : List Lexeme} → MeansAll (a.Balanced ∷ a.Balanced ∷ []) tokens rest → SpellsBalanced (sign s.OpenList ∷ tokens) rest
balanced_twice (and_then h (and_then k nothing)) = g.nested h k

pub sound_balanced : (x : Lexeme) → Sound a.Balanced x (balanced_move x)
sound_balanced (sign s.CloseList) = λ ts r h. balanced_end (nothing_is h)
sound_balanced (sign s.OpenList) = λ ts r h. balanced_twice h
sound_balanced (word w) = by_if (Sound a.Balanced (word w)) (bytes_eq w (codes "end")) stuck (takes (a.Balanced ∷ [])) (λ e. tt) (λ e ts r h. g.passed refl e (one_is h))
sound_balanced _ = λ ts r h. g.passed refl refl (one_is h)

-- ---- attributes of lemmas

hidden : {tokens rest : List Lexeme} → ValueOf tokens rest → Spelled SpellsLemmaAttribute (word (codes "hide_lemma") ∷ tokens) rest
hidden no_value = (_, g.by_word hide_named)
hidden (value (one_word n)) = (_, g.hides (name_is n))

ranked : {tokens rest : List Lexeme} → ValueOf tokens rest → Spelled SpellsLemmaAttribute (word (codes "heuristic") ∷ tokens) rest
ranked no_value = (_, g.by_word heuristic_named)
ranked (value (one_word n)) = (_, g.ranks (name_is n))

valued : {w : List ℕ} {tokens rest : List Lexeme} → (w ≡ codes "hide_lemma") ⊎ (w ≡ codes "heuristic") → ValueOf tokens rest → Spelled SpellsLemmaAttribute (word w ∷ tokens) rest
valued {tokens = ts} {rest = r} (inl e) v = at_this (λ u. Spelled SpellsLemmaAttribute (word u ∷ ts) r) e (hidden v)
valued {tokens = ts} {rest = r} (inr e) v = at_this (λ u. Spelled SpellsLemmaAttribute (word u ∷ ts) r) e (ranked v)

pub sound_lemma_attribute : (x : Lexeme) → Sound a.LemmaAttribute x (lemma_attribute_move x)
sound_lemma_attribute (word w) =
    by_if (Sound a.LemmaAttribute (word w)) (has_value w) (takes (a.AttributeValue ∷ [])) _ (λ e ts r h. valued (either_word w (codes "hide_lemma") (codes "heuristic") e) (one_is h))
    (λ d. by_single a.LemmaAttribute (word w) (not (is_reserved w)) (λ e rest. (_, g.by_word (name_is e))))
sound_lemma_attribute _ = tt

value_ends : {tokens rest : List Lexeme} → tokens ≡ rest → ValueOf tokens rest
value_ends {tokens} e = subst (λ (r : List Lexeme). ValueOf tokens r) e no_value

pub sound_attribute_value : (x : Lexeme) → Sound a.AttributeValue x (attribute_value_move x)
sound_attribute_value (sign s.Equals) = λ ts r h. value (one_is h)
sound_attribute_value _ = λ ts r h. value_ends (nothing_is h)

another_attribute : {tokens rest : List Lexeme} → MeansAll (a.LemmaAttribute ∷ a.MoreLemmaAttributes ∷ []) tokens rest → AfterPart SpellsLemmaAttribute s.CloseList (sign s.Comma ∷ tokens) rest
another_attribute (and_then h (and_then k nothing)) = another_part SpellsLemmaAttribute h k

pub sound_more_lemma_attributes : (x : Lexeme) → Sound a.MoreLemmaAttributes x (more_lemma_attributes_move x)
sound_more_lemma_attributes (sign s.Comma) = λ ts r h. another_attribute h
sound_more_lemma_attributes (sign s.CloseList) = λ ts r h. no_other_part SpellsLemmaAttribute (nothing_is h)
sound_more_lemma_attributes _ = tt

-- ---- bindings

bindings_of : {b : Binding} {tokens mid rest : List Lexeme} → SpellsBinding tokens b mid → BindingsBehind mid rest → Spelled SpellsBindings tokens rest
bindings_of {b} h no_binding = (b ∷ [], g.last_binding h)
bindings_of {b} h (a_binding {bs = bs} k) = (b ∷ bs, g.next_binding h k)

let_bindings : {tokens rest : List Lexeme} → MeansAll (a.Variable ∷ a.Exactly s.Equals ∷ a.Term 0 ∷ a.MoreBindings ∷ []) tokens rest → Spelled SpellsLet (word (codes "let") ∷ tokens) rest
let_bindings (and_then v (and_then one_sign (and_then t (and_then m nothing)))) = (_, g.let_in (bindings_of (g.binding v.1 t.1) m).1)

no_let : {tokens rest : List Lexeme} → tokens ≡ rest → Spelled SpellsLet tokens rest
no_let {tokens} e = subst (λ (r : List Lexeme). Spelled SpellsLet tokens r) e ([], g.no_let)

pub sound_let : (x : Lexeme) → Sound a.Let x (let_move x)
sound_let (word w) =
    by_if (Sound a.Let (word w)) (bytes_eq w (codes "let")) (takes (a.Variable ∷ a.Exactly s.Equals ∷ a.Term 0 ∷ a.MoreBindings ∷ [])) (becomes []) (λ e ts r h. at_word (λ u. Spelled SpellsLet (word u ∷ ts) r) w (codes "let") e (let_bindings h))
    (λ e ts r h. no_let (nothing_is h))
sound_let _ = λ ts r h. no_let (nothing_is h)

bindings_end : {tokens rest : List Lexeme} → tokens ≡ rest → BindingsBehind (word (codes "in") ∷ tokens) rest
bindings_end {tokens} e = subst (λ (r : List Lexeme). BindingsBehind (word (codes "in") ∷ tokens) r) e no_binding

marked_binding : {y : Sign} {m : Mark} {tokens rest : List Lexeme} → mark_at y ≡ Some m → MeansAll (a.Name ∷ binding_parts) tokens rest → BindingsBehind (sign y ∷ tokens) rest
marked_binding e (and_then n (and_then one_sign (and_then t (and_then m nothing)))) = a_binding (bindings_of (g.binding (marked_variable e n).1 t.1) m).1

named_binding : {w : List ℕ} {tokens rest : List Lexeme} → IsName w → MeansAll (a.Sorted ∷ binding_parts) tokens rest → BindingsBehind (word w ∷ tokens) rest
named_binding e (and_then v (and_then one_sign (and_then t (and_then m nothing)))) = a_binding (bindings_of (g.binding (named_variable e v).1 t.1) m).1

pub sound_more_bindings : (x : Lexeme) → Sound a.MoreBindings x (more_bindings_move x)
sound_more_bindings (word w) =
    by_if (Sound a.MoreBindings (word w)) (bytes_eq w (codes "in")) (takes []) _ (λ e ts r h. at_word (λ u. BindingsBehind (word u ∷ ts) r) w (codes "in") e (bindings_end (nothing_is h)))
    (λ d. by_if (Sound a.MoreBindings (word w)) (not (is_reserved w)) (takes (a.Sorted ∷ binding_parts)) stuck (λ e ts r h. named_binding (name_is e) h) (λ e. tt))
sound_more_bindings (sign s.Tilde) = λ ts r h. marked_binding refl h
sound_more_bindings (sign s.Dollar) = λ ts r h. marked_binding refl h
sound_more_bindings (sign s.Hash) = λ ts r h. marked_binding refl h
sound_more_bindings _ = tt

-- ---- behind the colon

formula_spelled : {tokens rest : List Lexeme} → MeansAll (a.Negation 0 0 ∷ a.More 0 ∷ a.Twice 0 ∷ a.Exactly s.Quote ∷ []) tokens rest → (x : Formula) × SpellsFormula 0 tokens x (sign s.Quote ∷ rest)
formula_spelled (and_then n (and_then m (and_then t (and_then one_sign nothing)))) = formula_of (lone_negation n).1 m t

pub sound_quoted : (x : Lexeme) → Sound a.Quoted x quoted_move
sound_quoted x = λ ts r h. formula_spelled h

rule_parts : {tokens rest : List Lexeme} → MeansAll (a.Let ∷ a.FactList ∷ a.Arrow ∷ a.FactList ∷ a.Items ∷ []) tokens rest → BodyOf Rule tokens rest
rule_parts (and_then l (and_then i (and_then j (and_then k (and_then items nothing))))) = rule_body l.1 i.1 j.1 k.1 items

restriction_parts : {tokens rest : List Lexeme} → MeansAll (a.Exactly s.Quote ∷ a.Quoted ∷ a.Items ∷ []) tokens rest → BodyOf Restriction tokens rest
restriction_parts (and_then one_sign (and_then q (and_then items nothing))) = restriction_body q.1 items

lemma_parts : {tokens rest : List Lexeme} → MeansAll (a.Kind ∷ a.Quoted ∷ a.Below ∷ []) tokens rest → BodyOf Lemma tokens rest
lemma_parts (and_then k (and_then q (and_then b nothing))) = lemma_body k.1 q.1 b

pub sound_body : (i : NamedItem) (x : Lexeme) → Sound (a.Body i) x (becomes (body_parts i))
sound_body Rule x = λ ts r h. rule_parts h
sound_body Restriction x = λ ts r h. restriction_parts h
sound_body Lemma x = λ ts r h. lemma_parts h

-- ---- facts of a rule

facts_at : {tokens rest : List Lexeme} → Spelled (AreItems (SpellsFact 0) s.CloseList) tokens rest → Spelled SpellsFacts (sign s.OpenList ∷ tokens) rest
facts_at h = (h.0, g.facts h.1)

pub sound_fact_list : (x : Lexeme) → Sound a.FactList x (fact_list_move x)
sound_fact_list (sign s.OpenList) = λ ts r h. facts_at (one_is h)
sound_fact_list _ = tt

some_facts : {y : Sign} {tokens rest : List Lexeme} → MeansAll (a.Fact 0 ∷ a.MoreFacts y ∷ []) tokens rest → Spelled (AreItems (SpellsFact 0) y) tokens rest
some_facts (and_then h (and_then k nothing)) = items_of (SpellsFact 0) h.0 h.1 k

no_facts : {y : Sign} {tokens rest : List Lexeme} → tokens ≡ rest → Spelled (AreItems (SpellsFact 0) y) (sign y ∷ tokens) rest
no_facts {y} {tokens} e = subst (λ (r : List Lexeme). Spelled (AreItems (SpellsFact 0) y) (sign y ∷ tokens) r) e ([], empty)

pub sound_facts : (y : Sign) (x : Lexeme) → Sound (a.Facts y) x (facts_move y x)
sound_facts y (sign z) =
    by_if (Sound (a.Facts y) (sign z)) (code z == code y) (takes []) (becomes (a.Fact 0 ∷ a.MoreFacts y ∷ []))
    (λ e ts r h. subst (λ (u : Sign). Spelled (AreItems (SpellsFact 0) y) (sign u ∷ ts) r) (sym (same_sign z y e)) (no_facts (nothing_is h)))
    (λ e ts r h. some_facts h)
sound_facts y _ = λ ts r h. some_facts h

another_fact : {y : Sign} {tokens rest : List Lexeme} → MeansAll (a.Fact 0 ∷ a.MoreFacts y ∷ []) tokens rest → AfterPart (SpellsFact 0) y (sign s.Comma ∷ tokens) rest
another_fact (and_then h (and_then k nothing)) = another_part (SpellsFact 0) h k

pub sound_more_facts : (y : Sign) (x : Lexeme) → Sound (a.MoreFacts y) x (more_facts_move y x)
sound_more_facts y (sign z) =
    by_if (Sound (a.MoreFacts y) (sign z)) (code z == code s.Comma) (takes (a.Fact 0 ∷ a.MoreFacts y ∷ [])) (single (code z == code y))
    (λ e ts r h. subst (λ (u : Sign). AfterPart (SpellsFact 0) y (sign u ∷ ts) r) (sym (same_sign z s.Comma e)) (another_fact h))
    (λ d. by_single (a.MoreFacts y) (sign z) (code z == code y) (λ e rest. subst (λ (u : Sign). AfterPart (SpellsFact 0) y (sign u ∷ rest) rest) (sym (same_sign z y e)) no_part))
sound_more_facts y _ = tt

arrow_unlabelled : {tokens rest : List Lexeme} → tokens ≡ rest → Spelled SpellsArrow (sign s.Arrow ∷ tokens) rest
arrow_unlabelled {tokens} e = subst (λ (r : List Lexeme). Spelled SpellsArrow (sign s.Arrow ∷ tokens) r) e (_, g.unlabelled)

labelled_arrow : {tokens rest : List Lexeme} → Spelled (AreItems (SpellsFact 0) s.CloseArrow) tokens rest → Spelled SpellsArrow (sign s.OpenArrow ∷ tokens) rest
labelled_arrow h = (_, g.labelled h.1)

pub sound_arrow : (x : Lexeme) → Sound a.Arrow x (arrow_move x)
sound_arrow (sign s.Arrow) = λ ts r h. arrow_unlabelled (nothing_is h)
sound_arrow (sign s.OpenArrow) = λ ts r h. labelled_arrow (one_is h)
sound_arrow _ = tt

-- ---- kinds of lemmas

kind_unsaid : {tokens rest : List Lexeme} → tokens ≡ rest → KindOf (sign s.Quote ∷ tokens) rest
kind_unsaid {tokens} e = subst (λ (r : List Lexeme). KindOf (sign s.Quote ∷ tokens) r) e (all_traces, g.no_kind)

named_all : {tokens rest : List Lexeme} → MeansAll (kind_parts All) tokens rest → KindOf (word (codes "all") ∷ tokens) rest
named_all (and_then one_sign (and_then (one_word {w = w} {rest = ts} e) (and_then (one_sign {rest = r}) nothing))) = at_word (λ u. KindOf (word (codes "all") ∷ sign s.Dash ∷ word u ∷ sign s.Quote ∷ r) r) w (codes "traces") e (_, g.all_kind)

named_exists : {tokens rest : List Lexeme} → MeansAll (kind_parts Exists) tokens rest → KindOf (word (codes "exists") ∷ tokens) rest
named_exists (and_then one_sign (and_then (one_word {w = w} {rest = ts} e) (and_then (one_sign {rest = r}) nothing))) = at_word (λ u. KindOf (word (codes "exists") ∷ sign s.Dash ∷ word u ∷ sign s.Quote ∷ r) r) w (codes "trace") e (_, g.exists_kind)

pub sound_kind : (x : Lexeme) → Sound a.Kind x (kind_move x)
sound_kind (sign s.Quote) = λ ts r h. kind_unsaid (nothing_is h)
sound_kind (word w) =
    by_if S (bytes_eq w (codes "all")) (takes (kind_parts All)) _ (λ e ts r h. at_word (λ u. KindOf (word u ∷ ts) r) w (codes "all") e (named_all h))
    (λ q. by_if S (bytes_eq w (codes "exists")) (takes (kind_parts Exists)) stuck (λ e ts r h. at_word (λ u. KindOf (word u ∷ ts) r) w (codes "exists") e (named_exists h)) (λ e. tt))
  where
    S : Move → Type 0
    S m = Sound a.Kind (word w) m
sound_kind _ = tt
