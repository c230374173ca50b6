-- What stands where items up to the end are spelled: the beginning of an item, and behind its first word nothing that could be of another item whose
-- first word stood before it. So of the words of a heuristic exactly those before it are read.
use Rattle.std.proofs.Common.{◌≡◌, ℕ, Bool, true, false, List, [], ◌∷◌, None, Some, codes, refl, sym, ap, ◌∙◌}
use Rattle.std.specs.Prelude.{◌||◌}
use Rattle.std.specs.Str.{bytes_eq}
use Rattle.std.proofs.lemmas.Bool.{or_parts, or_from, or_right, not_from_false}
use Rattle.sp_spec_text.specs.Signs.{Sign}
use Rattle.sp_spec_text.specs.Signs as s
use Rattle.sp_spec_text.specs.Token.{Lexeme, word, constant, sign, block}
use Rattle.sp_spec.specs.Term.{Term}
use Rattle.sp_spec.specs.Signature.{Symbol}
use Rattle.sp_spec.specs.Rule.{Fact}
use Rattle.sp_spec.specs.Formula.{Mark, Written}
use Rattle.sp_spec.specs.Theory.{TraceKind, Lemma}
use Rattle.sp_spec.specs.Written.{WrittenRule}
use Rattle.sp_spec_text.specs.Names.{is_reserved, mark_at}
use Rattle.sp_spec_text.specs.Bindings.{Binding}
use Rattle.sp_spec_text.specs.Lists.{IsNotFirst, AreListed, alone, and_more}
use Rattle.sp_spec_text.specs.Written.{Attribute, Item}
use Rattle.sp_spec_text.specs.Formulas as f
use Rattle.sp_spec_text.specs.Formulas.{SpellsVariable, SpellsTerm}
use Rattle.sp_spec_text.specs.Theories as g
use Rattle.sp_spec_text.specs.Theories.{SpellsFacts, SpellsBuiltin, SpellsFunction, SpellsEquation, SpellsLet, SpellsRuleAttributes, SpellsModulo, SpellsRuleHead, SpellsRule, SpellsKind, SpellsLemmaAttributes, SpellsLemma, SpellsWords, SpellsDeclaration, SpellsItems}
use Rattle.sp_read_listings.specs.Heuristics.{is_dashed, is_body, is_behind_name, is_behind_word, begins_item, AreWords, last_word, one_more}
use Rattle.sp_read_listings.specs.Heuristics.{the_end}
use Rattle.sp_read_listings.proofs.Beginnings.{dashed_true, dashed_other, dashed_open, list_body, quote_body, let_body, word_body, other_body, list_behind_name, colon_behind_name, other_behind_name, block_behind_word, bracket_behind_word, colon_behind_word, name_behind_word, word_begins, behind_name_colon, behind_word_name, begins_end}

-- a word stands first
pub record StartsWord (tokens : List Lexeme) : Type 0 where
  pub first : List ℕ
  pub others : List Lexeme
  pub are : tokens ≡ word first ∷ others

-- an item begins, or the end stands there, and neither is begun by another word before
pub record Follows (tokens : List Lexeme) : Type 0 where
  pub starts : StartsWord tokens
  pub begins : begins_item tokens ≡ true
  pub apart : is_behind_name starts.others ≡ false

-- ---- names are no reserved words

or_first : (a b : Bool) → (a || b) ≡ false → a ≡ false
or_first a b e = (or_parts a b e).0

-- the first and the second of the reserved words
first_two : (a b c d e f g h : Bool) → (a || b || c || d || e || f || g || h) ≡ false → (a ≡ false) × (b ≡ false)
first_two a b c d e f g h z =
    let y = or_first (a || b || c || d || e || f) g (or_first (a || b || c || d || e || f || g) h z) in
    let x = or_first (a || b || c || d) e (or_first (a || b || c || d || e) f y) in
    or_parts a b (or_first (a || b) c (or_first (a || b || c) d x))

reserved_two : (w : List ℕ) → is_reserved w ≡ false → (bytes_eq w (codes "end") ≡ false) × (bytes_eq w (codes "let") ≡ false)
unfolding is_reserved
reserved_two w h = first_two (bytes_eq w (codes "end")) (bytes_eq w (codes "let")) (bytes_eq w (codes "in")) (bytes_eq w (codes "not")) (bytes_eq w (codes "All")) (bytes_eq w (codes "Ex")) (bytes_eq w (codes "last")) (bytes_eq w (codes "solve")) h

-- ---- what stands behind the keyword and the colon of a list is no body

body_name : (w : List ℕ) (tokens : List Lexeme) → is_reserved w ≡ false → is_dashed tokens ≡ false → is_body (word w ∷ tokens) ≡ false
body_name w tokens h e = word_body w tokens ∙ or_from (bytes_eq w (codes "let")) (is_dashed tokens) (reserved_two w h).1 e

name_body : (w : List ℕ) (tokens : List Lexeme) → is_reserved w ≡ false → IsNotFirst (sign s.Dash) tokens → is_body (word w ∷ tokens) ≡ false
name_body w tokens h d = body_name w tokens h (dashed_other tokens d)

-- neither a dash nor a double quote
record NoDash (tokens : List Lexeme) : Type 0 where
  dash : IsNotFirst (sign s.Dash) tokens
  quote : IsNotFirst (sign s.Quote) tokens

no_dash_comma : (rest : List Lexeme) → NoDash (sign s.Comma ∷ rest)
no_dash_comma rest = record { dash = λ r e. cc; quote = λ r e. cc }

no_dash_word : {tokens : List Lexeme} → StartsWord tokens → NoDash tokens
no_dash_word w = record { dash = λ r e. let d : word w.first ∷ w.others ≡ sign s.Dash ∷ r = sym w.are ∙ e in cc; quote = λ r e. let d : word w.first ∷ w.others ≡ sign s.Quote ∷ r = sym w.are ∙ e in cc }

builtin_body : {tokens rest : List Lexeme} {b : List ℕ} → SpellsBuiltin tokens b rest → NoDash rest → is_body tokens ≡ false
builtin_body (g.single {w = w} {rest = r} h) n = name_body w r h n.dash
builtin_body (g.joined {w = v} h (g.single {w = w} {rest = r} k)) n = body_name v (sign s.Dash ∷ word w ∷ r) h (dashed_open w r n.quote)
builtin_body (g.joined {w = v} h (g.joined {w = w} {tokens = ts} k l)) n = body_name v (sign s.Dash ∷ word w ∷ sign s.Dash ∷ ts) h (dashed_open w (sign s.Dash ∷ ts) (λ r e. cc))

function_body : {tokens rest : List Lexeme} {f : Symbol} → SpellsFunction tokens f rest → is_body tokens ≡ false
function_body (g.plain {w = w} {k = k} {rest = r} h e) = name_body w (sign s.Slash ∷ word k ∷ r) h (λ q d. cc)
function_body (g.with_attributes {w = w} {k = k} {tokens = ts} h e a) = name_body w (sign s.Slash ∷ word k ∷ sign s.OpenList ∷ ts) h (λ q d. cc)

-- a sign that opens no body
sign_body : (x : Sign) (tokens : List Lexeme) → (x ≡ s.OpenList → ⊥) → (x ≡ s.Quote → ⊥) → is_body (sign x ∷ tokens) ≡ false
sign_body x tokens a b = other_body (sign x ∷ tokens) (λ r e. a cc) (λ r e. b cc) (λ w r e. cc)

marks_no_list : {m : Mark} (x : Sign) → mark_at x ≡ Some m → x ≡ s.OpenList → ⊥
marks_no_list {m} x e f = let d : None ≡ Some m = sym (ap mark_at f) ∙ e in cc

marks_no_quote : {m : Mark} (x : Sign) → mark_at x ≡ Some m → x ≡ s.Quote → ⊥
marks_no_quote {m} x e f = let d : None ≡ Some m = sym (ap mark_at f) ∙ e in cc

variable_body : {tokens rest : List Lexeme} {v : Written} → SpellsVariable tokens v rest → IsNotFirst (sign s.Dash) rest → is_body tokens ≡ false
variable_body (f.marked {x = x} {w = w} {rest = r} e h) d = sign_body x (word w ∷ r) (marks_no_list x e) (marks_no_quote x e)
variable_body (f.unmarked {w = w} {rest = r} h) d = name_body w r h d
variable_body (f.sorted {w = w} {k = k} {rest = r} h e) d = name_body w (sign s.Colon ∷ word k ∷ r) h (λ q i. cc)

term_body : {n : ℕ} {tokens rest : List Lexeme} {x : Term Written} → SpellsTerm n tokens x rest → IsNotFirst (sign s.Dash) rest → is_body tokens ≡ false
term_body (f.fixed {c = c} {rest = r}) d = other_body (constant c ∷ r) (λ q e. cc) (λ q e. cc) (λ w q e. cc)
term_body (f.variable h) d = variable_body h d
term_body (f.brackets {tokens = ts} lt h) d = sign_body s.Open ts (λ e. cc) (λ e. cc)
term_body (f.tuple {tokens = ts} lt h) d = sign_body s.Less ts (λ e. cc) (λ e. cc)
term_body (f.application {w = w} {tokens = ts} h lt k) d = name_body w (sign s.Open ∷ ts) h (λ q e. cc)
term_body (f.braced {w = w} {tokens = ts} h lt k l) d = name_body w (sign s.OpenBrace ∷ ts) h (λ q e. cc)

equation_body : {tokens rest : List Lexeme} {e : Term Written × Term Written} → SpellsEquation tokens e rest → is_body tokens ≡ false
equation_body (g.equation h k) = term_body h (λ r e. cc)

-- the first of parts with commas
listed_body : {A : Type 0} {R : List Lexeme → A → List Lexeme → Type 0} → ((tokens : List Lexeme) (x : A) (rest : List Lexeme) → R tokens x rest → NoDash rest → is_body tokens ≡ false)
    → {tokens rest : List Lexeme} {xs : List A} → AreListed R tokens xs rest → NoDash rest → is_body tokens ≡ false
listed_body m (alone h) n = m _ _ _ h n
listed_body m (and_more {mid = q} h k) n = m _ _ _ h (no_dash_comma q)

words_body : {tokens rest : List Lexeme} {ws : List (List ℕ)} → SpellsWords tokens ws rest → NoDash rest → is_body tokens ≡ false
words_body (g.one_word {w = w} {rest = r} h) n = name_body w r h n.dash
words_body (g.more_words {w = v} h (g.one_word {w = w} {rest = r} k)) n = name_body v (word w ∷ r) h (λ q e. cc)
words_body (g.more_words {w = v} h (g.more_words {w = w} {tokens = ts} k l)) n = name_body v (word w ∷ ts) h (λ q e. cc)

-- ---- items

begins_behind : (w : List ℕ) (tokens : List Lexeme) → is_behind_word tokens ≡ true → begins_item (word w ∷ tokens) ≡ true
begins_behind w tokens e = word_begins w tokens ∙ or_right (bytes_eq w (codes "end")) (is_behind_word tokens) e

follows_list : {w : List ℕ} {tokens : List Lexeme} → is_body tokens ≡ false → Follows (word w ∷ sign s.Colon ∷ tokens)
follows_list {w} {tokens} e = record {
  starts = record { first = w; others = sign s.Colon ∷ tokens; are = refl };
  begins = begins_behind w (sign s.Colon ∷ tokens) (colon_behind_word tokens ∙ not_from_false (is_body tokens) e);
  apart = colon_behind_name tokens ∙ e;
}

follows_block : (w : List ℕ) (tokens : List Lexeme) → Follows (word w ∷ block ∷ tokens)
follows_block w tokens = record {
  starts = record { first = w; others = block ∷ tokens; are = refl };
  begins = begins_behind w (block ∷ tokens) (block_behind_word tokens);
  apart = other_behind_name (block ∷ tokens) (λ r e. cc) (λ r e. cc);
}

follows_bracket : (w : List ℕ) (tokens : List Lexeme) → Follows (word w ∷ sign s.Open ∷ tokens)
follows_bracket w tokens = record {
  starts = record { first = w; others = sign s.Open ∷ tokens; are = refl };
  begins = begins_behind w (sign s.Open ∷ tokens) (bracket_behind_word tokens);
  apart = other_behind_name (sign s.Open ∷ tokens) (λ r e. cc) (λ r e. cc);
}

word_apart : (w : List ℕ) (tokens : List Lexeme) → is_behind_name (word w ∷ tokens) ≡ false
word_apart w tokens = other_behind_name (word w ∷ tokens) (λ r e. cc) (λ r e. cc)

follows_name : {v w : List ℕ} {tokens : List Lexeme} → is_behind_name tokens ≡ true → Follows (word v ∷ word w ∷ tokens)
follows_name {v} {w} {tokens} e = record {
  starts = record { first = v; others = word w ∷ tokens; are = refl };
  begins = begins_behind v (word w ∷ tokens) (name_behind_word w tokens ∙ e);
  apart = word_apart w tokens;
}

follows_end : (tokens : List Lexeme) → tokens ≡ the_end → Follows tokens
follows_end tokens e = record {
  starts = record { first = codes "end"; others = []; are = e };
  begins = sym (begins_end e);
  apart = other_behind_name [] (λ r d. cc) (λ r d. cc);
}

-- ---- rules, restrictions and lemmas

facts_body : {tokens rest : List Lexeme} {fs : List (Fact Written)} → SpellsFacts tokens fs rest → is_body tokens ≡ true
facts_body (g.facts {tokens = ts} h) = list_body ts

rule_body : {tokens mid rest : List Lexeme} {bs : List Binding} {fs : List (Fact Written)} → SpellsLet tokens bs mid → SpellsFacts mid fs rest → is_body tokens ≡ true
rule_body g.no_let k = facts_body k
rule_body (g.let_in {tokens = ts} h) k = let_body ts

behind_colon : {tokens body : List Lexeme} → tokens ≡ sign s.Colon ∷ body → is_body body ≡ true → is_behind_name tokens ≡ true
behind_colon e b = sym (behind_name_colon e (sym b))

behind_brackets : {tokens mid body : List Lexeme} → SpellsRuleAttributes tokens mid → mid ≡ sign s.Colon ∷ body → is_body body ≡ true → is_behind_name tokens ≡ true
behind_brackets g.no_rule_attribute e b = behind_colon e b
behind_brackets (g.rule_attributes {tokens = ts} h) e b = list_behind_name ts

modulo_follows : {w : List ℕ} {tokens mid attributes : List Lexeme} → SpellsModulo tokens mid → mid ≡ word w ∷ attributes → is_behind_name attributes ≡ true → Follows (word (codes "rule") ∷ tokens)
modulo_follows g.no_modulo e b = rw e (follows_name b)
modulo_follows (g.modulo {w = w} {rest = r} h) e b = follows_bracket (codes "rule") (word (codes "modulo") ∷ word w ∷ sign s.Close ∷ r)

rule_follows : {tokens rest : List Lexeme} {bs : List Binding} {r : WrittenRule} → SpellsRule tokens bs r rest → Follows tokens
rule_follows (g.rule h l i j k) = at h (rule_body l i)
  where
    at : {ts body : List Lexeme} {w : List ℕ} → SpellsRuleHead ts w body → is_body body ≡ true → Follows ts
    at (g.rule_head m n a) b = modulo_follows m refl (behind_brackets a refl b)

dashed_body : (a b : List ℕ) (tokens : List Lexeme) → is_body (word a ∷ sign s.Dash ∷ word b ∷ sign s.Quote ∷ tokens) ≡ true
dashed_body a b tokens = word_body a (sign s.Dash ∷ word b ∷ sign s.Quote ∷ tokens) ∙ or_right (bytes_eq a (codes "let")) (is_dashed (sign s.Dash ∷ word b ∷ sign s.Quote ∷ tokens)) (dashed_true b tokens)

kind_body : {kind : TraceKind} {tokens mid body : List Lexeme} → SpellsKind tokens kind mid → mid ≡ sign s.Quote ∷ body → is_body tokens ≡ true
kind_body {body = b} g.no_kind e = rw e (quote_body b)
kind_body {body = b} g.all_kind e = rw e (dashed_body (codes "all") (codes "traces") b)
kind_body {body = b} g.exists_kind e = rw e (dashed_body (codes "exists") (codes "trace") b)

behind_attributes : {each : List Attribute} {tokens mid body : List Lexeme} → SpellsLemmaAttributes tokens each mid → mid ≡ sign s.Colon ∷ body → is_body body ≡ true → is_behind_name tokens ≡ true
behind_attributes g.no_lemma_attribute e b = behind_colon e b
behind_attributes (g.lemma_attributes {tokens = ts} h) e b = list_behind_name ts

lemma_follows : {tokens rest : List Lexeme} {l : Lemma} {each : List Attribute} → SpellsLemma tokens l each rest → Follows tokens
lemma_follows (g.lemma h a k q) = follows_name (behind_attributes a refl (kind_body k refl))

declaration_follows : {tokens rest : List Lexeme} {x : Item} → SpellsDeclaration tokens x rest → NoDash rest → Follows tokens
declaration_follows (g.builtins h) n = follows_list (listed_body (λ ts x r k m. builtin_body k m) h n)
declaration_follows (g.functions h) n = follows_list (listed_body (λ ts x r k m. function_body k) h n)
declaration_follows (g.equations h) n = follows_list (listed_body (λ ts x r k m. equation_body k) h n)
declaration_follows (g.heuristic h) n = follows_list (words_body h n)
declaration_follows (g.text_block {w = w} {rest = r} h) n = follows_block w r
declaration_follows (g.a_rule h) n = rule_follows h
declaration_follows (g.a_restriction (g.restriction {tokens = ts} i h q)) n = follows_name (behind_colon refl (quote_body ts))

pub items_follow : {tokens rest : List Lexeme} {items : List Item} → SpellsItems tokens items rest → rest ≡ the_end → Follows tokens
items_follow {tokens = ts} g.no_item e = follows_end ts e
items_follow (g.declaration_first h i) e = declaration_follows h (no_dash_word (items_follow i e).starts)
items_follow (g.lemma_first h c i) e = lemma_follows h

-- where items and the end follow, a word stands first
pub items_word : {tokens rest : List Lexeme} {items : List Item} → SpellsItems tokens items rest → rest ≡ the_end → StartsWord tokens
items_word i e = (items_follow i e).starts

pub lemma_starts : {tokens rest : List Lexeme} {l : Lemma} {each : List Attribute} → SpellsLemma tokens l each rest → StartsWord tokens
lemma_starts h = (lemma_follows h).starts

pub declaration_word : {tokens rest : List Lexeme} {x : Item} → SpellsDeclaration tokens x rest → StartsWord tokens
declaration_word (g.builtins {tokens = ts} h) = record { first = codes "builtins"; others = sign s.Colon ∷ ts; are = refl }
declaration_word (g.functions {tokens = ts} h) = record { first = codes "functions"; others = sign s.Colon ∷ ts; are = refl }
declaration_word (g.equations {tokens = ts} h) = record { first = codes "equations"; others = sign s.Colon ∷ ts; are = refl }
declaration_word (g.heuristic {tokens = ts} h) = record { first = codes "heuristic"; others = sign s.Colon ∷ ts; are = refl }
declaration_word (g.text_block {w = w} {rest = r} h) = record { first = w; others = block ∷ r; are = refl }
declaration_word (g.a_rule h) = (rule_follows h).starts
declaration_word (g.a_restriction (g.restriction {k = k} {w = w} {tokens = ts} i h q)) = record { first = k; others = word w ∷ sign s.Colon ∷ sign s.Quote ∷ ts; are = refl }

-- ---- so the words of a heuristic end there

behind_first : {tokens : List Lexeme} → Follows tokens → is_behind_word tokens ≡ false
behind_first f = sym (behind_word_name f.starts.are (sym f.apart))

name_behind : (w : List ℕ) {tokens : List Lexeme} → StartsWord tokens → is_behind_word (word w ∷ tokens) ≡ false
name_behind w {tokens} s = let e = s.are in name_behind_word w tokens ∙ rw e (word_apart s.first s.others)

behind_words : {tokens rest : List Lexeme} {ws : List (List ℕ)} → SpellsWords tokens ws rest → Follows rest → is_behind_word tokens ≡ false
behind_words (g.one_word {w = v} h) f = name_behind v f.starts
behind_words (g.more_words {w = v} h (g.one_word {w = w} {rest = r} k)) f = name_behind v (record { first = w; others = r; are = refl })
behind_words (g.more_words {w = v} h (g.more_words {w = w} {tokens = ts} k l)) f = name_behind v (record { first = w; others = ts; are = refl })

-- no item begins among them
not_begun : {tokens rest : List Lexeme} {ws : List (List ℕ)} → SpellsWords tokens ws rest → Follows rest → begins_item tokens ≡ false
not_begun (g.one_word {w = w} {rest = r} h) f = word_begins w r ∙ or_from (bytes_eq w (codes "end")) (is_behind_word r) (reserved_two w h).0 (behind_first f)
not_begun (g.more_words {w = w} {tokens = ts} h k) f = word_begins w ts ∙ or_from (bytes_eq w (codes "end")) (is_behind_word ts) (reserved_two w h).0 (behind_words k f)

pub words_taken : {tokens rest : List Lexeme} {ws : List (List ℕ)} → SpellsWords tokens ws rest → Follows rest → AreWords tokens ws rest
words_taken (g.one_word h) f = last_word h f.begins
words_taken (g.more_words h k) f = one_more h (not_begun k f) (words_taken k f)
