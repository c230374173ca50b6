-- What the table says of the words of a heuristic, the grammar says.
use Rattle.std.proofs.Common.{ℕ, ◌⊎◌, inl, inr, Bool, true, false, not, ◌||◌, List, [], ◌∷◌, codes, refl, bytes_eq}
use Rattle.sp_spec_text.specs.Signs as s
use Rattle.sp_spec_text.specs.Token.{Lexeme, word, sign, block}
use Rattle.sp_spec_text.specs.Names.{IsName, is_reserved}
use Rattle.sp_spec_text.specs.Theories as g
use Rattle.sp_spec_text.specs.Theories.{SpellsBuiltin}
use Rattle.sp_await.specs.Keywords.{NamedItem, Rule, Restriction, Lemma, ListItem, Builtins, Functions, Equations, Heuristic, Keyword, names, lists, neither, keyword_of, TraceKind, All, Exists, kind_word, traces_word}
use Rattle.sp_await.specs.Parts as a
use Rattle.sp_await.specs.Table.{Move, takes, becomes, is_sign, is_word, open_move, second_word_move, words_colon_move, words_bracket_move, more_words_move, one_of, list_or_lemma_move, either_move, behind_name, dash_move, joined_move, joined_traces_move, joined_quote_move}
use Rattle.sp_law_await.proofs.Meaning.{one_sign, one_word}
use Rattle.sp_law_await.proofs.Tokens.{name_is, at_word, kind_named, traces_named}
use Rattle.sp_law_await.proofs.Keywords.{keyword_begins}
use Rattle.sp_law_await.proofs.Means.{ItemsOf, Listed, BuiltinBehind, BuiltinNamed, builtin_named, BodyOf, lemma_body, WordsThen, no_more_words, another_word, words_of, ListOf, begun_block, begun_list, WordsBehind, of_words, of_last, of_name, QuotedBelow, quoted_below, TracesBelow, traces_below, MeansAll, nothing, and_then, Sound, by_if, one_is, by_single}
use Rattle.sp_law_await.proofs.SoundLists.{builtin_listed, dashed, function_first, equation_first, builtin_name}
use Rattle.sp_law_await.proofs.SoundItems.{the_end, begun_items, named_begun, modulo_begun, body_headed, rule_bracket, lemma_bracket}

-- ---- words

word_behind : {w : List ℕ} {tokens rest : List Lexeme} → IsName w → WordsBehind (keyword_of w) neither tokens rest → WordsThen (word w ∷ tokens) rest
word_behind n (of_words h) = another_word n h
word_behind {w} n (of_last b) = no_more_words (begun_items n (keyword_begins w) b)

pub sound_second_word : (x : Lexeme) → Sound a.SecondWord x (second_word_move x)
sound_second_word (word w) =
    by_if (Sound a.SecondWord (word w)) (not (is_reserved w)) (takes (a.MoreWords (keyword_of w) neither ∷ [])) _ (λ e ts r h. word_behind (name_is e) (one_is h))
    (λ d. by_single a.SecondWord (word w) (bytes_eq w (codes "end")) (λ e rest. no_more_words (at_word (λ u. ItemsOf (word u ∷ rest) rest) w (codes "end") e (the_end refl))))
sound_second_word _ = tt

name_behind : {k j : Keyword} {w : List ℕ} {tokens rest : List Lexeme} → IsName w → WordsBehind (keyword_of w) k tokens rest → WordsBehind k j (word w ∷ tokens) rest
name_behind n (of_words h) = of_words (another_word n h)
name_behind {w = w} n (of_last b) = of_words (no_more_words (begun_items n (keyword_begins w) b))
name_behind n (of_name {i = i} h) = of_last (named_begun i n h)

either_behind : (l : ListItem) (i : NamedItem) {tokens rest : List Lexeme} → ListOf l tokens rest ⊎ BodyOf i tokens rest → WordsBehind (lists l) (names i) (sign s.Colon ∷ tokens) rest
either_behind l i (inl h) = of_last (begun_list {l = l} h)
either_behind l i (inr h) = of_name (body_headed i h)

colon_behind : (k j : Keyword) → Sound (a.MoreWords k j) (sign s.Colon) (words_colon_move k j)
colon_behind (lists l) (names i) = λ ts r h. either_behind l i (one_is h)
colon_behind (names n) (names i) = λ ts r h. of_name (body_headed i (one_is h))
colon_behind neither (names i) = λ ts r h. of_name (body_headed i (one_is h))
colon_behind (lists l) _ = λ ts r h. of_last (begun_list {l = l} (one_is h))
colon_behind _ _ = tt

open_behind : (k j : Keyword) → Sound (a.MoreWords k j) (sign s.Open) (open_move k)
open_behind (names Rule) j = λ ts r h. of_last (modulo_begun h)
open_behind _ j = tt

bracket_behind : (k j : Keyword) → Sound (a.MoreWords k j) (sign s.OpenList) (words_bracket_move j)
bracket_behind k (names Rule) = λ ts r h. of_name (rule_bracket h)
bracket_behind k (names Lemma) = λ ts r h. of_name (lemma_bracket h)
bracket_behind k _ = tt

pub sound_more_words : (k j : Keyword) (x : Lexeme) → Sound (a.MoreWords k j) x (more_words_move k j x)
sound_more_words k j block = λ ts r h. of_last (begun_block (one_is h))
sound_more_words k j (word w) =
    by_if (Sound (a.MoreWords k j) (word w)) (not (is_reserved w)) (takes (a.MoreWords (keyword_of w) k ∷ [])) _ (λ e ts r h. name_behind (name_is e) (one_is h))
    (λ d. by_single (a.MoreWords k j) (word w) (bytes_eq w (codes "end")) (λ e rest. of_words (no_more_words (at_word (λ u. ItemsOf (word u ∷ rest) rest) w (codes "end") e (the_end refl)))))
sound_more_words k j (sign s.Colon) = colon_behind k j
sound_more_words k j (sign s.Open) = open_behind k j
sound_more_words k j (sign s.OpenList) = bracket_behind k j
sound_more_words k j _ = tt

-- ---- a list, or an item with a name

one_or_other : (l : ListItem) (i : NamedItem) (x : Lexeme) (b : Bool) → Sound (a.Either l i) x (one_of l i b)
one_or_other l i x true = λ ts r h. inr (one_is h)
one_or_other l i x false = λ ts r h. inl (one_is h)

list_or_lemma : (l : ListItem) (x : Lexeme) → Sound (a.Either l Lemma) x (list_or_lemma_move l x)
list_or_lemma l (word w) =
    by_if S (bytes_eq w (codes "all")) (takes (a.Joined l All ∷ [])) _ (λ e ts r h. at_word (λ u. ListOf l (word u ∷ ts) r ⊎ BodyOf Lemma (word u ∷ ts) r) w (codes "all") e (one_is h))
    (λ d. by_if S (bytes_eq w (codes "exists")) (takes (a.Joined l Exists ∷ [])) _ (λ e ts r h. at_word (λ u. ListOf l (word u ∷ ts) r ⊎ BodyOf Lemma (word u ∷ ts) r) w (codes "exists") e (one_is h))
    (λ d. one_or_other l Lemma (word w) false))
  where
    S : Move → Type 0
    S m = Sound (a.Either l Lemma) (word w) m
list_or_lemma l x = one_or_other l Lemma x (is_sign s.Quote x)

pub sound_either : (l : ListItem) (i : NamedItem) (x : Lexeme) → Sound (a.Either l i) x (either_move l i x)
sound_either l Rule x = one_or_other l Rule x (is_sign s.OpenList x || is_word (codes "let") x)
sound_either l Restriction x = one_or_other l Restriction x (is_sign s.Quote x)
sound_either l Lemma x = list_or_lemma l x

-- ---- behind `all` or `exists`

kind_body : (y : TraceKind) {tokens rest : List Lexeme} → TracesBelow y tokens rest → BodyOf Lemma (word (kind_word y) ∷ sign s.Dash ∷ tokens) rest
kind_body All (traces_below (quoted_below q b)) = lemma_body g.all_kind q b
kind_body Exists (traces_below (quoted_below q b)) = lemma_body g.exists_kind q b

kind_lemma : (y : TraceKind) {tokens rest : List Lexeme} → MeansAll (a.Traces y ∷ a.Exactly s.Quote ∷ a.Quoted ∷ a.Below ∷ []) tokens rest → BodyOf Lemma (word (kind_word y) ∷ sign s.Dash ∷ tokens) rest
kind_lemma y {rest = r} (and_then (one_word {w = w} e) (and_then (one_sign {rest = ts}) (and_then q (and_then b nothing)))) = kind_body y (at_word (λ u. TracesBelow y (word u ∷ sign s.Quote ∷ ts) r) w (traces_word y) e (traces_below (quoted_below q.1 b)))

builtin_or_kind : (y : TraceKind) {tokens rest : List Lexeme} → BuiltinNamed tokens rest ⊎ TracesBelow y tokens rest
    → Listed SpellsBuiltin (word (kind_word y) ∷ sign s.Dash ∷ tokens) rest ⊎ BodyOf Lemma (word (kind_word y) ∷ sign s.Dash ∷ tokens) rest
builtin_or_kind y (inl (builtin_named n k)) = inl (builtin_listed (kind_named y) (dashed n k))
builtin_or_kind y (inr t) = inr (kind_body y t)

dash_behind : (l : ListItem) (y : TraceKind) → Sound (a.Joined l y) (sign s.Dash) (dash_move l y)
dash_behind Builtins y = λ ts r h. builtin_or_kind y (one_is h)
dash_behind Functions y = λ ts r h. inr (kind_lemma y h)
dash_behind Equations y = λ ts r h. inr (kind_lemma y h)
dash_behind Heuristic y = λ ts r h. inr (kind_lemma y h)

name_first : (l : ListItem) (y : TraceKind) (x : Lexeme) → Sound (a.Joined l y) x (becomes (behind_name l))
name_first Builtins y x = λ ts r h. inl (builtin_listed (kind_named y) (one_is h))
name_first Functions y x = λ ts r h. inl (function_first (kind_named y) h)
name_first Equations y x = λ ts r h. inl (equation_first (kind_named y) h)
name_first Heuristic y x = λ ts r h. inl (words_of (kind_named y) (one_is h))

pub sound_joined : (l : ListItem) (y : TraceKind) (x : Lexeme) → Sound (a.Joined l y) x (joined_move l y x)
sound_joined l y (sign s.Dash) = dash_behind l y
sound_joined l y x = name_first l y x

traces_behind : (y : TraceKind) {tokens rest : List Lexeme} → BuiltinBehind tokens rest ⊎ QuotedBelow tokens rest → BuiltinNamed (word (traces_word y) ∷ tokens) rest ⊎ TracesBelow y (word (traces_word y) ∷ tokens) rest
traces_behind y (inl k) = inl (builtin_named (traces_named y) k)
traces_behind y (inr q) = inr (traces_below q)

pub sound_joined_traces : (y : TraceKind) (x : Lexeme) → Sound (a.JoinedTraces y) x (joined_traces_move y x)
sound_joined_traces y (word w) =
    by_if (Sound (a.JoinedTraces y) (word w)) (bytes_eq w (traces_word y)) (takes (a.JoinedQuote ∷ [])) (becomes (a.Name ∷ a.MoreBuiltins ∷ []))
    (λ e ts r h. at_word (λ u. BuiltinNamed (word u ∷ ts) r ⊎ TracesBelow y (word u ∷ ts) r) w (traces_word y) e (traces_behind y (one_is h)))
    (λ e ts r h. inl (builtin_name h))
sound_joined_traces y _ = λ ts r h. inl (builtin_name h)

quote_behind : {tokens rest : List Lexeme} → MeansAll (a.Quoted ∷ a.Below ∷ []) tokens rest → QuotedBelow (sign s.Quote ∷ tokens) rest
quote_behind (and_then q (and_then b nothing)) = quoted_below q.1 b

pub sound_joined_quote : (x : Lexeme) → Sound a.JoinedQuote x (joined_quote_move x)
sound_joined_quote (sign s.Quote) = λ ts r h. inr (quote_behind h)
sound_joined_quote _ = λ ts r h. inl (one_is h)
