-- What an item's first words are followed by may also stand behind them among the words of a heuristic.
use Rattle.std.proofs.Common.{◌≡◌, ℕ, Bool, true, false, List, [], ◌∷◌, codes, refl, sym, subst, bytes_eq}
use Rattle.sp_spec_text.specs.Signs as s
use Rattle.sp_spec_text.specs.Token.{Lexeme, word, sign, block}
use Rattle.sp_spec_text.specs.Names.{IsName, is_reserved}
use Rattle.sp_spec_text.proofs.Words.{let_reserved}
use Rattle.sp_await.specs.Keywords.{NamedItem, Rule, Restriction, Lemma, ListItem, Builtins, Functions, Equations, Heuristic, Keyword, names, lists, neither, keyword_of, TraceKind, All, Exists, kind_word, traces_word}
use Rattle.sp_await.specs.Parts.{Awaited}
use Rattle.sp_await.specs.Parts as a
use Rattle.sp_await.specs.Table.{next, becomes, stuck, list_parts, body_parts, kind_parts, behind_name}
use Rattle.sp_law_await.specs.Language.{Has, by_token, by_parts, HasAll}
use Rattle.sp_law_await.proofs.Tokens.{same_word, name_differs, kind_named, traces_named}
use Rattle.sp_law_await.proofs.Had.{taken, become, no_move, one_of, one_had, no_tokens, first_stuck, first_taken, first_becomes}

-- ---- lists

listing_left : (l : ListItem) {x : Lexeme} {tokens rest : List Lexeme} → Has (a.Listing l) (x ∷ tokens) rest → HasAll (list_parts l) (x ∷ tokens) rest
listing_left l {x = x} h = become (a.Listing l) x {parts = list_parts l} refl h

-- no list begins with a token with which no name, no function and no term begins
listing_stuck : (l : ListItem) (x : Lexeme) {tokens rest : List Lexeme} → next a.Name x ≡ stuck → next a.Function x ≡ stuck → next (a.Term 0) x ≡ stuck → Has (a.Listing l) (x ∷ tokens) rest → ⊥
listing_stuck Builtins x n f t h = first_stuck a.Name n (listing_left Builtins h)
listing_stuck Functions x n f t h = first_stuck a.Function f (listing_left Functions h)
listing_stuck Equations x n f t h = first_stuck (a.Term 0) t (listing_left Equations h)
listing_stuck Heuristic x n f t h = first_stuck a.Name n (listing_left Heuristic h)

listing_name : (l : ListItem) {w : List ℕ} {tokens rest : List Lexeme} → Has (a.Listing l) (word w ∷ tokens) rest → IsName w
listing_name l {w} h = at (is_reserved w) refl
  where
    at : (b : Bool) → is_reserved w ≡ b → IsName w
    at true e = absurd (listing_stuck l (word w) (rw e refl) (rw e refl) (rw e refl) h)
    at false e = e

behind_first : (l : ListItem) {w : List ℕ} {tokens rest : List Lexeme} → IsName w → Has (a.Listing l) (word w ∷ tokens) rest → HasAll (behind_name l) tokens rest
behind_first Builtins {w} n h = first_taken a.Name (word w) [] (rw n refl) (listing_left Builtins h)
behind_first Functions {w} n h = first_taken a.Function (word w) (a.Exactly s.Slash ∷ a.Number ∷ a.Attributes ∷ []) (rw n refl) (listing_left Functions h)
behind_first Equations {w} n h = first_taken (a.Term 0) (word w) (a.Applied 0 ∷ []) (rw n refl) (listing_left Equations h)
behind_first Heuristic {w} n h = first_taken a.Name (word w) [] (rw n refl) (listing_left Heuristic h)

-- ---- behind `all` or `exists`, `-`, and `traces` or `trace`

quote_of_builtins : (tokens : List Lexeme) {rest : List Lexeme} → Has a.MoreBuiltins tokens rest → Has a.JoinedQuote tokens rest
quote_of_builtins [] h = elim h [ ]
quote_of_builtins (sign s.Quote ∷ tokens) h = absurd (no_move a.Items (sign s.Quote) refl (one_of (become a.MoreBuiltins (sign s.Quote) {parts = a.Items ∷ []} refl h)))
quote_of_builtins (x ∷ tokens) h = by_parts refl (one_had {part = a.MoreBuiltins} h)

quote_of_lemma : (tokens : List Lexeme) {rest : List Lexeme} → HasAll (a.Exactly s.Quote ∷ a.Quoted ∷ a.Below ∷ []) tokens rest → Has a.JoinedQuote tokens rest
quote_of_lemma [] h = absurd (no_tokens h)
quote_of_lemma (sign s.Quote ∷ tokens) h = by_token refl (first_taken (a.Exactly s.Quote) (sign s.Quote) [] refl h)
quote_of_lemma (x ∷ tokens) h = absurd (first_stuck (a.Exactly s.Quote) refl h)

traces_of_builtins : (y : TraceKind) (tokens : List Lexeme) {rest : List Lexeme} → HasAll (a.Name ∷ a.MoreBuiltins ∷ []) tokens rest → Has (a.JoinedTraces y) tokens rest
traces_of_builtins y [] h = absurd (no_tokens h)
traces_of_builtins y (word w ∷ tokens) {rest} h = at (bytes_eq w (traces_word y)) refl
  where
    at : (b : Bool) → bytes_eq w (traces_word y) ≡ b → Has (a.JoinedTraces y) (word w ∷ tokens) rest
    at true e =
        let n : IsName w = subst IsName (sym (same_word w (traces_word y) e)) (traces_named y) in
        by_token (rw e refl) (one_had {part = a.JoinedQuote} (quote_of_builtins tokens (one_of (first_taken a.Name (word w) [] (rw n refl) h))))
    at false e = by_parts (rw e refl) h
traces_of_builtins y (x ∷ tokens) h = by_parts refl h

traces_of_lemma : (y : TraceKind) (tokens : List Lexeme) {rest : List Lexeme} → HasAll (a.Traces y ∷ a.Exactly s.Quote ∷ a.Quoted ∷ a.Below ∷ []) tokens rest → Has (a.JoinedTraces y) tokens rest
traces_of_lemma y [] h = absurd (no_tokens h)
traces_of_lemma y (word w ∷ tokens) {rest} h = at (bytes_eq w (traces_word y)) refl
  where
    at : (b : Bool) → bytes_eq w (traces_word y) ≡ b → Has (a.JoinedTraces y) (word w ∷ tokens) rest
    at true e = by_token (rw e refl) (one_had {part = a.JoinedQuote} (quote_of_lemma tokens (first_taken (a.Traces y) (word w) [] (rw e refl) h)))
    at false e = absurd (first_stuck (a.Traces y) (rw e refl) h)
traces_of_lemma y (x ∷ tokens) h = absurd (first_stuck (a.Traces y) refl h)

applied_dash : {parts : List Awaited} {tokens rest : List Lexeme} → HasAll (a.Applied 0 ∷ a.Exactly s.Equals ∷ parts) (sign s.Dash ∷ tokens) rest → ⊥
applied_dash h =
    let sorted = first_becomes (a.Applied 0) (sign s.Dash) (a.Sorted ∷ []) refl h in
    let equals = first_becomes a.Sorted (sign s.Dash) [] refl sorted in
    first_stuck (a.Exactly s.Equals) refl equals

joined_of_name : (l : ListItem) (y : TraceKind) (tokens : List Lexeme) {rest : List Lexeme} → HasAll (behind_name l) tokens rest → Has (a.Joined l y) tokens rest
joined_of_name Builtins y [] h = absurd (no_tokens h)
joined_of_name Builtins y (sign s.Dash ∷ tokens) h = by_token refl (one_had {part = a.JoinedTraces y} (traces_of_builtins y tokens (first_taken a.MoreBuiltins (sign s.Dash) (a.Name ∷ a.MoreBuiltins ∷ []) refl h)))
joined_of_name Builtins y (x ∷ tokens) h = by_parts refl h
joined_of_name Functions y [] h = absurd (no_tokens h)
joined_of_name Functions y (sign s.Dash ∷ tokens) h = absurd (first_stuck (a.Exactly s.Slash) refl h)
joined_of_name Functions y (x ∷ tokens) h = by_parts refl h
joined_of_name Equations y [] h = absurd (no_tokens h)
joined_of_name Equations y (sign s.Dash ∷ tokens) h = absurd (applied_dash h)
joined_of_name Equations y (x ∷ tokens) h = by_parts refl h
joined_of_name Heuristic y [] h = absurd (no_tokens h)
joined_of_name Heuristic y (sign s.Dash ∷ tokens) h = absurd (first_stuck a.SecondWord refl h)
joined_of_name Heuristic y (x ∷ tokens) h = by_parts refl h

pub joined_of_list : (l : ListItem) (y : TraceKind) (tokens : List Lexeme) {rest : List Lexeme} → Has (a.Listing l) (word (kind_word y) ∷ tokens) rest → Has (a.Joined l y) tokens rest
joined_of_list l y tokens h = joined_of_name l y tokens (behind_first l (kind_named y) h)

dash_of_lemma : (l : ListItem) (y : TraceKind) (tokens : List Lexeme) {rest : List Lexeme} → HasAll (a.Traces y ∷ a.Exactly s.Quote ∷ a.Quoted ∷ a.Below ∷ []) tokens rest → Has (a.Joined l y) (sign s.Dash ∷ tokens) rest
dash_of_lemma Builtins y tokens h = by_token refl (one_had {part = a.JoinedTraces y} (traces_of_lemma y tokens h))
dash_of_lemma Functions y tokens h = by_token refl h
dash_of_lemma Equations y tokens h = by_token refl h
dash_of_lemma Heuristic y tokens h = by_token refl h

joined_of_lemma : (l : ListItem) (y : TraceKind) (tokens : List Lexeme) {rest : List Lexeme} → HasAll (a.Exactly s.Dash ∷ a.Traces y ∷ a.Exactly s.Quote ∷ a.Quoted ∷ a.Below ∷ []) tokens rest → Has (a.Joined l y) tokens rest
joined_of_lemma l y [] h = absurd (no_tokens h)
joined_of_lemma l y (sign s.Dash ∷ tokens) h = dash_of_lemma l y tokens (first_taken (a.Exactly s.Dash) (sign s.Dash) [] refl h)
joined_of_lemma l y (x ∷ tokens) h = absurd (first_stuck (a.Exactly s.Dash) refl h)

-- ---- a list, where an item with a name might stand

rule_or_list : (l : ListItem) (tokens : List Lexeme) {rest : List Lexeme} → Has (a.Listing l) tokens rest → Has (a.Either l Rule) tokens rest
rule_or_list l [] h = elim h [ ]
rule_or_list l (word w ∷ tokens) h = by_parts (rw (name_differs w (codes "let") let_reserved (listing_name l h)) refl) (one_had {part = a.Listing l} h)
rule_or_list l (sign s.OpenList ∷ tokens) h = absurd (listing_stuck l (sign s.OpenList) refl refl refl h)
rule_or_list l (x ∷ tokens) h = by_parts refl (one_had {part = a.Listing l} h)

restriction_or_list : (l : ListItem) (tokens : List Lexeme) {rest : List Lexeme} → Has (a.Listing l) tokens rest → Has (a.Either l Restriction) tokens rest
restriction_or_list l [] h = elim h [ ]
restriction_or_list l (sign s.Quote ∷ tokens) h = absurd (listing_stuck l (sign s.Quote) refl refl refl h)
restriction_or_list l (x ∷ tokens) h = by_parts refl (one_had {part = a.Listing l} h)

lemma_or_list : (l : ListItem) (tokens : List Lexeme) {rest : List Lexeme} → Has (a.Listing l) tokens rest → Has (a.Either l Lemma) tokens rest
lemma_or_list l [] h = elim h [ ]
lemma_or_list l (word w ∷ tokens) {rest} h = at (bytes_eq w (codes "all")) refl (bytes_eq w (codes "exists")) refl
  where
    at : (b : Bool) → bytes_eq w (codes "all") ≡ b → (c : Bool) → bytes_eq w (codes "exists") ≡ c → Has (a.Either l Lemma) (word w ∷ tokens) rest
    at true e c d = by_token (rw e refl) (one_had {part = a.Joined l All} (joined_of_list l All tokens (subst (λ (u : List ℕ). Has (a.Listing l) (word u ∷ tokens) rest) (same_word w (codes "all") e) h)))
    at false e true d = by_token (rw (e, d) refl) (one_had {part = a.Joined l Exists} (joined_of_list l Exists tokens (subst (λ (u : List ℕ). Has (a.Listing l) (word u ∷ tokens) rest) (same_word w (codes "exists") d) h)))
    at false e false d = by_parts (rw (e, d) refl) (one_had {part = a.Listing l} h)
lemma_or_list l (sign s.Quote ∷ tokens) h = absurd (listing_stuck l (sign s.Quote) refl refl refl h)
lemma_or_list l (x ∷ tokens) h = by_parts refl (one_had {part = a.Listing l} h)

pub either_of_list : (l : ListItem) (i : NamedItem) (tokens : List Lexeme) {rest : List Lexeme} → Has (a.Listing l) tokens rest → Has (a.Either l i) tokens rest
either_of_list l Rule tokens h = rule_or_list l tokens h
either_of_list l Restriction tokens h = restriction_or_list l tokens h
either_of_list l Lemma tokens h = lemma_or_list l tokens h

-- ---- an item with a name, where a list might stand

body_left : (i : NamedItem) {x : Lexeme} {tokens rest : List Lexeme} → Has (a.Body i) (x ∷ tokens) rest → HasAll (body_parts i) (x ∷ tokens) rest
body_left i {x = x} h = become (a.Body i) x {parts = body_parts i} refl h

rule_stuck : (x : Lexeme) {tokens rest : List Lexeme} → next a.Let x ≡ becomes [] → next a.FactList x ≡ stuck → Has (a.Body Rule) (x ∷ tokens) rest → ⊥
rule_stuck x e f h = first_stuck a.FactList f (first_becomes a.Let x [] e (body_left Rule h))

list_or_rule : (l : ListItem) (tokens : List Lexeme) {rest : List Lexeme} → Has (a.Body Rule) tokens rest → Has (a.Either l Rule) tokens rest
list_or_rule l [] h = elim h [ ]
list_or_rule l (sign s.OpenList ∷ tokens) h = by_parts refl (one_had {part = a.Body Rule} h)
list_or_rule l (word w ∷ tokens) {rest} h = at (bytes_eq w (codes "let")) refl
  where
    at : (b : Bool) → bytes_eq w (codes "let") ≡ b → Has (a.Either l Rule) (word w ∷ tokens) rest
    at true e = by_parts (rw e refl) (one_had {part = a.Body Rule} h)
    at false e = absurd (rule_stuck (word w) (rw e refl) refl h)
list_or_rule l (x ∷ tokens) h = absurd (rule_stuck x refl refl h)

list_or_restriction : (l : ListItem) (tokens : List Lexeme) {rest : List Lexeme} → Has (a.Body Restriction) tokens rest → Has (a.Either l Restriction) tokens rest
list_or_restriction l [] h = elim h [ ]
list_or_restriction l (sign s.Quote ∷ tokens) h = by_parts refl (one_had {part = a.Body Restriction} h)
list_or_restriction l (x ∷ tokens) h = absurd (first_stuck (a.Exactly s.Quote) refl (body_left Restriction h))

list_or_lemma : (l : ListItem) (tokens : List Lexeme) {rest : List Lexeme} → Has (a.Body Lemma) tokens rest → Has (a.Either l Lemma) tokens rest
list_or_lemma l [] h = elim h [ ]
list_or_lemma l (sign s.Quote ∷ tokens) h = by_parts refl (one_had {part = a.Body Lemma} h)
list_or_lemma l (word w ∷ tokens) {rest} h = at (bytes_eq w (codes "all")) refl (bytes_eq w (codes "exists")) refl
  where
    at : (b : Bool) → bytes_eq w (codes "all") ≡ b → (c : Bool) → bytes_eq w (codes "exists") ≡ c → Has (a.Either l Lemma) (word w ∷ tokens) rest
    at true e c d = by_token (rw e refl) (one_had {part = a.Joined l All} (joined_of_lemma l All tokens (first_taken a.Kind (word w) (kind_parts All) (rw e refl) (body_left Lemma h))))
    at false e true d = by_token (rw (e, d) refl) (one_had {part = a.Joined l Exists} (joined_of_lemma l Exists tokens (first_taken a.Kind (word w) (kind_parts Exists) (rw (e, d) refl) (body_left Lemma h))))
    at false e false d = absurd (first_stuck a.Kind (rw (e, d) refl) (body_left Lemma h))
list_or_lemma l (x ∷ tokens) h = absurd (first_stuck a.Kind refl (body_left Lemma h))

either_of_body : (l : ListItem) (i : NamedItem) (tokens : List Lexeme) {rest : List Lexeme} → Has (a.Body i) tokens rest → Has (a.Either l i) tokens rest
either_of_body l Rule tokens h = list_or_rule l tokens h
either_of_body l Restriction tokens h = list_or_restriction l tokens h
either_of_body l Lemma tokens h = list_or_lemma l tokens h

-- ---- behind the name of an item

colon_of_headed : (k : Keyword) (i : NamedItem) (tokens : List Lexeme) {rest : List Lexeme} → Has (a.Body i) tokens rest → Has (a.MoreWords k (names i)) (sign s.Colon ∷ tokens) rest
colon_of_headed (lists l) i tokens h = by_token refl (one_had {part = a.Either l i} (either_of_body l i tokens h))
colon_of_headed (names n) i tokens h = by_token refl (one_had {part = a.Body i} h)
colon_of_headed neither i tokens h = by_token refl (one_had {part = a.Body i} h)

bracket_of_headed : (k : Keyword) (i : NamedItem) {tokens rest : List Lexeme} → Has (a.Headed i) (sign s.OpenList ∷ tokens) rest → Has (a.MoreWords k (names i)) (sign s.OpenList ∷ tokens) rest
bracket_of_headed k Rule h = by_token refl (taken (a.Headed Rule) (sign s.OpenList) {parts = a.Balanced ∷ a.Exactly s.Colon ∷ a.Body Rule ∷ []} refl h)
bracket_of_headed k Restriction h = absurd (no_move (a.Headed Restriction) (sign s.OpenList) refl h)
bracket_of_headed k Lemma h = by_token refl (taken (a.Headed Lemma) (sign s.OpenList) {parts = a.LemmaAttribute ∷ a.MoreLemmaAttributes ∷ a.Exactly s.Colon ∷ a.Body Lemma ∷ []} refl h)

words_of_headed : (k : Keyword) (i : NamedItem) (tokens : List Lexeme) {rest : List Lexeme} → Has (a.Headed i) tokens rest → Has (a.MoreWords k (names i)) tokens rest
words_of_headed k i [] h = elim h [ ]
words_of_headed k i (sign s.Colon ∷ tokens) h = colon_of_headed k i tokens (one_of (taken (a.Headed i) (sign s.Colon) {parts = a.Body i ∷ []} refl h))
words_of_headed k i (sign s.OpenList ∷ tokens) h = bracket_of_headed k i h
words_of_headed k i (x ∷ tokens) h = absurd (no_move (a.Headed i) x refl h)

-- ---- behind the first word of an item

name_of_item : (j k : Keyword) {w : List ℕ} (tokens : List Lexeme) {rest : List Lexeme} → IsName w → Has (a.Item k) (word w ∷ tokens) rest → Has (a.MoreWords j k) tokens rest
name_of_item j (names i) {w} tokens n h = words_of_headed j i tokens (one_of (taken (a.Item (names i)) (word w) {parts = a.Headed i ∷ []} (rw n refl) h))
name_of_item j (lists l) {w} tokens n h = absurd (no_move (a.Item (lists l)) (word w) (rw n refl) h)
name_of_item j neither {w} tokens n h = absurd (no_move (a.Item neither) (word w) (rw n refl) h)

colon_of_item : (k j : Keyword) (tokens : List Lexeme) {rest : List Lexeme} → Has (a.Item k) (sign s.Colon ∷ tokens) rest → Has (a.MoreWords k j) (sign s.Colon ∷ tokens) rest
colon_of_item (lists l) (names i) tokens h = by_token refl (one_had {part = a.Either l i} (either_of_list l i tokens (one_of (taken (a.Item (lists l)) (sign s.Colon) {parts = a.Listing l ∷ []} refl h))))
colon_of_item (lists l) j tokens h = by_token refl (taken (a.Item (lists l)) (sign s.Colon) {parts = a.Listing l ∷ []} refl h)
colon_of_item (names n) j tokens h = absurd (no_move (a.Item (names n)) (sign s.Colon) refl h)
colon_of_item neither j tokens h = absurd (no_move (a.Item neither) (sign s.Colon) refl h)

open_of_item : (k j : Keyword) {tokens rest : List Lexeme} → Has (a.Item k) (sign s.Open ∷ tokens) rest → Has (a.MoreWords k j) (sign s.Open ∷ tokens) rest
open_of_item (names Rule) j h = by_token refl (taken (a.Item (names Rule)) (sign s.Open) {parts = a.Modulo ∷ a.Name ∷ a.Exactly s.Close ∷ a.Name ∷ a.Headed Rule ∷ []} refl h)
open_of_item (names Restriction) j h = absurd (no_move (a.Item (names Restriction)) (sign s.Open) refl h)
open_of_item (names Lemma) j h = absurd (no_move (a.Item (names Lemma)) (sign s.Open) refl h)
open_of_item (lists l) j h = absurd (no_move (a.Item (lists l)) (sign s.Open) refl h)
open_of_item neither j h = absurd (no_move (a.Item neither) (sign s.Open) refl h)

words_of_item : (k j : Keyword) (tokens : List Lexeme) {rest : List Lexeme} → Has (a.Item k) tokens rest → Has (a.MoreWords k j) tokens rest
words_of_item k j [] h = elim h [ ]
words_of_item k j (block ∷ tokens) h = by_token refl (taken (a.Item k) block {parts = a.Items ∷ []} refl h)
words_of_item k j (word w ∷ tokens) {rest} h = at (is_reserved w) refl
  where
    at : (b : Bool) → is_reserved w ≡ b → Has (a.MoreWords k j) (word w ∷ tokens) rest
    at true e = absurd (no_move (a.Item k) (word w) (rw e refl) h)
    at false e = by_token (rw e refl) (one_had {part = a.MoreWords (keyword_of w) k} (name_of_item (keyword_of w) k tokens e h))
words_of_item k j (sign s.Colon ∷ tokens) h = colon_of_item k j tokens h
words_of_item k j (sign s.Open ∷ tokens) h = open_of_item k j h
words_of_item k j (x ∷ tokens) h = absurd (no_move (a.Item k) x refl h)

-- ---- items behind words

-- of items that begin with a word: the word is a name, behind which an item goes on, or it is `end`
pub data WordOfItems (w : List ℕ) (tokens rest : List Lexeme) : Type 0 where
  item_word : IsName w → Has (a.Item (keyword_of w)) tokens rest → WordOfItems w tokens rest
  end_word : is_reserved w ≡ true → bytes_eq w (codes "end") ≡ true → HasAll [] tokens rest → WordOfItems w tokens rest

pub word_of_items : {w : List ℕ} {tokens rest : List Lexeme} → Has a.Items (word w ∷ tokens) rest → WordOfItems w tokens rest
word_of_items {w} {tokens} {rest} h = at (is_reserved w) refl (bytes_eq w (codes "end")) refl
  where
    at : (b : Bool) → is_reserved w ≡ b → (c : Bool) → bytes_eq w (codes "end") ≡ c → WordOfItems w tokens rest
    at false e c d = item_word e (one_of (taken a.Items (word w) {parts = a.Item (keyword_of w) ∷ []} (rw e refl) h))
    at true e true d = end_word e d (taken a.Items (word w) {parts = []} (rw (e, d) refl) h)
    at true e false d = absurd (no_move a.Items (word w) (rw (e, d) refl) h)

more_of : {k j : Keyword} {w : List ℕ} {tokens rest : List Lexeme} → WordOfItems w tokens rest → Has (a.MoreWords k j) (word w ∷ tokens) rest
more_of {k} {w = w} {tokens = tokens} (item_word n h) = by_token (rw n refl) (one_had {part = a.MoreWords (keyword_of w) k} (words_of_item (keyword_of w) k tokens h))
more_of (end_word e d h) = by_token (rw (e, d) refl) h

pub more_of_items : (k j : Keyword) (tokens : List Lexeme) {rest : List Lexeme} → Has a.Items tokens rest → Has (a.MoreWords k j) tokens rest
more_of_items k j [] h = elim h [ ]
more_of_items k j (word w ∷ tokens) h = more_of (word_of_items h)
more_of_items k j (x ∷ tokens) h = absurd (no_move a.Items x refl h)

second_of : {w : List ℕ} {tokens rest : List Lexeme} → WordOfItems w tokens rest → Has a.SecondWord (word w ∷ tokens) rest
second_of {w} {tokens} (item_word n h) = by_token (rw n refl) (one_had {part = a.MoreWords (keyword_of w) neither} (words_of_item (keyword_of w) neither tokens h))
second_of (end_word e d h) = by_token (rw (e, d) refl) h

pub second_of_items : (tokens : List Lexeme) {rest : List Lexeme} → Has a.Items tokens rest → Has a.SecondWord tokens rest
second_of_items [] h = elim h [ ]
second_of_items (word w ∷ tokens) h = second_of (word_of_items h)
second_of_items (x ∷ tokens) h = absurd (no_move a.Items x refl h)
