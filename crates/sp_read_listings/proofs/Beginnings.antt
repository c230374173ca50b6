-- Where an item begins, by the tokens that stand there.
use Rattle.std.proofs.Common.{◌≡◌, ℕ, Bool, true, false, List, ◌∷◌, codes, refl, ap, ◌∙◌}
use Rattle.std.specs.Prelude.{not, ◌||◌}
use Rattle.std.specs.Str.{bytes_eq}
use Rattle.std.proofs.lemmas.Bool.{false_from_ne_true}
use Rattle.std.proofs.lemmas.Slice.Eq.{bytes_eq-Decides}
use Rattle.sp_spec_text.specs.Signs as s
use Rattle.sp_spec_text.specs.Token.{Lexeme, word, sign, block}
use Rattle.sp_spec_text.specs.Lists.{IsNotFirst, IsNoWord}
use Rattle.sp_read_listings.specs.Heuristics.{is_dashed, is_body, is_behind_name, is_behind_word, begins_item}

-- ---- what the tests say of each beginning

pub dashed_true : (w : List ℕ) (tokens : List Lexeme) → is_dashed (sign s.Dash ∷ word w ∷ sign s.Quote ∷ tokens) ≡ true
unfolding is_dashed
dashed_true w tokens = refl

pub dashed_other : (tokens : List Lexeme) → IsNotFirst (sign s.Dash) tokens → is_dashed tokens ≡ false
unfolding is_dashed
dashed_other (sign s.Dash ∷ tokens) d = absurd (d tokens refl)
dashed_other _ d = refl

dashed_alone : (tokens : List Lexeme) → IsNoWord tokens → is_dashed (sign s.Dash ∷ tokens) ≡ false
unfolding is_dashed
dashed_alone (word w ∷ tokens) d = absurd (d w tokens refl)
dashed_alone _ d = refl

pub dashed_open : (w : List ℕ) (tokens : List Lexeme) → IsNotFirst (sign s.Quote) tokens → is_dashed (sign s.Dash ∷ word w ∷ tokens) ≡ false
unfolding is_dashed
dashed_open w (sign s.Quote ∷ tokens) d = absurd (d tokens refl)
dashed_open w _ d = refl

pub list_body : (tokens : List Lexeme) → is_body (sign s.OpenList ∷ tokens) ≡ true
unfolding is_body
list_body tokens = refl

pub quote_body : (tokens : List Lexeme) → is_body (sign s.Quote ∷ tokens) ≡ true
unfolding is_body
quote_body tokens = refl

pub let_body : (tokens : List Lexeme) → is_body (word (codes "let") ∷ tokens) ≡ true
unfolding is_body
let_body tokens = refl

pub word_body : (w : List ℕ) (tokens : List Lexeme) → is_body (word w ∷ tokens) ≡ (bytes_eq w (codes "let") || is_dashed tokens)
unfolding is_body
word_body w tokens = refl

pub other_body : (tokens : List Lexeme) → IsNotFirst (sign s.OpenList) tokens → IsNotFirst (sign s.Quote) tokens → IsNoWord tokens → is_body tokens ≡ false
unfolding is_body
other_body (sign s.OpenList ∷ tokens) a b c = absurd (a tokens refl)
other_body (sign s.Quote ∷ tokens) a b c = absurd (b tokens refl)
other_body (word w ∷ tokens) a b c = absurd (c w tokens refl)
other_body _ a b c = refl

pub list_behind_name : (tokens : List Lexeme) → is_behind_name (sign s.OpenList ∷ tokens) ≡ true
unfolding is_behind_name
list_behind_name tokens = refl

pub colon_behind_name : (tokens : List Lexeme) → is_behind_name (sign s.Colon ∷ tokens) ≡ is_body tokens
unfolding is_behind_name
colon_behind_name tokens = refl

pub other_behind_name : (tokens : List Lexeme) → IsNotFirst (sign s.OpenList) tokens → IsNotFirst (sign s.Colon) tokens → is_behind_name tokens ≡ false
unfolding is_behind_name
other_behind_name (sign s.OpenList ∷ tokens) a b = absurd (a tokens refl)
other_behind_name (sign s.Colon ∷ tokens) a b = absurd (b tokens refl)
other_behind_name _ a b = refl

pub block_behind_word : (tokens : List Lexeme) → is_behind_word (block ∷ tokens) ≡ true
unfolding is_behind_word
block_behind_word tokens = refl

pub bracket_behind_word : (tokens : List Lexeme) → is_behind_word (sign s.Open ∷ tokens) ≡ true
unfolding is_behind_word
bracket_behind_word tokens = refl

pub colon_behind_word : (tokens : List Lexeme) → is_behind_word (sign s.Colon ∷ tokens) ≡ not (is_body tokens)
unfolding is_behind_word
colon_behind_word tokens = refl

pub name_behind_word : (w : List ℕ) (tokens : List Lexeme) → is_behind_word (word w ∷ tokens) ≡ is_behind_name tokens
unfolding is_behind_word
name_behind_word w tokens = refl

other_behind_word : (tokens : List Lexeme) → IsNotFirst block tokens → IsNotFirst (sign s.Open) tokens → IsNotFirst (sign s.Colon) tokens → IsNoWord tokens → is_behind_word tokens ≡ false
unfolding is_behind_word
other_behind_word (block ∷ tokens) a b c d = absurd (a tokens refl)
other_behind_word (sign s.Open ∷ tokens) a b c d = absurd (b tokens refl)
other_behind_word (sign s.Colon ∷ tokens) a b c d = absurd (c tokens refl)
other_behind_word (word w ∷ tokens) a b c d = absurd (d w tokens refl)
other_behind_word _ a b c d = refl

end_begins : (tokens : List Lexeme) → begins_item (word (codes "end") ∷ tokens) ≡ true
unfolding begins_item
end_begins tokens = refl

pub word_begins : (w : List ℕ) (tokens : List Lexeme) → begins_item (word w ∷ tokens) ≡ (bytes_eq w (codes "end") || is_behind_word tokens)
unfolding begins_item
word_begins w tokens = refl

other_begins : (tokens : List Lexeme) → IsNoWord tokens → begins_item tokens ≡ false
unfolding begins_item
other_begins (word w ∷ tokens) d = absurd (d w tokens refl)
other_begins _ d = refl

-- ---- and of tokens that are found to begin so

-- a word that stands first is not one that does not
other_word : {v w : List ℕ} {tokens rest : List Lexeme} → IsNotFirst (word v) tokens → tokens ≡ word w ∷ rest → bytes_eq w v ≡ false
other_word {v} {w} {rest = r} d e = false_from_ne_true (bytes_eq w v) (λ f. d r (e ∙ ap (λ (u : List ℕ). word u ∷ r) ((bytes_eq-Decides w v).0 f)))

-- of two words the second test alone is left
second_left : {a b c d : Bool} → a ≡ (b || c) → b ≡ false → d ≡ c → d ≡ a
second_left e f h = rw (e, f) h

pub dashed_at : {w : List ℕ} {tokens next quote rest : List Lexeme} → tokens ≡ sign s.Dash ∷ next → next ≡ word w ∷ quote → quote ≡ sign s.Quote ∷ rest → true ≡ is_dashed tokens
dashed_at {w} {rest = r} e f k = rw (e, f, k, dashed_true w r) refl

pub dashed_no_dash : {tokens : List Lexeme} → IsNotFirst (sign s.Dash) tokens → false ≡ is_dashed tokens
dashed_no_dash {tokens} d = rw (dashed_other tokens d) refl

pub dashed_no_word : {tokens next : List Lexeme} → tokens ≡ sign s.Dash ∷ next → IsNoWord next → false ≡ is_dashed tokens
dashed_no_word {next = us} e d = rw (e, dashed_alone us d) refl

pub dashed_no_quote : {w : List ℕ} {tokens next quote : List Lexeme} → tokens ≡ sign s.Dash ∷ next → next ≡ word w ∷ quote → IsNotFirst (sign s.Quote) quote → false ≡ is_dashed tokens
dashed_no_quote {w} {quote = us} e f d = rw (e, f, dashed_open w us d) refl

pub ruleset dashes = (dashed_at, dashed_no_dash, dashed_no_word, dashed_no_quote)

pub body_list : {tokens rest : List Lexeme} → tokens ≡ sign s.OpenList ∷ rest → true ≡ is_body tokens
body_list {rest = r} e = rw (e, list_body r) refl

pub body_quote : {tokens rest : List Lexeme} → tokens ≡ sign s.Quote ∷ rest → true ≡ is_body tokens
body_quote {rest = r} e = rw (e, quote_body r) refl

pub body_let : {tokens rest : List Lexeme} → tokens ≡ word (codes "let") ∷ rest → true ≡ is_body tokens
body_let {rest = r} e = rw (e, let_body r) refl

pub body_word : {b : Bool} {w : List ℕ} {tokens rest : List Lexeme} → IsNotFirst (word (codes "let")) tokens → tokens ≡ word w ∷ rest → b ≡ is_dashed rest → b ≡ is_body tokens
body_word {w = w} {rest = r} d e f = rw e (second_left (word_body w r) (other_word d e) f)

pub body_none : {tokens : List Lexeme} → IsNotFirst (sign s.OpenList) tokens → IsNotFirst (sign s.Quote) tokens → IsNoWord tokens → false ≡ is_body tokens
body_none {tokens} a b c = rw (other_body tokens a b c) refl

pub ruleset bodies = (body_list, body_quote, body_let, body_word, body_none)

pub behind_name_list : {tokens rest : List Lexeme} → tokens ≡ sign s.OpenList ∷ rest → true ≡ is_behind_name tokens
behind_name_list {rest = r} e = rw (e, list_behind_name r) refl

pub behind_name_colon : {b : Bool} {tokens rest : List Lexeme} → tokens ≡ sign s.Colon ∷ rest → b ≡ is_body rest → b ≡ is_behind_name tokens
behind_name_colon {rest = r} e f = rw (e, colon_behind_name r) f

pub behind_name_none : {tokens : List Lexeme} → IsNotFirst (sign s.OpenList) tokens → IsNotFirst (sign s.Colon) tokens → false ≡ is_behind_name tokens
behind_name_none {tokens} a b = rw (other_behind_name tokens a b) refl

pub ruleset behind_names = (behind_name_list, behind_name_colon, behind_name_none)

pub behind_word_block : {tokens rest : List Lexeme} → tokens ≡ block ∷ rest → true ≡ is_behind_word tokens
behind_word_block {rest = r} e = rw (e, block_behind_word r) refl

pub behind_word_bracket : {tokens rest : List Lexeme} → tokens ≡ sign s.Open ∷ rest → true ≡ is_behind_word tokens
behind_word_bracket {rest = r} e = rw (e, bracket_behind_word r) refl

pub behind_word_colon : {b : Bool} {tokens rest : List Lexeme} → tokens ≡ sign s.Colon ∷ rest → b ≡ is_body rest → not b ≡ is_behind_word tokens
behind_word_colon {rest = r} e f = rw (e, colon_behind_word r) (ap not f)

pub behind_word_name : {b : Bool} {w : List ℕ} {tokens rest : List Lexeme} → tokens ≡ word w ∷ rest → b ≡ is_behind_name rest → b ≡ is_behind_word tokens
behind_word_name {w = w} {rest = r} e f = rw (e, name_behind_word w r) f

pub behind_word_none : {tokens : List Lexeme} → IsNotFirst block tokens → IsNotFirst (sign s.Open) tokens → IsNotFirst (sign s.Colon) tokens → IsNoWord tokens → false ≡ is_behind_word tokens
behind_word_none {tokens} a b c d = rw (other_behind_word tokens a b c d) refl

pub ruleset first_words = (behind_word_block, behind_word_bracket, behind_word_colon, behind_word_name, behind_word_none)

pub begins_end : {tokens rest : List Lexeme} → tokens ≡ word (codes "end") ∷ rest → true ≡ begins_item tokens
begins_end {rest = r} e = rw (e, end_begins r) refl

pub begins_word : {b : Bool} {w : List ℕ} {tokens rest : List Lexeme} → IsNotFirst (word (codes "end")) tokens → tokens ≡ word w ∷ rest → b ≡ is_behind_word rest → b ≡ begins_item tokens
begins_word {w = w} {rest = r} d e f = rw e (second_left (word_begins w r) (other_word d e) f)

pub begins_none : {tokens : List Lexeme} → IsNoWord tokens → false ≡ begins_item tokens
begins_none {tokens} d = rw (other_begins tokens d) refl

pub ruleset items = (begins_end, begins_word, begins_none)
