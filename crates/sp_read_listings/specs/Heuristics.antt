-- Where the words of a heuristic end: at the first place behind at least one of them where the next item begins, or the end does.
use Rattle.std.specs.Prelude.{◌≡◌, ℕ, Bool, true, false, not, ◌||◌, List, [], ◌∷◌, codes}
use Rattle.std.specs.Str.{bytes_eq}
use Rattle.sp_spec_text.specs.Signs as s
use Rattle.sp_spec_text.specs.Token.{Lexeme, word, sign, block}
use Rattle.sp_spec_text.specs.Names.{IsName}

-- `-`, a word and a double quote, as they stand behind the first word of the kind of a lemma
unfoldable pub is_dashed : List Lexeme → Bool
is_dashed (sign s.Dash ∷ word w ∷ sign s.Quote ∷ rest) = true
is_dashed _ = false

-- what stands behind the colon of a rule, a restriction or a lemma, and behind no other colon of an item
unfoldable pub is_body : List Lexeme → Bool
is_body (sign s.OpenList ∷ rest) = true
is_body (sign s.Quote ∷ rest) = true
is_body (word w ∷ rest) = bytes_eq w (codes "let") || is_dashed rest
is_body _ = false

-- what stands behind the name of a rule, a restriction or a lemma
unfoldable pub is_behind_name : List Lexeme → Bool
is_behind_name (sign s.OpenList ∷ rest) = true
is_behind_name (sign s.Colon ∷ rest) = is_body rest
is_behind_name _ = false

-- what stands behind the first word of an item
unfoldable pub is_behind_word : List Lexeme → Bool
is_behind_word (block ∷ rest) = true
is_behind_word (sign s.Open ∷ rest) = true
is_behind_word (sign s.Colon ∷ rest) = not (is_body rest)
is_behind_word (word w ∷ rest) = is_behind_name rest
is_behind_word _ = false

-- the word `end`, and nothing behind it
abbrev pub the_end : List Lexeme
the_end = word (codes "end") ∷ []

-- an item begins here, or the end stands here
unfoldable pub begins_item : List Lexeme → Bool
begins_item (word w ∷ rest) = bytes_eq w (codes "end") || is_behind_word rest
begins_item _ = false

-- names, one or more, up to where an item begins
pub data AreWords : List Lexeme → List (List ℕ) → List Lexeme → Type 0 where
  last_word : {w : List ℕ} {rest : List Lexeme} → IsName w → begins_item rest ≡ true → AreWords (word w ∷ rest) (w ∷ []) rest
  one_more : {w : List ℕ} {ws : List (List ℕ)} {tokens rest : List Lexeme} → IsName w → begins_item tokens ≡ false → AreWords tokens ws rest → AreWords (word w ∷ tokens) (w ∷ ws) rest
