-- The tokens of a text. Source: Tamarin manual, "Syntax description".
use Rattle.std.specs.Prelude.{◌≡◌, ℕ, ◌+◌, ◌-◌, ◌<◌, Bool, true, false, not, ◌&&◌, ◌||◌, ◌==◌, nat_eq, nat_lt, nat_le, if◌then◌else◌, List, [], ◌∷◌, length, take, drop, map, Option, Some, None, codes}
use Rattle.std.specs.List.{starts_with}
use Rattle.std.specs.Str.{bytes_eq}
use Rattle.std.specs.Char.{is_ascii_alphanumeric, is_ascii_digit}
use Rattle.sp_spec_text.specs.Signs.{Sign, Wide}
use Rattle.sp_spec_text.specs.Signs as s
use Rattle.sp_spec_text.specs.Bytes.{Class}
use Rattle.sp_spec_text.specs.Bytes as class
use Rattle.sp_spec_text.specs.Bytes.{Mark}
use Rattle.sp_spec_text.specs.Bytes.{Opens, Closes, Neither}
use Rattle.sp_spec_text.specs.Bytes.{FaultKind}
use Rattle.sp_spec_text.specs.Bytes.{NoToken, OpenComment, NoConstant, OpenSolve, OpenBlock}
use Rattle.sp_spec_text.specs.Token.{Lexeme, word, constant, sign, solve, wide, block, Token}

abbrev pub is_blank : ℕ → Bool
is_blank b = b == 32 || b == 9 || b == 10 || b == 13

abbrev pub is_word_byte : ℕ → Bool
is_word_byte b = is_ascii_alphanumeric b || b == 95

-- a byte of a constant: visible, or a space, and no quote
abbrev pub is_constant_byte : ℕ → Bool
is_constant_byte b = nat_le 32 b && nat_le b 126 && not (b == 39)

abbrev pub is_first : (ℕ → Bool) → List ℕ → Bool
is_first p [] = false
is_first p (b ∷ bytes) = p b

abbrev pub is_digit : ℕ → Bool
is_digit b = is_ascii_digit b

-- Whether a piece of the class goes on with this byte before these. In a word a dot stands only before a digit.
abbrev pub is_in : Class → ℕ → List ℕ → Bool
is_in class.Constant b bytes = is_constant_byte b
is_in class.Line b bytes = not (b == 10)
is_in class.Word b bytes = is_word_byte b || (b == 46 && is_first is_digit bytes)

-- the text from the first byte on with which no piece of the class goes on
unfoldable pub skip : Class → List ℕ → List ℕ
skip class [] = []
skip class (b ∷ bytes) = if is_in class b bytes then skip class bytes else b ∷ bytes

abbrev pub begins : List ℕ → List ℕ → Bool
begins text bytes = starts_with nat_eq bytes text

-- the bytes before these last ones
abbrev pub before : List ℕ → List ℕ → List ℕ
before bytes rest = take (length bytes - length rest) bytes

-- ---- what stands between tokens

abbrev pub by_mark : {A : Type 0} → Mark → A → A → A → A
by_mark Opens x y z = x
by_mark Closes x y z = y
by_mark Neither x y z = z

-- `/*`, `*/` or neither
abbrev pub comment_mark : ℕ → ℕ → Mark
comment_mark a b = if a == 47 && b == 42 then Opens else if a == 42 && b == 47 then Closes else Neither

-- what follows a comment inside which `depth` more are open, if it is closed
unfoldable pub after_comment : ℕ → List ℕ → Option (List ℕ)
after_comment depth [] = None
after_comment depth (a ∷ []) = None
after_comment depth (a ∷ b ∷ bytes) = by_mark (comment_mark a b)
    (after_comment (depth + 1) bytes)
    (if depth == 0 then Some bytes else after_comment (depth - 1) bytes)
    (after_comment depth (b ∷ bytes))

pub data Step : Type 0 where
  nothing : Step
  past : List ℕ → Step
  unclosed : Step

abbrev pub past_comment : Option (List ℕ) → Step
past_comment None = unclosed
past_comment (Some rest) = past rest

-- a blank, a comment to the end of the line, or one in brackets; those nest
unfoldable pub gap : List ℕ → Step
gap bytes =
    if is_first is_blank bytes then past (drop 1 bytes)
    else if begins (codes "//") bytes then past (skip class.Line (drop 2 bytes))
    else if begins (codes "/*") bytes then past_comment (after_comment 0 (drop 2 bytes))
    else nothing

-- the bytes behind all blanks and comments that stand here
pub data Skips : List ℕ → List ℕ → Type 0 where
  no_gap : {bytes : List ℕ} → gap bytes ≡ nothing → Skips bytes bytes
  gap_then : {bytes mid rest : List ℕ} → gap bytes ≡ past mid → Skips mid rest → Skips bytes rest

-- the bytes from the comment on, among those that stand here, that is not closed
pub data IsUnclosed : List ℕ → List ℕ → Type 0 where
  first : {bytes : List ℕ} → gap bytes ≡ unclosed → IsUnclosed bytes bytes
  behind : {bytes mid rest : List ℕ} → gap bytes ≡ past mid → IsUnclosed mid rest → IsUnclosed bytes rest

-- ---- tokens

-- a token and the bytes behind it, or what is wrong
pub data Piece : Type 0 where
  token : Lexeme → List ℕ → Piece
  no_token : FaultKind → Piece

-- after the bytes of a constant: a quote, behind at least one byte
abbrev pub close_constant : List ℕ → List ℕ → Piece
close_constant body rest = if nat_lt (length rest) (length body) && is_first (λ b. b == 39) rest then token (constant (before body rest)) (drop 1 rest) else no_token NoConstant

-- the sign of one byte
unfoldable pub short_sign : ℕ → Option Sign
short_sign b =
    if b == 40 then Some s.Open else if b == 41 then Some s.Close
    else if b == 91 then Some s.OpenList else if b == 93 then Some s.CloseList
    else if b == 44 then Some s.Comma else if b == 58 then Some s.Colon else if b == 46 then Some s.Dot
    else if b == 34 then Some s.Quote else if b == 33 then Some s.Bang
    else if b == 126 then Some s.Tilde else if b == 36 then Some s.Dollar else if b == 35 then Some s.Hash
    else if b == 64 then Some s.At else if b == 38 then Some s.And else if b == 124 then Some s.Or
    else if b == 61 then Some s.Equals else if b == 60 then Some s.Less else if b == 45 then Some s.Dash
    else if b == 123 then Some s.OpenBrace else if b == 125 then Some s.CloseBrace
    else if b == 62 then Some s.Greater else if b == 47 then Some s.Slash else if b == 43 then Some s.Plus
    else None

abbrev pub short_piece : Option Sign → List ℕ → Piece
short_piece None rest = no_token NoToken
short_piece (Some x) rest = token (sign x) rest

abbrev pub first_short : List ℕ → Piece
first_short [] = no_token NoToken
first_short (b ∷ bytes) = short_piece (short_sign b) bytes

-- of two signs that stand there the longer
unfoldable pub first_sign : List ℕ → Piece
first_sign bytes =
    if begins (codes "--[") bytes then token (sign s.OpenArrow) (drop 3 bytes)
    else if begins (codes "]->") bytes then token (sign s.CloseArrow) (drop 3 bytes)
    else if begins (codes "-->") bytes then token (sign s.Arrow) (drop 3 bytes)
    else if begins (codes "==>") bytes then token (sign s.Implies) (drop 3 bytes)
    else if begins (codes "<=>") bytes then token (sign s.Iff) (drop 3 bytes)
    else first_short bytes

-- the sign of logic that these three bytes are: U+2200, U+2203, U+2227, U+2228, U+21D2, U+21D4, U+22A4 or U+22A5 in UTF-8
unfoldable pub long_sign : ℕ → ℕ → ℕ → Option Wide
long_sign a b c =
    if not (a == 226) then None
    else if b == 136 then (if c == 128 then Some s.All else if c == 131 then Some s.Ex else if c == 167 then Some s.Both else if c == 168 then Some s.Either else None)
    else if b == 135 then (if c == 146 then Some s.Then else if c == 148 then Some s.Same else None)
    else if b == 138 then (if c == 164 then Some s.True else if c == 165 then Some s.False else None)
    else None

abbrev pub long_piece : Option Wide → List ℕ → Piece
long_piece None rest = no_token NoToken
long_piece (Some x) rest = token (wide x) rest

abbrev pub first_long : List ℕ → Piece
first_long (a ∷ b ∷ c ∷ bytes) = long_piece (long_sign a b c) bytes
first_long _ = no_token NoToken

-- a sign of logic that is longer than a byte; U+00AC has two
unfoldable pub first_wide : List ℕ → Piece
first_wide bytes = if begins (194 ∷ 172 ∷ []) bytes then token (wide s.Not) (drop 2 bytes) else first_long bytes

-- what follows the first `*}`, if one is there
unfoldable pub after_block : List ℕ → Option (List ℕ)
after_block [] = None
after_block (a ∷ []) = None
after_block (a ∷ b ∷ bytes) = if a == 42 && b == 125 then Some bytes else after_block (b ∷ bytes)

-- behind `{*`
abbrev pub close_block : Option (List ℕ) → Piece
close_block None = no_token OpenBlock
close_block (Some rest) = token block rest

-- a word, a constant, a block of text, or a sign; the bytes of signs that are longer than a byte begin with 194 or 226
unfoldable pub piece : List ℕ → Piece
piece bytes =
    if is_first is_ascii_alphanumeric bytes then token (word (before bytes (skip class.Word (drop 1 bytes)))) (skip class.Word (drop 1 bytes))
    else if is_first (λ b. b == 39) bytes then close_constant (drop 1 bytes) (skip class.Constant (drop 1 bytes))
    else if begins (codes "{*") bytes then close_block (after_block (drop 2 bytes))
    else if is_first (λ b. b == 194 || b == 226) bytes then first_wide bytes
    else first_sign bytes

-- ---- the text behind `solve(`

abbrev pub is_token : Piece → Bool
is_token (token x rest) = true
is_token (no_token kind) = false

-- Whether the bytes behind this one stand in a constant. A quote that begins none is a byte like others.
abbrev pub is_quoted : Bool → ℕ → List ℕ → Bool
is_quoted true b bytes = not (b == 39)
is_quoted false b bytes = b == 39 && is_token (close_constant bytes (skip class.Constant bytes))

-- inside of constants no bracket counts
abbrev pub bracket : Bool → ℕ → Mark
bracket true b = Neither
bracket false b = if b == 40 then Opens else if b == 41 then Closes else Neither

-- from the bracket on that closes the outer one, where `depth` more are open
unfoldable pub to_closing : Bool → ℕ → List ℕ → Option (List ℕ)
to_closing quoted depth [] = None
to_closing quoted depth (b ∷ bytes) = by_mark (bracket quoted b)
    (to_closing quoted (depth + 1) bytes)
    (if depth == 0 then Some (b ∷ bytes) else to_closing quoted (depth - 1) bytes)
    (to_closing (is_quoted quoted b bytes) depth bytes)

abbrev pub closed_by : List ℕ → Option (List ℕ) → Piece
closed_by bytes None = no_token OpenSolve
closed_by bytes (Some rest) = token (solve (before bytes rest)) (drop 1 rest)

abbrev pub solve_piece : List ℕ → Piece
solve_piece bytes = closed_by bytes (to_closing false 0 bytes)

-- ---- the tokens of a text

abbrev pub is_end : Lexeme → Bool
is_end (word w) = bytes_eq w (codes "end")
is_end _ = false

abbrev pub is_solve : Lexeme → Bool
is_solve (word w) = bytes_eq w (codes "solve")
is_solve _ = false

abbrev pub is_solve_word : Piece → Bool
is_solve_word (token x rest) = is_solve x
is_solve_word (no_token kind) = false

-- behind blanks and comments no bracket stands
pub data NoBracket : List ℕ → Type 0 where
  other : {bytes mid : List ℕ} → Skips bytes mid → is_first (λ b. b == 40) mid ≡ false → NoBracket bytes
  open_comment : {bytes rest : List ℕ} → IsUnclosed bytes rest → NoBracket bytes

-- What begins here. The word `solve` with a bracket behind it, and blanks and comments between, begins one token up to the closing bracket.
pub data Reads : List ℕ → Piece → Type 0 where
  as_it_is : {bytes : List ℕ} {p : Piece} → piece bytes ≡ p → is_solve_word p ≡ false → Reads bytes p
  bare : {bytes rest : List ℕ} {x : Lexeme} → piece bytes ≡ token x rest → is_solve x ≡ true → NoBracket rest → Reads bytes (token x rest)
  goal : {bytes rest inside : List ℕ} {x : Lexeme} {p : Piece} → piece bytes ≡ token x rest → is_solve x ≡ true → Skips rest (40 ∷ inside) → solve_piece inside ≡ p → Reads bytes p

-- the first token of the last bytes of a text of this size, and the bytes behind it
pub record IsNext (size : ℕ) (bytes : List ℕ) (t : Token) (rest : List ℕ) : Type 0 where
  pub from : List ℕ
  pub skips : Skips bytes from
  pub reads : Reads from (token t.lexeme rest)
  pub start : t.start + length from ≡ size
  pub end : t.end + length rest ≡ size

-- The tokens of the last bytes of a text of this size: up to the first word `end`, behind which nothing is looked at, or all.
pub data AreTokens (size : ℕ) : List ℕ → List Token → Type 0 where
  no_more : {bytes : List ℕ} → Skips bytes [] → AreTokens size bytes []
  last : {bytes rest : List ℕ} {t : Token} → IsNext size bytes t rest → is_end t.lexeme ≡ true → AreTokens size bytes (t ∷ [])
  next : {bytes rest : List ℕ} {t : Token} {ts : List Token} → IsNext size bytes t rest → is_end t.lexeme ≡ false → AreTokens size rest ts → AreTokens size bytes (t ∷ ts)

-- The tokens before the first bytes, before the first word `end`, that begin no token; where those stand, and what is wrong with them.
-- A comment that is not closed is such a place too.
pub data AreTokensBefore (size : ℕ) : List ℕ → List Token → ℕ → FaultKind → Type 0 where
  left_open : {bytes rest : List ℕ} {place : ℕ} → IsUnclosed bytes rest → place + length rest ≡ size → AreTokensBefore size bytes [] place OpenComment
  here : {bytes from : List ℕ} {place : ℕ} {kind : FaultKind} → Skips bytes from → 0 < length from → Reads from (no_token kind) → place + length from ≡ size → AreTokensBefore size bytes [] place kind
  later : {bytes rest : List ℕ} {t : Token} {ts : List Token} {place : ℕ} {kind : FaultKind} → IsNext size bytes t rest → is_end t.lexeme ≡ false → AreTokensBefore size rest ts place kind → AreTokensBefore size bytes (t ∷ ts) place kind

-- the place and the kind of the first fault
pub record IsFault (size : ℕ) (bytes : List ℕ) (place : ℕ) (kind : FaultKind) : Type 0 where
  pub tokens : List Token
  pub before : AreTokensBefore size bytes tokens place kind

abbrev pub lexemes : List Token → List Lexeme
lexemes ts = map (λ (t : Token). t.lexeme) ts
