-- Steps as a reader from the left takes them, byte by byte.
use Rattle.std.specs.Prelude.{◌≡◌, ℕ, Bool, true, false, not, ◌&&◌, ◌||◌, ◌==◌, nat_lt, if◌then◌else◌, List, [], ◌∷◌, ◌++◌, length, drop, Option, Some, None, codes}
use Rattle.std.specs.Str.{bytes_eq}
use Rattle.std.specs.Char.{is_ascii_alphanumeric}
use Rattle.sp_spec_text.specs.Bytes as class
use Rattle.sp_spec_text.specs.Lex.{is_first, is_digit, skip, before}
use Rattle.sp_spec_text.specs.Names.{is_reserved}
use Rattle.sp_spec.specs.Term.{var, constant, name, app, none, Ground}
use Rattle.sp_spec.specs.Signature.{Symbol, pair}
use Rattle.sp_spec.specs.Execution.{Step, make_fresh, use_rule, take_out, put_in, know_public, make_own, apply_symbol}
use Rattle.sp_fact.specs.GroundView.{row}
use Rattle.sp_spec_printed.specs.Printed.{is_pair}
use Rattle.sp_spec_text.specs.Numerals.{are_digits, value, below_limit}
use Rattle.sp_spec_text.specs.Blanks.{lines}
use Rattle.sp_read_steps.specs.declared.parts.Kind.{Kind}
use Rattle.sp_read_steps.specs.declared.parts.Kind.TheVariants as kind

-- nothing is read there
pub record NoReading {A : Type 0} (R : List ℕ → A → List ℕ → Type 0) (bytes : List ℕ) : Type 0 where
  pub none_read : (x : A) (rest : List ℕ) → R bytes x rest → ⊥

-- nothing is read that ends with the bytes
pub record NoWhole {A : Type 0} (R : List ℕ → A → List ℕ → Type 0) (bytes : List ℕ) : Type 0 where
  pub none_whole : (x : A) → R bytes x [] → ⊥

-- the bytes don't begin so
pub record NoPrefix (sign bytes : List ℕ) : Type 0 where
  pub no_rest : (rest : List ℕ) → bytes ≡ sign ++ rest → ⊥

-- ---- words and symbols

-- the word that stands first, and what stands behind it
abbrev pub word_at : List ℕ → Option (List ℕ × List ℕ)
word_at [] = None
word_at (b ∷ bytes) = if is_ascii_alphanumeric b then Some (before (b ∷ bytes) (skip class.Word bytes), skip class.Word bytes) else None

abbrev pub unreserved : Option (List ℕ × List ℕ) → Option (List ℕ × List ℕ)
unreserved None = None
unreserved (Some w) = if is_reserved w.0 then None else Some w

-- the same for a name
abbrev pub named : List ℕ → Option (List ℕ × List ℕ)
named bytes = unreserved (word_at bytes)

abbrev pub is_symbol : List ℕ → ℕ → Symbol → Bool
is_symbol f n s = bytes_eq s.name f && s.arity == n

abbrev pub has_symbol : List Symbol → List ℕ → ℕ → Bool
has_symbol [] f n = false
has_symbol (s ∷ symbols) f n = is_symbol f n s || has_symbol symbols f n

-- ---- numbers

abbrev pub is_leading : ℕ → Bool
is_leading b = is_digit b && not (b == 48)

-- the number of decimal digits of which the first is not 0, if it is a number of a fresh name
unfoldable pub number_of : List ℕ → Option ℕ
number_of word = if is_first is_leading word && are_digits word then below_limit (value 0 word) else None

-- ---- how a term begins

-- a term without others inside, and what stands behind it; a symbol, and what stands behind its bracket; what stands behind the bracket of
-- a pair
pub data Head : Type 0 where
  whole : Ground → List ℕ → Head
  over : List ℕ → List ℕ → Head
  opened : List ℕ → Head
  nothing : Head

-- behind a term stands nothing, a comma or a closing bracket
abbrev pub ends : List ℕ → Bool
ends [] = true
ends (b ∷ bytes) = b == 44 || b == 41 || b == 62

abbrev pub ended : Ground → List ℕ → Head
ended t rest = if ends rest then whole t rest else nothing

-- behind a quote, of which these bytes are the first and those stand behind them
abbrev pub quoted_head : List ℕ → List ℕ → Head
quoted_head body rest = if nat_lt (length rest) (length body) && is_first (λ b. b == 39) rest then ended (constant (before body rest)) (drop 1 rest) else nothing

abbrev pub of_number : Option ℕ → List ℕ → Head
of_number None rest = nothing
of_number (Some n) rest = ended (name n) rest

-- behind a tilde
abbrev pub numbered_head : List ℕ → Head
numbered_head [] = nothing
numbered_head (b ∷ body) = if b == 110 then of_number (number_of (before body (skip class.Word body))) (skip class.Word body) else nothing

abbrev pub symbol_head : List Symbol → List ℕ → List ℕ → Head
symbol_head symbols f rest = if is_first (λ b. b == 40) rest then over f (drop 1 rest) else if has_symbol symbols f 0 then ended (app f none) rest else nothing

abbrev pub other_head : List ℕ → Head
other_head [] = nothing
other_head (b ∷ bytes) =
    if b == 39 then quoted_head bytes (skip class.Constant bytes)
    else if b == 126 then numbered_head bytes
    else if b == 60 then opened bytes
    else nothing

abbrev pub by_word : List Symbol → Option (List ℕ × List ℕ) → Head → Head
by_word symbols None h = h
by_word symbols (Some w) h = symbol_head symbols w.0 w.1

unfoldable pub head : List Symbol → List ℕ → Head
head symbols bytes = by_word symbols (word_at bytes) (other_head bytes)

-- ---- terms

-- the symbol over these terms, with this behind them; a pair is not written so
abbrev pub applied : List Symbol → List ℕ → List Ground → List ℕ → Option Ground
applied symbols f ts rest = if has_symbol symbols f (length ts) && not (is_pair f (row ts)) && ends rest then Some (app f (row ts)) else None

abbrev pub is_pair_term : Ground → Bool
is_pair_term (var x) = false
is_pair_term (constant c) = false
is_pair_term (name n) = false
is_pair_term (app f ts) = is_pair f ts

abbrev pub paired_with : Ground → Option Ground → Option Ground
paired_with t None = None
paired_with t (Some u) = Some (pair t u)

-- pairs nested on the right, of which the last part is no pair
abbrev pub chain : List Ground → Option Ground
chain [] = None
chain (t ∷ []) = if is_pair_term t then None else Some t
chain (t ∷ u ∷ us) = paired_with t (chain (u ∷ us))

abbrev pub tuple : List Ground → Option Ground
tuple [] = None
tuple (t ∷ []) = None
tuple (t ∷ u ∷ us) = chain (t ∷ u ∷ us)

-- the pair of these terms, with this behind them
abbrev pub paired : List Symbol → List Ground → List ℕ → Option Ground
paired symbols ts rest = if has_symbol symbols (codes "pair") 2 && ends rest then tuple ts else None

mutual
  -- a term stands first, and this behind it
  pub data Reads (symbols : List Symbol) : List ℕ → Ground → List ℕ → Type 0 where
    read_whole : {bytes rest : List ℕ} {t : Ground} → head symbols bytes ≡ whole t rest → Reads symbols bytes t rest
    read_over : {bytes inside rest f : List ℕ} {ts : List Ground} {t : Ground} → head symbols bytes ≡ over f inside → ReadsRow symbols 41 inside ts rest → applied symbols f ts rest ≡ Some t → Reads symbols bytes t rest
    read_pair : {bytes inside rest : List ℕ} {ts : List Ground} {t : Ground} → head symbols bytes ≡ opened inside → ReadsRow symbols 62 inside ts rest → paired symbols ts rest ≡ Some t → Reads symbols bytes t rest

  -- terms with a comma and a space between two, and the closing byte behind them
  pub data ReadsRow (symbols : List Symbol) : ℕ → List ℕ → List Ground → List ℕ → Type 0 where
    last_term : {close : ℕ} {bytes rest : List ℕ} {t : Ground} → Reads symbols bytes t (close ∷ rest) → ReadsRow symbols close bytes (t ∷ []) rest
    next_term : {close : ℕ} {bytes mid rest : List ℕ} {t : Ground} {ts : List Ground} → Reads symbols bytes t (44 ∷ 32 ∷ mid) → ReadsRow symbols close mid ts rest → ReadsRow symbols close bytes (t ∷ ts) rest

-- ---- steps

-- `x = t`
pub data ReadsGiven (symbols : List Symbol) : List ℕ → List ℕ × Ground → List ℕ → Type 0 where
  read_given : {bytes x mid rest : List ℕ} {t : Ground} → named bytes ≡ Some (x, 32 ∷ 61 ∷ 32 ∷ mid) → Reads symbols mid t rest → ReadsGiven symbols bytes (x, t) rest

-- such with a comma and a space between two, up to the end
pub data ReadsValues (symbols : List Symbol) : List ℕ → List (List ℕ × Ground) → List ℕ → Type 0 where
  last_value : {bytes : List ℕ} {g : List ℕ × Ground} → ReadsGiven symbols bytes g [] → ReadsValues symbols bytes (g ∷ []) []
  next_value : {bytes mid rest : List ℕ} {g : List ℕ × Ground} {gs : List (List ℕ × Ground)} → ReadsGiven symbols bytes g (44 ∷ 32 ∷ mid) → ReadsValues symbols mid gs rest → ReadsValues symbols bytes (g ∷ gs) rest

-- behind the word `rule`
pub data ReadsRule (symbols : List Symbol) : List ℕ → Step → List ℕ → Type 0 where
  no_values : {bytes r : List ℕ} → named bytes ≡ Some (r, 58 ∷ []) → ReadsRule symbols bytes (use_rule r []) []
  with_values : {bytes r mid : List ℕ} {gs : List (List ℕ × Ground)} → named bytes ≡ Some (r, 58 ∷ 32 ∷ mid) → ReadsValues symbols mid gs [] → ReadsRule symbols bytes (use_rule r gs) []

-- the step of the pair of these two
abbrev pub pair_of : Ground → Ground → Step
pair_of t u = apply_symbol (codes "pair") (row (t ∷ u ∷ []))

-- the same where there are both
abbrev pub pair_step : Ground → Option Ground → Option Step
pair_step t None = None
pair_step t (Some u) = Some (pair_of t u)

-- The step of the pair of these terms. Of more than two the right part is a pair inside of it, which must be over the symbols.
abbrev pub pairing : List Symbol → List Ground → Option Step
pairing symbols [] = None
pairing symbols (t ∷ []) = None
pairing symbols (t ∷ u ∷ []) = pair_step t (chain (u ∷ []))
pairing symbols (t ∷ u ∷ w ∷ ws) = if has_symbol symbols (codes "pair") 2 then pair_step t (chain (u ∷ w ∷ ws)) else None

-- the step of the symbol over these terms; a pair is not written so
abbrev pub unpaired : List ℕ → List Ground → Option Step
unpaired f ts = if is_pair f (row ts) then None else Some (apply_symbol f (row ts))

-- behind the word `make`: any name, alone or over terms
pub data ReadsApplication (symbols : List Symbol) : List ℕ → Step → List ℕ → Type 0 where
  no_terms : {bytes f : List ℕ} → named bytes ≡ Some (f, []) → ReadsApplication symbols bytes (apply_symbol f none) []
  with_terms : {bytes f inside : List ℕ} {ts : List Ground} {s : Step} → named bytes ≡ Some (f, 40 ∷ inside) → ReadsRow symbols 41 inside ts [] → unpaired f ts ≡ Some s → ReadsApplication symbols bytes s []
  with_parts : {bytes inside : List ℕ} {ts : List Ground} {s : Step} → bytes ≡ 60 ∷ inside → ReadsRow symbols 62 inside ts [] → pairing symbols ts ≡ Some s → ReadsApplication symbols bytes s []

abbrev pub kind_text : Kind → List ℕ
kind_text kind.Fresh = codes "fresh "
kind_text kind.Out = codes "out "
kind_text kind.In = codes "in "
kind_text kind.Public = codes "pub "
kind_text kind.Own = codes "own "

abbrev pub step_over : Kind → Ground → Step
step_over kind.Fresh t = make_fresh t
step_over kind.Out t = take_out t
step_over kind.In t = put_in t
step_over kind.Public t = know_public t
step_over kind.Own t = make_own t

-- the bytes begin with the word of no kind
pub record NoKind (bytes : List ℕ) : Type 0 where
  pub no_kind : (k : Kind) (rest : List ℕ) → bytes ≡ kind_text k ++ rest → ⊥

-- a step, up to the end of the line
pub data ReadsStep (symbols : List Symbol) : List ℕ → Step → List ℕ → Type 0 where
  read_rule : {bytes behind : List ℕ} {s : Step} → bytes ≡ codes "rule " ++ behind → ReadsRule symbols behind s [] → ReadsStep symbols bytes s []
  read_application : {bytes behind : List ℕ} {s : Step} → bytes ≡ codes "make " ++ behind → ReadsApplication symbols behind s [] → ReadsStep symbols bytes s []
  read_term : {bytes behind : List ℕ} (k : Kind) {t : Ground} → bytes ≡ kind_text k ++ behind → Reads symbols behind t [] → ReadsStep symbols bytes (step_over k t) []

-- ---- lines

-- from the first line feed on
unfoldable pub to_feed : List ℕ → List ℕ
to_feed [] = []
to_feed (b ∷ bytes) = if b == 10 then b ∷ bytes else to_feed bytes

-- a line, and those of what stands behind its line feed
abbrev pub then_lines : List ℕ → Option (List ℕ) → List (List ℕ)
then_lines line None = line ∷ []
then_lines line (Some bytes) = line ∷ lines bytes
