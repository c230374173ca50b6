-- Which words are names, which name facts, what marks a variable's sort, and what annotates a fact. Source: Tamarin manual, "Syntax description".
use Rattle.std.specs.Prelude.{◌≡◌, ℕ, Bool, true, false, not, ◌&&◌, ◌||◌, if◌then◌else◌, List, [], ◌∷◌, Option, Some, None, codes}
use Rattle.std.specs.Str.{bytes_eq}
use Rattle.std.specs.Char.{is_ascii_uppercase, is_ascii_alphanumeric}
use Rattle.sp_spec_text.specs.Signs.{Sign}
use Rattle.sp_spec_text.specs.Signs as s
use Rattle.sp_spec_text.specs.Token.{Lexeme, word, sign}
use Rattle.sp_spec_text.specs.Bytes as class
use Rattle.sp_spec_text.specs.Lex.{skip}
use Rattle.sp_spec.specs.Term.{Msg, Fresh, Pub}
use Rattle.sp_spec.specs.Formula.{Mark, of_sort, of_time}

-- words that are no names anywhere
unfoldable pub is_reserved : List ℕ → Bool
is_reserved w =
    bytes_eq w (codes "end") || bytes_eq w (codes "let") || bytes_eq w (codes "in") || bytes_eq w (codes "not")
    || bytes_eq w (codes "All") || bytes_eq w (codes "Ex") || bytes_eq w (codes "last") || bytes_eq w (codes "solve")

abbrev pub IsName : List ℕ → Type 0
IsName w = is_reserved w ≡ false

-- the bytes are one word
abbrev pub IsWord : List ℕ → Type 0
IsWord [] = ⊥
IsWord (b ∷ bytes) = (is_ascii_alphanumeric b ≡ true) × (skip class.Word bytes ≡ [])

-- a name as a text may have it
abbrev pub IsNameWord : List ℕ → Type 0
IsNameWord w = IsName w × IsWord w

abbrev pub is_capital : List ℕ → Bool
is_capital [] = false
is_capital (b ∷ bytes) = is_ascii_uppercase b

abbrev pub names_fact : List ℕ → Bool
names_fact w = is_capital w && not (is_reserved w)

-- the word behind the colon of a variable
unfoldable pub mark_of : List ℕ → Option Mark
mark_of w =
    if bytes_eq w (codes "fresh") then Some (of_sort Fresh)
    else if bytes_eq w (codes "pub") then Some (of_sort Pub)
    else if bytes_eq w (codes "msg") then Some (of_sort Msg)
    else if bytes_eq w (codes "node") then Some of_time
    else None

-- the sign before the name of a variable
abbrev pub mark_at : Sign → Option Mark
mark_at s.Tilde = Some (of_sort Fresh)
mark_at s.Dollar = Some (of_sort Pub)
mark_at s.Hash = Some of_time
mark_at _ = None

-- whether a function with this attribute is private
unfoldable pub privacy_of : List ℕ → Option Bool
privacy_of w =
    if bytes_eq w (codes "private") then Some true
    else if bytes_eq w (codes "public") || bytes_eq w (codes "constructor") || bytes_eq w (codes "destructor") then Some false
    else None

-- what may stand in the brackets behind a fact
unfoldable pub is_annotation : Lexeme → Bool
is_annotation (word w) = bytes_eq w (codes "no_precomp")
is_annotation (sign s.Plus) = true
is_annotation (sign s.Dash) = true
is_annotation _ = false

abbrev pub is_one_so : List Bool → Bool
is_one_so [] = false
is_one_so (b ∷ bs) = b || is_one_so bs
