-- The parts that a text still has to have, the first one first: which lists of them come up. From such a list a text can be ended:
-- no nesting is too deep for its parts, and behind a part of a formula stands what closes the formula.
use Rattle.std.specs.Prelude.{◌≡◌, ◌≤◌, ◌<◌, ◌==◌, Bool, true, false, List, [], ◌∷◌}
use Rattle.sp_spec_text.specs.Signs.{Sign}
use Rattle.sp_spec_text.specs.Signs as s
use Rattle.sp_await.specs.Parts.{Awaited}
use Rattle.sp_await.specs.Parts as a
use Rattle.sp_await.specs.Table.{code, deep}

abbrev pub is_closing : Sign → Bool
is_closing s.Close = true
is_closing s.Quote = true
is_closing _ = false

-- whether these begin with what closes a formula, where those behind the first do so or not
abbrev pub closes_first : Awaited → Bool → Bool
closes_first (a.Exactly y) b = is_closing y
closes_first (a.Closing n k) b = b
closes_first (a.More n) b = b
closes_first (a.Twice n) b = b
closes_first _ b = false

abbrev pub is_closed : List Awaited → Bool
is_closed [] = false
is_closed (part ∷ parts) = closes_first part (is_closed parts)

abbrev pub Fits : Awaited → Bool → Type 0
Fits (a.Term n) b = n ≤ 128
Fits (a.Applied n) b = n ≤ 128
Fits (a.Tuple n y) b = (n ≤ 128) × ((code y == code s.Comma) ≡ false)
Fits (a.MoreTuple n y) b = (n ≤ 128) × ((code y == code s.Comma) ≡ false)
Fits (a.Arguments n) b = n ≤ 128
Fits (a.MoreArguments n) b = n ≤ 128
Fits (a.Fact n) b = n < 128
Fits (a.Opened n) b = n < 128
Fits (a.Negation n k) b = (deep n k ≤ 128) × (b ≡ true)
Fits (a.Unit n k) b = (deep n k ≤ 128) × (b ≡ true)
Fits (a.Side n k) b = (deep n k ≤ 128) × (b ≡ true)
Fits (a.Order n k) b = (deep n k ≤ 128) × (b ≡ true)
Fits (a.Bare n k) b = (deep n k ≤ 128) × (b ≡ true)
Fits (a.Named n k) b = (deep n k ≤ 128) × (b ≡ true)
Fits (a.Shown n k) b = (deep n k ≤ 128) × (b ≡ true)
Fits (a.Truth n k) b = (deep n k ≤ 128) × (b ≡ true)
Fits (a.Both n k) b = (deep n k ≤ 128) × (b ≡ true)
Fits (a.Closing n k) b = (deep n k ≤ 128) × (b ≡ true)
Fits (a.More n) b = (n ≤ 128) × (b ≡ true)
Fits (a.Twice n) b = (n ≤ 128) × (b ≡ true)
Fits (a.Facts y) b = (code y == code s.Comma) ≡ false
Fits (a.MoreFacts y) b = (code y == code s.Comma) ≡ false
Fits _ b = Unit {0}

abbrev pub Good : List Awaited → Type 0
Good [] = Unit {0}
Good (part ∷ parts) = Fits part (is_closed parts) × Good parts
