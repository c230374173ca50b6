-- Where tokens end.
use Rattle.std.specs.Prelude.{ℕ, Bool, true, if◌then◌else◌, List, [], ◌∷◌}
use Rattle.sp_spec_text.specs.Token.{Lexeme, Token}

-- behind the last token that passes the test, or else this place
abbrev pub place_behind : (Lexeme → Bool) → ℕ → List Token → ℕ
place_behind p place [] = place
place_behind p place (t ∷ ts) = place_behind p (if p t.lexeme then t.end else place) ts

abbrev pub is_any : Lexeme → Bool
is_any x = true

-- behind the last of these tokens
abbrev pub behind_all : List Token → ℕ
behind_all ts = place_behind is_any 0 ts
