-- The bytes of a constant, read back from its quotes.
use Rattle.std.proofs.Common.{◌≡◌, ℕ, ◌<◌, ◌≤◌, Bool, true, false, if◌then◌else◌, List, [], ◌∷◌, ◌++◌, Option, Some, None, option_map, refl, ap, ◌∙◌, arith}
use Rattle.std.specs.Prelude.{IsUtf8, IsAscii, not, ◌&&◌, ◌==◌, nat_le}
use Rattle.std.specs.List.{list_all}
use Rattle.std.proofs.lemmas.Bool.{leb-true, and_parts}
use Rattle.std.proofs.lemmas.Str.{IsUtf8-from_ascii}
use Rattle.std.proofs.lemmas.Str.Ascii.{IsAscii-nil, IsAscii-cons}
use Rattle.sp_spec_text.specs.Lex.{is_constant_byte}
use Rattle.sp_skel.specs.MoveTexts.{unquoted}

one_more : (c b : ℕ) (body : List ℕ) → unquoted (c ∷ (body ++ b ∷ [])) ≡ (if is_constant_byte c then option_map (λ xs. c ∷ xs) (unquoted (body ++ b ∷ [])) else None)
unfolding unquoted
one_more c b [] = refl
one_more c b (d ∷ body) = refl

unquoted_one : (b : ℕ) → unquoted (b ∷ []) ≡ (if b == 39 then Some [] else None)
unfolding unquoted
unquoted_one b = refl

pub unquoted_behind : (body : List ℕ) (b : ℕ) → unquoted (body ++ b ∷ []) ≡ (if b == 39 && list_all is_constant_byte body then Some body else None)
unquoted_behind [] b = unquoted_one b ∙ by_test (b == 39) (Some [])
  where
    by_test : (t : Bool) (o : Option (List ℕ)) → (if t then o else None) ≡ (if t && true then o else None)
    by_test true o = refl
    by_test false o = refl
unquoted_behind (c ∷ body) b =
    one_more c b body ∙ ap (λ o. if is_constant_byte c then option_map (λ xs. c ∷ xs) o else None) (unquoted_behind body b) ∙ by_tests (is_constant_byte c) (b == 39) (list_all is_constant_byte body)
  where
    by_tests : (t u v : Bool) → (if t then option_map (λ xs. c ∷ xs) (if u && v then Some body else None) else None) ≡ (if u && (t && v) then Some (c ∷ body) else None)
    by_tests true true true = refl
    by_tests true true false = refl
    by_tests true false v = refl
    by_tests false true v = refl
    by_tests false false v = refl

pub unquoted_nothing : unquoted [] ≡ None
unfolding unquoted
unquoted_nothing = refl

byte_ascii : (b : ℕ) → is_constant_byte b ≡ true → b < 128
byte_ascii b h =
    let most : b ≤ 126 = leb-true b 126 (and_parts (nat_le 32 b) (nat_le b 126) (and_parts (nat_le 32 b && nat_le b 126) (not (b == 39)) h).0).1 in omega arith

all_ascii : (c : List ℕ) → list_all is_constant_byte c ≡ true → IsAscii c
all_ascii [] h = IsAscii-nil
all_ascii (b ∷ c) h = let parts = and_parts (is_constant_byte b) (list_all is_constant_byte c) h in IsAscii-cons b c (byte_ascii b parts.0) (all_ascii c parts.1)

pub constant_utf8 : (c : List ℕ) → list_all is_constant_byte c ≡ true → IsUtf8 c
constant_utf8 c h = IsUtf8-from_ascii c (all_ascii c h)

pub ruleset constants = (unquoted_behind, unquoted_nothing, constant_utf8)
