-- The pieces, step by step, and that they are text.
use Rattle.std.proofs.Common.{◌≡◌, ℕ, zero, suc, ◌+◌, ◌<◌, ◌≤◌, Bool, true, false, cond, List, [], ◌∷◌, length, refl, sym, ap, ◌∙◌, add-one, arith}
use Rattle.std.specs.Prelude.{IsUtf8, IsAscii, ◌&&◌, ◌||◌, ◌==◌, not, nat_le}
use Rattle.std.proofs.lemmas.Bool.{leb-true, eqb-true, and_parts}
use Rattle.std.proofs.lemmas.Str.{IsUtf8-from_ascii, IsAscii-append}
use Rattle.std.proofs.lemmas.Str.Ascii.{IsAscii-nil}
use Rattle.std.specs.Char.{is_ascii_alphanumeric}
use Rattle.std.specs.Int.{is_in_range}
use Rattle.sp_spec_text.specs.Bytes.{Class}
use Rattle.sp_spec_text.specs.Bytes as class
use Rattle.sp_spec_text.specs.Lex.{is_in, is_digit, is_first, skip, before}
use Rattle.sp_spec_text.proofs.Rests.{before_self, before_more}

pub skip_more : (k : Class) {rest after total : List ℕ} {b : ℕ} → skip k rest ≡ total → rest ≡ b ∷ after → is_in k b after ≡ true → skip k after ≡ total
unfolding skip
skip_more k {rest} {after} {total} {b} h e t =
    let one : skip k (b ∷ after) ≡ skip k after = rw t refl in
    sym one ∙ ap (λ (x : List ℕ). skip k x) (sym e) ∙ h

pub skip_stop : (k : Class) {rest after total : List ℕ} {b : ℕ} → skip k rest ≡ total → rest ≡ b ∷ after → is_in k b after ≡ false → rest ≡ total
unfolding skip
skip_stop k {rest} {after} {total} {b} h e t =
    let one : skip k (b ∷ after) ≡ b ∷ after = rw t refl in
    e ∙ sym one ∙ ap (λ (x : List ℕ). skip k x) (sym e) ∙ h

pub skip_end : (k : Class) {rest total : List ℕ} → skip k rest ≡ total → rest ≡ [] → rest ≡ total
unfolding skip
skip_end k {rest} {total} h e =
    let one : skip k [] ≡ [] = refl in
    e ∙ sym one ∙ ap (λ (x : List ℕ). skip k x) (sym e) ∙ h

pub one_less : {a : ℕ} {rest after : List ℕ} → rest ≡ a ∷ after → length after + 1 ≡ length rest
one_less {a} {rest} {after} e = rw e (add-one (length after))

pub skip_shorter : (k : Class) (bytes : List ℕ) → length (skip k bytes) ≤ length bytes
unfolding skip
skip_shorter k [] = omega arith
skip_shorter k (b ∷ bytes) = by_test (is_in k b bytes) (skip_shorter k bytes)
  where
    by_test : (t : Bool) → length (skip k bytes) ≤ length bytes → length (cond t (skip k bytes) (b ∷ bytes)) ≤ length (b ∷ bytes)
    by_test true h = omega arith
    by_test false h = omega arith

ascii_one : (b : ℕ) → b < 128 → IsAscii (b ∷ [])
ascii_one b lt zero = lt
ascii_one b lt (suc i) = omega arith

ascii_more : (b : ℕ) (bytes : List ℕ) → b < 128 → IsAscii bytes → IsAscii (b ∷ bytes)
ascii_more b bytes lt h = IsAscii-append (b ∷ []) bytes (ascii_one b lt) h

range_ascii : (a z b : ℕ) → z < 128 → is_in_range a z b ≡ true → b < 128
range_ascii a z b lt h = let le = leb-true b z (and_parts (nat_le a b) (nat_le b z) h).1 in omega arith

either : (x y : Bool) (P : Type 0) → (x ≡ true → P) → (y ≡ true → P) → (x || y) ≡ true → P
either true y P f g h = f refl
either false y P f g h = g h

alphanumeric_ascii : (b : ℕ) → is_ascii_alphanumeric b ≡ true → b < 128
alphanumeric_ascii b h =
    either (is_in_range 48 57 b || is_in_range 65 90 b) (is_in_range 97 122 b) (b < 128)
    (either (is_in_range 48 57 b) (is_in_range 65 90 b) (b < 128) (range_ascii 48 57 b (omega arith)) (range_ascii 65 90 b (omega arith)))
    (range_ascii 97 122 b (omega arith)) h

equal_ascii : (b c : ℕ) → c < 128 → (b == c) ≡ true → b < 128
equal_ascii b c lt h = let e = eqb-true b c h in omega arith

-- the bytes of a word and of a constant are ASCII
abbrev is_ascii_class : Class → Bool
is_ascii_class class.Constant = true
is_ascii_class class.Line = false
is_ascii_class class.Word = true

in_ascii : (k : Class) (b : ℕ) (bytes : List ℕ) → is_ascii_class k ≡ true → is_in k b bytes ≡ true → b < 128
in_ascii class.Constant b bytes a h = range_ascii 32 126 b (omega arith) (and_parts (nat_le 32 b && nat_le b 126) (not (b == 39)) h).0
in_ascii class.Line b bytes a h = absurd cc
in_ascii class.Word b bytes a h =
    either (is_ascii_alphanumeric b || b == 95) (b == 46 && is_first is_digit bytes) (b < 128)
    (either (is_ascii_alphanumeric b) (b == 95) (b < 128) (alphanumeric_ascii b) (equal_ascii b 95 (omega arith)))
    (λ e. equal_ascii b 46 (omega arith) (and_parts (b == 46) (is_first is_digit bytes) e).0) h

before_ascii : (k : Class) (bytes : List ℕ) → is_ascii_class k ≡ true → IsAscii (before bytes (skip k bytes))
unfolding skip
before_ascii k [] a = IsAscii-nil
before_ascii k (b ∷ bytes) a = by_test (is_in k b bytes) refl (before_ascii k bytes a)
  where
    by_test : (t : Bool) → is_in k b bytes ≡ t → IsAscii (before bytes (skip k bytes)) → IsAscii (before (b ∷ bytes) (cond t (skip k bytes) (b ∷ bytes)))
    by_test true e h = rw (before_more b bytes (skip k bytes) (skip_shorter k bytes)) (ascii_more b (before bytes (skip k bytes)) (in_ascii k b bytes a e) h)
    by_test false e h = rw (before_self (b ∷ bytes)) IsAscii-nil

pub constant_utf8 : (body rest : List ℕ) → rest ≡ skip class.Constant body → IsUtf8 (before body rest)
constant_utf8 body rest e = IsUtf8-from_ascii (before body rest) (rw e (before_ascii class.Constant body refl))

pub word_utf8 : (text body rest : List ℕ) (b : ℕ) → text ≡ b ∷ body → is_ascii_alphanumeric b ≡ true → rest ≡ skip class.Word body → IsUtf8 (before text rest)
word_utf8 text body rest b f t e =
    let lt : b < 128 = alphanumeric_ascii b t in
    rw (f, e) (IsUtf8-from_ascii (before (b ∷ body) (skip class.Word body))
    (rw (before_more b body (skip class.Word body) (skip_shorter class.Word body)) (ascii_more b (before body (skip class.Word body)) lt (before_ascii class.Word body refl))))

pub ruleset pieces = (constant_utf8, word_utf8)
