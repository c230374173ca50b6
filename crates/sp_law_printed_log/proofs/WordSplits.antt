-- Where a word ends in a line: two words with other bytes behind them that no word has are one.
use Rattle.std.proofs.Common.{◌≡◌, ℕ, Bool, true, false, cond, List, [], ◌∷◌, ◌++◌, refl, sym, ap, ◌∙◌}
use Rattle.std.specs.Prelude.{◌||◌, ◌&&◌, ◌==◌}
use Rattle.std.specs.Char.{is_ascii_alphanumeric}
use Rattle.sp_spec_text.specs.Bytes as class
use Rattle.sp_spec_text.specs.Lex.{is_in, is_first, is_digit, is_word_byte, skip}
use Rattle.sp_spec.specs.Lists.{Every}
use Rattle.sp_spec_text.specs.Names.{IsWord}

-- a byte that may stand in a word
abbrev pub in_word : ℕ → Bool
in_word b = is_word_byte b || b == 46

-- what goes on with a word stands in one
in_word_if : (x y z : Bool) → (x || (y && z)) ≡ true → (x || y) ≡ true
in_word_if true y z h = refl
in_word_if false true z h = refl
in_word_if false false z h = absurd (let none : ⊥ = cc in none)

skipped_bytes : (bytes : List ℕ) → skip class.Word bytes ≡ [] → Every (λ (b : ℕ). in_word b ≡ true) bytes
unfolding skip
skipped_bytes [] h = tt
skipped_bytes (b ∷ bytes) h = by_test (is_in class.Word b bytes) refl h (λ k. skipped_bytes bytes k)
  where
    by_test : (t : Bool) → is_in class.Word b bytes ≡ t → cond t (skip class.Word bytes) (b ∷ bytes) ≡ [] → (skip class.Word bytes ≡ [] → Every (λ (c : ℕ). in_word c ≡ true) bytes)
        → Every (λ (c : ℕ). in_word c ≡ true) (b ∷ bytes)
    by_test true e k later = (in_word_if (is_word_byte b) (b == 46) (is_first is_digit bytes) e, later k)
    by_test false e k later = absurd (let none : ⊥ = cc in none)

alphanumeric_in_word : (b : ℕ) → is_ascii_alphanumeric b ≡ true → in_word b ≡ true
alphanumeric_in_word b h = rw h refl

pub word_bytes : (w : List ℕ) → IsWord w → Every (λ (b : ℕ). in_word b ≡ true) w
word_bytes [] h = absurd h
word_bytes (b ∷ w) h = (alphanumeric_in_word b h.0, skipped_bytes w h.1)

-- the two words are one, and so is what stands behind them
pub record SameSplit (w v : List ℕ) (a b : ℕ) (xs ys : List ℕ) : Type 0 where
  pub words : w ≡ v
  pub byte : a ≡ b
  pub others : xs ≡ ys

pub split_word : (w v : List ℕ) (a b : ℕ) (xs ys : List ℕ) → Every (λ (c : ℕ). in_word c ≡ true) w → Every (λ (c : ℕ). in_word c ≡ true) v → in_word a ≡ false → in_word b ≡ false
    → w ++ a ∷ xs ≡ v ++ b ∷ ys → SameSplit w v a b xs ys
split_word [] [] a b xs ys hw hv na nb e = record { words = refl; byte = cc; others = cc }
split_word [] (d ∷ v) a b xs ys hw hv na nb e = absurd (let same : a ≡ d = cc in let t : in_word d ≡ true = hv.0 in let f : in_word d ≡ false = ap in_word (sym same) ∙ na in cc)
split_word (c ∷ w) [] a b xs ys hw hv na nb e = absurd (let same : c ≡ b = cc in let t : in_word c ≡ true = hw.0 in let f : in_word c ≡ false = ap in_word same ∙ nb in cc)
split_word (c ∷ w) (d ∷ v) a b xs ys hw hv na nb e =
    let same : c ≡ d = cc in
    let behind : w ++ a ∷ xs ≡ v ++ b ∷ ys = cc in
    let s = split_word w v a b xs ys hw.1 hv.1 na nb behind in
    record { words = ap (λ (x : ℕ). x ∷ w) same ∙ ap (λ (zs : List ℕ). d ∷ zs) s.words; byte = s.byte; others = s.others }
