-- A numeral without a plus or a leading zero is what is written of its number.
use Rattle.std.proofs.Common.{◌≡◌, ◌≢◌, ℕ, ◌^◌, ◌<◌, ◌≤◌, List, [], ◌∷◌, length, get_or, Result, Ok, Err, MatchResult, refl, sym, subst, ap, ◌∙◌, arith}
use Rattle.std.specs.Result.{OkIff}
use Rattle.std.specs.Prelude.{⊤, decimal}
use Rattle.std.specs.Str.Parse.{AllDigits, ParsesUnsigned, digits_value}
use Rattle.std.proofs.lemmas.Fmt.{decimal-digits_value, first_decimal, parse-decimal}
use Rattle.std.proofs.lemmas.Str.Parse.{IsNumeralModel, numerals_by_value, parse_plain, tells_digits}

own : IsNumeralModel (AllDigits 10) (digits_value 10)
own = numerals_by_value (AllDigits 10) tells_digits

-- what is written of a number begins with neither
pub begins_behind_zero : (n c : ℕ) (rest text : List ℕ) → text ≡ decimal n → 1 ≤ n → n < 2 ^ 64 → text ≡ c ∷ rest → 48 < c
begins_behind_zero n c rest text is low high e = subst (λ t. 48 < get_or t 0 0) (sym is ∙ e) (first_decimal n (omega arith) (omega arith))

first_is : (text : List ℕ) (c : ℕ) → 0 < c → get_or text 0 0 ≡ c → (rest : List ℕ) × (text ≡ c ∷ rest)
first_is [] c some e = absurd (omega arith)
first_is (b ∷ rest) c some e = (rest, ap (λ x. x ∷ rest) e)

module _ {E : Type 0} (text : List ℕ) (r : Result ℕ E) (parse : ParsesUnsigned 64 10 text r) where
  pub parses : (n : ℕ) → text ≡ decimal n → n < 2 ^ 64 → r ≡ Ok n
  parses n is high = parse-decimal 64 n text r (omega arith) (omega arith) is parse

  pub is_number : (n m : ℕ) → r ≡ Ok m → text ≡ decimal n → n < 2 ^ 64 → n ≡ m
  is_number n m e is high = subst (λ x. MatchResult x (λ k. n ≡ k) (λ _. ⊥)) (sym (parses n is high) ∙ e) refl

  pub is_no_number : (n : ℕ) (cause : E) → r ≡ Err cause → text ≡ decimal n → n < 2 ^ 64 → ⊥
  is_no_number n cause e is high = subst (λ x. MatchResult x (λ _. ⊤) (λ _. ⊥)) (sym (parses n is high) ∙ e) tt

  pub is_written : (n : ℕ) → ((rest : List ℕ) → text ≢ 43 ∷ rest) → ((rest : List ℕ) → text ≢ 48 ∷ rest) → r ≡ Ok n → text ≡ decimal n
  is_written n no_plus no_zero e =
      let plain : get_or text 0 0 ≢ 43 = λ z. let f = first_is text 43 (omega arith) z in no_plus f.0 f.1 in
      let read = subst (λ x. OkIff x (AllDigits 10 text × (0 < length text) × (digits_value 10 text < 2 ^ 64)) (digits_value 10 text)) e (parse_plain own 64 text r parse plain) in
      let lead : get_or text 0 0 ≡ 48 → length text ≡ 1 = λ z. let f = first_is text 48 (omega arith) z in absurd (no_zero f.0 f.1) in
      sym (decimal-digits_value own text read.0.0 read.0.1 lead read.0.2) ∙ ap decimal (sym read.1)
