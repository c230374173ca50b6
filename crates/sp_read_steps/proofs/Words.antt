-- Words and constants that stand first.
use Rattle.std.proofs.Common.{◌≡◌, ℕ, Bool, true, false, cond, List, [], ◌∷◌, ◌++◌, Some, None, refl, sym, ap, subst, ◌∙◌}
use Rattle.std.specs.Prelude.{Option, ◌||◌, ◌&&◌, ◌==◌}
use Rattle.std.specs.Char.{is_ascii_alphanumeric}
use Rattle.sp_spec_text.specs.Bytes.{Class}
use Rattle.sp_spec_text.specs.Bytes as class
use Rattle.sp_spec_text.specs.Lex.{is_in, is_first, is_digit, is_word_byte, is_constant_byte, skip, before}
use Rattle.sp_lex.proofs.Pieces.{skip_shorter}
use Rattle.sp_spec_text.specs.Names.{is_reserved, IsWord, IsNameWord}
use Rattle.sp_spec_text.proofs.Rests.{before_self, before_more, before_rest, first_kept}
use Rattle.sp_spec.specs.Lists.{Every}
use Rattle.sp_read_steps.specs.Reading.{word_at, unreserved, named}
use Rattle.sp_read_steps.proofs.Found.{some_both}

pub before_parts : (k : Class) (bytes : List ℕ) → bytes ≡ before bytes (skip k bytes) ++ skip k bytes
unfolding skip
before_parts k [] = refl
before_parts k (b ∷ bytes) = by_test (is_in k b bytes) (before_parts k bytes)
  where
    by_test : (t : Bool) → bytes ≡ before bytes (skip k bytes) ++ skip k bytes → b ∷ bytes ≡ before (b ∷ bytes) (cond t (skip k bytes) (b ∷ bytes)) ++ cond t (skip k bytes) (b ∷ bytes)
    by_test true h = rw (before_more b bytes (skip k bytes) (skip_shorter k bytes)) (ap (λ (xs : List ℕ). b ∷ xs) h)
    by_test false h = rw (before_self (b ∷ bytes)) refl

pub word_parts : (bytes w rest : List ℕ) → word_at bytes ≡ Some (w, rest) → bytes ≡ w ++ rest
word_parts [] w rest h = absurd (let none : ⊥ = cc in none)
word_parts (b ∷ bytes) w rest h = by_test (is_ascii_alphanumeric b) h
  where
    by_test : (t : Bool) → cond {A = Option (List ℕ × List ℕ)} t (Some (before (b ∷ bytes) (skip class.Word bytes), skip class.Word bytes)) None ≡ Some (w, rest) → b ∷ bytes ≡ w ++ rest
    by_test true e =
        let two_parts = some_both e in
        let all : b ∷ bytes ≡ before (b ∷ bytes) (skip class.Word bytes) ++ skip class.Word bytes = rw (before_more b bytes (skip class.Word bytes) (skip_shorter class.Word bytes)) (ap (λ (xs : List ℕ). b ∷ xs) (before_parts class.Word bytes)) in
        all ∙ ap (λ (xs : List ℕ). xs ++ skip class.Word bytes) two_parts.0 ∙ ap (λ (xs : List ℕ). w ++ xs) two_parts.1
    by_test false e = absurd (let none : ⊥ = cc in none)

digit_goes_on : (bytes : List ℕ) → is_first is_digit bytes ≡ true → is_first is_digit (before bytes (skip class.Word bytes)) ≡ true
unfolding skip
digit_goes_on [] h = h
digit_goes_on (b ∷ bytes) h =
    let is : is_in class.Word b bytes ≡ true = rw h refl in
    let e : skip class.Word (b ∷ bytes) ≡ skip class.Word bytes = ap (λ (t : Bool). cond t (skip class.Word bytes) (b ∷ bytes)) is in
    ap (λ (xs : List ℕ). is_first is_digit (before (b ∷ bytes) xs)) e ∙ ap (is_first is_digit) (before_more b bytes (skip class.Word bytes) (skip_shorter class.Word bytes)) ∙ h

still_in : (b : ℕ) (bytes : List ℕ) → is_in class.Word b bytes ≡ true → is_in class.Word b (before bytes (skip class.Word bytes)) ≡ true
still_in b bytes h = by_test (is_word_byte b) (b == 46) (is_first is_digit bytes) refl h
  where
    by_test : (x y z : Bool) → is_first is_digit bytes ≡ z → (x || (y && z)) ≡ true → (x || (y && is_first is_digit (before bytes (skip class.Word bytes)))) ≡ true
    by_test true y z e k = refl
    by_test false true true e k = digit_goes_on bytes e
    by_test false true false e k = absurd (let none : ⊥ = cc in none)
    by_test false false z e k = absurd (let none : ⊥ = cc in none)

skipped_before : (bytes : List ℕ) → skip class.Word (before bytes (skip class.Word bytes)) ≡ []
unfolding skip
skipped_before [] = refl
skipped_before (b ∷ bytes) = by_test (is_in class.Word b bytes) refl (skipped_before bytes)
  where
    by_test : (t : Bool) → is_in class.Word b bytes ≡ t → skip class.Word (before bytes (skip class.Word bytes)) ≡ [] → skip class.Word (before (b ∷ bytes) (cond t (skip class.Word bytes) (b ∷ bytes))) ≡ []
    by_test true e h =
        let rest = skip class.Word bytes in
        let one : before (b ∷ bytes) rest ≡ b ∷ before bytes rest = before_more b bytes rest (skip_shorter class.Word bytes) in
        ap (skip class.Word) one ∙ ap (λ (t : Bool). cond t (skip class.Word (before bytes rest)) (b ∷ before bytes rest)) (still_in b bytes e) ∙ h
    by_test false e h = ap (skip class.Word) (before_self (b ∷ bytes))

pub word_is : (bytes w rest : List ℕ) → word_at bytes ≡ Some (w, rest) → IsWord w
word_is [] w rest h = absurd (let none : ⊥ = cc in none)
word_is (b ∷ bytes) w rest h = by_test (is_ascii_alphanumeric b) refl h
  where
    by_test : (t : Bool) → is_ascii_alphanumeric b ≡ t → cond {A = Option (List ℕ × List ℕ)} t (Some (before (b ∷ bytes) (skip class.Word bytes), skip class.Word bytes)) None ≡ Some (w, rest) → IsWord w
    by_test true k e =
        let is : w ≡ b ∷ before bytes (skip class.Word bytes) = sym (some_both e).0 ∙ before_more b bytes (skip class.Word bytes) (skip_shorter class.Word bytes) in
        subst IsWord (sym is) (k, skipped_before bytes)
    by_test false k e = absurd (let none : ⊥ = cc in none)

-- what a name is
pub record NamedAt (bytes w rest : List ℕ) : Type 0 where
  pub word : word_at bytes ≡ Some (w, rest)
  pub is_name : is_reserved w ≡ false

pub named_at : (bytes w rest : List ℕ) → named bytes ≡ Some (w, rest) → NamedAt bytes w rest
named_at bytes w rest h = by_case (word_at bytes) refl h
  where
    by_test : (v : List ℕ × List ℕ) (t : Bool) → word_at bytes ≡ Some v → is_reserved v.0 ≡ t → cond {A = Option (List ℕ × List ℕ)} t None (Some v) ≡ Some (w, rest) → NamedAt bytes w rest
    by_test v true e f k = absurd (let none : ⊥ = cc in none)
    by_test v false e f k =
        let i : v ≡ (w, rest) = cc in
        record { word = e ∙ ap (λ (x : List ℕ × List ℕ). Some x) i; is_name = ap is_reserved (sym (ap (λ (x : List ℕ × List ℕ). x.0) i)) ∙ f }

    by_case : (o : Option (List ℕ × List ℕ)) → word_at bytes ≡ o → unreserved o ≡ Some (w, rest) → NamedAt bytes w rest
    by_case None e k = absurd (let none : ⊥ = cc in none)
    by_case (Some v) e k = by_test v (is_reserved v.0) e refl k

pub named_is : (bytes w rest : List ℕ) → named bytes ≡ Some (w, rest) → IsNameWord w
named_is bytes w rest h = let n = named_at bytes w rest h in (n.is_name, word_is bytes w rest n.word)

pub named_parts : (bytes w rest : List ℕ) → named bytes ≡ Some (w, rest) → bytes ≡ w ++ rest
named_parts bytes w rest h = word_parts bytes w rest (named_at bytes w rest h).word

-- no word goes on with these bytes
pub record Stops (rest : List ℕ) : Type 0 where
  pub no_digit : is_first is_digit rest ≡ false
  pub skipped : skip class.Word rest ≡ rest

pub skip_word : (w rest : List ℕ) → skip class.Word w ≡ [] → Stops rest → skip class.Word (w ++ rest) ≡ rest
unfolding skip
skip_word [] rest h e = e.skipped
skip_word (c ∷ w) rest h e =
    let is : is_in class.Word c (w ++ rest) ≡ is_in class.Word c w = rw (first_kept w rest e.no_digit) refl in
    ap (λ (t : Bool). cond t (skip class.Word (w ++ rest)) (c ∷ w ++ rest)) is ∙ by_test (is_in class.Word c w) h (λ k. skip_word w rest k e)
  where
    by_test : (t : Bool) → cond t (skip class.Word w) (c ∷ w) ≡ [] → (skip class.Word w ≡ [] → skip class.Word (w ++ rest) ≡ rest) → cond t (skip class.Word (w ++ rest)) (c ∷ w ++ rest) ≡ rest
    by_test true k f = f k
    by_test false k f = absurd (let none : ⊥ = cc in none)

pub word_before : (w rest : List ℕ) → IsWord w → Stops rest → word_at (w ++ rest) ≡ Some (w, rest)
word_before [] rest h e = absurd h
word_before (c ∷ w) rest h e =
    let s : skip class.Word (w ++ rest) ≡ rest = skip_word w rest h.1 e in
    rw (h.0, s) (ap (λ (xs : List ℕ). Some (xs, rest)) (before_rest (c ∷ w) rest))

pub named_before : (w rest : List ℕ) → IsNameWord w → Stops rest → named (w ++ rest) ≡ Some (w, rest)
named_before w rest n s = ap unreserved (word_before w rest n.1 s) ∙ rw n.0 refl

-- ---- constants

pub all_constant : (bytes : List ℕ) → Every (λ (c : ℕ). is_constant_byte c ≡ true) (before bytes (skip class.Constant bytes))
unfolding skip
all_constant [] = tt
all_constant (b ∷ bytes) = by_test (is_constant_byte b) refl (all_constant bytes)
  where
    by_test : (t : Bool) → is_constant_byte b ≡ t → Every (λ (c : ℕ). is_constant_byte c ≡ true) (before bytes (skip class.Constant bytes))
        → Every (λ (c : ℕ). is_constant_byte c ≡ true) (before (b ∷ bytes) (cond t (skip class.Constant bytes) (b ∷ bytes)))
    by_test true e h = rw (before_more b bytes (skip class.Constant bytes) (skip_shorter class.Constant bytes)) (e, h)
    by_test false e h = rw (before_self (b ∷ bytes)) tt

pub skip_constant : (c rest : List ℕ) → Every (λ (b : ℕ). is_constant_byte b ≡ true) c → skip class.Constant (c ++ 39 ∷ rest) ≡ 39 ∷ rest
unfolding skip
skip_constant [] rest h = refl
skip_constant (b ∷ c) rest h = rw h.0 (skip_constant c rest h.1)
