-- What stands first where a term begins so.
use Rattle.std.proofs.Common.{◌≡◌, ℕ, ◌<◌, ◌≤◌, Bool, true, false, cond, List, [], ◌∷◌, ◌++◌, length, drop, Some, None, inl, inr, refl, sym, ap, subst, ◌∙◌, append_assoc, length-append, arith}
use Rattle.std.specs.Prelude.{Option, ◌&&◌, ◌||◌, ◌==◌, nat_lt}
use Rattle.std.specs.Str.{bytes_eq}
use Rattle.std.proofs.lemmas.Bool.{eqb-true, and_parts, ltb-true}
use Rattle.std.proofs.lemmas.Slice.Eq.{bytes_eq-Decides}
use Rattle.sp_spec_text.specs.Bytes as class
use Rattle.sp_spec_text.specs.Lex.{is_first, is_constant_byte, skip, before}
use Rattle.sp_spec.specs.Lists.{Every}
use Rattle.sp_spec.specs.Term.{constant, name, app, none, Ground}
use Rattle.sp_spec.specs.Signature.{Symbol, HasSymbol}
use Rattle.sp_spec_printed.specs.Printed.{term_text}
use Rattle.sp_spec_printed.specs.StepLines.{IsQuotable, IsWritable}
use Rattle.sp_read_steps.specs.Reading.{word_at, is_symbol, has_symbol, number_of, Head, whole, over, opened, nothing, ends, ended, quoted_head, of_number, numbered_head, symbol_head, other_head, by_word, head, Reads, read_whole, read_over, read_pair, ReadsRow, last_term, next_term, ReadsGiven, read_given}
use Rattle.sp_read_steps.proofs.Words.{before_parts, word_parts, named_parts, all_constant}
use Rattle.sp_read_steps.proofs.Decimals.{number_is}

-- a term's text and this behind it
pub record TextAt (symbols : List Symbol) (bytes : List ℕ) (t : Ground) (rest : List ℕ) : Type 0 where
  pub parts : bytes ≡ term_text t ++ rest
  pub writable : IsWritable symbols t
  pub ended_by : ends rest ≡ true

abbrev pub HeadText : List Symbol → List ℕ → Head → Type 0
HeadText symbols bytes (whole t rest) = TextAt symbols bytes t rest
HeadText symbols bytes (over f inside) = bytes ≡ f ++ 40 ∷ inside
HeadText symbols bytes (opened inside) = bytes ≡ 60 ∷ inside
HeadText symbols bytes nothing = Unit {0}

pub has_holds : (symbols : List Symbol) (f : List ℕ) (n : ℕ) → has_symbol symbols f n ≡ true → HasSymbol symbols f n
has_holds [] f n h = absurd (let none : ⊥ = cc in none)
has_holds (s ∷ symbols) f n h = by_test (is_symbol f n s) refl h (λ k. has_holds symbols f n k)
  where
    by_test : (t : Bool) → is_symbol f n s ≡ t → (t || has_symbol symbols f n) ≡ true → (has_symbol symbols f n ≡ true → HasSymbol symbols f n) → HasSymbol (s ∷ symbols) f n
    by_test true e k r =
        let named : s.name ≡ f = (bytes_eq-Decides s.name f).0 (and_parts (bytes_eq s.name f) (s.arity == n) e).0 in
        let long : s.arity ≡ n = eqb-true s.arity n (and_parts (bytes_eq s.name f) (s.arity == n) e).1 in
        let is : s ≡ record { name = f; arity = n; private = s.private } =
        ap (λ (w : List ℕ). let x : Symbol = record { name = w; arity = s.arity; private = s.private } in x) named ∙ ap (λ (m : ℕ). let x : Symbol = record { name = f; arity = m; private = s.private } in x) long in
        (s.private, inl is)
    by_test false e k r = let h = r k in (h.0, inr h.1)

ended_text : (symbols : List Symbol) (bytes : List ℕ) (t : Ground) (rest : List ℕ) → bytes ≡ term_text t ++ rest → IsWritable symbols t → HeadText symbols bytes (ended t rest)
ended_text symbols bytes t rest e w = by_test (ends rest) refl
  where
    by_test : (x : Bool) → ends rest ≡ x → HeadText symbols bytes (cond x (whole t rest) nothing)
    by_test true k = record { parts = e; writable = w; ended_by = k }
    by_test false k = tt

quotable : (c : List ℕ) → 0 < length c → Every (λ (b : ℕ). is_constant_byte b ≡ true) c → IsQuotable c
quotable [] l h = absurd (let none : ⊥ = omega arith in none)
quotable (b ∷ c) l h = h

first_is : (k : ℕ) (rest : List ℕ) → is_first (λ b. b == k) rest ≡ true → rest ≡ k ∷ drop 1 rest
first_is k [] h = absurd (let none : ⊥ = cc in none)
first_is k (b ∷ rest) h = ap (λ (c : ℕ). c ∷ rest) (eqb-true b k h)

quoted_text : (symbols : List Symbol) (bytes body : List ℕ) → bytes ≡ 39 ∷ body → HeadText symbols bytes (quoted_head body (skip class.Constant body))
quoted_text symbols bytes body e = by_test (nat_lt (length (skip class.Constant body)) (length body) && is_first (λ b. b == 39) (skip class.Constant body)) refl
  where
    by_test : (x : Bool) → (nat_lt (length (skip class.Constant body)) (length body) && is_first (λ b. b == 39) (skip class.Constant body)) ≡ x
        → HeadText symbols bytes (cond x (ended (constant (before body (skip class.Constant body))) (drop 1 (skip class.Constant body))) nothing)
    by_test true k =
        let rest = skip class.Constant body in
        let c = before body rest in
        let shorter : length rest < length body = ltb-true (length rest) (length body) (and_parts (nat_lt (length rest) (length body)) (is_first (λ b. b == 39) rest) k).0 in
        let quote : rest ≡ 39 ∷ drop 1 rest = first_is 39 rest (and_parts (nat_lt (length rest) (length body)) (is_first (λ b. b == 39) rest) k).1 in
        let all : body ≡ c ++ rest = before_parts class.Constant body in
        let some : 0 < length c = omega (arith, ap length all, length-append c rest) in
        let text : bytes ≡ term_text (constant c) ++ drop 1 rest =
        e ∙ ap (λ (xs : List ℕ). 39 ∷ xs) (all ∙ ap (λ (xs : List ℕ). c ++ xs) quote ∙ sym (append_assoc c (39 ∷ []) (drop 1 rest))) in
        ended_text symbols bytes (constant c) (drop 1 rest) text (quotable c some (all_constant body))
    by_test false k = tt

number_text : (symbols : List Symbol) (bytes ds rest : List ℕ) → bytes ≡ 126 ∷ 110 ∷ (ds ++ rest) → HeadText symbols bytes (of_number (number_of ds) rest)
number_text symbols bytes ds rest e = by_case (number_of ds) refl
  where
    by_case : (o : Option ℕ) → number_of ds ≡ o → HeadText symbols bytes (of_number o rest)
    by_case None k = tt
    by_case (Some n) k =
        let i = number_is ds n k in
        ended_text symbols bytes (name n) rest (e ∙ ap (λ (xs : List ℕ). 126 ∷ 110 ∷ (xs ++ rest)) i.digits) (i.positive, i.small)

numbered_text : (symbols : List Symbol) (bytes body : List ℕ) → bytes ≡ 126 ∷ body → HeadText symbols bytes (numbered_head body)
numbered_text symbols bytes [] e = tt
numbered_text symbols bytes (b ∷ body) e = by_test (b == 110) refl
  where
    by_test : (x : Bool) → (b == 110) ≡ x → HeadText symbols bytes (cond x (of_number (number_of (before body (skip class.Word body))) (skip class.Word body)) nothing)
    by_test true k =
        let is : b ≡ 110 = eqb-true b 110 k in
        number_text symbols bytes (before body (skip class.Word body)) (skip class.Word body)
        (e ∙ ap (λ (c : ℕ). 126 ∷ c ∷ body) is ∙ ap (λ (xs : List ℕ). 126 ∷ 110 ∷ xs) (before_parts class.Word body))
    by_test false k = tt

symbol_text : (symbols : List Symbol) (bytes f rest : List ℕ) → bytes ≡ f ++ rest → HeadText symbols bytes (symbol_head symbols f rest)
symbol_text symbols bytes f rest e = by_test (is_first (λ b. b == 40) rest) (has_symbol symbols f 0) refl refl
  where
    by_test : (x y : Bool) → is_first (λ b. b == 40) rest ≡ x → has_symbol symbols f 0 ≡ y → HeadText symbols bytes (cond x (over f (drop 1 rest)) (cond y (ended (app f none) rest) nothing))
    by_test true y k l = e ∙ ap (λ (xs : List ℕ). f ++ xs) (first_is 40 rest k)
    by_test false true k l = ended_text symbols bytes (app f none) rest e (has_holds symbols f 0 l, tt)
    by_test false false k l = tt

other_text : (symbols : List Symbol) (bytes : List ℕ) → HeadText symbols bytes (other_head bytes)
other_text symbols [] = tt
other_text symbols (b ∷ bytes) = by_test (b == 39) (b == 126) (b == 60) refl refl refl
  where
    by_test : (x y z : Bool) → (b == 39) ≡ x → (b == 126) ≡ y → (b == 60) ≡ z
        → HeadText symbols (b ∷ bytes) (cond x (quoted_head bytes (skip class.Constant bytes)) (cond y (numbered_head bytes) (cond z (opened bytes) nothing)))
    by_test true y z k l m = quoted_text symbols (b ∷ bytes) bytes (ap (λ (c : ℕ). c ∷ bytes) (eqb-true b 39 k))
    by_test false true z k l m = numbered_text symbols (b ∷ bytes) bytes (ap (λ (c : ℕ). c ∷ bytes) (eqb-true b 126 l))
    by_test false false true k l m = ap (λ (c : ℕ). c ∷ bytes) (eqb-true b 60 m)
    by_test false false false k l m = tt

head_text : (symbols : List Symbol) (bytes : List ℕ) → HeadText symbols bytes (head symbols bytes)
unfolding head
head_text symbols bytes = by_case (word_at bytes) refl
  where
    by_case : (o : Option (List ℕ × List ℕ)) → word_at bytes ≡ o → HeadText symbols bytes (by_word symbols o (other_head bytes))
    by_case None e = other_text symbols bytes
    by_case (Some w) e = symbol_text symbols bytes w.0 w.1 (word_parts bytes w.0 w.1 e)

pub text_of_head : (symbols : List Symbol) (bytes : List ℕ) (h : Head) → head symbols bytes ≡ h → HeadText symbols bytes h
text_of_head symbols bytes h e = subst (λ (h : Head). HeadText symbols bytes h) e (head_text symbols bytes)

pub over_shorter : (symbols : List Symbol) (bytes f inside : List ℕ) → head symbols bytes ≡ over f inside → length inside < length bytes
over_shorter symbols bytes f inside e = let p : bytes ≡ f ++ 40 ∷ inside = text_of_head symbols bytes (over f inside) e in omega (arith, ap length p, length-append f (40 ∷ inside))

pub opened_shorter : (symbols : List Symbol) (bytes inside : List ℕ) → head symbols bytes ≡ opened inside → length inside < length bytes
opened_shorter symbols bytes inside e = let p : bytes ≡ 60 ∷ inside = text_of_head symbols bytes (opened inside) e in omega (arith, ap length p)

pub whole_shorter : (symbols : List Symbol) (bytes rest : List ℕ) (t : Ground) → head symbols bytes ≡ whole t rest → length rest ≤ length bytes
whole_shorter symbols bytes rest t e = let p : TextAt symbols bytes t rest = text_of_head symbols bytes (whole t rest) e in omega (arith, ap length p.parts, length-append (term_text t) rest)

mutual
  pub reads_shorter : (symbols : List Symbol) {bytes rest : List ℕ} {t : Ground} → Reads symbols bytes t rest → length rest ≤ length bytes
  reads_shorter symbols (read_whole {bytes} {rest} {t} e) = whole_shorter symbols bytes rest t e
  reads_shorter symbols (read_over {bytes} {inside} {f = f} e k a) = let one = over_shorter symbols bytes f inside e in let two = row_shorter symbols k in omega arith
  reads_shorter symbols (read_pair {bytes} {inside} e k a) = let one = opened_shorter symbols bytes inside e in let two = row_shorter symbols k in omega arith

  pub row_shorter : (symbols : List Symbol) {close : ℕ} {bytes rest : List ℕ} {ts : List Ground} → ReadsRow symbols close bytes ts rest → length rest < length bytes
  row_shorter symbols (last_term k) = let one = reads_shorter symbols k in omega arith
  row_shorter symbols (next_term k l) = let one = reads_shorter symbols k in let two = row_shorter symbols l in omega arith

pub given_shorter : (symbols : List Symbol) {bytes rest : List ℕ} {g : List ℕ × Ground} → ReadsGiven symbols bytes g rest → length rest < length bytes
given_shorter symbols (read_given {bytes} {x} {mid} {rest} n k) =
    let e : bytes ≡ x ++ 32 ∷ 61 ∷ 32 ∷ mid = named_parts bytes x (32 ∷ 61 ∷ 32 ∷ mid) n in
    let one = reads_shorter symbols k in
    omega (arith, ap length e, length-append x (32 ∷ 61 ∷ 32 ∷ mid))
