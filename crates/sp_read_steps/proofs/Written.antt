-- The text of a term is read as that term.
use Rattle.std.proofs.Common.{◌≡◌, ℕ, suc, ◌<◌, ◌^◌, Bool, true, false, List, [], ◌∷◌, ◌++◌, length, Some, codes, inl, inr, refl, sym, ap, subst, ◌∙◌, append_assoc, append-nil, length-append, eq-eqb, arith}
use Rattle.std.specs.Prelude.{Option, decimal, ◌||◌, ◌==◌, nat_lt}
use Rattle.std.specs.Str.{bytes_eq}
use Rattle.std.proofs.lemmas.Bool.{eqb-true, lt-ltb}
use Rattle.std.proofs.lemmas.Slice.Eq.{bytes_eq-Decides}
use Rattle.std.proofs.Math.Bool.{and-false, or-true}
use Rattle.sp_spec_text.specs.Bytes as class
use Rattle.sp_spec_text.specs.Lex.{is_first, is_constant_byte, skip, before}
use Rattle.sp_spec.specs.Lists.{Every}
use Rattle.sp_spec.specs.Term.{var, constant, name, app, none, more, Ground, Grounds, count, list_of}
use Rattle.sp_spec.specs.Signature.{Symbol, HasSymbol, pair}
use Rattle.sp_fact.specs.GroundView.{row}
use Rattle.sp_spec_printed.specs.Printed.{is_pair, text_at, row_text, term_text}
use Rattle.sp_spec_text.specs.Names.{IsWord}
use Rattle.sp_spec_printed.specs.StepLines.{HaveNames, IsQuotable, IsWritable, AreWritable}
use Rattle.sp_spec_text.proofs.Numerals.{decimal_are_digits, digits_skipped}
use Rattle.sp_spec_text.proofs.Rests.{before_rest}
use Rattle.sp_spec_printed.proofs.SymbolNames.{symbol_named}
use Rattle.sp_read_steps.specs.Reading.{is_symbol, has_symbol, number_of, ends, is_pair_term, paired_with, chain, tuple, applied, paired, whole, over, opened, quoted_head, of_number, symbol_head, other_head, by_word, head, Reads, read_whole, read_over, read_pair, ReadsRow, last_term, next_term}
use Rattle.sp_read_steps.proofs.Words.{Stops, skip_word, word_before, skip_constant}
use Rattle.sp_read_steps.proofs.Decimals.{number_of_decimal}
use Rattle.sp_read_steps.proofs.Spoken.{alone_text}

-- ---- symbols

pub holds_has : (symbols : List Symbol) (f : List ℕ) (n : ℕ) → HasSymbol symbols f n → has_symbol symbols f n ≡ true
holds_has [] f n m = absurd m.1
holds_has (s ∷ symbols) f n (p, inl e) =
    let named : bytes_eq s.name f ≡ true = (bytes_eq-Decides s.name f).1 (ap (λ (x : Symbol). x.name) e) in
    let long : (s.arity == n) ≡ true = eq-eqb s.arity n (ap (λ (x : Symbol). x.arity) e) in
    rw (named, long) refl
holds_has (s ∷ symbols) f n (p, inr m) = rw (holds_has symbols f n (p, m)) (or-true (is_symbol f n s))

-- ---- what ends a term

-- behind a word
pub stops_ends : (rest : List ℕ) → ends rest ≡ true → Stops rest
unfolding skip
stops_ends [] h = record { no_digit = refl; skipped = refl }
stops_ends (b ∷ rest) h = by_test (b == 44) (b == 41) (b == 62) refl refl refl h
  where
    at : (k : ℕ) → Stops (k ∷ rest) → b ≡ k → Stops (b ∷ rest)
    at k s e = subst (λ (c : ℕ). Stops (c ∷ rest)) (sym e) s

    by_test : (x y z : Bool) → (b == 44) ≡ x → (b == 41) ≡ y → (b == 62) ≡ z → (x || y || z) ≡ true → Stops (b ∷ rest)
    by_test true y z k l m h = at 44 (record { no_digit = refl; skipped = refl }) (eqb-true b 44 k)
    by_test false true z k l m h = at 41 (record { no_digit = refl; skipped = refl }) (eqb-true b 41 l)
    by_test false false true k l m h = at 62 (record { no_digit = refl; skipped = refl }) (eqb-true b 62 m)
    by_test false false false k l m h = absurd (let none : ⊥ = cc in none)

no_bracket : (rest : List ℕ) → ends rest ≡ true → is_first (λ b. b == 40) rest ≡ false
no_bracket [] h = refl
no_bracket (b ∷ rest) h = by_test (b == 44) (b == 41) (b == 62) refl refl refl h
  where
    at : (k : ℕ) → (k == 40) ≡ false → b ≡ k → (b == 40) ≡ false
    at k s e = ap (λ (c : ℕ). c == 40) e ∙ s

    by_test : (x y z : Bool) → (b == 44) ≡ x → (b == 41) ≡ y → (b == 62) ≡ z → (x || y || z) ≡ true → (b == 40) ≡ false
    by_test true y z k l m h = at 44 refl (eqb-true b 44 k)
    by_test false true z k l m h = at 41 refl (eqb-true b 41 l)
    by_test false false true k l m h = at 62 refl (eqb-true b 62 m)
    by_test false false false k l m h = absurd (let none : ⊥ = cc in none)

pub stops_bracket : (rest : List ℕ) → Stops (40 ∷ rest)
unfolding skip
stops_bracket rest = record { no_digit = refl; skipped = refl }

-- ---- heads

head_word : (symbols : List Symbol) (f rest : List ℕ) → IsWord f → Stops rest → head symbols (f ++ rest) ≡ symbol_head symbols f rest
unfolding head
head_word symbols f rest w s = ap (λ (o : Option (List ℕ × List ℕ)). by_word symbols o (other_head (f ++ rest))) (word_before f rest w s)

head_symbol : (symbols : List Symbol) (f rest : List ℕ) → IsWord f → has_symbol symbols f 0 ≡ true → ends rest ≡ true → head symbols (f ++ rest) ≡ whole (app f none) rest
head_symbol symbols f rest w h e = head_word symbols f rest w (stops_ends rest e) ∙ rw (no_bracket rest e, h, e) refl

head_over : (symbols : List Symbol) (f inside : List ℕ) → IsWord f → head symbols (f ++ 40 ∷ inside) ≡ over f inside
head_over symbols f inside w = head_word symbols f (40 ∷ inside) w (stops_bracket inside)

head_opened : (symbols : List Symbol) (inside : List ℕ) → head symbols (60 ∷ inside) ≡ opened inside
unfolding head
head_opened symbols inside = refl

quoted : (c rest : List ℕ) → IsQuotable c → ends rest ≡ true → quoted_head (c ++ 39 ∷ rest) (39 ∷ rest) ≡ whole (constant c) rest
quoted [] rest q e = absurd q
quoted (b ∷ c) rest q e =
    let less : nat_lt (length (39 ∷ rest)) (length (b ∷ c ++ 39 ∷ rest)) ≡ true = lt-ltb _ _ (omega (arith, length-append c (39 ∷ rest))) in
    let word : before (b ∷ c ++ 39 ∷ rest) (39 ∷ rest) ≡ b ∷ c = before_rest (b ∷ c) (39 ∷ rest) in
    rw (less, word, e) refl

every_constant : (c : List ℕ) → IsQuotable c → Every (λ (b : ℕ). is_constant_byte b ≡ true) c
every_constant [] q = absurd q
every_constant (b ∷ c) q = q

head_constant : (symbols : List Symbol) (c rest : List ℕ) → IsQuotable c → ends rest ≡ true → head symbols (39 ∷ (c ++ 39 ∷ rest)) ≡ whole (constant c) rest
unfolding head
head_constant symbols c rest q e = ap (quoted_head (c ++ 39 ∷ rest)) (skip_constant c rest (every_constant c q)) ∙ quoted c rest q e

head_name : (symbols : List Symbol) (n : ℕ) (rest : List ℕ) → 0 < n → n < 2 ^ 128 → ends rest ≡ true → head symbols (126 ∷ 110 ∷ (decimal n ++ rest)) ≡ whole (name n) rest
unfolding head
head_name symbols n rest p h e =
    let s : skip class.Word (decimal n ++ rest) ≡ rest = skip_word (decimal n) rest (digits_skipped (decimal n) (decimal_are_digits n h)) (stops_ends rest e) in
    let w : before (decimal n ++ rest) rest ≡ decimal n = before_rest (decimal n) rest in
    ap (λ (xs : List ℕ). of_number (number_of (before (decimal n ++ rest) xs)) xs) s
    ∙ ap (λ (xs : List ℕ). of_number (number_of xs) rest) w ∙ ap (λ (o : Option ℕ). of_number o rest) (number_of_decimal n p h) ∙ rw e refl

-- ---- terms

pub row_list : (ts : Grounds) → row (list_of ts) ≡ ts
row_list none = refl
row_list (more t ts) = ap (more t) (row_list ts)

pub list_count : (ts : Grounds) → length (list_of ts) ≡ count ts
list_count none = refl
list_count (more t ts) = ap suc (list_count ts)

-- the terms of a pair's row up to its bracket
pub record Spine (symbols : List Symbol) (t : Ground) (rest : List ℕ) : Type 0 where
  pub terms : List Ground
  pub chained : chain terms ≡ Some t
  pub reads : ReadsRow symbols 62 (text_at true t ++ 62 ∷ rest) terms rest

-- a term that is read wherever its text stands
pub record IsRead (symbols : List Symbol) (t : Ground) : Type 0 where
  pub at_end : (rest : List ℕ) → ends rest ≡ true → Reads symbols (term_text t ++ rest) t rest
  pub spine : (rest : List ℕ) → Spine symbols t rest

-- what is no pair
alone : (symbols : List Symbol) (t : Ground) → is_pair_term t ≡ false → ((rest : List ℕ) → ends rest ≡ true → Reads symbols (term_text t ++ rest) t rest) → IsRead symbols t
alone symbols t h r = record {
  at_end = r;
  spine = λ rest. record {
    terms = t ∷ [];
    chained = rw h refl;
    reads = last_term (subst (λ (xs : List ℕ). Reads symbols (xs ++ 62 ∷ rest) t (62 ∷ rest)) (sym (alone_text t h)) (r (62 ∷ rest) refl));
  };
}

read_constant : (symbols : List Symbol) (c rest : List ℕ) → IsQuotable c → ends rest ≡ true → Reads symbols (term_text (constant c) ++ rest) (constant c) rest
read_constant symbols c rest q e =
    subst (λ (xs : List ℕ). Reads symbols (39 ∷ xs) (constant c) rest) (sym (append_assoc c (39 ∷ []) rest)) (read_whole (head_constant symbols c rest q e))

read_name : (symbols : List Symbol) (n : ℕ) (rest : List ℕ) → 0 < n → n < 2 ^ 128 → ends rest ≡ true → Reads symbols (term_text (name n) ++ rest) (name n) rest
read_name symbols n rest p h e = read_whole (head_name symbols n rest p h e)

-- the texts of terms behind a first one, with a comma before each, are read as a row
pub record AreRead (symbols : List Symbol) (ts : Grounds) : Type 0 where
  pub in_row : (t : Ground) → IsRead symbols t → (rest : List ℕ) → ReadsRow symbols 41 (text_at false t ++ (row_text false ts ++ 41 ∷ rest)) (t ∷ list_of ts) rest

none_read : (symbols : List Symbol) → AreRead symbols none
none_read symbols = record { in_row = λ t r rest. last_term (r.at_end (41 ∷ rest) refl) }

more_read : (symbols : List Symbol) (u : Ground) (us : Grounds) → IsRead symbols u → AreRead symbols us → AreRead symbols (more u us)
more_read symbols u us o k = record {
  in_row = λ t r rest.
      let e : text_at false u ++ (row_text false us ++ 41 ∷ rest) ≡ (text_at false u ++ row_text false us) ++ 41 ∷ rest = sym (append_assoc (text_at false u) (row_text false us) (41 ∷ rest)) in
      next_term (r.at_end (44 ∷ 32 ∷ ((text_at false u ++ row_text false us) ++ 41 ∷ rest)) refl)
      (subst (λ (xs : List ℕ). ReadsRow symbols 41 xs (u ∷ list_of us) rest) e (k.in_row u o rest));
}

-- a symbol over terms that isn't a pair
read_applied : (symbols : List Symbol) (f : List ℕ) (t : Ground) (ts : Grounds) → IsWord f → has_symbol symbols f (suc (count ts)) ≡ true → is_pair f (more t ts) ≡ false → IsRead symbols t → AreRead symbols ts → IsRead symbols (app f (more t ts))
read_applied symbols f t ts w h n o k = alone symbols (app f (more t ts)) n (λ rest e.
    let inside = text_at false t ++ (row_text false ts ++ 41 ∷ rest) in
    let one : term_text (app f (more t ts)) ≡ f ++ 40 ∷ (text_at false t ++ (row_text false ts ++ 41 ∷ [])) = rw n refl in
    let text : term_text (app f (more t ts)) ++ rest ≡ f ++ 40 ∷ inside =
    ap (λ (xs : List ℕ). xs ++ rest) one ∙ append_assoc f (40 ∷ (text_at false t ++ (row_text false ts ++ 41 ∷ []))) rest
    ∙ ap (λ (xs : List ℕ). f ++ 40 ∷ xs) (append_assoc (text_at false t) (row_text false ts ++ 41 ∷ []) rest ∙ ap (λ (xs : List ℕ). text_at false t ++ xs) (append_assoc (row_text false ts) (41 ∷ []) rest)) in
    let rows : row (t ∷ list_of ts) ≡ more t ts = ap (more t) (row_list ts) in
    let has : has_symbol symbols f (length (t ∷ list_of ts)) ≡ true = ap (λ (m : ℕ). has_symbol symbols f (suc m)) (list_count ts) ∙ h in
    let is : applied symbols f (t ∷ list_of ts) rest ≡ Some (app f (more t ts)) = rw (has, rows, n, e) refl in
    subst (λ (xs : List ℕ). Reads symbols xs (app f (more t ts)) rest) (sym text) (read_over (head_over symbols f inside w) (k.in_row t o rest) is))

read_alone : (symbols : List Symbol) (f : List ℕ) → IsWord f → has_symbol symbols f 0 ≡ true → IsRead symbols (app f none)
read_alone symbols f w h = alone symbols (app f none) (and-false (bytes_eq f (codes "pair"))) (λ rest e. read_whole (head_symbol symbols f rest w h e))

chain_more : (t u : Ground) (us : List Ground) → chain us ≡ Some u → (chain (t ∷ us) ≡ Some (pair t u)) × (tuple (t ∷ us) ≡ Some (pair t u))
chain_more t u [] h = absurd (let none : ⊥ = cc in none)
chain_more t u (w ∷ us) h = let e : paired_with t (chain (w ∷ us)) ≡ Some (pair t u) = ap (paired_with t) h in (e, e)

read_pairs : (symbols : List Symbol) (t u : Ground) → has_symbol symbols (codes "pair") 2 ≡ true → IsRead symbols t → IsRead symbols u → IsRead symbols (pair t u)
read_pairs symbols t u h o k = record {
  at_end = λ rest e.
      let s = k.spine rest in
      let inside = text_at false t ++ 44 ∷ 32 ∷ (text_at true u ++ 62 ∷ rest) in
      let row_reads : ReadsRow symbols 62 inside (t ∷ s.terms) rest = next_term (o.at_end (44 ∷ 32 ∷ (text_at true u ++ 62 ∷ rest)) refl) s.reads in
      let is : paired symbols (t ∷ s.terms) rest ≡ Some (pair t u) = rw (h, e) ((chain_more t u s.terms s.chained).1) in
      let text : term_text (pair t u) ++ rest ≡ 60 ∷ inside =
      ap (λ (xs : List ℕ). 60 ∷ xs) (append_assoc (text_at false t) (44 ∷ 32 ∷ (text_at true u ++ []) ++ 62 ∷ []) rest
      ∙ ap (λ (xs : List ℕ). text_at false t ++ 44 ∷ 32 ∷ xs) (append_assoc (text_at true u ++ []) (62 ∷ []) rest ∙ ap (λ (xs : List ℕ). xs ++ 62 ∷ rest) (append-nil (text_at true u)))) in
      subst (λ (xs : List ℕ). Reads symbols xs (pair t u) rest) (sym text) (read_pair (head_opened symbols inside) row_reads is);
  spine = λ rest.
      let s = k.spine rest in
      let text : text_at true (pair t u) ++ 62 ∷ rest ≡ text_at false t ++ 44 ∷ 32 ∷ (text_at true u ++ 62 ∷ rest) =
      append_assoc (text_at false t) (44 ∷ 32 ∷ (text_at true u ++ [])) (62 ∷ rest)
      ∙ ap (λ (xs : List ℕ). text_at false t ++ 44 ∷ 32 ∷ (xs ++ 62 ∷ rest)) (append-nil (text_at true u)) in
      record {
        terms = t ∷ s.terms;
        chained = (chain_more t u s.terms s.chained).0;
        reads = subst (λ (xs : List ℕ). ReadsRow symbols 62 xs (t ∷ s.terms) rest) (sym text) (next_term (o.at_end (44 ∷ 32 ∷ (text_at true u ++ 62 ∷ rest)) refl) s.reads);
      };
}

-- a symbol over two terms
read_two : (symbols : List Symbol) (f : List ℕ) (t u : Ground) → IsWord f → has_symbol symbols f 2 ≡ true → IsRead symbols t → IsRead symbols u → IsRead symbols (app f (more t (more u none)))
read_two symbols f t u w h o k = by_test (bytes_eq f (codes "pair")) refl
  where
    by_test : (x : Bool) → bytes_eq f (codes "pair") ≡ x → IsRead symbols (app f (more t (more u none)))
    by_test true e =
        let is : f ≡ codes "pair" = (bytes_eq-Decides f (codes "pair")).0 e in
        subst (λ (g : List ℕ). IsRead symbols (app g (more t (more u none)))) (sym is) (read_pairs symbols t u (ap (λ (g : List ℕ). has_symbol symbols g 2) (sym is) ∙ h) o k)
    by_test false e = read_applied symbols f t (more u none) w h (rw e refl) o (more_read symbols u none k (none_read symbols))

mutual
  pub is_read : (symbols : List Symbol) → HaveNames symbols → (t : Ground) → IsWritable symbols t → IsRead symbols t
  is_read symbols s (var x) w = absurd w
  is_read symbols s (constant c) w = alone symbols (constant c) refl (λ rest e. read_constant symbols c rest w e)
  is_read symbols s (name n) w = alone symbols (name n) refl (λ rest e. read_name symbols n rest w.0 w.1 e)
  is_read symbols s (app f none) w = read_alone symbols f (symbol_named symbols f 0 s w.0) (holds_has symbols f 0 w.0)
  is_read symbols s (app f (more t none)) w =
      read_applied symbols f t none (symbol_named symbols f 1 s w.0) (holds_has symbols f 1 w.0) (and-false (bytes_eq f (codes "pair"))) (is_read symbols s t w.1.0) (none_read symbols)
  is_read symbols s (app f (more t (more u none))) w =
      read_two symbols f t u (symbol_named symbols f 2 s w.0) (holds_has symbols f 2 w.0) (is_read symbols s t w.1.0) (is_read symbols s u w.1.1.0)
  is_read symbols s (app f (more t (more u (more v ts)))) w =
      let n = suc (suc (suc (count ts))) in
      read_applied symbols f t (more u (more v ts)) (symbol_named symbols f n s w.0) (holds_has symbols f n w.0) (and-false (bytes_eq f (codes "pair"))) (is_read symbols s t w.1.0)
      (more_read symbols u (more v ts) (is_read symbols s u w.1.1.0) (more_read symbols v ts (is_read symbols s v w.1.1.1.0) (are_read symbols s ts w.1.1.1.1)))

  pub are_read : (symbols : List Symbol) → HaveNames symbols → (ts : Grounds) → AreWritable symbols ts → AreRead symbols ts
  are_read symbols s none w = none_read symbols
  are_read symbols s (more t ts) w = more_read symbols t ts (is_read symbols s t w.0) (are_read symbols s ts w.1)
