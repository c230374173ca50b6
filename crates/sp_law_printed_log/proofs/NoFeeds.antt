-- The texts of words, quoted names, numbers, terms and actions have no line feed, so a line is cut off behind them.
use Rattle.std.proofs.Common.{◌≡◌, ℕ, zero, suc, ◌/◌, ◌%◌, ◌<◌, Bool, true, false, cond, List, [], ◌∷◌, ◌++◌, codes, refl, sym, ap, ◌∙◌, true≢false, arith}
use Rattle.std.specs.Prelude.{decimal, ◌==◌, ◌||◌}
use Rattle.std.specs.Fmt.{digit_glyph, digits_onto, digits}
use Rattle.std.proofs.lemmas.Bool.{eqb-true, or_parts}
use Rattle.std.proofs.lemmas.Bool.Decides.{nat_tests}
use Rattle.std.proofs.Math.Nat.{mod-lt}
use Rattle.sp_spec_text.specs.Bytes as class
use Rattle.sp_spec_text.specs.Lex.{is_blank, is_constant_byte, is_in, skip}
use Rattle.sp_spec.specs.Lists.{Every}
use Rattle.sp_spec.proofs.Lists.{every_weaken, every_append}
use Rattle.sp_spec.specs.Term.{var, constant, name, app, none, more, Ground, Grounds, count, AllMadeOf}
use Rattle.sp_spec.specs.Signature.{Symbol, IsOver, AreOver}
use Rattle.sp_spec.specs.Rule.{Action}
use Rattle.sp_spec_printed.specs.Printed.{is_pair, text_at, row_text, term_text, arguments_text, action_text}
use Rattle.sp_spec_text.specs.Names.{IsWord}
use Rattle.sp_spec_printed.specs.StepLines.{IsQuotable, HaveNames}
use Rattle.sp_spec_text.specs.Blanks.{onto_first, lines}
use Rattle.sp_spec_printed.proofs.SymbolNames.{symbol_named}
use Rattle.sp_law_printed_log.specs.Shown.{shown_names, no_variable, HasNames, IsShownAction}

abbrev pub NoFeed : List ℕ → Type 0
NoFeed bytes = Every (λ (b : ℕ). (b == 10) ≡ false) bytes

abbrev pub NoBlank : List ℕ → Type 0
NoBlank bytes = Every (λ (b : ℕ). is_blank b ≡ false) bytes

-- ---- lines

pub line_cut : (line behind : List ℕ) → NoFeed line → lines (line ++ 10 ∷ behind) ≡ line ∷ lines behind
unfolding lines
line_cut [] behind h = refl
line_cut (b ∷ line) behind h =
    ap (λ (t : Bool). cond t ([] ∷ lines (line ++ 10 ∷ behind)) (onto_first b (lines (line ++ 10 ∷ behind)))) h.0 ∙ ap (onto_first b) (line_cut line behind h.1)

-- ---- bytes that are known

abbrev has_feed : List ℕ → Bool
has_feed [] = false
has_feed (b ∷ bytes) = b == 10 || has_feed bytes

-- so that this is seen of words that are written out
pub no_feed_in : (bytes : List ℕ) → has_feed bytes ≡ false → NoFeed bytes
no_feed_in [] h = tt
no_feed_in (b ∷ bytes) h = let p = or_parts (b == 10) (has_feed bytes) h in (p.0, no_feed_in bytes p.1)

pub no_feed_append : (xs ys : List ℕ) → NoFeed xs → NoFeed ys → NoFeed (xs ++ ys)
no_feed_append xs ys h k = every_append (λ (b : ℕ). (b == 10) ≡ false) xs ys h k

-- ---- words

no_blank_in_word : (b : ℕ) (rest : List ℕ) → is_in class.Word b rest ≡ true → is_blank b ≡ false
no_blank_in_word b rest h = by_test (b == 32) (b == 9) (b == 10) (b == 13) refl refl refl refl
  where
    at : (k : ℕ) → is_in class.Word k rest ≡ false → b ≡ k → ⊥
    at k s e = true≢false (sym h ∙ ap (λ (c : ℕ). is_in class.Word c rest) e ∙ s)

    by_test : (x y z w : Bool) → (b == 32) ≡ x → (b == 9) ≡ y → (b == 10) ≡ z → (b == 13) ≡ w → (x || y || z || w) ≡ false
    by_test true y z w k l m n = absurd (at 32 refl (eqb-true b 32 k))
    by_test false true z w k l m n = absurd (at 9 refl (eqb-true b 9 l))
    by_test false false true w k l m n = absurd (at 10 refl (eqb-true b 10 m))
    by_test false false false true k l m n = absurd (at 13 refl (eqb-true b 13 n))
    by_test false false false false k l m n = refl

no_blank_skipped : (bytes : List ℕ) → skip class.Word bytes ≡ [] → NoBlank bytes
unfolding skip
no_blank_skipped [] h = tt
no_blank_skipped (b ∷ bytes) h = by_test (is_in class.Word b bytes) refl h (λ k. no_blank_skipped bytes k)
  where
    by_test : (t : Bool) → is_in class.Word b bytes ≡ t → cond t (skip class.Word bytes) (b ∷ bytes) ≡ [] → (skip class.Word bytes ≡ [] → NoBlank bytes) → NoBlank (b ∷ bytes)
    by_test true e k f = (no_blank_in_word b bytes e, f k)
    by_test false e k f = absurd (let none : ⊥ = cc in none)

pub word_no_blank : (w : List ℕ) → IsWord w → NoBlank w
word_no_blank [] h = absurd h
word_no_blank (b ∷ w) h =
    let is : is_in class.Word b w ≡ true = rw h.0 refl in
    (no_blank_in_word b w is, no_blank_skipped w h.1)

pub no_feed_byte : (b : ℕ) → is_blank b ≡ false → (b == 10) ≡ false
no_feed_byte b h = by_test (b == 10) refl
  where
    by_test : (t : Bool) → (b == 10) ≡ t → t ≡ false
    by_test true e = absurd (true≢false (ap is_blank (sym (eqb-true b 10 e)) ∙ h))
    by_test false e = refl

pub without_blank : (bytes : List ℕ) → NoBlank bytes → NoFeed bytes
without_blank bytes h = every_weaken (λ (b : ℕ). is_blank b ≡ false) (λ (b : ℕ). (b == 10) ≡ false) no_feed_byte bytes h

pub no_feed_word : (w : List ℕ) → IsWord w → NoFeed w
no_feed_word w h = without_blank w (word_no_blank w h)

-- ---- names in quotes, and numbers

no_feed_constant : (b : ℕ) → is_constant_byte b ≡ true → (b == 10) ≡ false
no_feed_constant b h = by_test (b == 10) refl
  where
    by_test : (t : Bool) → (b == 10) ≡ t → t ≡ false
    by_test true e = absurd (true≢false (sym h ∙ ap is_constant_byte (eqb-true b 10 e)))
    by_test false e = refl

pub no_feed_quotable : (c : List ℕ) → IsQuotable c → NoFeed c
no_feed_quotable [] h = absurd h
no_feed_quotable (b ∷ c) h = every_weaken (λ (d : ℕ). is_constant_byte d ≡ true) (λ (d : ℕ). (d == 10) ≡ false) no_feed_constant (b ∷ c) h

glyph_no_blank : (d : ℕ) → d < 10 → is_blank (digit_glyph false d) ≡ false
glyph_no_blank d h = grind (arith, nat_tests)

no_blank_onto : (k n : ℕ) (acc : List ℕ) → NoBlank acc → NoBlank (digits_onto k 10 false n acc)
no_blank_onto zero n acc h = h
no_blank_onto (suc k) n acc h =
    let glyph = digit_glyph false (n % 10) in
    let more : NoBlank (glyph ∷ acc) = (glyph_no_blank (n % 10) (mod-lt n (omega arith)), h) in
    by_last (n / 10 == 0) (glyph ∷ acc) (digits_onto k 10 false (n / 10) (glyph ∷ acc)) more (no_blank_onto k (n / 10) (glyph ∷ acc) more)
  where
    by_last : (b : Bool) (xs ys : List ℕ) → NoBlank xs → NoBlank ys → NoBlank (cond b xs ys)
    by_last true xs ys h k = h
    by_last false xs ys h k = k

pub decimal_no_blank : (n : ℕ) → NoBlank (decimal n)
unfolding digits
decimal_no_blank n = no_blank_onto 64 n [] tt

-- ---- terms and actions

-- a symbol over terms, a pair alone or at the end of a row, or none
no_feed_over : (is_two at_end : Bool) (f first in_pair in_row : List ℕ) → NoFeed f → NoFeed first → NoFeed in_pair → NoFeed in_row
    → NoFeed (cond is_two (cond at_end (first ++ in_pair) (codes "<" ++ (first ++ (in_pair ++ codes ">")))) (f ++ (codes "(" ++ (first ++ (in_row ++ codes ")")))))
no_feed_over true true f first in_pair in_row h k l m = no_feed_append first in_pair k l
no_feed_over true false f first in_pair in_row h k l m = (refl, no_feed_append first (in_pair ++ codes ">") k (no_feed_append in_pair (codes ">") l (refl, tt)))
no_feed_over false at_end f first in_pair in_row h k l m =
    no_feed_append f (codes "(" ++ (first ++ (in_row ++ codes ")"))) h (refl, no_feed_append first (in_row ++ codes ")") k (no_feed_append in_row (codes ")") m (refl, tt)))

mutual
  pub no_feed_at : (symbols : List Symbol) → HaveNames symbols → (ends : Bool) (t : Ground) → IsOver symbols t → HasNames shown_names t → NoFeed (text_at ends t)
  no_feed_at symbols s ends (var x) o n = absurd o
  no_feed_at symbols s ends (constant c) o n = (refl, no_feed_append c (codes "'") (no_feed_quotable c n) (refl, tt))
  no_feed_at symbols s ends (name k) o n = (refl, (refl, without_blank (decimal k) (decimal_no_blank k)))
  no_feed_at symbols s ends (app f none) o n = no_feed_word f (symbol_named symbols f 0 s o.0)
  no_feed_at symbols s ends (app f (more t ts)) o n =
      no_feed_over (is_pair f (more t ts)) ends f (text_at false t) (row_text true ts) (row_text false ts) (no_feed_word f (symbol_named symbols f (suc (count ts)) s o.0))
      (no_feed_at symbols s false t o.1.0 n.0) (no_feed_row symbols s true ts o.1.1 n.1) (no_feed_row symbols s false ts o.1.1 n.1)

  pub no_feed_row : (symbols : List Symbol) → HaveNames symbols → (in_pair : Bool) (ts : Grounds) → AreOver symbols ts → AllMadeOf shown_names no_variable ts → NoFeed (row_text in_pair ts)
  no_feed_row symbols s in_pair none o n = tt
  no_feed_row symbols s in_pair (more t ts) o n =
      (refl, (refl, no_feed_append (text_at in_pair t) (row_text in_pair ts) (no_feed_at symbols s in_pair t o.0 n.0) (no_feed_row symbols s in_pair ts o.1 n.1)))

pub no_feed_term : (symbols : List Symbol) → HaveNames symbols → (t : Ground) → IsOver symbols t → HasNames shown_names t → NoFeed (term_text t)
no_feed_term symbols s t o n = no_feed_at symbols s false t o n

no_feed_arguments : (symbols : List Symbol) → HaveNames symbols → (ts : Grounds) → AreOver symbols ts → AllMadeOf shown_names no_variable ts → NoFeed (arguments_text ts)
no_feed_arguments symbols s none o n = tt
no_feed_arguments symbols s (more t ts) o n = no_feed_append (term_text t) (row_text false ts) (no_feed_term symbols s t o.0 n.0) (no_feed_row symbols s false ts o.1 n.1)

pub action_no_feed : (symbols : List Symbol) → HaveNames symbols → (a : Action ⊥) → IsShownAction symbols a → NoFeed (action_text a)
action_no_feed symbols s a h =
    no_feed_append a.symbol (codes "(" ++ (arguments_text a.args ++ codes ")")) (no_feed_word a.symbol h.0.1)
    (refl, no_feed_append (arguments_text a.args) (codes ")") (no_feed_arguments symbols s a.args h.1 h.2) (refl, tt))
