-- The closing quote of a lemma, the word `end`, and a line feed.
use Rattle.std.proofs.Common.{◌≡◌, ℕ, ◌-◌, Bool, true, false, cond, List, [], ◌∷◌, ◌++◌, length, drop, codes, Option, Some, None, refl, sym, ap, subst, ◌∙◌, arith}
use Rattle.std.specs.Prelude.{◌&&◌, ◌||◌, ◌==◌, nat_lt}
use Rattle.std.specs.Char.{is_ascii_alphanumeric}
use Rattle.std.proofs.lemmas.Bool.{eqb-true}
use Rattle.sp_spec_text.specs.Bytes.{Class, NoConstant, Neither}
use Rattle.sp_spec_text.specs.Bytes as class
use Rattle.sp_spec_text.specs.Signs.{Sign, Wide}
use Rattle.sp_spec_text.specs.Signs as s
use Rattle.sp_spec_text.specs.Token.{Lexeme, word, constant, sign, wide, block, Token}
use Rattle.sp_spec_text.specs.Lex.{is_in, is_first, skip, begins, before, nothing, past, gap, Skips, no_gap, gap_then, token, no_token, close_constant, short_sign, short_piece, first_sign, long_sign, long_piece, first_long, first_wide, after_block, close_block, piece, bracket, as_it_is, AreTokens, no_more, last, next}
use Rattle.sp_skel.proofs.Blanks.{Lexes}
use Rattle.sp_spec_text.proofs.Rests.{before_rest}
use Rattle.sp_law_reread.proofs.Ends.{skip_ends, ends_more}
use Rattle.sp_law_reread.proofs.Local.{Firm, IsOpen}
use Rattle.sp_law_reread.proofs.Reached.{lexes_read}

-- ---- bytes that stand firm

quote_same : (k : Class) (r q : List ℕ) → is_in k 34 r ≡ is_in k 34 q
quote_same class.Constant r q = refl
quote_same class.Line r q = refl
quote_same class.Word r q = refl

letter_same : (k : Class) (r q : List ℕ) → is_in k 101 r ≡ is_in k 101 q
letter_same class.Constant r q = refl
letter_same class.Line r q = refl
letter_same class.Word r q = refl

pub quote_begins : (r : List ℕ) → gap (34 ∷ r) ≡ nothing
unfolding gap
quote_begins r = refl

pub letter_begins : (r : List ℕ) → gap (101 ∷ r) ≡ nothing
unfolding gap
letter_begins r = refl

no_quote_bracket : (quoted : Bool) → bracket quoted 34 ≡ Neither
no_quote_bracket true = refl
no_quote_bracket false = refl

no_letter_bracket : (quoted : Bool) → bracket quoted 101 ≡ Neither
no_letter_bracket true = refl
no_letter_bracket false = refl

pub quote_firm : Firm 34
quote_firm = record { same = quote_same; no_gap_here = quote_begins; no_dash = refl; no_equals = refl; no_bracket = no_quote_bracket }

pub letter_firm : Firm 101
letter_firm = record { same = letter_same; no_gap_here = letter_begins; no_dash = refl; no_equals = refl; no_bracket = no_letter_bracket }

-- ---- what closes no constant

pub feed_open : (rest : List ℕ) → IsOpen (10 ∷ rest)
unfolding skip
feed_open rest = refl

pub end_open : (rest : List ℕ) → IsOpen (codes "nd" ++ 10 ∷ rest)
unfolding skip
end_open rest = refl

-- ---- the closing quote

otherwise : {A : Type 0} {x y a : A} (t : Bool) → (x ≡ a → ⊥) → cond t x y ≡ a → y ≡ a
otherwise true f e = absurd (f e)
otherwise false f e = e

other_sign : {y : Option Sign} (t : Bool) (x : Sign) → (x ≡ s.Quote → ⊥) → cond t (Some x) y ≡ Some s.Quote → y ≡ Some s.Quote
other_sign true x f e = absurd (f (cc))
other_sign false x f e = e

no_quote_behind : (b : ℕ)
    → cond (b == 33) (Some s.Bang) (cond (b == 126) (Some s.Tilde) (cond (b == 36) (Some s.Dollar) (cond (b == 35) (Some s.Hash) (cond (b == 64) (Some s.At) (cond (b == 38) (Some s.And) (cond (b == 124) (Some s.Or)
    (cond (b == 61) (Some s.Equals) (cond (b == 60) (Some s.Less) (cond (b == 45) (Some s.Dash) (cond (b == 123) (Some s.OpenBrace) (cond (b == 125) (Some s.CloseBrace) (cond (b == 62) (Some s.Greater) (cond (b == 47) (Some s.Slash) (cond (b == 43) (Some s.Plus) None)))))))))))))) ≡ Some s.Quote → ⊥
no_quote_behind b e =
    let z : None ≡ Some s.Quote =
    other_sign (b == 43) s.Plus (λ e. cc) (other_sign (b == 47) s.Slash (λ e. cc) (other_sign (b == 62) s.Greater (λ e. cc) (other_sign (b == 125) s.CloseBrace (λ e. cc) (other_sign (b == 123) s.OpenBrace (λ e. cc)
    (other_sign (b == 45) s.Dash (λ e. cc) (other_sign (b == 60) s.Less (λ e. cc) (other_sign (b == 61) s.Equals (λ e. cc) (other_sign (b == 124) s.Or (λ e. cc) (other_sign (b == 38) s.And (λ e. cc)
    (other_sign (b == 64) s.At (λ e. cc) (other_sign (b == 35) s.Hash (λ e. cc) (other_sign (b == 36) s.Dollar (λ e. cc) (other_sign (b == 126) s.Tilde (λ e. cc) (other_sign (b == 33) s.Bang (λ e. cc) e)))))))))))))) in
    let none : ⊥ = cc in none

quote_byte : (b : ℕ) → short_sign b ≡ Some s.Quote → b ≡ 34
unfolding short_sign
quote_byte b e =
    let z = other_sign (b == 46) s.Dot (λ e. cc) (other_sign (b == 58) s.Colon (λ e. cc) (other_sign (b == 44) s.Comma (λ e. cc) (other_sign (b == 93) s.CloseList (λ e. cc) (other_sign (b == 91) s.OpenList (λ e. cc)
    (other_sign (b == 41) s.Close (λ e. cc) (other_sign (b == 40) s.Open (λ e. cc) e)))))) in
    by_test (b == 34) refl z
  where
    by_test : (t : Bool) → (b == 34) ≡ t
        → cond t (Some s.Quote) (cond (b == 33) (Some s.Bang) (cond (b == 126) (Some s.Tilde) (cond (b == 36) (Some s.Dollar) (cond (b == 35) (Some s.Hash) (cond (b == 64) (Some s.At) (cond (b == 38) (Some s.And) (cond (b == 124) (Some s.Or)
        (cond (b == 61) (Some s.Equals) (cond (b == 60) (Some s.Less) (cond (b == 45) (Some s.Dash) (cond (b == 123) (Some s.OpenBrace) (cond (b == 125) (Some s.CloseBrace) (cond (b == 62) (Some s.Greater) (cond (b == 47) (Some s.Slash) (cond (b == 43) (Some s.Plus) None))))))))))))))) ≡ Some s.Quote
        → b ≡ 34
    by_test true d e = eqb-true b 34 d
    by_test false d e = absurd (no_quote_behind b e)

-- a constant is no sign and no word
closed_constant : (t : Bool) (c r rest : List ℕ) (x : Lexeme) → ((d : List ℕ) → constant d ≡ x → ⊥) → cond t (token (constant c) r) (no_token NoConstant) ≡ token x rest → ⊥
closed_constant true c r rest x f e = f c (cc)
closed_constant false c r rest x f e = let none : ⊥ = cc in none

constant_only : (bytes rest : List ℕ) (x : Lexeme) → ((d : List ℕ) → constant d ≡ x → ⊥) → close_constant bytes (skip class.Constant bytes) ≡ token x rest → ⊥
constant_only bytes rest x f e =
    let c = skip class.Constant bytes in
    closed_constant (nat_lt (length c) (length bytes) && is_first (λ b. b == 39) c) (before bytes c) (drop 1 c) rest x f e

-- nor is a block of text, or a sign of logic
block_only : (o : Option (List ℕ)) {rest : List ℕ} (x : Lexeme) → (block ≡ x → ⊥) → close_block o ≡ token x rest → ⊥
block_only None x f e = let none : ⊥ = cc in none
block_only (Some r) x f e = f (cc)

long_is : (o : Option Wide) (r : List ℕ) {rest : List ℕ} (x : Lexeme) → ((y : Wide) → wide y ≡ x → ⊥) → long_piece o r ≡ token x rest → ⊥
long_is None r x f e = let none : ⊥ = cc in none
long_is (Some y) r x f e = f y (cc)

long_only : (bytes : List ℕ) {rest : List ℕ} (x : Lexeme) → ((y : Wide) → wide y ≡ x → ⊥) → first_long bytes ≡ token x rest → ⊥
long_only [] x f e = let none : ⊥ = cc in none
long_only (a ∷ []) x f e = let none : ⊥ = cc in none
long_only (a ∷ b ∷ []) x f e = let none : ⊥ = cc in none
long_only (a ∷ b ∷ c ∷ bytes) x f e = long_is (long_sign a b c) bytes x f e

wide_only : (bytes : List ℕ) {rest : List ℕ} (x : Lexeme) → ((y : Wide) → wide y ≡ x → ⊥) → first_wide bytes ≡ token x rest → ⊥
unfolding first_wide
wide_only bytes x f e = long_only bytes x f (otherwise (begins (194 ∷ 172 ∷ []) bytes) (λ d. f s.Not (cc)) e)

-- what remains is a sign
sign_only : (b : ℕ) (bytes : List ℕ) {rest : List ℕ} (x : Lexeme) → (block ≡ x → ⊥) → ((y : Wide) → wide y ≡ x → ⊥)
    → cond (begins (codes "{*") (b ∷ bytes)) (close_block (after_block (drop 1 bytes))) (cond (b == 194 || b == 226) (first_wide (b ∷ bytes)) (first_sign (b ∷ bytes))) ≡ token x rest → first_sign (b ∷ bytes) ≡ token x rest
sign_only b bytes x f g e =
    otherwise (b == 194 || b == 226) (wide_only (b ∷ bytes) x g) (otherwise (begins (codes "{*") (b ∷ bytes)) (block_only (after_block (drop 1 bytes)) x f) e)

short_quote : (o : Option Sign) (bytes : List ℕ) {rest : List ℕ} → short_piece o bytes ≡ token (sign s.Quote) rest → (o ≡ Some s.Quote) × (bytes ≡ rest)
short_quote None bytes e = absurd (let none : ⊥ = cc in none)
short_quote (Some x) bytes e = let f : x ≡ s.Quote = cc in (ap Some f, cc)

sign_quote : (b : ℕ) (bytes rest : List ℕ) → first_sign (b ∷ bytes) ≡ token (sign s.Quote) rest → b ∷ bytes ≡ 34 ∷ rest
unfolding first_sign
sign_quote b bytes rest e =
    let z = b ∷ bytes in
    let f = otherwise (begins (codes "<=>") z) (λ e. cc) (otherwise (begins (codes "==>") z) (λ e. cc) (otherwise (begins (codes "-->") z) (λ e. cc) (otherwise (begins (codes "]->") z) (λ e. cc) (otherwise (begins (codes "--[") z) (λ e. cc) e)))) in
    let o = short_quote (short_sign b) bytes f in
    let d : b ≡ 34 = quote_byte b o.0 in
    let g : bytes ≡ rest = o.1 in
    cc

pub quote_read : (bytes rest : List ℕ) → piece bytes ≡ token (sign s.Quote) rest → bytes ≡ 34 ∷ rest
unfolding piece first_sign
quote_read [] rest e = absurd (let none : ⊥ = cc in none)
quote_read (b ∷ bytes) rest e =
    sign_quote b bytes rest (sign_only b bytes (sign s.Quote) (λ e. cc) (λ y e. cc) (otherwise (b == 39) (constant_only bytes rest (sign s.Quote) (λ d e. cc)) (otherwise (is_ascii_alphanumeric b) (λ e. cc) e)))

pub quote_piece : (rest : List ℕ) → piece (34 ∷ rest) ≡ token (sign s.Quote) rest
unfolding piece first_sign short_sign
quote_piece rest = refl

pub lexes_quote : {size : ℕ} {rest : List ℕ} {xs : List Lexeme} → Lexes size rest xs → Lexes size (34 ∷ rest) (sign s.Quote ∷ xs)
lexes_quote {rest = rest} l = lexes_read (sign s.Quote) (no_gap (quote_begins rest)) (as_it_is (quote_piece rest) refl) refl l

-- ---- the word `end`

short_word : (o : Option Sign) (bytes rest w : List ℕ) → short_piece o bytes ≡ token (word w) rest → ⊥
short_word None bytes rest w e = let none : ⊥ = cc in none
short_word (Some x) bytes rest w e = let none : ⊥ = cc in none

sign_word : (b : ℕ) (bytes rest w : List ℕ) → first_sign (b ∷ bytes) ≡ token (word w) rest → ⊥
unfolding first_sign
sign_word b bytes rest w e =
    let z = b ∷ bytes in
    short_word (short_sign b) bytes rest w
    (otherwise (begins (codes "<=>") z) (λ e. cc) (otherwise (begins (codes "==>") z) (λ e. cc) (otherwise (begins (codes "-->") z) (λ e. cc) (otherwise (begins (codes "]->") z) (λ e. cc) (otherwise (begins (codes "--[") z) (λ e. cc) e)))))

word_first : (bytes rest w all : List ℕ) → token (word (before all (skip class.Word bytes))) (skip class.Word bytes) ≡ token (word w) rest → (front : List ℕ) → all ≡ front ++ skip class.Word bytes → all ≡ w ++ rest
word_first bytes rest w all e front f =
    let r = skip class.Word bytes in
    let g : before all r ≡ w = cc in
    let h : r ≡ rest = cc in
    let i : front ≡ w = sym (before_rest front r) ∙ ap (λ (x : List ℕ). before x r) (sym f) ∙ g in
    rw (sym i, sym h) f

pub word_read : (bytes rest w : List ℕ) → piece bytes ≡ token (word w) rest → bytes ≡ w ++ rest
unfolding piece first_sign
word_read [] rest w e = absurd (let none : ⊥ = cc in none)
word_read (b ∷ bytes) rest w e = by_test (is_ascii_alphanumeric b) e
  where
    by_test : (t : Bool) → cond t (token (word (before (b ∷ bytes) (skip class.Word bytes))) (skip class.Word bytes)) (cond (b == 39) (close_constant bytes (skip class.Constant bytes))
        (cond (begins (codes "{*") (b ∷ bytes)) (close_block (after_block (drop 1 bytes))) (cond (b == 194 || b == 226) (first_wide (b ∷ bytes)) (first_sign (b ∷ bytes))))) ≡ token (word w) rest → b ∷ bytes ≡ w ++ rest
    by_test true e = let f = ends_more b (skip_ends class.Word bytes) in word_first bytes rest w (b ∷ bytes) e f.0 f.1
    by_test false e = absurd (sign_word b bytes rest w (sign_only b bytes (word w) (λ e. cc) (λ y e. cc) (otherwise (b == 39) (constant_only bytes rest (word w) (λ d e. cc)) e)))

pub end_piece : (rest : List ℕ) → piece (codes "end" ++ 10 ∷ rest) ≡ token (word (codes "end")) (10 ∷ rest)
unfolding piece skip
end_piece rest = ap (λ (w : List ℕ). token (word w) (10 ∷ rest)) (before_rest (codes "end") (10 ∷ rest))

-- the word and a line feed, whatever follows
pub lexes_end : {size : ℕ} (rest : List ℕ) → Lexes size (codes "end" ++ 10 ∷ rest) (word (codes "end") ∷ [])
lexes_end {size} rest = record {
  cut = λ le.
      let bytes = codes "end" ++ 10 ∷ rest in
      let t : Token = record { lexeme = word (codes "end"); start = size - length bytes; end = size - length (10 ∷ rest) } in
      record {
        tokens = t ∷ [];
        cut = last (record { from = bytes; skips = no_gap (letter_begins (codes "nd" ++ 10 ∷ rest)); reads = as_it_is (end_piece rest) refl; start = omega arith; end = omega arith }) refl;
        are = refl;
      };
}

-- ---- a line feed

feed_gap : (bytes : List ℕ) → gap (10 ∷ bytes) ≡ past bytes
unfolding gap
feed_gap bytes = refl

skips_feed : {all bytes rest : List ℕ} → Skips all rest → all ≡ 10 ∷ bytes → Skips bytes rest
skips_feed {bytes = bytes} (no_gap {bytes = all} e) f = absurd (let g : gap all ≡ past bytes = ap gap f ∙ feed_gap bytes in let none : ⊥ = cc in none)
skips_feed {all} {bytes} {rest} (gap_then {mid = m} e s) f =
    let g : gap all ≡ past bytes = ap gap f ∙ feed_gap bytes in
    let h : m ≡ bytes = cc in
    subst (λ (x : List ℕ). Skips x rest) h s

-- behind a line feed the same tokens stand
pub tokens_feed : {size : ℕ} {all bytes : List ℕ} {ts : List Token} → AreTokens size all ts → all ≡ 10 ∷ bytes → AreTokens size bytes ts
tokens_feed (no_more s) f = no_more (skips_feed s f)
tokens_feed (last n d) f = last (record { from = n.from; skips = skips_feed n.skips f; reads = n.reads; start = n.start; end = n.end }) d
tokens_feed (next n d k) f = next (record { from = n.from; skips = skips_feed n.skips f; reads = n.reads; start = n.start; end = n.end }) d k
