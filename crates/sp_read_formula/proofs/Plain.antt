-- Tokens as they are read in a formula: up to the first quote the text beside each sign of logic, and behind it what stood there.
use Rattle.std.proofs.Common.{◌≡◌, ℕ, zero, suc, ◌+◌, ◌-◌, Bool, true, false, cond, List, [], ◌∷◌, ◌++◌, length, map, drop, refl, sym, ap, subst, ◌∙◌, append_assoc, append-nil, length-drop}
use Rattle.std.proofs.Math.Seq.{drop-drop}
use Rattle.std.proofs.lemmas.List.{drop-map, length-map}
use Rattle.std.specs.Prelude.{◌||◌}
use Rattle.sp_spec_text.specs.Signs.{Sign, Wide}
use Rattle.sp_spec_text.specs.Signs as s
use Rattle.sp_spec_text.specs.Token.{Lexeme, word, constant, sign, solve, wide, block, Token}
use Rattle.sp_spec_text.specs.Plain.{text_beside, plain, is_quote, plain_to_quote}
use Rattle.sp_spec.specs.Formula.{Formula}
use Rattle.sp_spec_text.specs.Lists.{IsNotFirst, NoReading}
use Rattle.sp_spec_text.specs.Formulas.{SpellsFormula}
use Rattle.sp_spec_text.specs.Theories.{SpellsQuoted}
use Rattle.sp_lex.specs.declared.token.Token as lexer
use Rattle.sp_lex.specs.Views.{token_of, tokens_of}
use Rattle.sp_read_formula.specs.Reading.{a_whole, Reads}
use Rattle.sp_read_formula.specs.Closed.{IsClosed}
use Rattle.sp_read_parts.specs.Views.{seen, seen_from}
use Rattle.sp_read_formula.proofs.Taken.{closed_at, closed_one, not_closed, unclosed}

-- ---- where the first quote stands, one stands in what is read

beside_no_quote : (x : Wide) → text_beside x ≡ sign s.Quote → ⊥
beside_no_quote s.All e = cc
beside_no_quote s.Ex e = cc
beside_no_quote s.Both e = cc
beside_no_quote s.Either e = cc
beside_no_quote s.Not e = cc
beside_no_quote s.Then e = cc
beside_no_quote s.Same e = cc
beside_no_quote s.True e = cc
beside_no_quote s.False e = cc

is_quote_so : (x : Lexeme) → is_quote x ≡ false → x ≡ sign s.Quote → ⊥
is_quote_so x d e = let f : is_quote x ≡ true = ap is_quote e in let g : true ≡ false = sym f ∙ d in cc

plain_no_quote : (x : Lexeme) → is_quote x ≡ false → plain x ≡ sign s.Quote → ⊥
plain_no_quote (wide x) d e = beside_no_quote x e
plain_no_quote (word w) d e = is_quote_so (word w) d e
plain_no_quote (constant c) d e = is_quote_so (constant c) d e
plain_no_quote (sign x) d e = is_quote_so (sign x) d e
plain_no_quote (solve t) d e = is_quote_so (solve t) d e
plain_no_quote block d e = is_quote_so block d e

stays_one : (x : Lexeme) (tokens rest : List Lexeme) (t : Bool) → is_quote x ≡ t → ((k : ℕ) → drop k (plain_to_quote tokens) ≡ sign s.Quote ∷ rest → drop k tokens ≡ sign s.Quote ∷ rest)
    → (k : ℕ) → drop k (cond t (x ∷ tokens) (plain x ∷ plain_to_quote tokens)) ≡ sign s.Quote ∷ rest → drop k (x ∷ tokens) ≡ sign s.Quote ∷ rest
stays_one x tokens rest true d h k e = e
stays_one x tokens rest false d h zero e = absurd (plain_no_quote x d (cc))
stays_one x tokens rest false d h (suc k) e = h k e

-- a quote in what is read is one of the tokens, and the same follows
pub quote_stays : (tokens rest : List Lexeme) (k : ℕ) → drop k (plain_to_quote tokens) ≡ sign s.Quote ∷ rest → drop k tokens ≡ sign s.Quote ∷ rest
quote_stays [] rest k e = e
quote_stays (x ∷ tokens) rest k e = stays_one x tokens rest (is_quote x) refl (λ j f. quote_stays tokens rest j f) k e

stood_one : (x : Lexeme) (tokens rest : List Lexeme) (t : Bool) → is_quote x ≡ t → ((k : ℕ) → drop k tokens ≡ sign s.Quote ∷ rest → drop k (plain_to_quote tokens) ≡ sign s.Quote ∷ rest)
    → (k : ℕ) → drop k (x ∷ tokens) ≡ sign s.Quote ∷ rest → drop k (cond t (x ∷ tokens) (plain x ∷ plain_to_quote tokens)) ≡ sign s.Quote ∷ rest
stood_one x tokens rest true d h k e = e
stood_one x tokens rest false d h zero e = absurd (is_quote_so x d (cc))
stood_one x tokens rest false d h (suc k) e = h k e

pub quote_stood : (tokens rest : List Lexeme) (k : ℕ) → drop k tokens ≡ sign s.Quote ∷ rest → drop k (plain_to_quote tokens) ≡ sign s.Quote ∷ rest
quote_stood [] rest k e = e
quote_stood (x ∷ tokens) rest k e = stood_one x tokens rest (is_quote x) refl (λ j f. quote_stood tokens rest j f) k e

same_length : (t : Bool) (x y : Lexeme) (ts us : List Lexeme) → length us ≡ length ts → length (cond t (x ∷ ts) (y ∷ us)) ≡ length (x ∷ ts)
same_length true x y ts us e = refl
same_length false x y ts us e = ap suc e

pub plain_length : (tokens : List Lexeme) → length (plain_to_quote tokens) ≡ length tokens
plain_length [] = refl
plain_length (x ∷ tokens) = same_length (is_quote x) x (plain x) tokens (plain_to_quote tokens) (plain_length tokens)

-- ---- tokens that are read as they stand

-- the tokens are read as they stand if the rest is
pub record StandsSo (tokens rest : List Lexeme) : Type 0 where
  pub so : plain_to_quote rest ≡ rest → plain_to_quote tokens ≡ tokens

pub stands_none : (tokens : List Lexeme) → StandsSo tokens tokens
stands_none tokens = record { so = λ e. e }

one_so : (t : Bool) (x y : Lexeme) (ts us : List Lexeme) → y ≡ x → us ≡ ts → cond t (x ∷ ts) (y ∷ us) ≡ x ∷ ts
one_so true x y ts us e f = refl
one_so false x y ts us e f = rw (e, f) refl

pub stands_more : {x : Lexeme} {tokens rest ahead : List Lexeme} → StandsSo tokens rest → rest ≡ x ∷ ahead → plain x ≡ x → StandsSo tokens ahead
stands_more {x} {tokens} {rest} {ahead} h e p = record {
  so = λ f.
      let i : plain_to_quote (x ∷ ahead) ≡ x ∷ ahead = one_so (is_quote x) x (plain x) ahead (plain_to_quote ahead) p f in
      h.so (subst (λ (ts : List Lexeme). plain_to_quote ts ≡ ts) (sym e) i);
}

at_quote : (t : Bool) (x y : Lexeme) (ts us : List Lexeme) → t ≡ true → cond t (x ∷ ts) (y ∷ us) ≡ x ∷ ts
at_quote true x y ts us e = refl
at_quote false x y ts us e = absurd cc

pub stands_quoted : {x : Lexeme} {tokens rest ahead : List Lexeme} → StandsSo tokens rest → rest ≡ x ∷ ahead → is_quote x ≡ true → plain_to_quote tokens ≡ tokens
stands_quoted {x} {ahead = ahead} h e q =
    let i : plain_to_quote (x ∷ ahead) ≡ x ∷ ahead = at_quote (is_quote x) x (plain x) ahead (plain_to_quote ahead) q in
    h.so (subst (λ (ts : List Lexeme). plain_to_quote ts ≡ ts) (sym e) i)

pub stands_ended : {tokens rest : List Lexeme} → StandsSo tokens rest → rest ≡ [] → plain_to_quote tokens ≡ tokens
stands_ended h e = h.so (rw e refl)

pub ruleset as_they_stand = (stands_none, stands_more, stands_quoted, stands_ended)

-- ---- the copy

-- behind the quote, or before it
abbrev pub plain_from : Bool → List Lexeme → List Lexeme
plain_from true tokens = tokens
plain_from false tokens = plain_to_quote tokens

pub plain_from_more : (closed : Bool) (x : Lexeme) (tokens : List Lexeme) → plain_from closed (x ∷ tokens) ≡ cond (closed || is_quote x) x (plain x) ∷ plain_from (closed || is_quote x) tokens
plain_from_more true x tokens = refl
plain_from_more false x tokens = by_test (is_quote x)
  where
    by_test : (t : Bool) → cond t (x ∷ tokens) (plain x ∷ plain_to_quote tokens) ≡ cond t x (plain x) ∷ plain_from t tokens
    by_test true = refl
    by_test false = refl

pub copied_more : (before : List Lexeme) (closed : Bool) {rest ahead total after : List Lexeme} {now : Bool} {x y : Lexeme} → before ++ plain_from closed rest ≡ total → rest ≡ x ∷ ahead → now ≡ (closed || is_quote x) → y ≡ cond now x (plain x)
    → after ≡ before ++ y ∷ [] → after ++ plain_from now ahead ≡ total
copied_more before closed {rest} {ahead} {total} {after} {now} {x} {y} h e n c a =
    let i : plain_from closed rest ≡ y ∷ plain_from now ahead = rw (e, c, n) (plain_from_more closed x ahead) in
    rw (a, append_assoc) (ap (λ (ts : List Lexeme). before ++ ts) (sym i) ∙ h)

pub copied_all : (closed : Bool) {found rest total : List Lexeme} → found ++ plain_from closed rest ≡ total → rest ≡ [] → found ≡ total
copied_all closed {found} {rest} h e =
    let i : plain_from closed rest ≡ [] = rw e (nothing closed) in
    sym (append-nil found) ∙ ap (λ (ts : List Lexeme). found ++ ts) (sym i) ∙ h
  where
    nothing : (t : Bool) → plain_from t [] ≡ []
    nothing true = refl
    nothing false = refl

pub ruleset copies = (copied_more, copied_all)

-- ---- places in the copy, and among the tokens

seen_drop : (k : ℕ) (tokens : List lexer.Token) → seen_from tokens k ≡ drop k (seen tokens)
seen_drop k tokens = sym (drop-map (λ (t : Token). t.lexeme) k (tokens_of tokens) ∙ ap (map (λ (t : Token). t.lexeme)) (drop-map token_of k tokens))

seen_ahead : (at k : ℕ) (tokens : List lexer.Token) → seen_from tokens (at + k) ≡ drop k (seen_from tokens at)
seen_ahead at k tokens = ap seen (sym (drop-drop k at tokens)) ∙ seen_drop k (drop at tokens)

pub seen_length : (tokens : List lexer.Token) → length (seen tokens) ≡ length tokens
seen_length tokens = length-map (tokens_of tokens) (λ (t : Token). t.lexeme) ∙ length-map tokens token_of

-- the copy has as many tokens
pub copy_length : (at : ℕ) (copy tokens : List lexer.Token) → seen copy ≡ plain_to_quote (seen_from tokens at) → length copy ≡ length tokens - at
copy_length at copy tokens e =
    sym (seen_length copy) ∙ ap length e ∙ plain_length (seen_from tokens at) ∙ seen_length (drop at tokens) ∙ length-drop at tokens

-- ---- formulas

pub quoted_some : (tokens : List Lexeme) {f : Formula} {plains rest : List Lexeme} → plain_to_quote tokens ≡ plains → IsClosed 0 s.Quote plains f rest → SpellsQuoted tokens f rest
quoted_some tokens {f} {rest = r} e h = subst (λ (ts : List Lexeme). SpellsFormula 0 ts f (sign s.Quote ∷ r)) (sym e) h

pub quoted_none : {plains tokens : List Lexeme} → plain_to_quote tokens ≡ plains → NoReading (IsClosed 0 s.Quote) plains → NoReading SpellsQuoted tokens
quoted_none e n = record { none = λ f r h. n.none f r (subst (λ (ts : List Lexeme). SpellsFormula 0 ts f (sign s.Quote ∷ r)) e h) }

pub quoted_one : (tokens : List Lexeme) {r q : List Lexeme} {f g : Formula} → SpellsQuoted tokens f r → SpellsQuoted tokens g q → (f ≡ g) × (r ≡ q)
quoted_one tokens h k = closed_one s.Quote tt h k

pub ruleset quoted = (quoted_some, quoted_none)

pub copy_none : (copy tokens : List lexer.Token) (at : ℕ) → seen copy ≡ plain_to_quote (seen_from tokens at) → NoReading (Reads a_whole 0) (seen_from copy 0) → NoReading SpellsQuoted (seen_from tokens at)
copy_none copy tokens at e n = quoted_none (sym e) (not_closed tt n)

pub copy_some : (copy tokens : List lexer.Token) (at k rest : ℕ) {f : Formula} → seen copy ≡ plain_to_quote (seen_from tokens at) → Reads a_whole 0 (seen_from copy 0) f (seen_from copy k)
    → seen_from tokens (at + k) ≡ sign s.Quote ∷ seen_from tokens rest → SpellsQuoted (seen_from tokens at) f (seen_from tokens rest)
copy_some copy tokens at k rest e h q =
    let i : seen_from copy k ≡ sign s.Quote ∷ seen_from tokens rest = seen_drop k copy ∙ ap (drop k) e ∙ quote_stood (seen_from tokens at) (seen_from tokens rest) k (sym (seen_ahead at k tokens) ∙ q) in
    quoted_some (seen_from tokens at) (sym e) (closed_at h i)

pub copy_open : (copy tokens : List lexer.Token) (at k : ℕ) {f : Formula} → seen copy ≡ plain_to_quote (seen_from tokens at) → Reads a_whole 0 (seen_from copy 0) f (seen_from copy k)
    → IsNotFirst (sign s.Quote) (seen_from tokens (at + k)) → NoReading SpellsQuoted (seen_from tokens at)
copy_open copy tokens at k e h d =
    quoted_none (sym e) (unclosed tt h (λ r q. d r (seen_ahead at k tokens ∙ quote_stays (seen_from tokens at) r k (ap (drop k) (sym e) ∙ sym (seen_drop k copy) ∙ q))))

pub ruleset copied = (copy_none, copy_some, copy_open, copy_length)
