-- The tokens of a text are taken one after the other: up to the first wrong one, or up to the last.
use Rattle.std.proofs.Common.{◌≡◌, Bool, true, false, List, [], ◌∷◌, ◌++◌, refl, sym, ap, subst, ◌∙◌, append_assoc, append-nil}
use Rattle.sp_spec_text.specs.Token.{Lexeme, Token}
use Rattle.sp_spec_text.specs.Lex.{lexemes}
use Rattle.sp_spec_text.specs.Written.{WrittenText}
use Rattle.sp_spec_text.specs.Theories.{SpellsTheory}
use Rattle.sp_await.specs.Parts.{Awaited}
use Rattle.sp_await.specs.Parts as a
use Rattle.sp_law_await.specs.Language.{HasAll, all_had, and_all}
use Rattle.sp_place.specs.Remaining.{Remaining, EndsIn}
use Rattle.sp_await.specs.Stack.{Good}
use Rattle.sp_place.specs.Texts.{Follows, Refuses}
use Rattle.sp_place.specs.Refused.{Begin, IsFirstWrong}
use Rattle.sp_place.specs.Runs.{Reached, IsLeft}
use Rattle.sp_law_await.proofs.Theories.{spelled_of, had_of}
use Rattle.sp_law_await.proofs.Live.{GoodEnd, good_lives}
use Rattle.sp_place.proofs.Taking.{left}

pub lexemes-append : (ts us : List Token) → lexemes (ts ++ us) ≡ lexemes ts ++ lexemes us
lexemes-append [] us = refl
lexemes-append (t ∷ ts) us = ap (λ (xs : List Lexeme). t.lexeme ∷ xs) (lexemes-append ts us)

-- ---- the way of a text

pub reached_none : {tokens : List Token} {parts : List Awaited} → parts ≡ a.Theory ∷ [] → Reached tokens tokens (left false parts)
reached_none {tokens} {parts} e = record {
  before = [];
  are = refl;
  goes = λ m h. subst (λ (ps : List Awaited). HasAll ps m []) e h;
  comes = λ m h. subst (λ (ps : List Awaited). HasAll ps m []) (sym e) h;
  good = subst Good (sym e) (tt, tt);
}

-- one token more
one_more : (before : List Token) (t : Token) (more : List Lexeme) → lexemes (before ++ t ∷ []) ++ more ≡ lexemes before ++ t.lexeme ∷ more
one_more [] t more = refl
one_more (u ∷ before) t more = ap (λ (xs : List Lexeme). u.lexeme ∷ xs) (one_more before t more)

are_more : (before : List Token) {t : Token} {tokens rest others : List Token} → tokens ≡ before ++ rest → rest ≡ t ∷ others → tokens ≡ (before ++ t ∷ []) ++ others
are_more before {t} {others = others} e f = rw append_assoc (e ∙ ap (λ (ts : List Token). before ++ ts) f)

pub reached_more : {tokens rest others : List Token} {t : Token} {old new : Remaining} → Reached tokens rest old → rest ≡ t ∷ others → Follows old t.lexeme new → Reached tokens others new
reached_more {t = t} r e f = record {
  before = r.before ++ t ∷ [];
  are = are_more r.before r.are e;
  goes = λ m h. subst (λ (xs : List Lexeme). HasAll (a.Theory ∷ []) xs []) (sym (one_more r.before t m)) (r.goes (t.lexeme ∷ m) (f.goes m h));
  comes = λ m h. f.comes m (r.comes (t.lexeme ∷ m) (subst (λ (xs : List Lexeme). HasAll (a.Theory ∷ []) xs []) (one_more r.before t m) h));
  good = f.good;
}

-- what a good list of parts is had by ends the text
good_ends : (b : Bool) {parts : List Awaited} → GoodEnd parts → (tokens : List Lexeme) × EndsIn (left b parts) tokens
good_ends true {parts} l = (l.tokens, subst (λ (ts : List Lexeme). HasAll parts ts []) (sym l.plain) l.had)
good_ends false l = (l.tokens, l.had)

begun : {tokens rest : List Token} {old : Remaining} (r : Reached tokens rest old) → Begin (lexemes r.before)
begun {old = old} r = let l = good_ends old.in_formula (good_lives old.parts r.good) in let s = spelled_of (r.goes l.0 l.1) in (l.0, s.0, s.1)

pub reached_wrong : {tokens rest others : List Token} {t : Token} {old : Remaining} → Reached tokens rest old → rest ≡ t ∷ others → Refuses old t.lexeme → IsFirstWrong tokens t.start
reached_wrong {others = others} {t = t} r e f = record {
  before = r.before;
  wrong = t;
  behind = others;
  are = r.are ∙ ap (λ (ts : List Token). r.before ++ ts) e;
  begins = begun r;
  ends = λ b. f.none b.0 (r.comes (t.lexeme ∷ b.0) (subst (λ (xs : List Lexeme). HasAll (a.Theory ∷ []) xs []) (one_more r.before t b.0) (had_of b.2)));
  place_is = refl;
}

-- all tokens are taken
all_before : {tokens rest : List Token} {old : Remaining} (r : Reached tokens rest old) → rest ≡ [] → r.before ≡ tokens
all_before r e = sym (r.are ∙ ap (λ (ts : List Token). r.before ++ ts) e ∙ append-nil r.before)

parts_none : {parts : List Awaited} (b : Bool) → parts ≡ [] → EndsIn (left b parts) []
parts_none true e = subst (λ (ps : List Awaited). HasAll ps [] []) (sym e) all_had
parts_none false e = subst (λ (ps : List Awaited). HasAll ps [] []) (sym e) all_had

pub reached_whole : {tokens rest : List Token} {parts : List Awaited} {b : Bool} → Reached tokens rest (left b parts) → rest ≡ [] → parts ≡ [] → (t : WrittenText) × SpellsTheory (lexemes tokens) t
reached_whole {b = b} r e f =
    spelled_of (subst (λ (xs : List Lexeme). HasAll (a.Theory ∷ []) xs []) (append-nil (lexemes r.before) ∙ ap lexemes (all_before r e)) (r.goes [] (parts_none b f)))

parts_want : {parts : List Awaited} → HasAll parts [] [] → parts ≡ []
parts_want all_had = refl
parts_want (and_all h i) = elim h [ ]

ended_want : {parts : List Awaited} (b : Bool) → EndsIn (left b parts) [] → parts ≡ []
ended_want true h = parts_want h
ended_want false h = parts_want h

pub reached_left : {tokens rest : List Token} {parts : List Awaited} {b : Bool} → Reached tokens rest (left b parts) → rest ≡ [] → (parts ≡ [] → ⊥) → IsLeft tokens
reached_left {b = b} r e f = record {
  begins = subst (λ (ts : List Token). Begin (lexemes ts)) (all_before r e) (begun r);
  none = λ t h. f (ended_want b (r.comes [] (subst (λ (xs : List Lexeme). HasAll (a.Theory ∷ []) xs []) (ap lexemes (sym (all_before r e)) ∙ sym (append-nil (lexemes r.before))) (had_of h))));
}

pub ruleset runs = (reached_none, reached_more, reached_wrong, reached_whole, reached_left)
