-- Listings are read in one way, and where an item or the end follows as the grammar spells them.
use Rattle.std.proofs.Common.{◌≡◌, ℕ, List, ◌∷◌, codes, refl, sym, ap, subst, ◌∙◌, arith}
use Rattle.sp_spec_text.specs.Signs as s
use Rattle.sp_spec_text.specs.Token.{Lexeme, word, sign}
use Rattle.sp_spec.specs.Term.{Term}
use Rattle.sp_spec.specs.Signature.{Symbol}
use Rattle.sp_spec.specs.Formula.{Written}
use Rattle.sp_spec_text.specs.Lists.{IsNotFirst, NoReading, AreListed, alone, and_more}
use Rattle.sp_spec_text.specs.Written.{Item, builtins_item, functions_item, equations_item, heuristic_item}
use Rattle.sp_spec_text.specs.Theories as g
use Rattle.sp_spec_text.specs.Theories.{SpellsBuiltin, SpellsFunction, SpellsEquation, SpellsWords, SpellsDeclaration}
use Rattle.sp_read_parts.specs.Parts.{IsTerm}
use Rattle.sp_read_atoms.specs.Atoms.{first, second}
use Rattle.sp_read_parts.proofs.One.{One, terms, term_one}
use Rattle.sp_read_atoms.proofs.Apart.{EndsTerm, sign_ends, word_ends}
use Rattle.sp_read_atoms.proofs.Atomic.{or_else_one, or_else_none}
use Rattle.sp_read_parts.proofs.Sequence.{Fixed, fixed_none, fixed_one, Then, no_first, no_second, Becomes, no_whole}
use Rattle.sp_read_parts.proofs.Spelled.{term_spelled}
use Rattle.sp_read_atoms.proofs.Taken.{term_taken}
use Rattle.sp_read_listings.specs.Made.{Made, made_of}
use Rattle.sp_read_listings.specs.Listings.{IsBuiltin, IsFunction, IsEquation, equation, AreAll, Headed, NotHeaded, Under, under_colon, IsListing}
use Rattle.sp_read_listings.proofs.Follows.{StartsWord, Follows, words_taken}
use Rattle.sp_read_listings.proofs.Listed.{tail_of, all_one, builtins_one}
use Rattle.sp_read_listings.proofs.Making.{made_one, made_none, under_one}
use Rattle.sp_read_listings.proofs.SymbolParts.{functions_one, function_spelled, function_taken}
use Rattle.sp_read_listings.proofs.Words.{words', words_spelled}

-- ---- keywords

pub headed_at : {keyword : List ℕ} {tokens colon rest : List Lexeme} → tokens ≡ word keyword ∷ colon → colon ≡ sign s.Colon ∷ rest → Headed keyword tokens rest
headed_at e f = rw (e, f) refl

pub not_headed_word : {keyword : List ℕ} {tokens : List Lexeme} → IsNotFirst (word keyword) tokens → NotHeaded keyword tokens
not_headed_word d = record { none = λ r h. d (sign s.Colon ∷ r) h }

pub not_headed_colon : {keyword : List ℕ} {tokens colon : List Lexeme} → tokens ≡ word keyword ∷ colon → IsNotFirst (sign s.Colon) colon → NotHeaded keyword tokens
not_headed_colon e d = record { none = λ r h. d r (tail_of (sym e ∙ h)) }

pub ruleset heads = (headed_at, not_headed_word, not_headed_colon)

-- ---- equations

pub equation_at : {x y : Term Written} {tokens ahead mid rest : List Lexeme} → IsTerm 0 tokens x ahead → ahead ≡ sign s.Equals ∷ mid → IsTerm 0 mid y rest → IsEquation tokens (x, y) rest
equation_at {x} {tokens = ts} h e k = equation (subst (λ (us : List Lexeme). IsTerm 0 ts x us) e h) k

abbrev EquationParts : List Lexeme → Term Written × (Unit {0} × Term Written) → List Lexeme → Type 0
EquationParts = Then (IsTerm 0) (Then (Fixed (sign s.Equals)) (IsTerm 0))

equation_parts : Becomes IsEquation EquationParts
equation_parts = record { part = λ ts x r h. (x.0, (tt, x.1)); reads = λ ts x r h. at h }
  where
    at : {ts r : List Lexeme} {x : Term Written × Term Written} → IsEquation ts x r → EquationParts ts (x.0, (tt, x.1)) r
    at (equation {mid = m} h k) = record { mid = sign s.Equals ∷ m; first = h; second = record { mid = m; first = refl; second = k } }

pub equation_no_left : {tokens : List Lexeme} → NoReading (IsTerm 0) tokens → NoReading IsEquation tokens
equation_no_left n = no_whole equation_parts (no_first n)

pub equation_no_sign : {x : Term Written} {tokens ahead : List Lexeme} → IsTerm 0 tokens x ahead → IsNotFirst (sign s.Equals) ahead → NoReading IsEquation tokens
equation_no_sign h d = no_whole equation_parts (no_second terms h (no_first (fixed_none d)))

pub equation_no_right : {x : Term Written} {tokens ahead mid : List Lexeme} → IsTerm 0 tokens x ahead → ahead ≡ sign s.Equals ∷ mid → NoReading (IsTerm 0) mid → NoReading IsEquation tokens
equation_no_right h e n = no_whole equation_parts (no_second terms h (no_second {x = tt} fixed_one e n))

pub ruleset an_equation = (equation_at, equation_no_left, equation_no_sign, equation_no_right)

pub equation_one : {tokens r q : List Lexeme} {e f : Term Written × Term Written} → IsEquation tokens e r → IsEquation tokens f q → (e ≡ f) × (r ≡ q)
equation_one (equation {mid = m} h k) (equation {y = y} {mid = n} {rest = q} i l) =
    let a = term_one h i in
    let b = a.1 in
    let c : n ≡ m = cc in
    let d = term_one k (subst (λ (ts : List Lexeme). IsTerm 0 ts y q) c l) in
    (rw (a.0, d.0) refl, d.1)

pub equations_one : One IsEquation
equations_one = record { one = equation_one }

-- ---- in one way

pub listings_one : One IsListing
listings_one = or_else_one (made_one (under_one builtin_lists)) (or_else_one (made_one (under_one function_lists)) (or_else_one (made_one (under_one equation_lists)) (made_one (under_one words'))))
  where
    builtin_lists : One (AreAll IsBuiltin)
    builtin_lists = record { one = all_one builtins_one }

    function_lists : One (AreAll IsFunction)
    function_lists = record { one = all_one functions_one }

    equation_lists : One (AreAll IsEquation)
    equation_lists = record { one = all_one equations_one }

-- ---- as the grammar spells them

listed_spelled : {A : Type 0} {R S : List Lexeme → A → List Lexeme → Type 0} → ((tokens : List Lexeme) (x : A) (rest : List Lexeme) → R tokens x rest → S tokens x rest)
    → {tokens rest : List Lexeme} {xs : List A} → AreListed R tokens xs rest → AreListed S tokens xs rest
listed_spelled m (alone h) = alone (m _ _ _ h)
listed_spelled m (and_more h k) = and_more (m _ _ _ h) (listed_spelled m k)

equation_spelled : {tokens rest : List Lexeme} {e : Term Written × Term Written} → IsEquation tokens e rest → SpellsEquation tokens e rest
equation_spelled (equation h k) = g.equation (term_spelled h) (term_spelled k)

pub listing_spelled : {tokens rest : List Lexeme} {x : Item} → IsListing tokens x rest → SpellsDeclaration tokens x rest
listing_spelled (first (made_of (under_colon h))) = g.builtins (listed_spelled (λ ts x r k. k.spells) h.spells)
listing_spelled (second n (first (made_of (under_colon h)))) = g.functions (listed_spelled (λ ts x r k. function_spelled k) h.spells)
listing_spelled (second n (second m (first (made_of (under_colon h))))) = g.equations (listed_spelled (λ ts x r k. equation_spelled k) h.spells)
listing_spelled (second n (second m (second l (made_of (under_colon h))))) = g.heuristic (words_spelled h)

-- ---- what no other keyword begins

-- the fourth byte of a first word, which tells apart the words with which items and kinds of lemmas begin, and `end`
abbrev pub fourth : List ℕ → ℕ
fourth (a ∷ b ∷ c ∷ d ∷ bytes) = d
fourth _ = 0

abbrev pub fourth_byte : List Lexeme → ℕ
fourth_byte (word w ∷ tokens) = fourth w
fourth_byte _ = 0

-- a keyword and a colon stand where they are not
not_under : {A B : Type 0} {keyword other : List ℕ} {R : List Lexeme → A → List Lexeme → Type 0} {f : A → B} {tokens : List Lexeme} → (other ≡ keyword → ⊥) → NoReading (Made (Under other R) f) (word keyword ∷ tokens)
not_under {A} {B} {keyword} {other} {R} {f} {tokens} d = made_none (record { none = λ x r h. at h refl })
  where
    at : {ts r : List Lexeme} {x : A} → Under other R ts x r → ts ≡ word keyword ∷ tokens → ⊥
    at (under_colon h) e = d cc

-- behind the first token no colon stands
pub record NoColon (tokens : List Lexeme) : Type 0 where
  pub none : (w : List ℕ) (rest : List Lexeme) → tokens ≡ word w ∷ sign s.Colon ∷ rest → ⊥

not_listed : {A B : Type 0} {other : List ℕ} {R : List Lexeme → A → List Lexeme → Type 0} {f : A → B} {tokens : List Lexeme} → NoColon tokens → NoReading (Made (Under other R) f) tokens
not_listed {A} {B} {other} {R} n = made_none (record { none = λ x r h. at h n })
  where
    at : {ts r : List Lexeme} {x : A} → Under other R ts x r → NoColon ts → ⊥
    at (under_colon {tokens = ts} h) n = n.none other ts refl

pub no_listing : {tokens : List Lexeme} → NoColon tokens → NoReading IsListing tokens
no_listing n = or_else_none (not_listed n) (or_else_none (not_listed n) (or_else_none (not_listed n) (not_listed n)))

builtins_functions : codes "builtins" ≡ codes "functions" → ⊥
builtins_functions e = let d : 108 ≡ 99 = ap fourth e in omega (arith, d)

builtins_equations : codes "builtins" ≡ codes "equations" → ⊥
builtins_equations e = let d : 108 ≡ 97 = ap fourth e in omega (arith, d)

builtins_heuristic : codes "builtins" ≡ codes "heuristic" → ⊥
builtins_heuristic e = let d : 108 ≡ 114 = ap fourth e in omega (arith, d)

functions_equations : codes "functions" ≡ codes "equations" → ⊥
functions_equations e = let d : 99 ≡ 97 = ap fourth e in omega (arith, d)

functions_heuristic : codes "functions" ≡ codes "heuristic" → ⊥
functions_heuristic e = let d : 99 ≡ 114 = ap fourth e in omega (arith, d)

equations_heuristic : codes "equations" ≡ codes "heuristic" → ⊥
equations_heuristic e = let d : 97 ≡ 114 = ap fourth e in omega (arith, d)

-- ---- and what is spelled is read where an item or the end follows

-- no sign by which a part of a list goes on
record BehindPart (rest : List Lexeme) : Type 0 where
  pub no_dash : IsNotFirst (sign s.Dash) rest
  pub no_bracket : IsNotFirst (sign s.OpenList) rest
  pub ends : EndsTerm rest

behind_comma : (rest : List Lexeme) → BehindPart (sign s.Comma ∷ rest)
behind_comma rest = record { no_dash = λ r e. cc; no_bracket = λ r e. cc; ends = sign_ends s.Comma rest (λ i. i) }

behind_word : (w : List ℕ) (rest : List Lexeme) → BehindPart (word w ∷ rest)
behind_word w rest = record { no_dash = λ r e. cc; no_bracket = λ r e. cc; ends = word_ends w rest }

listed_taken : {A : Type 0} {R S : List Lexeme → A → List Lexeme → Type 0} → ((tokens : List Lexeme) (x : A) (rest : List Lexeme) → R tokens x rest → BehindPart rest → S tokens x rest)
    → {tokens rest : List Lexeme} {xs : List A} → AreListed R tokens xs rest → BehindPart rest → AreListed S tokens xs rest
listed_taken m (alone h) b = alone (m _ _ _ h b)
listed_taken m (and_more {mid = q} h k) b = and_more (m _ _ _ h (behind_comma q)) (listed_taken m k b)

equation_taken : {tokens rest : List Lexeme} {e : Term Written × Term Written} → SpellsEquation tokens e rest → BehindPart rest → IsEquation tokens e rest
equation_taken (g.equation {mid = m} h k) b = equation (term_taken h (sign_ends s.Equals m (λ i. i))) (term_taken k b.ends)

all_taken : {A : Type 0} {R S : List Lexeme → A → List Lexeme → Type 0} → ((tokens : List Lexeme) (x : A) (rest : List Lexeme) → R tokens x rest → BehindPart rest → S tokens x rest)
    → {tokens rest : List Lexeme} {xs : List A} → AreListed R tokens xs rest → StartsWord rest → AreAll S tokens xs rest
all_taken m h w = record { spells = listed_taken m h (subst BehindPart (sym w.are) (behind_word w.first w.others)); ended = λ r e. absurd (word_no_sign (sym w.are ∙ e)) }
  where
    word_no_sign : {w : List ℕ} {us vs : List Lexeme} → word w ∷ us ≡ sign s.Comma ∷ vs → ⊥
    word_no_sign e = cc

pub builtins_taken : {tokens rest : List Lexeme} {bs : List (List ℕ)} → AreListed SpellsBuiltin tokens bs rest → StartsWord rest → AreAll IsBuiltin tokens bs rest
builtins_taken h w = all_taken (λ ts x r k b. record { spells = k; ended = b.no_dash }) h w

pub functions_taken : {tokens rest : List Lexeme} {ss : List Symbol} → AreListed SpellsFunction tokens ss rest → StartsWord rest → AreAll IsFunction tokens ss rest
functions_taken h w = all_taken (λ ts x r k b. function_taken k b.no_bracket) h w

pub equations_taken : {tokens rest : List Lexeme} {es : List (Term Written × Term Written)} → AreListed SpellsEquation tokens es rest → StartsWord rest → AreAll IsEquation tokens es rest
equations_taken h w = all_taken (λ ts x r k b. equation_taken k b) h w

pub builtins_listing : {tokens rest : List Lexeme} {bs : List (List ℕ)} → AreListed SpellsBuiltin tokens bs rest → StartsWord rest → IsListing (word (codes "builtins") ∷ sign s.Colon ∷ tokens) (builtins_item bs) rest
builtins_listing h w = first (made_of (under_colon (builtins_taken h w)))

pub functions_listing : {tokens rest : List Lexeme} {ss : List Symbol} → AreListed SpellsFunction tokens ss rest → StartsWord rest → IsListing (word (codes "functions") ∷ sign s.Colon ∷ tokens) (functions_item ss) rest
functions_listing h w = second (not_under builtins_functions) (first (made_of (under_colon (functions_taken h w))))

pub equations_listing : {tokens rest : List Lexeme} {es : List (Term Written × Term Written)} → AreListed SpellsEquation tokens es rest → StartsWord rest → IsListing (word (codes "equations") ∷ sign s.Colon ∷ tokens) (equations_item es) rest
equations_listing h w = second (not_under builtins_equations) (second (not_under functions_equations) (first (made_of (under_colon (equations_taken h w)))))

pub heuristic_listing : {tokens rest : List Lexeme} {ws : List (List ℕ)} → SpellsWords tokens ws rest → Follows rest → IsListing (word (codes "heuristic") ∷ sign s.Colon ∷ tokens) (heuristic_item ws) rest
heuristic_listing h f = second (not_under builtins_heuristic) (second (not_under functions_heuristic) (second (not_under equations_heuristic) (made_of (under_colon (words_taken h f)))))
