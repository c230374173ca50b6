-- Balanced tokens, passed one by one while it is counted how many brackets are open.
use Rattle.std.proofs.Common.{◌≡◌, ℕ, zero, suc, ◌+◌, ◌-◌, ◌<◌, false, true≢false, List, [], ◌∷◌, codes, refl, sym, ap, subst, ◌∙◌, arith}
use Rattle.std.specs.Str.{bytes_eq}
use Rattle.std.proofs.lemmas.Bool.{false_from_ne_true}
use Rattle.std.proofs.lemmas.Slice.Eq.{bytes_eq-Decides}
use Rattle.sp_spec_text.specs.Signs as s
use Rattle.sp_spec_text.specs.Token.{Lexeme, word, sign}
use Rattle.sp_spec_text.specs.Lex.{is_end}
use Rattle.sp_spec_text.specs.Lists.{IsNotFirst, NoReading}
use Rattle.sp_spec_text.specs.Theories as g
use Rattle.sp_spec_text.specs.Theories.{is_list_bracket, SpellsBalanced}
use Rattle.sp_read_parts.proofs.One.{One}
use Rattle.sp_read_rules.specs.Rules.{IsBalanced, Closes, all_closed, one_closed, IsPassed, IsBracketed, no_bracket, bracketed}

pub balanced_one : {tokens r q : List Lexeme} → SpellsBalanced tokens r → SpellsBalanced tokens q → r ≡ q
balanced_one g.closed g.closed = refl
balanced_one g.closed (g.passed a b k) = absurd (true≢false a)
balanced_one (g.nested h k) (g.nested {rest = q} i j) = balanced_one k (subst (λ (ts : List Lexeme). SpellsBalanced ts q) (sym (balanced_one h i)) j)
balanced_one (g.nested h k) (g.passed a b i) = absurd (true≢false a)
balanced_one (g.passed a b h) g.closed = absurd (true≢false a)
balanced_one (g.passed a b h) (g.nested i j) = absurd (true≢false a)
balanced_one (g.passed a b h) (g.passed c d k) = balanced_one h k

-- ---- one token

opened_goes : {n : ℕ} {rest r : List Lexeme} → Closes (suc (suc n)) rest tt r → Closes (suc n) (sign s.OpenList ∷ rest) tt r
opened_goes (one_closed h (one_closed k l)) = one_closed (g.nested h k) l

opened_came : {n : ℕ} {rest r : List Lexeme} → Closes (suc n) (sign s.OpenList ∷ rest) tt r → Closes (suc (suc n)) rest tt r
opened_came (one_closed (g.nested h k) l) = one_closed h (one_closed k l)
opened_came (one_closed (g.passed a b h) l) = absurd (true≢false a)

pub pass_opening : {n : ℕ} {tokens inside : List Lexeme} → 0 < n → tokens ≡ sign s.OpenList ∷ inside → IsPassed n tokens (n + 1) inside
pass_opening {n = zero} lt e = absurd (omega (arith, lt))
pass_opening {n = suc n} lt e = let f : suc n + 1 ≡ suc (suc n) = omega arith in rw (e, f) (record { goes = λ r h. opened_goes h; came = λ r h. opened_came h })

closing_came : {n : ℕ} {rest r : List Lexeme} → Closes (suc n) (sign s.CloseList ∷ rest) tt r → Closes n rest tt r
closing_came (one_closed g.closed k) = k
closing_came (one_closed (g.passed a b h) k) = absurd (true≢false a)

pub pass_closing : {n : ℕ} {tokens outside : List Lexeme} → 0 < n → tokens ≡ sign s.CloseList ∷ outside → IsPassed n tokens (n - 1) outside
pass_closing {n = zero} lt e = absurd (omega (arith, lt))
pass_closing {n = suc n} lt e = let f : suc n - 1 ≡ n = omega arith in rw (e, f) (record { goes = λ r h. one_closed g.closed h; came = λ r h. closing_came h })

other_goes : {n : ℕ} {x : Lexeme} {rest r : List Lexeme} → is_list_bracket x ≡ false → is_end x ≡ false → Closes (suc n) rest tt r → Closes (suc n) (x ∷ rest) tt r
other_goes a b (one_closed h k) = one_closed (g.passed a b h) k

other_came : {n : ℕ} {x : Lexeme} {rest r : List Lexeme} → is_list_bracket x ≡ false → Closes (suc n) (x ∷ rest) tt r → Closes (suc n) rest tt r
other_came a (one_closed g.closed k) = absurd (true≢false a)
other_came a (one_closed (g.nested h i) k) = absurd (true≢false a)
other_came a (one_closed (g.passed c d h) k) = one_closed h k

no_list_bracket : (x : Lexeme) → (x ≡ sign s.OpenList → ⊥) → (x ≡ sign s.CloseList → ⊥) → is_list_bracket x ≡ false
no_list_bracket (sign s.OpenList) a b = absurd (a refl)
no_list_bracket (sign s.CloseList) a b = absurd (b refl)
no_list_bracket _ a b = refl

not_end : (x : Lexeme) → (x ≡ word (codes "end") → ⊥) → is_end x ≡ false
not_end (word w) d = false_from_ne_true (bytes_eq w (codes "end")) (λ e. d (ap word ((bytes_eq-Decides w (codes "end")).0 e)))
not_end _ d = refl

other_first : {x y : Lexeme} {tokens rest : List Lexeme} → tokens ≡ x ∷ rest → IsNotFirst y tokens → x ≡ y → ⊥
other_first {rest = ts} e d f = d ts (e ∙ ap (λ (z : Lexeme). z ∷ ts) f)

pub pass_other : {n : ℕ} {x : Lexeme} {tokens rest : List Lexeme} → 0 < n → IsNotFirst (sign s.OpenList) tokens → IsNotFirst (sign s.CloseList) tokens → IsNotFirst (word (codes "end")) tokens → tokens ≡ x ∷ rest → IsPassed n tokens n rest
pass_other {n = zero} lt a b c e = absurd (omega (arith, lt))
pass_other {n = suc n} {x} lt a b c e =
    let f = no_list_bracket x (other_first e a) (other_first e b) in
    let i = not_end x (other_first e c) in
    rw e (record { goes = λ r h. other_goes f i h; came = λ r h. other_came f h })

end_first : {n : ℕ} {rest r : List Lexeme} → Closes (suc n) (word (codes "end") ∷ rest) tt r → ⊥
end_first (one_closed (g.passed a b h) k) = true≢false b

pub pass_end : {n : ℕ} {tokens rest : List Lexeme} → 0 < n → tokens ≡ word (codes "end") ∷ rest → NoReading (Closes n) tokens
pass_end {n = zero} lt e = absurd (omega (arith, lt))
pass_end {n = suc n} lt e = rw e (record { none = λ u r h. end_first h })

nothing_first : {n : ℕ} {r : List Lexeme} → Closes (suc n) [] tt r → ⊥
nothing_first (one_closed h k) = elim h [ ]

pub pass_nothing : {n : ℕ} {tokens : List Lexeme} → 0 < n → tokens ≡ [] → NoReading (Closes n) tokens
pass_nothing {n = zero} lt e = absurd (omega (arith, lt))
pass_nothing {n = suc n} lt e = rw e (record { none = λ u r h. nothing_first h })

pub ruleset passings = (pass_opening, pass_closing, pass_other, pass_end, pass_nothing)

-- ---- all of them

pub passed_none : (n : ℕ) (tokens : List Lexeme) → IsPassed n tokens n tokens
passed_none n tokens = record { goes = λ r h. h; came = λ r h. h }

pub passed_more : {n m k : ℕ} {tokens rest ahead : List Lexeme} → IsPassed n tokens m rest → IsPassed m rest k ahead → IsPassed n tokens k ahead
passed_more g h = record { goes = λ r x. g.goes r (h.goes r x); came = λ r x. h.came r (g.came r x) }

only_closed : {tokens rest : List Lexeme} → Closes 1 tokens tt rest → SpellsBalanced tokens rest
only_closed (one_closed h all_closed) = h

pub passed_all : {m : ℕ} {tokens rest : List Lexeme} → IsPassed 1 tokens m rest → m ≡ 0 → IsBalanced tokens tt rest
passed_all {m} {rest = ts} h e = only_closed (h.goes ts (rw e all_closed))

pub passed_stuck : {m : ℕ} {tokens rest : List Lexeme} → IsPassed 1 tokens m rest → NoReading (Closes m) rest → NoReading IsBalanced tokens
passed_stuck g n = record { none = λ u r h. n.none tt r (g.came r (one_closed h all_closed)) }

pub ruleset balances = (passed_none, passed_more, passed_all, passed_stuck)

-- ---- brackets that may stand there

pub bracketed_at : {tokens inside rest : List Lexeme} → tokens ≡ sign s.OpenList ∷ inside → IsBalanced inside tt rest → IsBracketed tokens tt rest
bracketed_at e h = rw e (bracketed h)

pub bracketed_none : {tokens inside : List Lexeme} → tokens ≡ sign s.OpenList ∷ inside → NoReading IsBalanced inside → NoReading IsBracketed tokens
bracketed_none e n = record { none = λ u r h. at h e n }
  where
    at : {u : Unit {0}} {ts inside r : List Lexeme} → IsBracketed ts u r → ts ≡ sign s.OpenList ∷ inside → NoReading IsBalanced inside → ⊥
    at {inside = i} (no_bracket d) e n = d i e
    at {inside = i} (bracketed {tokens = ts} {rest = r} h) e n = let f : ts ≡ i = cc in n.none tt r (subst (λ (us : List Lexeme). SpellsBalanced us r) f h)

pub ruleset brackets = (no_bracket, bracketed_at, bracketed_none)

bracketed_one : {u v : Unit {0}} {tokens r q : List Lexeme} → IsBracketed tokens u r → IsBracketed tokens v q → r ≡ q
bracketed_one (no_bracket d) (no_bracket e) = refl
bracketed_one (no_bracket d) (bracketed {tokens = ts} h) = absurd (d ts refl)
bracketed_one (bracketed {tokens = ts} h) (no_bracket d) = absurd (d ts refl)
bracketed_one (bracketed h) (bracketed k) = balanced_one h k

pub brackets' : One IsBracketed
brackets' = record { one = λ {tokens} {r} {q} h k. (refl, bracketed_one h k) }
