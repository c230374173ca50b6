-- What the table says of formulas, the grammar says.
use Rattle.std.proofs.Common.{◌≡◌, ℕ, zero, suc, ◌+◌, ◌<◌, ◌⊎◌, inl, inr, true, not, List, [], ◌∷◌, Some, codes, refl, sym, subst}
use Rattle.sp_spec_text.specs.Signs.{Sign}
use Rattle.sp_spec_text.specs.Signs as s
use Rattle.sp_spec_text.specs.Token.{Lexeme, word, constant, sign}
use Rattle.sp_spec.specs.Formula.{Mark, Written, Formula, equals}
use Rattle.sp_spec_text.specs.Names.{IsName, is_reserved, names_fact, mark_at}
use Rattle.sp_spec_text.specs.Formulas as g
use Rattle.sp_spec_text.specs.Formulas.{SpellsVariable, SpellsUnit, SpellsNegation}
use Rattle.sp_await.specs.Parts as a
use Rattle.sp_await.specs.Table.{Move, takes, stuck, deep, is_quantifier, is_truth, word_move, unit_move, nests}
use Rattle.sp_law_await.proofs.Meaning.{Spelled, one_sign, one_word, led, opened, OneClosed, ClosedOf, equated, OrderOf, less, as_term, BareOf, of_sort, of_arguments, of_braces, of_none, NamedOf, as_fact, as_name, StartOf, formula_first, term_first}
use Rattle.sp_law_await.proofs.Joining.{formula_of, reach_of}
use Rattle.sp_law_await.proofs.Tokens.{either_word, names_truth, names_falsity, name_is, fact_is_name}
use Rattle.sp_law_await.proofs.Means.{MeansAll, nothing, and_then, Sound, by_if, by_nests, one_is}
use Rattle.sp_law_await.proofs.SoundParts.{marked_variable, binders_of}

-- ---- what stands first

-- where no bracket is open, a term makes a unit with what is behind it
pub lone_unit : {n : ℕ} {tokens rest : List Lexeme} → StartOf SpellsUnit n zero tokens rest → Spelled (SpellsUnit n) tokens rest
lone_unit {n} {tokens} (formula_first {f = f} h e) = (f, subst (λ (r : List Lexeme). SpellsUnit n tokens f r) e h)
lone_unit {n} {tokens} (term_first {x = x} h (equated {x = y} k e)) = (equals x y, subst (λ (r : List Lexeme). SpellsUnit n tokens (equals x y) r) e (g.equation h k))

pub lone_negation : {n : ℕ} {tokens rest : List Lexeme} → StartOf SpellsNegation n zero tokens rest → Spelled (SpellsNegation n) tokens rest
lone_negation {n} {tokens} (formula_first {f = f} h e) = (f, subst (λ (r : List Lexeme). SpellsNegation n tokens f r) e h)
lone_negation {n} {tokens} (term_first {x = x} h (equated {x = y} k e)) = (equals x y, subst (λ (r : List Lexeme). SpellsNegation n tokens (equals x y) r) e (g.unit_alone (g.equation h k)))

bracketed_first : {n k : ℕ} {f : Formula} {tokens mid rest : List Lexeme} → deep n k < 128 → SpellsNegation (deep n k + 1) tokens f mid → OneClosed (deep n k + 1) (ClosedOf n k) mid rest → StartOf SpellsUnit n k (sign s.Open ∷ tokens) rest
bracketed_first lt h c = formula_first (g.bracketed lt (formula_of h c.more c.twice).1) c.others

bracket_first : {n k : ℕ} {tokens rest : List Lexeme} → deep n k < 128 → StartOf SpellsNegation n (suc k) tokens rest → StartOf SpellsUnit n k (sign s.Open ∷ tokens) rest
bracket_first lt (formula_first h c) = bracketed_first lt h c
bracket_first lt (term_first h (inl (equated e c))) = bracketed_first lt (g.unit_alone (g.equation h e)) c
bracket_first lt (term_first h (inr (led k))) = term_first (g.brackets lt h) k

variable_first : {n k : ℕ} {v : Written} {tokens mid rest : List Lexeme} → SpellsVariable tokens v mid → OrderOf n k mid rest → StartOf SpellsUnit n k tokens rest
variable_first h (less i c) = formula_first (g.order h i) c
variable_first h (as_term k) = term_first (g.variable h) k

bare_first : {n k : ℕ} {w : List ℕ} {tokens rest : List Lexeme} → IsName w → BareOf n k tokens rest → StartOf SpellsUnit n k (word w ∷ tokens) rest
bare_first e (of_sort i o) = variable_first (g.sorted e i) o
bare_first e (of_arguments lt h k) = term_first (g.application e lt h) k
bare_first e (of_braces lt h i k) = term_first (g.braced e lt h i) k
bare_first e (of_none o) = variable_first (g.unmarked e) o

named_first : {n k : ℕ} {w : List ℕ} {tokens rest : List Lexeme} → names_fact w ≡ true → NamedOf n k tokens rest → StartOf SpellsUnit n k (word w ∷ tokens) rest
named_first e (as_fact lt h i v c) = formula_first (g.action (g.linear e lt h i) v) c
named_first {w = w} e (as_name b) = bare_first (fact_is_name w e) b

marked_first : {n k : ℕ} {y : Sign} {m : Mark} {tokens rest : List Lexeme} → mark_at y ≡ Some m → MeansAll (a.Name ∷ a.Order n k ∷ []) tokens rest → StartOf SpellsUnit n k (sign y ∷ tokens) rest
marked_first e (and_then n (and_then o nothing)) = variable_first (marked_variable e n).1 o

tuple_first : {n k : ℕ} {tokens rest : List Lexeme} → deep n k < 128 → MeansAll (a.Tuple (deep n k + 1) s.Greater ∷ a.Side n k ∷ []) tokens rest → StartOf SpellsUnit n k (sign s.Less ∷ tokens) rest
tuple_first lt (and_then h (and_then k nothing)) = term_first (g.tuple lt h.1) k

persistent_first : {n k : ℕ} {tokens rest : List Lexeme} → MeansAll (a.FactName ∷ a.Opened (deep n k) ∷ a.Exactly s.At ∷ a.Variable ∷ a.Closing n k ∷ []) tokens rest → StartOf SpellsUnit n k (sign s.Bang ∷ tokens) rest
persistent_first (and_then (one_word e) (and_then (opened lt h i) (and_then one_sign (and_then v (and_then c nothing))))) = formula_first (g.action (g.persistent e lt h i) v.1) c

quantified_first : {n k : ℕ} {w : List ℕ} {tokens rest : List Lexeme} → (w ≡ codes "All") ⊎ (w ≡ codes "Ex") → deep n k < 128
    → MeansAll (a.Variable ∷ a.Binders ∷ a.Negation (deep n k + 1) 0 ∷ a.More (deep n k + 1) ∷ a.Twice (deep n k + 1) ∷ a.Closing n k ∷ []) tokens rest → StartOf SpellsUnit n k (word w ∷ tokens) rest
quantified_first {n} {k} {tokens = tokens} {rest = rest} (inl e) lt (and_then v (and_then b (and_then h (and_then m (and_then t (and_then c nothing)))))) =
    subst (λ (u : List ℕ). StartOf SpellsUnit n k (word u ∷ tokens) rest) (sym e) (formula_first (g.every lt (binders_of v.1 b).1 (reach_of (lone_negation h).1 m t).1) c)
quantified_first {n} {k} {tokens = tokens} {rest = rest} (inr e) lt (and_then v (and_then b (and_then h (and_then m (and_then t (and_then c nothing)))))) =
    subst (λ (u : List ℕ). StartOf SpellsUnit n k (word u ∷ tokens) rest) (sym e) (formula_first (g.there_is lt (binders_of v.1 b).1 (reach_of (lone_negation h).1 m t).1) c)

truth_first : {n k : ℕ} {w : List ℕ} {tokens rest : List Lexeme} → (w ≡ codes "T") ⊎ (w ≡ codes "F") → NamedOf n k tokens rest ⊎ ClosedOf n k tokens rest → StartOf SpellsUnit n k (word w ∷ tokens) rest
truth_first {n} {k} {tokens = tokens} {rest = rest} (inl e) (inl h) = subst (λ (u : List ℕ). StartOf SpellsUnit n k (word u ∷ tokens) rest) (sym e) (named_first (let i : names_fact (codes "T") ≡ true = names_truth in i) h)
truth_first {n} {k} {tokens = tokens} {rest = rest} (inl e) (inr c) = subst (λ (u : List ℕ). StartOf SpellsUnit n k (word u ∷ tokens) rest) (sym e) (formula_first g.true_unit c)
truth_first {n} {k} {tokens = tokens} {rest = rest} (inr e) (inl h) = subst (λ (u : List ℕ). StartOf SpellsUnit n k (word u ∷ tokens) rest) (sym e) (named_first (let i : names_fact (codes "F") ≡ true = names_falsity in i) h)
truth_first {n} {k} {tokens = tokens} {rest = rest} (inr e) (inr c) = subst (λ (u : List ℕ). StartOf SpellsUnit n k (word u ∷ tokens) rest) (sym e) (formula_first g.false_unit c)

-- ---- units and negations

sound_word : (n k : ℕ) (w : List ℕ) → Sound (a.Unit n k) (word w) (word_move n k (word w))
sound_word n k w =
    by_if S (is_quantifier (word w)) (nests (deep n k) (takes (a.Variable ∷ a.Binders ∷ a.Negation (deep n k + 1) 0 ∷ a.More (deep n k + 1) ∷ a.Twice (deep n k + 1) ∷ a.Closing n k ∷ []))) _
    (λ e. by_nests S (deep n k) (takes (a.Variable ∷ a.Binders ∷ a.Negation (deep n k + 1) 0 ∷ a.More (deep n k + 1) ∷ a.Twice (deep n k + 1) ∷ a.Closing n k ∷ [])) tt (λ lt ts r h. quantified_first (either_word w (codes "All") (codes "Ex") e) lt h))
    (λ q. by_if S (is_truth (word w)) (takes (a.Truth n k ∷ [])) _ (λ e ts r h. truth_first (either_word w (codes "T") (codes "F") e) (one_is h))
    (λ q. by_if S (names_fact w) (takes (a.Named n k ∷ [])) _ (λ e ts r h. named_first e (one_is h))
    (λ q. by_if S (not (is_reserved w)) (takes (a.Bare n k ∷ [])) stuck (λ e ts r h. bare_first (name_is e) (one_is h)) (λ e. tt))))
  where
    S : Move → Type 0
    S m = Sound (a.Unit n k) (word w) m

pub sound_unit : (n k : ℕ) (x : Lexeme) → Sound (a.Unit n k) x (unit_move n k x)
sound_unit n k (sign s.Open) = by_nests (Sound (a.Unit n k) (sign s.Open)) (deep n k) (takes (a.Negation n (suc k) ∷ [])) tt (λ lt ts r h. bracket_first lt (one_is h))
sound_unit n k (sign s.Less) = by_nests (Sound (a.Unit n k) (sign s.Less)) (deep n k) (takes (a.Tuple (deep n k + 1) s.Greater ∷ a.Side n k ∷ [])) tt (λ lt ts r h. tuple_first lt h)
sound_unit n k (constant c) = λ ts r h. term_first g.fixed (one_is h)
sound_unit n k (sign s.Tilde) = λ ts r h. marked_first refl h
sound_unit n k (sign s.Dollar) = λ ts r h. marked_first refl h
sound_unit n k (sign s.Hash) = λ ts r h. marked_first refl h
sound_unit n k (sign s.Bang) = by_nests (Sound (a.Unit n k) (sign s.Bang)) (deep n k) (takes (a.FactName ∷ a.Opened (deep n k) ∷ a.Exactly s.At ∷ a.Variable ∷ a.Closing n k ∷ [])) tt (λ lt ts r h. persistent_first h)
sound_unit n k (word w) = sound_word n k w
sound_unit n k _ = tt
