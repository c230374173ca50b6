-- The formulas of the grammar are in the table.
use Rattle.std.proofs.Common.{◌≡◌, ℕ, suc, ◌+◌, ◌<◌, ◌==◌, lt-ltb, Bool, true, false, List, [], ◌∷◌, refl, sym, ap, subst, ◌∙◌}
use Rattle.sp_spec_text.specs.Signs.{Sign}
use Rattle.sp_spec_text.specs.Signs as s
use Rattle.sp_spec_text.specs.Token.{Lexeme, word, constant, sign, solve, wide, block}
use Rattle.sp_spec.specs.Term.{Term, Terms}
use Rattle.sp_spec.specs.Formula.{Written, Formula}
use Rattle.sp_spec_text.specs.Names.{names_fact}
use Rattle.sp_spec_text.specs.Lists.{IsNotFirst}
use Rattle.sp_spec_text.specs.Formulas as g
use Rattle.sp_spec_text.specs.Formulas.{SpellsVariable, SpellsTerm, SpellsArguments, SpellsAnnotations, NoSign, SpellsUnit, SpellsNegation, SpellsConjunction, SpellsAnds, SpellsDisjunction, SpellsOrs, SpellsImplication, SpellsFormula, SpellsReach}
use Rattle.sp_spec_text.specs.Theories.{SpellsQuoted}
use Rattle.sp_await.specs.Parts.{Awaited}
use Rattle.sp_await.specs.Parts as a
use Rattle.sp_await.specs.Table.{code, deep, is_sign}
use Rattle.sp_law_await.specs.Language.{Has, by_token, by_parts, by_quote, HasAll, all_had, and_all}
use Rattle.sp_law_await.proofs.Tokens.{same_sign, fact_is_name}
use Rattle.sp_law_await.proofs.Had.{one_had, no_tokens}
use Rattle.sp_law_await.proofs.CompleteParts.{Without, without, has_fact_name, has_variable, has_term, has_arguments, has_opened, has_binders, annotations_left}
use Rattle.std.proofs.lemmas.Bool.{false_from_ne_true}
use Rattle.sp_law_await.proofs.CompleteUnits.{Untailed, untailed, no_colon, untailed_apart, more_left, closing_left, closing_none, truth_of_closing, unit_word, negation_of_unit, with_less, with_equals, unit_of_variable, opens, unit_of_term}

-- ---- what may follow

-- a token stands there, and the first is no sign by which an implication goes on
pub data Unjoined : List Lexeme → Type 0 where
  unjoined : {x : Lexeme} {tokens : List Lexeme} → is_sign s.And x ≡ false → is_sign s.Or x ≡ false → is_sign s.Implies x ≡ false → Unjoined (x ∷ tokens)

sign_differs : (z : Sign) (x : Lexeme) (tokens : List Lexeme) → IsNotFirst (sign z) (x ∷ tokens) → is_sign z x ≡ false
sign_differs z (word w) tokens d = refl
sign_differs z (constant c) tokens d = refl
sign_differs z (sign y) tokens d = false_from_ne_true (code y == code z) (λ h. d tokens (ap (λ (u : Sign). sign u ∷ tokens) (same_sign y z h)))
sign_differs z (solve t) tokens d = refl
sign_differs z (wide v) tokens d = refl
sign_differs z block tokens d = refl

unjoined_of : {tokens : List Lexeme} → Untailed tokens → NoSign tokens → Unjoined tokens
unjoined_of (untailed {x = x} {tokens = ts} c o b l e) d = unjoined (sign_differs s.And x ts d.no_and) (sign_differs s.Or x ts d.no_or) (sign_differs s.Implies x ts d.no_arrow)

no_iff : {tokens : List Lexeme} → Untailed tokens → IsNotFirst (sign s.Iff) tokens → Without (is_sign s.Iff) tokens
no_iff (untailed {x = x} {tokens = ts} c o b l e) d = without (sign_differs s.Iff x ts d)

more_none : {n : ℕ} {tokens : List Lexeme} → Unjoined tokens → Has (a.More n) tokens tokens
more_none (unjoined c d i) = by_parts (rw (c, d, i) refl) all_had

twice_none : {n : ℕ} {tokens : List Lexeme} → Without (is_sign s.Iff) tokens → Has (a.Twice n) tokens tokens
twice_none (without e) = by_parts (rw e refl) all_had

-- ---- parts of formulas

-- A negation and what stands behind it in an implication. In brackets that nothing else stands in, it begins as a term may.
record First (m : ℕ) (tokens rest : List Lexeme) : Type 0 where
  mid : List Lexeme
  start : (n k : ℕ) (end : List Lexeme) → deep n k ≡ m → Has (a.Closing n k) mid end → Untailed end → Has (a.Negation n k) tokens end
  ends : Untailed mid
  more : Has (a.More m) mid rest

lone_first : {m : ℕ} {tokens rest : List Lexeme} → First m tokens rest → HasAll (a.Negation m 0 ∷ a.More m ∷ []) tokens rest
lone_first {m} f = and_all (f.start m 0 f.mid refl (closing_none f.ends) f.ends) (one_had f.more)

-- and the same of a formula
record Whole (m : ℕ) (tokens rest : List Lexeme) : Type 0 where
  mid : List Lexeme
  behind : List Lexeme
  start : (n k : ℕ) (end : List Lexeme) → deep n k ≡ m → Has (a.Closing n k) mid end → Untailed end → Has (a.Negation n k) tokens end
  ends : Untailed mid
  more : Has (a.More m) mid behind
  twice : Has (a.Twice m) behind rest

whole_all : {m : ℕ} {parts : List Awaited} {tokens behind rest : List Lexeme} → Whole m tokens behind → HasAll parts behind rest → HasAll (a.Negation m 0 ∷ a.More m ∷ a.Twice m ∷ parts) tokens rest
whole_all {m} w h = and_all (w.start m 0 w.mid refl (closing_none w.ends) w.ends) (and_all w.more (and_all w.twice h))

closes_one : {n k m : ℕ} {tokens mid behind rest : List Lexeme} → deep n k + 1 ≡ m → Untailed tokens → Has (a.More m) tokens mid → Has (a.Twice m) mid (sign s.Close ∷ behind) → Has (a.Closing n k) behind rest → Has (a.Closing n (suc k)) tokens rest
closes_one {n} {k} {m} {mid = mid} {behind = behind} e (untailed {x = x} {tokens = ts} c o b l q) h i j =
    by_parts refl (and_all (subst (λ (d : ℕ). Has (a.More d) (x ∷ ts) mid) (sym e) h) (and_all (subst (λ (d : ℕ). Has (a.Twice d) mid (sign s.Close ∷ behind)) (sym e) i) (and_all (by_token refl all_had) (one_had j))))

two_and : {p q : Awaited} {parts : List Awaited} {tokens mid rest : List Lexeme} → HasAll (p ∷ q ∷ []) tokens mid → HasAll parts mid rest → HasAll (p ∷ q ∷ parts) tokens rest
two_and (and_all h (and_all i all_had)) k = and_all h (and_all i k)

quantified_left : {m d : ℕ} {parts : List Awaited} {tokens mid rest : List Lexeme} {vs : List Written} {body : List Lexeme} → m ≡ d → g.SpellsBinders tokens vs body → Whole d body mid → HasAll parts mid rest
    → HasAll (a.Variable ∷ a.Binders ∷ a.Negation m 0 ∷ a.More m ∷ a.Twice m ∷ parts) tokens rest
quantified_left {m} {d} {parts} {tokens} {rest = rest} e b w h = subst (λ (i : ℕ). HasAll (a.Variable ∷ a.Binders ∷ a.Negation i 0 ∷ a.More i ∷ a.Twice i ∷ parts) tokens rest) (sym e) (two_and (has_binders b) (whole_all w h))

-- the other side of an equation, the later time, the time of an action; each with the brackets behind it
side_had : {n k m : ℕ} {tokens mid rest : List Lexeme} {x : Term Written} → deep n k ≡ m → SpellsTerm m tokens x mid → Untailed mid → Has (a.Closing n k) mid rest → Has (a.Side n k) (sign s.Equals ∷ tokens) rest
side_had {n} {k} {tokens = tokens} {mid = mid} e t u c = by_token refl (and_all (subst (λ (d : ℕ). Has (a.Term d) tokens mid) (sym e) (has_term t (untailed_apart u))) (one_had c))

later_had : {n k : ℕ} {tokens mid rest : List Lexeme} {v : Written} → SpellsVariable tokens v mid → Untailed mid → Has (a.Closing n k) mid rest → Has (a.Order n k) (sign s.Less ∷ tokens) rest
later_had v u c = by_token refl (and_all (has_variable v (no_colon u)) (one_had c))

shown_had : {n k : ℕ} {tokens mid behind rest : List Lexeme} {v : Written} → SpellsAnnotations tokens (sign s.At ∷ mid) → SpellsVariable mid v behind → Untailed behind → Has (a.Closing n k) behind rest → Has (a.Shown n k) tokens rest
shown_had {n} {k} g.no_annotation v u c = by_token refl (and_all {part = a.Variable} (has_variable v (no_colon u)) (one_had {part = a.Closing n k} c))
shown_had {n} {k} (g.annotations h) v u c = by_token refl (two_and (annotations_left h) (and_all {part = a.Exactly s.At} (by_token refl all_had) (and_all {part = a.Variable} (has_variable v (no_colon u)) (one_had {part = a.Closing n k} c))))

arguments_had : {n k m : ℕ} {tokens notes mid behind rest : List Lexeme} {xs : Terms Written} {v : Written} → deep n k ≡ m → m < 128 → SpellsArguments (m + 1) tokens xs notes → SpellsAnnotations notes (sign s.At ∷ mid) → SpellsVariable mid v behind
    → Untailed behind → Has (a.Closing n k) behind rest → Has (a.Named n k) (sign s.Open ∷ tokens) rest
arguments_had {n} {k} {tokens = tokens} {notes = notes} e lt h i v u c =
    by_token (rw (opens n k e lt) refl) (and_all {part = a.Arguments (deep n k + 1)} (subst (λ (d : ℕ). Has (a.Arguments (d + 1)) tokens notes) (sym e) (has_arguments h)) (one_had {part = a.Shown n k} (shown_had i v u c)))

persistent_had : {n k m : ℕ} {w : List ℕ} {tokens notes mid behind rest : List Lexeme} {xs : Terms Written} {v : Written} → names_fact w ≡ true → deep n k ≡ m → m < 128 → SpellsArguments (m + 1) tokens xs notes → SpellsAnnotations notes (sign s.At ∷ mid)
    → SpellsVariable mid v behind → Untailed behind → Has (a.Closing n k) behind rest → Has (a.Unit n k) (sign s.Bang ∷ word w ∷ sign s.Open ∷ tokens) rest
persistent_had {n} {k} {tokens = tokens} {mid = mid} d e lt h i v u c =
    by_token (rw (opens n k e lt) refl) (and_all {part = a.FactName} (has_fact_name d) (and_all {part = a.Opened (deep n k)} (subst (λ (q : ℕ). Has (a.Opened q) (sign s.Open ∷ tokens) (sign s.At ∷ mid)) (sym e) (has_opened lt h i (without refl)))
    (and_all {part = a.Exactly s.At} (by_token refl all_had) (and_all {part = a.Variable} (has_variable v (no_colon u)) (one_had {part = a.Closing n k} c)))))

both_ways : {b : Bool} → b ≡ true → b ≡ false → ⊥
both_ways e d = let none : true ≡ false = sym e ∙ d in cc

-- ---- formulas

mutual
  unit_had : {m : ℕ} {f : Formula} {tokens mid : List Lexeme} → SpellsUnit m tokens f mid → (n k : ℕ) (rest : List Lexeme) → deep n k ≡ m → Has (a.Closing n k) mid rest → Untailed rest → Has (a.Unit n k) tokens rest
  unit_had (g.bracketed {tokens = ts} lt h) n k rest e c u =
      let w = formula_had h (untailed refl refl refl refl refl) (unjoined refl refl refl) (without refl) in
      let d = ap (λ (i : ℕ). i + 1) e in
      by_token (rw (opens n k e lt) refl) (one_had {part = a.Negation n (suc k)} (w.start n (suc k) rest d (closes_one d w.ends w.more w.twice c) u))
  unit_had (g.every lt b h) n k rest e c u = by_token (rw (opens n k e lt) refl) (quantified_left (ap (λ (i : ℕ). i + 1) e) b (reach_had h (closing_left k c u)) (one_had {part = a.Closing n k} c))
  unit_had (g.there_is lt b h) n k rest e c u = by_token (rw (opens n k e lt) refl) (quantified_left (ap (λ (i : ℕ). i + 1) e) b (reach_had h (closing_left k c u)) (one_had {part = a.Closing n k} c))
  unit_had g.true_unit n k rest e c u = by_token refl (one_had {part = a.Truth n k} (truth_of_closing c u))
  unit_had g.false_unit n k rest e c u = by_token refl (one_had {part = a.Truth n k} (truth_of_closing c u))
  unit_had (g.action (g.linear {w = w} d lt h i) v) n k rest e c u =
      let named = arguments_had e lt h i v (closing_left k c u) c in
      unit_word (fact_is_name w d) (λ q. named) (λ q. absurd (both_ways d q)) (by_parts refl (one_had named))
  unit_had (g.action (g.persistent d lt h i) v) n k rest e c u = persistent_had d e lt h i v (closing_left k c u) c
  unit_had (g.equation h t) n k rest e c u = unit_of_term h n k e with_equals (side_had e t (closing_left k c u) c)
  unit_had (g.order v w) n k rest e c u = unit_of_variable v with_less (later_had w (closing_left k c u) c)

  negation_had : {m : ℕ} {f : Formula} {tokens mid : List Lexeme} → SpellsNegation m tokens f mid → (n k : ℕ) (rest : List Lexeme) → deep n k ≡ m → Has (a.Closing n k) mid rest → Untailed rest → Has (a.Negation n k) tokens rest
  negation_had {tokens = tokens} (g.unit_alone h) n k rest e c u = negation_of_unit tokens (unit_had h n k rest e c u)
  negation_had {mid = mid} (g.negated h) n k rest e c u = by_token refl (and_all {part = a.Unit (deep n k) 0} (unit_had h (deep n k) 0 mid e (closing_none (closing_left k c u)) (closing_left k c u)) (one_had {part = a.Closing n k} c))

  conjunction_had : {m : ℕ} {f : Formula} {tokens mid rest : List Lexeme} → SpellsConjunction m tokens f mid → Has (a.More m) mid rest → Untailed rest → First m tokens rest
  conjunction_had (g.conjunction {mid = mid} h l) i u = let j = ands_had l i u in record { mid = mid; start = λ n k end e c v. negation_had h n k end e c v; ends = more_left j u; more = j }

  ands_had : {m : ℕ} {f g : Formula} {tokens mid rest : List Lexeme} → SpellsAnds m f tokens g mid → Has (a.More m) mid rest → Untailed rest → Has (a.More m) tokens rest
  ands_had g.no_more_and i u = i
  ands_had {m} (g.and_then {mid = mid} h l) i u = let j = ands_had l i u in by_token refl (and_all {part = a.Negation m 0} (negation_had h m 0 mid refl (closing_none (more_left j u)) (more_left j u)) (one_had {part = a.More m} j))

  disjunction_had : {m : ℕ} {f : Formula} {tokens mid rest : List Lexeme} → SpellsDisjunction m tokens f mid → Has (a.More m) mid rest → Untailed rest → First m tokens rest
  disjunction_had (g.disjunction h l) i u = conjunction_had h (ors_had l i u) u

  ors_had : {m : ℕ} {f g : Formula} {tokens mid rest : List Lexeme} → SpellsOrs m f tokens g mid → Has (a.More m) mid rest → Untailed rest → Has (a.More m) tokens rest
  ors_had g.no_more_or i u = i
  ors_had (g.or_then h l) i u = by_token refl (lone_first (conjunction_had h (ors_had l i u) u))

  implication_had : {m : ℕ} {f : Formula} {tokens rest : List Lexeme} → SpellsImplication m tokens f rest → Untailed rest → Unjoined rest → First m tokens rest
  implication_had (g.alone h) u j = disjunction_had h (more_none j) u
  implication_had {m} (g.implication h lt l) u j = disjunction_had h (by_token (rw (lt-ltb m 128 lt) refl) (lone_first (implication_had l u j))) u

  formula_had : {m : ℕ} {f : Formula} {tokens rest : List Lexeme} → SpellsFormula m tokens f rest → Untailed rest → Unjoined rest → Without (is_sign s.Iff) rest → Whole m tokens rest
  formula_had {rest = rest} (g.one h) u j d = let f = implication_had h u j in record { mid = f.mid; behind = rest; start = f.start; ends = f.ends; more = f.more; twice = twice_none d }
  formula_had (g.two {mid = mid} h l) u j d =
      let f = implication_had h (untailed refl refl refl refl refl) (unjoined refl refl refl) in
      record { mid = f.mid; behind = sign s.Iff ∷ mid; start = f.start; ends = f.ends; more = f.more; twice = by_token refl (lone_first (implication_had l u j)) }

  reach_had : {m : ℕ} {f : Formula} {tokens rest : List Lexeme} → SpellsReach m tokens f rest → Untailed rest → Whole m tokens rest
  reach_had {rest = rest} (g.reach_one h d i) u = let f = implication_had h u (unjoined_of u d) in record { mid = f.mid; behind = rest; start = f.start; ends = f.ends; more = f.more; twice = twice_none (no_iff u i) }
  reach_had (g.reach_two {mid = mid} h l d) u =
      let f = implication_had h (untailed refl refl refl refl refl) (unjoined refl refl refl) in
      record { mid = f.mid; behind = sign s.Iff ∷ mid; start = f.start; ends = f.ends; more = f.more; twice = by_token refl (lone_first (implication_had l u (unjoined_of u d))) }

-- a formula up to the quote behind it
formula_left : {f : Formula} {tokens rest : List Lexeme} → SpellsFormula 0 tokens f (sign s.Quote ∷ rest) → HasAll (a.Negation 0 0 ∷ a.More 0 ∷ a.Twice 0 ∷ a.Exactly s.Quote ∷ []) tokens rest
formula_left h = whole_all (formula_had h (untailed refl refl refl refl refl) (unjoined refl refl refl) (without refl)) (one_had {part = a.Exactly s.Quote} (by_token refl all_had))

pub quoted_had : {f : Formula} (tokens : List Lexeme) {rest : List Lexeme} → SpellsQuoted tokens f rest → Has a.Quoted tokens rest
quoted_had [] h = absurd (no_tokens (formula_left h))
quoted_had (x ∷ tokens) h = by_quote refl (formula_left h)
