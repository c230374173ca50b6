-- No name in a text has a closing bracket: names are words, and a builtin's are joined by a dash. Constants may have brackets, but no line feed.
use Rattle.std.proofs.Common.{◌≡◌, ℕ, Bool, true, false, List, [], ◌∷◌, ◌++◌, codes, refl, sym, ap, ◌∙◌, true≢false}
use Rattle.std.specs.Prelude.{◌==◌, ◌||◌}
use Rattle.std.proofs.lemmas.Bool.{eqb-true, or_parts}
use Rattle.sp_spec.specs.Lists.{Every}
use Rattle.sp_spec.specs.Term.{Term, var, constant, name, app, Terms, none, more}
use Rattle.sp_spec.specs.Rule.{Fact, Action}
use Rattle.sp_spec.specs.Formula.{Written, Formula, truth, falsity, happens, equals, precedes, not_so, both, either, implies, for_all, for_some}
use Rattle.sp_spec.proofs.Lists.{every_weaken, every_append}
use Rattle.sp_spec_text.specs.Names.{IsWord}
use Rattle.sp_spec_text.specs.Signs.{Sign}
use Rattle.sp_spec_text.specs.Token.{Lexeme}
use Rattle.sp_spec_text.specs.Shapes.{quantified}
use Rattle.sp_spec_text.specs.Formulas as g
use Rattle.sp_spec_text.specs.Formulas.{SpellsVariable, SpellsTerm, SpellsTuple, SpellsArguments, SpellsTerms, SpellsFact, SpellsBinders, quantified_some, SpellsUnit, SpellsNegation, SpellsConjunction, SpellsAnds, SpellsDisjunction, SpellsOrs, SpellsImplication, SpellsFormula, SpellsReach}
use Rattle.sp_spec_text.specs.Theories.{SpellsQuoted}
use Rattle.sp_law_printed_log.proofs.TokenWords.{Spoken, spoken_plain}
use Rattle.sp_law_printed_log.proofs.WordSplits.{in_word, word_bytes}
use Rattle.sp_law_printed_log.proofs.NoFeeds.{NoFeed, no_feed_quotable}
use Rattle.sp_law_printed_log.proofs.SpelledNames.{Spelled, annotations_behind}

-- ---- bytes

-- no byte of it is a closing bracket
abbrev pub IsPlain : List ℕ → Type 0
IsPlain bytes = Every (λ (b : ℕ). (b == 41) ≡ false) bytes

abbrev has_bracket : List ℕ → Bool
has_bracket [] = false
has_bracket (b ∷ bytes) = b == 41 || has_bracket bytes

-- so that this is seen of words that are written out
pub plain_in : (bytes : List ℕ) → has_bracket bytes ≡ false → IsPlain bytes
plain_in [] h = tt
plain_in (b ∷ bytes) h = let p = or_parts (b == 41) (has_bracket bytes) h in (p.0, plain_in bytes p.1)

plain_byte : (b : ℕ) → in_word b ≡ true → (b == 41) ≡ false
plain_byte b h = by_test (b == 41) refl
  where
    by_test : (t : Bool) → (b == 41) ≡ t → t ≡ false
    by_test true e = absurd (true≢false (sym h ∙ ap in_word (eqb-true b 41 e)))
    by_test false e = refl

pub plain_word : (w : List ℕ) → IsWord w → IsPlain w
plain_word w h = every_weaken (λ (b : ℕ). in_word b ≡ true) (λ (b : ℕ). (b == 41) ≡ false) plain_byte w (word_bytes w h)

pub plain_append : (xs ys : List ℕ) → IsPlain xs → IsPlain ys → IsPlain (xs ++ ys)
plain_append xs ys h k = every_append (λ (b : ℕ). (b == 41) ≡ false) xs ys h k

-- ---- terms and facts

abbrev mutual
  pub IsPlainTerm : Term Written → Type 0
  IsPlainTerm (var x) = IsPlain x.name
  IsPlainTerm (constant c) = NoFeed c
  IsPlainTerm (name n) = Unit {0}
  IsPlainTerm (app f ts) = IsPlain f × ArePlainTerms ts

  pub ArePlainTerms : Terms Written → Type 0
  ArePlainTerms none = Unit {0}
  ArePlainTerms (more t ts) = IsPlainTerm t × ArePlainTerms ts

abbrev pub IsPlainVariable : Written → Type 0
IsPlainVariable x = IsPlain x.name

abbrev pub IsPlainFact : Fact Written → Type 0
IsPlainFact f = IsPlain f.symbol × ArePlainTerms f.args

abbrev pub IsPlainAction : Action Written → Type 0
IsPlainAction a = IsPlain a.symbol × ArePlainTerms a.args

pub variable_plain : {v : Written} {tokens rest : List Lexeme} → SpellsVariable tokens v rest → Every Spoken tokens → Spelled (IsPlainVariable v) rest
variable_plain (g.marked {w = w} e n) k = record { says = plain_word w k.1.0; behind = k.1.1 }
variable_plain (g.unmarked {w = w} n) k = record { says = plain_word w k.0; behind = k.1 }
variable_plain (g.sorted {w = w} n e) k = record { says = plain_word w k.0; behind = k.1.1.1 }

mutual
  pub term_plain : {n : ℕ} {x : Term Written} {tokens rest : List Lexeme} → SpellsTerm n tokens x rest → Every Spoken tokens → Spelled (IsPlainTerm x) rest
  term_plain (g.fixed {c = c}) k = record { says = no_feed_quotable c k.0; behind = k.1 }
  term_plain (g.variable h) k = variable_plain h k
  term_plain (g.brackets within h) k = let t = term_plain h k.1 in record { says = t.says; behind = t.behind.1 }
  term_plain (g.tuple within h) k = tuple_plain h k.1
  term_plain (g.application {w = w} n within h) k = let a = arguments_plain h k.1.1 in record { says = (plain_word w k.0, a.says); behind = a.behind }
  term_plain (g.braced {w = w} n within h i) k =
      let a = tuple_plain h k.1.1 in
      let b = term_plain i a.behind in
      record { says = (plain_word w k.0, (a.says, (b.says, tt))); behind = b.behind }

  tuple_plain : {n : ℕ} {close : Sign} {x : Term Written} {tokens rest : List Lexeme} → SpellsTuple n close tokens x rest → Every Spoken tokens → Spelled (IsPlainTerm x) rest
  tuple_plain (g.last_part h) k = let t = term_plain h k in record { says = t.says; behind = t.behind.1 }
  tuple_plain (g.next_part h within i) k =
      let a = term_plain h k in
      let b = tuple_plain i a.behind.1 in
      record { says = (plain_in (codes "pair") refl, (a.says, (b.says, tt))); behind = b.behind }

  arguments_plain : {n : ℕ} {xs : Terms Written} {tokens rest : List Lexeme} → SpellsArguments n tokens xs rest → Every Spoken tokens → Spelled (ArePlainTerms xs) rest
  arguments_plain g.no_argument k = record { says = tt; behind = k.1 }
  arguments_plain (g.some_arguments h) k = terms_plain h k

  terms_plain : {n : ℕ} {xs : Terms Written} {tokens rest : List Lexeme} → SpellsTerms n tokens xs rest → Every Spoken tokens → Spelled (ArePlainTerms xs) rest
  terms_plain (g.last_term h) k = let t = term_plain h k in record { says = (t.says, tt); behind = t.behind.1 }
  terms_plain (g.next_term h i) k =
      let a = term_plain h k in
      let b = terms_plain i a.behind.1 in
      record { says = (a.says, b.says); behind = b.behind }

pub fact_plain : {n : ℕ} {f : Fact Written} {tokens rest : List Lexeme} → SpellsFact n tokens f rest → Every Spoken tokens → Spelled (IsPlainFact f) rest
fact_plain (g.linear {w = w} e within h annotated) k =
    let terms = arguments_plain h k.1.1 in
    record { says = (plain_word w k.0, terms.says); behind = annotations_behind annotated terms.behind }
fact_plain (g.persistent {w = w} e within h annotated) k =
    let terms = arguments_plain h k.1.1.1 in
    record { says = (plain_word w k.1.0, terms.says); behind = annotations_behind annotated terms.behind }

-- ---- formulas

abbrev pub IsPlainFormula : Formula → Type 0
IsPlainFormula truth = Unit {0}
IsPlainFormula falsity = Unit {0}
IsPlainFormula (happens a i) = IsPlainAction a × IsPlain i.name
IsPlainFormula (equals t u) = IsPlainTerm t × IsPlainTerm u
IsPlainFormula (precedes i j) = IsPlain i.name × IsPlain j.name
IsPlainFormula (not_so f) = IsPlainFormula f
IsPlainFormula (both f g) = IsPlainFormula f × IsPlainFormula g
IsPlainFormula (either f g) = IsPlainFormula f × IsPlainFormula g
IsPlainFormula (implies f g) = IsPlainFormula f × IsPlainFormula g
IsPlainFormula (for_all x f) = IsPlain x.name × IsPlainFormula f
IsPlainFormula (for_some x f) = IsPlain x.name × IsPlainFormula f

all_bound : (vs : List Written) (f : Formula) → Every IsPlainVariable vs → IsPlainFormula f → IsPlainFormula (quantified vs f)
all_bound [] f e h = h
all_bound (v ∷ vs) f e h = (e.0, all_bound vs f e.1 h)

some_bound : (vs : List Written) (f : Formula) → Every IsPlainVariable vs → IsPlainFormula f → IsPlainFormula (quantified_some vs f)
some_bound [] f e h = h
some_bound (v ∷ vs) f e h = (e.0, some_bound vs f e.1 h)

binders_plain : {vs : List Written} {tokens rest : List Lexeme} → SpellsBinders tokens vs rest → Every Spoken tokens → Spelled (Every IsPlainVariable vs) rest
binders_plain (g.one_binder h) k = let v = variable_plain h k in record { says = (v.says, tt); behind = v.behind.1 }
binders_plain (g.more_binders h binders) k =
    let v = variable_plain h k in
    let vs = binders_plain binders v.behind in
    record { says = (v.says, vs.says); behind = vs.behind }

mutual
  unit_plain : {n : ℕ} {f : Formula} {tokens rest : List Lexeme} → SpellsUnit n tokens f rest → Every Spoken tokens → Spelled (IsPlainFormula f) rest
  unit_plain (g.bracketed within h) k = let f = formula_plain h k.1 in record { says = f.says; behind = f.behind.1 }
  unit_plain (g.every {vs = vs} {f = f} within binders h) k =
      let b = binders_plain binders k.1 in
      let body = reach_plain h b.behind in
      record { says = all_bound vs f b.says body.says; behind = body.behind }
  unit_plain (g.there_is {vs = vs} {f = f} within binders h) k =
      let b = binders_plain binders k.1 in
      let body = reach_plain h b.behind in
      record { says = some_bound vs f b.says body.says; behind = body.behind }
  unit_plain g.true_unit k = record { says = tt; behind = k.1 }
  unit_plain g.false_unit k = record { says = tt; behind = k.1 }
  unit_plain (g.action h v) k =
      let a = fact_plain h k in
      let i = variable_plain v a.behind.1 in
      record { says = (a.says, i.says); behind = i.behind }
  unit_plain (g.equation h i) k =
      let a = term_plain h k in
      let b = term_plain i a.behind.1 in
      record { says = (a.says, b.says); behind = b.behind }
  unit_plain (g.order i j) k =
      let a = variable_plain i k in
      let b = variable_plain j a.behind.1 in
      record { says = (a.says, b.says); behind = b.behind }

  negation_plain : {n : ℕ} {f : Formula} {tokens rest : List Lexeme} → SpellsNegation n tokens f rest → Every Spoken tokens → Spelled (IsPlainFormula f) rest
  negation_plain (g.unit_alone h) k = unit_plain h k
  negation_plain (g.negated h) k = let f = unit_plain h k.1 in record { says = f.says; behind = f.behind }

  conjunction_plain : {n : ℕ} {f : Formula} {tokens rest : List Lexeme} → SpellsConjunction n tokens f rest → Every Spoken tokens → Spelled (IsPlainFormula f) rest
  conjunction_plain (g.conjunction h more_ands) k = let f = negation_plain h k in ands_plain f.says more_ands f.behind

  ands_plain : {n : ℕ} {f h : Formula} {tokens rest : List Lexeme} → IsPlainFormula f → SpellsAnds n f tokens h rest → Every Spoken tokens → Spelled (IsPlainFormula h) rest
  ands_plain a g.no_more_and k = record { says = a; behind = k }
  ands_plain a (g.and_then h more_ands) k = let b = negation_plain h k.1 in ands_plain (a, b.says) more_ands b.behind

  disjunction_plain : {n : ℕ} {f : Formula} {tokens rest : List Lexeme} → SpellsDisjunction n tokens f rest → Every Spoken tokens → Spelled (IsPlainFormula f) rest
  disjunction_plain (g.disjunction h more_ors) k = let f = conjunction_plain h k in ors_plain f.says more_ors f.behind

  ors_plain : {n : ℕ} {f h : Formula} {tokens rest : List Lexeme} → IsPlainFormula f → SpellsOrs n f tokens h rest → Every Spoken tokens → Spelled (IsPlainFormula h) rest
  ors_plain a g.no_more_or k = record { says = a; behind = k }
  ors_plain a (g.or_then h more_ors) k = let b = conjunction_plain h k.1 in ors_plain (a, b.says) more_ors b.behind

  implication_plain : {n : ℕ} {f : Formula} {tokens rest : List Lexeme} → SpellsImplication n tokens f rest → Every Spoken tokens → Spelled (IsPlainFormula f) rest
  implication_plain (g.alone h) k = disjunction_plain h k
  implication_plain (g.implication h within i) k =
      let a = disjunction_plain h k in
      let b = implication_plain i a.behind.1 in
      record { says = (a.says, b.says); behind = b.behind }

  formula_plain : {n : ℕ} {f : Formula} {tokens rest : List Lexeme} → SpellsFormula n tokens f rest → Every Spoken tokens → Spelled (IsPlainFormula f) rest
  formula_plain (g.one h) k = implication_plain h k
  formula_plain (g.two h i) k =
      let a = implication_plain h k in
      let b = implication_plain i a.behind.1 in
      record { says = ((a.says, b.says), (b.says, a.says)); behind = b.behind }

  reach_plain : {n : ℕ} {f : Formula} {tokens rest : List Lexeme} → SpellsReach n tokens f rest → Every Spoken tokens → Spelled (IsPlainFormula f) rest
  reach_plain (g.reach_one h no_sign no_iff) k = implication_plain h k
  reach_plain (g.reach_two h i no_sign) k =
      let a = implication_plain h k in
      let b = implication_plain i a.behind.1 in
      record { says = ((a.says, b.says), (b.says, a.says)); behind = b.behind }

-- behind its opening quote, where signs of logic are read as the text beside them
pub quoted_plain : (tokens : List Lexeme) {f : Formula} {rest : List Lexeme} → SpellsQuoted tokens f rest → Every Spoken tokens → Spelled (IsPlainFormula f) rest
quoted_plain tokens h k = let f = formula_plain h (spoken_plain tokens k) in record { says = f.says; behind = f.behind.1 }
