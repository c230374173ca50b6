-- What the grammar spells, where no sign follows by which it could go on, is read.
use Rattle.std.proofs.Common.{◌≡◌, ℕ, List, ◌∷◌, true, false, refl, sym, ap, subst, codes, arith}
use Rattle.sp_spec_text.specs.Signs.{Sign}
use Rattle.sp_spec_text.specs.Signs as s
use Rattle.sp_spec_text.specs.Token.{Lexeme, word, sign}
use Rattle.sp_spec.specs.Term.{Term}
use Rattle.sp_spec.specs.Rule.{Fact}
use Rattle.sp_spec.specs.Formula.{Written, Formula}
use Rattle.sp_spec_text.specs.Names.{is_reserved}
use Rattle.sp_spec_text.specs.Lists.{IsNotFirst, NoReading}
use Rattle.sp_spec_text.specs.Formulas as g
use Rattle.sp_spec_text.specs.Formulas.{SpellsVariable, SpellsTerm, SpellsFact, NoSign, SpellsUnit, SpellsNegation, SpellsConjunction, SpellsAnds, SpellsDisjunction, SpellsOrs, SpellsImplication, SpellsFormula, SpellsReach}
use Rattle.sp_spec_text.proofs.Closing.{close_no_sign}
use Rattle.sp_read_parts.specs.Formulas.{conjoint, disjoint}
use Rattle.sp_read_atoms.specs.Atoms.{two_sides, first, second, true_word, false_word}
use Rattle.sp_read_atoms.proofs.Atomic.{first_byte, no_constant, or_else_none}
use Rattle.sp_read_atoms.proofs.Apart.{EndsTerm, GoesTermOn, sign_ends, no_equality_word, no_order_word, no_action_word, sign_no_order, sign_no_action, fact_no_equality, fact_no_order, less_no_equality, not_is_reserved, reserved_no_fact, all_no_atom, ex_no_atom}
use Rattle.sp_read_atoms.proofs.Taken.{variable_taken, term_taken, fact_taken, binders_taken}
use Rattle.sp_read_formula.specs.Reading.{all_word, ex_word, a_unit, a_negation, a_chain, an_implication, a_whole, Reads, grouped, bound, shallow, from_group, from_binding, positive, negative, chained, lone, implying, single, double, GoesOn, ended, went}
use Rattle.sp_read_formula.specs.Closed.{Closes, IsClosed}
use Rattle.sp_read_formula.proofs.OneFormula.{reads_one}
use Rattle.sp_read_formula.proofs.Faithful.{reads_spelled}
use Rattle.sp_read_formula.proofs.Enclosed.{group_no_equality}

-- ---- no unit begins with `not`

variable_is_name : {w : List ℕ} {tokens rest after : List Lexeme} {v : Written} → SpellsVariable tokens v rest → tokens ≡ word w ∷ after → is_reserved w ≡ false
variable_is_name (g.marked e h) d = cc
variable_is_name {w} (g.unmarked {w = u} h) d = let i : u ≡ w = cc in subst (λ (y : List ℕ). is_reserved y ≡ false) i h
variable_is_name {w} (g.sorted {w = u} h e) d = let i : u ≡ w = cc in subst (λ (y : List ℕ). is_reserved y ≡ false) i h

not_no_variable : {tokens rest after : List Lexeme} {v : Written} → SpellsVariable tokens v rest → tokens ≡ word (codes "not") ∷ after → ⊥
not_no_variable h e = let i = variable_is_name h e in let j = not_is_reserved in let k : true ≡ false = cc in cc

not_no_name : (w : List ℕ) → w ≡ codes "not" → is_reserved w ≡ false → ⊥
not_no_name w d i = let j : is_reserved (codes "not") ≡ false = subst (λ (y : List ℕ). is_reserved y ≡ false) d i in let k = not_is_reserved in let l : true ≡ false = cc in cc

not_no_term : {n : ℕ} {tokens rest after : List Lexeme} {x : Term Written} → SpellsTerm n tokens x rest → tokens ≡ word (codes "not") ∷ after → ⊥
not_no_term g.fixed e = cc
not_no_term (g.variable h) e = not_no_variable h e
not_no_term (g.brackets lt h) e = cc
not_no_term (g.tuple lt h) e = cc
not_no_term (g.application {w = w} i lt h) e = let d : w ≡ codes "not" = cc in not_no_name w d i
not_no_term (g.braced {w = w} i lt h k) e = let d : w ≡ codes "not" = cc in not_no_name w d i

not_no_fact : {n : ℕ} {tokens rest after : List Lexeme} {x : Fact Written} → SpellsFact n tokens x rest → tokens ≡ word (codes "not") ∷ after → ⊥
not_no_fact (g.linear {w = w} d lt h a) e = let i : w ≡ codes "not" = cc in reserved_no_fact w (subst (λ (y : List ℕ). is_reserved y ≡ true) (sym i) not_is_reserved) d
not_no_fact (g.persistent d lt h a) e = cc

unit_not_negated : {n : ℕ} {tokens rest : List Lexeme} {x : Formula} → SpellsUnit n tokens x rest → IsNotFirst (word (codes "not")) tokens
unit_not_negated (g.bracketed lt h) = λ r e. cc
unit_not_negated (g.every lt b h) = λ r e. let d : 65 ≡ 110 = ap first_byte e in omega (arith, d)
unit_not_negated (g.there_is lt b h) = λ r e. let d : 69 ≡ 110 = ap first_byte e in omega (arith, d)
unit_not_negated g.true_unit = λ r e. let d : 84 ≡ 110 = ap first_byte e in omega (arith, d)
unit_not_negated g.false_unit = λ r e. let d : 70 ≡ 110 = ap first_byte e in omega (arith, d)
unit_not_negated (g.action h k) = λ r e. not_no_fact h e
unit_not_negated (g.equation h k) = λ r e. not_no_term h e
unit_not_negated (g.order h k) = λ r e. not_no_variable h e

-- ---- what follows

-- no sign by which a variable, a term or a fact goes on
record NoTail (rest : List Lexeme) : Type 0 where
  pub no_equals : IsNotFirst (sign s.Equals) rest
  pub no_less : IsNotFirst (sign s.Less) rest
  pub ends : EndsTerm rest

abbrev IsTail : Sign → Type 0
IsTail s.Equals = Unit {0}
IsTail s.Less = Unit {0}
IsTail s.Open = Unit {0}
IsTail s.OpenBrace = Unit {0}
IsTail s.Colon = Unit {0}
IsTail _ = ⊥

going_tail : (x : Sign) → GoesTermOn x → IsTail x
going_tail s.Colon g = tt
going_tail s.Open g = tt
going_tail s.OpenBrace g = tt
going_tail _ g = absurd g

no_tail : (x : Sign) (rest : List Lexeme) → (IsTail x → ⊥) → NoTail (sign x ∷ rest)
no_tail x rest h = record {
  no_equals = λ r e. let i : s.Equals ≡ x = cc in h (subst IsTail i tt);
  no_less = λ r e. let i : s.Less ≡ x = cc in h (subst IsTail i tt);
  ends = sign_ends x rest (λ g. h (going_tail x g));
}

ands_tail : {n : ℕ} {x y : Formula} {tokens rest : List Lexeme} → SpellsAnds n x tokens y rest → NoTail rest → NoTail tokens
ands_tail g.no_more_and t = t
ands_tail (g.and_then {tokens = ts} h k) t = no_tail s.And ts (λ i. i)

ors_tail : {n : ℕ} {x y : Formula} {tokens rest : List Lexeme} → SpellsOrs n x tokens y rest → NoTail rest → NoTail tokens
ors_tail g.no_more_or t = t
ors_tail (g.or_then {tokens = ts} h k) t = no_tail s.Or ts (λ i. i)

ors_not_and : {n : ℕ} {x y : Formula} {tokens rest : List Lexeme} → SpellsOrs n x tokens y rest → IsNotFirst (sign s.And) rest → IsNotFirst (sign s.And) tokens
ors_not_and g.no_more_or a = a
ors_not_and (g.or_then h k) a = λ r e. cc

iff_no_sign : (rest : List Lexeme) → NoSign (sign s.Iff ∷ rest)
iff_no_sign rest = record { no_and = λ r e. cc; no_or = λ r e. cc; no_arrow = λ r e. cc }

quote_no_sign : (rest : List Lexeme) → NoSign (sign s.Quote ∷ rest)
quote_no_sign rest = record { no_and = λ r e. cc; no_or = λ r e. cc; no_arrow = λ r e. cc }

-- ---- each part

mutual
  unit_taken : {n : ℕ} {x : Formula} {tokens rest : List Lexeme} → SpellsUnit n tokens x rest → NoTail rest → Reads a_unit n tokens x rest
  unit_taken (g.bracketed {tokens = ts} {rest = r} lt h) t =
      let i = formula_taken h (no_tail s.Close r (λ j. j)) (close_no_sign r) (λ q e. cc) in
      from_group (or_else_none (group_no_equality i t.no_equals) (or_else_none (sign_no_order refl) (or_else_none (sign_no_action (λ e. cc)) (no_constant (λ q e. cc) (λ q e. cc))))) (grouped lt i)
  unit_taken (g.every lt b h) t = from_binding all_no_atom (bound lt all_word (binders_taken b) (reach_taken h t))
  unit_taken (g.there_is lt b h) t = from_binding ex_no_atom (bound lt ex_word (binders_taken b) (reach_taken h t))
  unit_taken g.true_unit t = shallow (second (no_equality_word t.no_equals t.ends) (second (no_order_word t.no_less t.ends.no_colon) (second (no_action_word t.ends.no_bracket) true_word)))
  unit_taken g.false_unit t = shallow (second (no_equality_word t.no_equals t.ends) (second (no_order_word t.no_less t.ends.no_colon) (second (no_action_word t.ends.no_bracket) false_word)))
  unit_taken (g.action h k) t = let i = fact_taken h (λ r e. cc) in shallow (second (fact_no_equality i) (second (fact_no_order i) (first (two_sides i (variable_taken k t.ends.no_colon)))))
  unit_taken (g.equation {mid = m} h k) t = shallow (first (two_sides (term_taken h (sign_ends s.Equals m (λ i. i))) (term_taken k t.ends)))
  unit_taken (g.order h k) t = let i = variable_taken h (λ r e. cc) in shallow (second (less_no_equality i) (first (two_sides i (variable_taken k t.ends.no_colon))))

  negation_taken : {n : ℕ} {x : Formula} {tokens rest : List Lexeme} → SpellsNegation n tokens x rest → NoTail rest → Reads a_negation n tokens x rest
  negation_taken (g.unit_alone h) t = positive (unit_not_negated h) (unit_taken h t)
  negation_taken (g.negated h) t = negative (unit_taken h t)

  conjunction_taken : {n : ℕ} {x : Formula} {tokens rest : List Lexeme} → SpellsConjunction n tokens x rest → NoTail rest → IsNotFirst (sign s.And) rest → Reads (a_chain conjoint) n tokens x rest
  conjunction_taken (g.conjunction h k) t a = chained {o = conjoint} (negation_taken h (ands_tail k t)) (ands_taken k t a)

  ands_taken : {n : ℕ} {x y : Formula} {tokens rest : List Lexeme} → SpellsAnds n x tokens y rest → NoTail rest → IsNotFirst (sign s.And) rest → GoesOn conjoint n x tokens y rest
  ands_taken g.no_more_and t a = ended a
  ands_taken (g.and_then h k) t a = went refl (negation_taken h (ands_tail k t)) (ands_taken k t a)

  disjunction_taken : {n : ℕ} {x : Formula} {tokens rest : List Lexeme} → SpellsDisjunction n tokens x rest → NoTail rest → IsNotFirst (sign s.And) rest → IsNotFirst (sign s.Or) rest → Reads (a_chain disjoint) n tokens x rest
  disjunction_taken (g.disjunction h k) t a o = chained {o = disjoint} (conjunction_taken h (ors_tail k t) (ors_not_and k a)) (ors_taken k t a o)

  ors_taken : {n : ℕ} {x y : Formula} {tokens rest : List Lexeme} → SpellsOrs n x tokens y rest → NoTail rest → IsNotFirst (sign s.And) rest → IsNotFirst (sign s.Or) rest → GoesOn disjoint n x tokens y rest
  ors_taken g.no_more_or t a o = ended o
  ors_taken (g.or_then h k) t a o = went refl (conjunction_taken h (ors_tail k t) (ors_not_and k a)) (ors_taken k t a o)

  implication_taken : {n : ℕ} {x : Formula} {tokens rest : List Lexeme} → SpellsImplication n tokens x rest → NoTail rest → NoSign rest → Reads an_implication n tokens x rest
  implication_taken (g.alone h) t z = lone (disjunction_taken h t z.no_and z.no_or) z.no_arrow
  implication_taken (g.implication {mid = m} h lt k) t z = implying (disjunction_taken h (no_tail s.Implies m (λ i. i)) (λ r e. cc) (λ r e. cc)) lt (implication_taken k t z)

  formula_taken : {n : ℕ} {x : Formula} {tokens rest : List Lexeme} → SpellsFormula n tokens x rest → NoTail rest → NoSign rest → IsNotFirst (sign s.Iff) rest → Reads a_whole n tokens x rest
  formula_taken (g.one h) t z d = single (implication_taken h t z) d
  formula_taken (g.two {mid = m} h k) t z d = double (implication_taken h (no_tail s.Iff m (λ i. i)) (iff_no_sign m)) (implication_taken k t z)

  reach_taken : {n : ℕ} {x : Formula} {tokens rest : List Lexeme} → SpellsReach n tokens x rest → NoTail rest → Reads a_whole n tokens x rest
  reach_taken (g.reach_one h z d) t = single (implication_taken h t z) d
  reach_taken (g.reach_two {mid = m} h k z) t = double (implication_taken h (no_tail s.Iff m (λ i. i)) (iff_no_sign m)) (implication_taken k t z)

-- ---- closed formulas

closed_taken : {n : ℕ} (close : Sign) → Closes close → {x : Formula} {tokens rest : List Lexeme} → IsClosed n close tokens x rest → Reads a_whole n tokens x (sign close ∷ rest)
closed_taken s.Close c {rest = r} h = formula_taken h (no_tail s.Close r (λ i. i)) (close_no_sign r) (λ q e. cc)
closed_taken s.Quote c {rest = r} h = formula_taken h (no_tail s.Quote r (λ i. i)) (quote_no_sign r) (λ q e. cc)
closed_taken _ c h = absurd c

pub closed_at : {n : ℕ} {close : Sign} {x : Formula} {tokens mid rest : List Lexeme} → Reads a_whole n tokens x mid → mid ≡ sign close ∷ rest → IsClosed n close tokens x rest
closed_at {n} {x = x} {tokens = tokens} h e = reads_spelled (subst (λ (ts : List Lexeme). Reads a_whole n tokens x ts) e h)

pub not_closed : {n : ℕ} {close : Sign} {tokens : List Lexeme} → Closes close → NoReading (Reads a_whole n) tokens → NoReading (IsClosed n close) tokens
not_closed {close = close} c k = record { none = λ x r h. k.none x (sign close ∷ r) (closed_taken close c h) }

pub unclosed : {n : ℕ} {close : Sign} {x : Formula} {tokens mid : List Lexeme} → Closes close → Reads a_whole n tokens x mid → IsNotFirst (sign close) mid → NoReading (IsClosed n close) tokens
unclosed {close = close} c h d = record { none = λ y r k. d r (reads_one h (closed_taken close c k)).1 }

pub ruleset closed_formulas = (closed_at, not_closed, unclosed)

pub closed_one : {n : ℕ} (close : Sign) → Closes close → {x y : Formula} {tokens r q : List Lexeme} → IsClosed n close tokens x r → IsClosed n close tokens y q → (x ≡ y) × (r ≡ q)
closed_one close c h k = let o = reads_one (closed_taken close c h) (closed_taken close c k) in let e = o.1 in (o.0, cc)
