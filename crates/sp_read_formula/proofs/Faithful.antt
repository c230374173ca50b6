-- What is read is spelled so by the grammar.
use Rattle.std.proofs.Common.{ℕ, List}
use Rattle.sp_spec_text.specs.Signs as s
use Rattle.sp_spec_text.specs.Token.{Lexeme, sign}
use Rattle.sp_spec.specs.Formula.{Formula}
use Rattle.sp_spec_text.specs.Lists.{IsNotFirst}
use Rattle.sp_spec_text.specs.Formulas as g
use Rattle.sp_spec_text.specs.Formulas.{NoSign, SpellsUnit, SpellsNegation, SpellsConjunction, SpellsAnds, SpellsDisjunction, SpellsOrs, SpellsImplication, SpellsFormula, SpellsReach}
use Rattle.sp_read_atoms.specs.Atoms.{two_sides, first, second, IsAtom, true_word, false_word}
use Rattle.sp_read_formula.specs.Reading.{all_word, ex_word, sign_of, Part, a_group, a_binding, a_unit, a_negation, a_chain, an_implication, a_whole, Reads, grouped, bound, shallow, from_group, from_binding, positive, negative, chained, lone, implying, single, double, GoesOn, ended, went}
use Rattle.sp_read_parts.specs.Formulas.{Joint, conjoint, disjoint}
use Rattle.sp_read_parts.proofs.Spelled.{variable_spelled, term_spelled, fact_spelled, binders_spelled}

-- ---- no sign follows by which it could go on

goes_free : {o : Joint} {n : ℕ} {f g : Formula} {tokens rest : List Lexeme} → GoesOn o n f tokens g rest → IsNotFirst (sign (sign_of o)) rest
goes_free (ended d) = d
goes_free (went e h k) = goes_free k

chain_free : {o : Joint} {n : ℕ} {f : Formula} {tokens rest : List Lexeme} → Reads (a_chain o) n tokens f rest → IsNotFirst (sign (sign_of o)) rest
chain_free (chained h k) = goes_free k

ors_free : {n : ℕ} {f g : Formula} {tokens rest : List Lexeme} → GoesOn disjoint n f tokens g rest → IsNotFirst (sign s.And) tokens → IsNotFirst (sign s.And) rest
ors_free (ended d) a = a
ors_free (went e h k) a = ors_free k (chain_free h)

disjunction_free : {n : ℕ} {f : Formula} {tokens rest : List Lexeme} → Reads (a_chain disjoint) n tokens f rest → IsNotFirst (sign s.And) rest
disjunction_free (chained h k) = ors_free k (chain_free h)

pub implication_free : {n : ℕ} {f : Formula} {tokens rest : List Lexeme} → Reads an_implication n tokens f rest → NoSign rest
implication_free (lone h d) = record { no_and = disjunction_free h; no_or = chain_free h; no_arrow = d }
implication_free (implying h lt k) = implication_free k

-- ---- each part

abbrev pub Spelling : Part → ℕ → List Lexeme → Formula → List Lexeme → Type 0
Spelling a_group = SpellsUnit
Spelling a_binding = SpellsUnit
Spelling a_unit = SpellsUnit
Spelling a_negation = SpellsNegation
Spelling (a_chain conjoint) = SpellsConjunction
Spelling (a_chain disjoint) = SpellsDisjunction
Spelling an_implication = SpellsImplication
Spelling a_whole = SpellsFormula

abbrev pub GoesSpelling : Joint → ℕ → Formula → List Lexeme → Formula → List Lexeme → Type 0
GoesSpelling conjoint = SpellsAnds
GoesSpelling disjoint = SpellsOrs

atom_spelled : {n : ℕ} {f : Formula} {tokens rest : List Lexeme} → IsAtom n tokens f rest → SpellsUnit n tokens f rest
atom_spelled (first (two_sides h k)) = g.equation (term_spelled h) (term_spelled k)
atom_spelled (second d (first (two_sides h k))) = g.order (variable_spelled h) (variable_spelled k)
atom_spelled (second d (second e (first (two_sides h k)))) = g.action (fact_spelled h) (variable_spelled k)
atom_spelled (second d (second e (second l true_word))) = g.true_unit
atom_spelled (second d (second e (second l false_word))) = g.false_unit

mutual
  pub reads_spelled : {p : Part} {n : ℕ} {f : Formula} {tokens rest : List Lexeme} → Reads p n tokens f rest → Spelling p n tokens f rest
  reads_spelled (grouped lt h) = g.bracketed lt (reads_spelled h)
  reads_spelled (bound lt all_word b h) = g.every lt (binders_spelled b) (reach_spelled h)
  reads_spelled (bound lt ex_word b h) = g.there_is lt (binders_spelled b) (reach_spelled h)
  reads_spelled (shallow h) = atom_spelled h
  reads_spelled (from_group d h) = reads_spelled h
  reads_spelled (from_binding d h) = reads_spelled h
  reads_spelled (positive d h) = g.unit_alone (reads_spelled h)
  reads_spelled (negative h) = g.negated (reads_spelled h)
  reads_spelled (chained {o = conjoint} h k) = g.conjunction (reads_spelled h) (goes_spelled k)
  reads_spelled (chained {o = disjoint} h k) = g.disjunction (reads_spelled h) (goes_spelled k)
  reads_spelled (lone h d) = g.alone (reads_spelled h)
  reads_spelled (implying h lt k) = g.implication (reads_spelled h) lt (reads_spelled k)
  reads_spelled (single h d) = g.one (reads_spelled h)
  reads_spelled (double h k) = g.two (reads_spelled h) (reads_spelled k)

  goes_spelled : {o : Joint} {n : ℕ} {x f : Formula} {tokens rest : List Lexeme} → GoesOn o n x tokens f rest → GoesSpelling o n x tokens f rest
  goes_spelled (ended {o = conjoint} d) = g.no_more_and
  goes_spelled (ended {o = disjoint} d) = g.no_more_or
  goes_spelled (went {o = conjoint} e h k) = rw e (g.and_then (reads_spelled h) (goes_spelled k))
  goes_spelled (went {o = disjoint} e h k) = rw e (g.or_then (reads_spelled h) (goes_spelled k))

  reach_spelled : {n : ℕ} {f : Formula} {tokens rest : List Lexeme} → Reads a_whole n tokens f rest → SpellsReach n tokens f rest
  reach_spelled (single h d) = g.reach_one (reads_spelled h) (implication_free h) d
  reach_spelled (double h k) = g.reach_two (reads_spelled h) (reads_spelled k) (implication_free k)
