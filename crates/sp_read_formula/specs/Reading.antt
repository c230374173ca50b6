-- Formulas as a reader from the left takes them: a part reaches as far as it can, and of several ways to begin the first that can be read
-- is taken. So each text is read in one way. Before a closing sign it is the reading of the grammar.
use Rattle.std.specs.Prelude.{◌≡◌, ℕ, ◌+◌, ◌<◌, Bool, true, false, List, ◌∷◌, codes}
use Rattle.sp_spec_text.specs.Signs.{Sign}
use Rattle.sp_spec_text.specs.Signs as s
use Rattle.sp_spec_text.specs.Token.{Lexeme, word, sign}
use Rattle.sp_spec.specs.Formula.{Written, Formula, not_so, implies}
use Rattle.sp_spec_text.specs.Lists.{IsNotFirst, NoReading}
use Rattle.sp_spec_text.specs.Shapes.{quantified}
use Rattle.sp_read_parts.specs.Formulas.{Joint, conjoint, disjoint, join}
use Rattle.sp_read_parts.specs.Parts.{AreBinders}
use Rattle.sp_spec_text.specs.Formulas.{quantified_some, equivalent}
use Rattle.sp_read_atoms.specs.Atoms.{IsAtom}

-- `All`, or else `Ex`
pub data IsQuantifier : List Lexeme → Bool → List Lexeme → Type 0 where
  all_word : {rest : List Lexeme} → IsQuantifier (word (codes "All") ∷ rest) true rest
  ex_word : {rest : List Lexeme} → IsQuantifier (word (codes "Ex") ∷ rest) false rest

abbrev pub bind : Bool → List Written → Formula → Formula
bind true vs f = quantified vs f
bind false vs f = quantified_some vs f

-- the sign that groups to the left
abbrev pub sign_of : Joint → Sign
sign_of conjoint = s.And
sign_of disjoint = s.Or

-- the parts of a formula, from the innermost out
pub data Part : Type 0 where
  a_group : Part
  a_binding : Part
  a_unit : Part
  a_negation : Part
  a_chain : Joint → Part
  an_implication : Part
  a_whole : Part

-- what a chain is made of
abbrev pub below : Joint → Part
below conjoint = a_negation
below disjoint = a_chain conjoint

mutual
  pub data Reads : Part → ℕ → List Lexeme → Formula → List Lexeme → Type 0 where
    grouped : {n : ℕ} {f : Formula} {tokens rest : List Lexeme} → n < 128 → Reads a_whole (n + 1) tokens f (sign s.Close ∷ rest) → Reads a_group n (sign s.Open ∷ tokens) f rest
    bound : {n : ℕ} {k : Bool} {vs : List Written} {f : Formula} {tokens inner body rest : List Lexeme} → n < 128 → IsQuantifier tokens k inner → AreBinders inner vs body → Reads a_whole (n + 1) body f rest → Reads a_binding n tokens (bind k vs f) rest
    shallow : {n : ℕ} {f : Formula} {tokens rest : List Lexeme} → IsAtom n tokens f rest → Reads a_unit n tokens f rest
    from_group : {n : ℕ} {f : Formula} {tokens rest : List Lexeme} → NoReading (IsAtom n) tokens → Reads a_group n tokens f rest → Reads a_unit n tokens f rest
    from_binding : {n : ℕ} {f : Formula} {tokens rest : List Lexeme} → NoReading (IsAtom n) tokens → Reads a_binding n tokens f rest → Reads a_unit n tokens f rest
    positive : {n : ℕ} {f : Formula} {tokens rest : List Lexeme} → IsNotFirst (word (codes "not")) tokens → Reads a_unit n tokens f rest → Reads a_negation n tokens f rest
    negative : {n : ℕ} {f : Formula} {tokens rest : List Lexeme} → Reads a_unit n tokens f rest → Reads a_negation n (word (codes "not") ∷ tokens) (not_so f) rest
    chained : {o : Joint} {n : ℕ} {f g : Formula} {tokens mid rest : List Lexeme} → Reads (below o) n tokens f mid → GoesOn o n f mid g rest → Reads (a_chain o) n tokens g rest
    lone : {n : ℕ} {f : Formula} {tokens rest : List Lexeme} → Reads (a_chain disjoint) n tokens f rest → IsNotFirst (sign s.Implies) rest → Reads an_implication n tokens f rest
    implying : {n : ℕ} {f g : Formula} {tokens mid rest : List Lexeme} → Reads (a_chain disjoint) n tokens f (sign s.Implies ∷ mid) → n < 128 → Reads an_implication (n + 1) mid g rest → Reads an_implication n tokens (implies f g) rest
    single : {n : ℕ} {f : Formula} {tokens rest : List Lexeme} → Reads an_implication n tokens f rest → IsNotFirst (sign s.Iff) rest → Reads a_whole n tokens f rest
    double : {n : ℕ} {f g : Formula} {tokens mid rest : List Lexeme} → Reads an_implication n tokens f (sign s.Iff ∷ mid) → Reads an_implication n mid g rest → Reads a_whole n tokens (equivalent f g) rest

  -- a chain behind its first part; the formula before the tokens is what stands to the left
  pub data GoesOn : Joint → ℕ → Formula → List Lexeme → Formula → List Lexeme → Type 0 where
    ended : {o : Joint} {n : ℕ} {f : Formula} {rest : List Lexeme} → IsNotFirst (sign (sign_of o)) rest → GoesOn o n f rest f rest
    went : {o : Joint} {n : ℕ} {f g h : Formula} {tokens after mid rest : List Lexeme} → tokens ≡ sign (sign_of o) ∷ after → Reads (below o) n after g mid → GoesOn o n (join o f g) mid h rest → GoesOn o n f tokens h rest
