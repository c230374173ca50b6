-- The parts of a rule as they are read: the first token of each part that may be missing says whether it stands there.
use Rattle.std.specs.Prelude.{ℕ, zero, suc, List, [], ◌∷◌, map, codes}
use Rattle.sp_spec_text.specs.Signs as s
use Rattle.sp_spec_text.specs.Token.{Lexeme, word, sign}
use Rattle.sp_spec.specs.Rule.{Fact, Facts}
use Rattle.sp_spec.specs.Formula.{Written}
use Rattle.sp_spec.specs.Written.{WrittenRule}
use Rattle.sp_spec_text.specs.Names.{IsName}
use Rattle.sp_spec_text.specs.Lists.{IsNotFirst}
use Rattle.sp_spec_text.specs.Shapes.{action_of}
use Rattle.sp_spec_text.specs.Bindings.{Binding}
use Rattle.sp_spec_text.specs.Theories.{SpellsFacts, SpellsArrow, SpellsBalanced, SpellsBindings, SpellsRule}

-- `(` `modulo` name `)`
pub data IsModulo : List Lexeme → Unit {0} → List Lexeme → Type 0 where
  modulo : {u : Unit {0}} {w : List ℕ} {rest : List Lexeme} → IsName w → IsModulo (sign s.Open ∷ word (codes "modulo") ∷ word w ∷ sign s.Close ∷ rest) u rest

-- a name, with a modulo before it or without
pub data IsRuleName : List Lexeme → List ℕ → List Lexeme → Type 0 where
  bare_name : {w : List ℕ} {rest : List Lexeme} → IsName w → IsRuleName (word w ∷ rest) w rest
  behind_modulo : {w : List ℕ} {tokens rest : List Lexeme} → IsModulo tokens tt (word w ∷ rest) → IsName w → IsRuleName tokens w rest

abbrev pub IsBalanced : List Lexeme → Unit {0} → List Lexeme → Type 0
IsBalanced tokens u rest = SpellsBalanced tokens rest

-- any tokens up to the bracket that closes the last of so many that are open
pub data Closes : ℕ → List Lexeme → Unit {0} → List Lexeme → Type 0 where
  all_closed : {u : Unit {0}} {rest : List Lexeme} → Closes zero rest u rest
  one_closed : {n : ℕ} {u : Unit {0}} {tokens mid rest : List Lexeme} → SpellsBalanced tokens mid → Closes n mid u rest → Closes (suc n) tokens u rest

-- what closes m brackets from the rest on closes n from the tokens on, and nothing else does
pub record IsPassed (n : ℕ) (tokens : List Lexeme) (m : ℕ) (rest : List Lexeme) : Type 0 where
  pub goes : (r : List Lexeme) → Closes m rest tt r → Closes n tokens tt r
  pub came : (r : List Lexeme) → Closes n tokens tt r → Closes m rest tt r

-- balanced tokens in brackets, or no bracket
pub data IsBracketed : List Lexeme → Unit {0} → List Lexeme → Type 0 where
  no_bracket : {u : Unit {0}} {rest : List Lexeme} → IsNotFirst (sign s.OpenList) rest → IsBracketed rest u rest
  bracketed : {u : Unit {0}} {tokens rest : List Lexeme} → SpellsBalanced tokens rest → IsBracketed (sign s.OpenList ∷ tokens) u rest

-- bindings between `let` and `in`, or no `let`
pub data IsLet : List Lexeme → List Binding → List Lexeme → Type 0 where
  nothing_bound : {rest : List Lexeme} → IsNotFirst (word (codes "let")) rest → IsLet rest [] rest
  bound : {bs : List Binding} {tokens rest : List Lexeme} → SpellsBindings tokens bs rest → IsLet (word (codes "let") ∷ tokens) bs rest

-- facts, an arrow, and facts
pub data IsTransition : List Lexeme → Facts Written → List Lexeme → Type 0 where
  transition : {premises actions conclusions : List (Fact Written)} {tokens mid behind rest : List Lexeme} → SpellsFacts tokens premises mid → SpellsArrow mid actions behind → SpellsFacts behind conclusions rest
      → IsTransition tokens (record { premises = premises; actions = map action_of actions; conclusions = conclusions }) rest

-- a rule behind its bindings
abbrev pub IsRule : List Lexeme → List Binding × WrittenRule → List Lexeme → Type 0
IsRule tokens x rest = SpellsRule tokens x.0 x.1 rest
