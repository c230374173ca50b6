-- What the lines of a learning log tell of its entries. A step is told whole but for the sources of its premises; of what is learnt along a chain is told that there
-- is one. Source: CSF 2012, "Normal message deduction"; Schmidt's thesis, chapter 3.
use Rattle.std.specs.Prelude.{◌≡◌, ℕ, List, [], ◌∷◌}
use Rattle.sp_spec.specs.Lists.{Member, Every}
use Rattle.sp_spec.specs.Term.{Ground, Values}
use Rattle.sp_spec.specs.Signature.{Symbol, IsValuation}
use Rattle.sp_spec.specs.Rule.{Facts, Rule, facts_at, Gives, IsNormalFormOf}
use Rattle.sp_spec.specs.Theory.{Theory, signature_of}
use Rattle.sp_spec.specs.Log.{Entry, step, send, learn}
use Rattle.sp_spec_text.specs.Names.{IsNameWord}
use Rattle.sp_spec_printed.specs.StepLines.{IsWritable, IsGiven}
use Rattle.sp_spec_log_lines.specs.Line.{Line, rule_line, send_line, learn_line, way_of, line_text}

-- fresh names are numbered from 1 and below 2^128, public names may stand in quotes, symbols are these
abbrev pub IsWritableLine : List Symbol → Line → Type 0
IsWritableLine symbols (rule_line r given) = IsNameWord r × Every (IsGiven symbols) given
IsWritableLine symbols (send_line m) = IsWritable symbols m
IsWritableLine symbols (learn_line m way) = IsWritable symbols m

-- the text is that of the line
pub record IsLogLine (symbols : List Symbol) (text : List ℕ) (line : Line) : Type 0 where
  pub text_is : text ≡ line_text line
  pub writable : IsWritableLine symbols line

-- the facts are the normal form of the instance of a rule of that name in which the rule's variables have these values
abbrev pub IsInstanceBy : Theory → List ℕ → List (List ℕ × Ground) → Facts ⊥ → Type 0
IsInstanceBy theory name given facts =
    (r : Rule) × Member r theory.rules × (r.name ≡ name) × (v : Values) × Gives 0 r.variables given v × IsValuation (signature_of theory) v
    × IsNormalFormOf (signature_of theory).equations (facts_at v r.facts) facts

-- what the line says is so of the entry
abbrev pub IsSaidOf : Theory → Line → Entry → Type 0
IsSaidOf theory (rule_line name given) (step r facts sources) = (name ≡ r) × IsInstanceBy theory r given facts
IsSaidOf theory (send_line m) (send n) = m ≡ n
IsSaidOf theory (learn_line m way) (learn n how) = (m ≡ n) × (way ≡ way_of how)
IsSaidOf theory line e = ⊥

-- the text is a line that says so of the entry
abbrev pub TellsOf : Theory → List ℕ → Entry → Type 0
TellsOf theory text e = (line : Line) × IsLogLine (signature_of theory).symbols text line × IsSaidOf theory line e

-- each text tells of one entry, in this order
abbrev pub TellOf : Theory → List (List ℕ) → List Entry → Type 0
TellOf theory [] [] = Unit {0}
TellOf theory (text ∷ texts) (e ∷ entries) = TellsOf theory text e × TellOf theory texts entries
TellOf theory texts entries = ⊥
