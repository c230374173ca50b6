-- The lines of a learning log: what each says, and its text. Source: CSF 2012, "Normal message deduction" (dependency graphs, whose nodes are instances of rules
-- and what the adversary deduces); Schmidt's thesis, chapter 3; Tamarin manual, "KU". The words are this project's own.
use Rattle.std.specs.Prelude.{ℕ, List, ◌++◌, codes}
use Rattle.sp_spec.specs.Term.{Ground}
use Rattle.sp_spec.specs.Rule.{Facts}
use Rattle.sp_spec.specs.Execution.{use_rule}
use Rattle.sp_spec.specs.Log.{How, public_name, own_name, constructed, by_chain, Entry, step, send, learn}
use Rattle.sp_spec_printed.specs.Printed.{term_text, step_text}

-- how a message was learnt, without the place from which it comes: as a public name, as a fresh name of the adversary's own, by applying a symbol, or along a
-- chain from what a step put out
pub data Way : Type 0 where
  as_public : Way
  as_own : Way
  as_made : Way
  along_chain : Way

-- a rule by its name, with the values of its variables by theirs; a message that was sent; one that was learnt, and how
pub data Line : Type 0 where
  rule_line : List ℕ → List (List ℕ × Ground) → Line
  send_line : Ground → Line
  learn_line : Ground → Way → Line

abbrev pub way_of : How → Way
way_of public_name = as_public
way_of own_name = as_own
way_of constructed = as_made
way_of (by_chain p k chain) = along_chain

-- which values an instance of the rule of that name gives to the rule's variables
abbrev pub Giving : Type 0
Giving = List ℕ → Facts ⊥ → List (List ℕ × Ground)

-- what the line of an entry says
abbrev pub line_of : Giving → Entry → Line
line_of given (step r facts sources) = rule_line r (given r facts)
line_of given (send m) = send_line m
line_of given (learn m how) = learn_line m (way_of how)

abbrev pub way_text : Way → List ℕ
way_text as_public = codes "pub"
way_text as_own = codes "own"
way_text as_made = codes "made"
way_text along_chain = codes "chain"

-- the text of a line, without its line feed; that of a rule is as in an execution
abbrev pub line_text : Line → List ℕ
line_text (rule_line r given) = step_text (use_rule r given)
line_text (send_line m) = codes "send " ++ term_text m
line_text (learn_line m way) = codes "learn " ++ (term_text m ++ (codes " (" ++ (way_text way ++ codes ")")))

-- the line of an entry
abbrev pub log_line : Giving → Entry → List ℕ
log_line given e = line_text (line_of given e)
