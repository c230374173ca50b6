-- The lexemes that the text of a tree spells, and which trees are read back from their texts. Source: Tamarin manual, "Proofs".
use Rattle.std.specs.Prelude.{◌≡◌, false, if◌then◌else◌, List, [], ◌∷◌, codes}
use Rattle.sp_spec_text.specs.Token.{Lexeme, word, solve}
use Rattle.sp_spec_text.specs.Names.{IsName, IsWord}
use Rattle.sp_spec.specs.Lists.{Every}
use Rattle.sp_spec_printed.specs.StepLines.{HaveNames, IsQuotable}
use Rattle.sp_spec_system.specs.Move.{Move, Context}
use Rattle.sp_spec_system.specs.Words.{Words, words_of, goal_text, stand_alone}
use Rattle.sp_spec_system.specs.Words as words
use Rattle.sp_spec_proof.specs.Tree.{Tree, node, Branches, no_branch, branch}
use Rattle.sp_skel.specs.Places.{IsSaid}
use Rattle.sp_spec_text.specs.Written.{Method, said, goal, WrittenProof, step, WrittenCases, no_case, then_case}
use Rattle.sp_spec_forms.specs.Forms.{RuleForms}

abbrev pub words_spelled : Words → Lexeme
words_spelled (words.method w) = word w
words_spelled (words.goal w arguments) = solve (goal_text w arguments)

abbrev pub move_spelled : Move → Lexeme
move_spelled move = words_spelled (words_of move)

-- behind the word before a move without cases
abbrev pub behind_by : Move → List Lexeme → List Lexeme
behind_by move rest = if stand_alone (words_of move) then rest else word (codes "by") ∷ rest

-- a tree, and the cases behind a move, before these lexemes
abbrev mutual
  pub spelled : Tree → List Lexeme → List Lexeme
  spelled (node move no_branch) rest = behind_by move (move_spelled move ∷ rest)
  spelled (node move (branch [] tree no_branch)) rest = move_spelled move ∷ spelled tree rest
  spelled (node move (branch name tree branches)) rest = move_spelled move ∷ cases_spelled (branch name tree branches) rest

  pub cases_spelled : Branches → List Lexeme → List Lexeme
  cases_spelled no_branch rest = rest
  cases_spelled (branch name tree no_branch) rest = word (codes "case") ∷ word name ∷ spelled tree (word (codes "qed") ∷ rest)
  cases_spelled (branch name tree branches) rest = word (codes "case") ∷ word name ∷ spelled tree (word (codes "next") ∷ cases_spelled branches rest)

abbrev pub words_said : Words → Method
words_said (words.method w) = said w
words_said (words.goal w arguments) = goal (goal_text w arguments)

abbrev pub move_said : Move → Method
move_said move = words_said (words_of move)

-- the tree as it is written
abbrev mutual
  pub as_written : Tree → WrittenProof
  as_written (node move branches) = step (move_said move) (all_as_written branches)

  pub all_as_written : Branches → WrittenCases
  all_as_written no_branch = no_case
  all_as_written (branch name tree branches) = then_case name (as_written tree) (all_as_written branches)

abbrev pub MayHaveCases : Move → Type 0
MayHaveCases move = stand_alone (words_of move) ≡ false

-- Each case has a name, or it is its node's only one and has none.
abbrev mutual
  pub IsReadable : Tree → Type 0
  IsReadable (node move no_branch) = IsSaid move
  IsReadable (node move (branch [] tree no_branch)) = IsSaid move × MayHaveCases move × IsReadable tree
  IsReadable (node move (branch name tree branches)) = IsSaid move × MayHaveCases move × AreReadable (branch name tree branches)

  pub AreReadable : Branches → Type 0
  AreReadable no_branch = Unit {0}
  AreReadable (branch name tree branches) = IsName name × IsWord name × IsReadable tree × AreReadable branches

-- the rules have names as they stand in a text
abbrev pub AreNamed : List RuleForms → Type 0
AreNamed [] = Unit {0}
AreNamed (r ∷ rules) = IsName r.name × IsWord r.name × AreNamed rules

-- What a proof's trees name can stand in a text: the rules and the symbols have such names, and the public names may stand in quotes.
pub record IsSpellable (context : Context) : Type 0 where
  pub rules : AreNamed context.rules.forms
  pub symbols : HaveNames context.rules.signature.symbols
  pub names : Every IsQuotable context.public_names
