-- The text of a proof tree: a line for each move, and the cases of a move indented below it. Source: Tamarin manual, "Proofs".
use Rattle.std.specs.Prelude.{ℕ, zero, suc, if◌then◌else◌, List, [], ◌++◌, codes}
use Rattle.sp_spec_system.specs.Move.{Move}
use Rattle.sp_spec_system.specs.Words.{words_of, words_text, stand_alone}
use Rattle.sp_spec_proof.specs.Tree.{Tree, node, Branches, no_branch, branch}

-- two blanks for each case around it
abbrev pub indent : ℕ → List ℕ
indent zero = []
indent (suc depth) = codes "  " ++ indent depth

abbrev pub line : ℕ → List ℕ → List ℕ
line depth words = indent depth ++ (words ++ codes "\n")

abbrev pub move_text : Move → List ℕ
move_text move = words_text (words_of move)

-- what stands before the text of a move without cases
abbrev pub leading : Move → List ℕ
leading move = if stand_alone (words_of move) then [] else codes "by "

-- a move without cases stands on a line of its own; the tree of an only case without a name follows its move as it is
abbrev mutual
  pub tree_text : ℕ → Tree → List ℕ
  tree_text depth (node move no_branch) = line depth (leading move ++ move_text move)
  tree_text depth (node move (branch [] tree no_branch)) = line depth (move_text move) ++ tree_text depth tree
  tree_text depth (node move (branch name tree branches)) = line depth (move_text move) ++ cases_text depth (branch name tree branches)

  -- the cases, with `next` between them and `qed` behind the last
  pub cases_text : ℕ → Branches → List ℕ
  cases_text depth no_branch = []
  cases_text depth (branch name tree no_branch) = line (suc depth) (codes "case " ++ name) ++ (tree_text (suc depth) tree ++ line depth (codes "qed"))
  cases_text depth (branch name tree branches) = line (suc depth) (codes "case " ++ name) ++ (tree_text (suc depth) tree ++ (line depth (codes "next") ++ cases_text depth branches))
