-- What the methods of a proof say. Source: Tamarin manual, "Proofs".
use Rattle.std.specs.Prelude.{ℕ, List, [], ◌∷◌, Option, Some, None, option_and_then}
use Rattle.sp_spec_system.specs.Move.{Move}
use Rattle.sp_spec_system.specs.Words.{of_method, of_goal}
use Rattle.sp_spec_text.specs.Written.{Method, said, goal, WrittenProof, step, WrittenCases, no_case, then_case}
use Rattle.sp_check.specs.Nodes.{NodeRead}
use Rattle.sp_check.specs.Skeleton.{Step, known, unknown, Skeleton, node_read, BranchesRead, none_read, branch_read}
use Rattle.sp_spec_text.specs.Blanks.{trimmed}
use Rattle.sp_skel.specs.MoveTexts.{words, all_said}

-- what a word or a text says, by the move that it is
abbrev pub step_by : List ℕ → Option Move → Step
step_by text (Some move) = known move
step_by text None = unknown text

abbrev pub step_of_word : List ℕ → Step
step_of_word w = step_by w (of_method w)

-- what a goal's text says, by its words
abbrev pub step_of_words : List ℕ → List (List ℕ) → Step
step_of_words text [] = unknown text
step_of_words text (w ∷ others) = step_by text (option_and_then (of_goal w) (all_said others))

abbrev pub trimmed_step : List ℕ → Step
trimmed_step text = step_of_words text (words text)

-- what stands between the brackets of `solve( )`
abbrev pub step_of_text : List ℕ → Step
step_of_text text = trimmed_step (trimmed text)

-- what a method says
abbrev pub step_said : Method → Step
step_said (said w) = step_of_word w
step_said (goal text) = step_of_text text

-- what a step says whose cases have these names
abbrev pub node_said : Method × List (List ℕ) → NodeRead
node_said s = (step_said s.0, s.1)

-- the tree that a written proof says
abbrev mutual
  pub skeleton : WrittenProof → Skeleton
  skeleton (step x cs) = node_read (step_said x) (branches cs)

  pub branches : WrittenCases → BranchesRead
  branches no_case = none_read
  branches (then_case name p cs) = branch_read name (skeleton p) (branches cs)
