-- A test whether no leaf is left at which a solution may be.
use Rattle.std.specs.Prelude.{Bool, true, ◌&&◌, ◌||◌, not}
use Rattle.sp_spec_system.specs.Move.{Move}
use Rattle.sp_spec_proof.specs.Tree.{is_solved, Tree, node, Branches, no_branch, branch}
use Rattle.sp_spec_proof.specs.Growth.{is_unproved}

abbrev pub is_left : Move → Bool
is_left move = is_unproved move || is_solved move

abbrev mutual
  pub finished : Tree → Bool
  finished (node move branches) = not (is_left move) && all_finished branches

  pub all_finished : Branches → Bool
  all_finished no_branch = true
  all_finished (branch name tree branches) = finished tree && all_finished branches
