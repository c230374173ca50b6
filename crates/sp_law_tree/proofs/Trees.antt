-- The tree theorem: the root of an accepted tree that is finished has no solution.
use Rattle.std.proofs.Common.{◌≡◌, List, [], ◌∷◌, ◌++◌, Option, Some, None, refl, sym, subst}
use Rattle.sp_spec.specs.Lists.{Every}
use Rattle.sp_spec.specs.Theory.{Theory}
use Rattle.sp_spec.specs.Log.{Entry, Log, IsLog}
use Rattle.sp_spec.proofs.Lists.{every_weaken}
use Rattle.sp_spec_system.specs.System.{System}
use Rattle.sp_spec_system.specs.Solutions.{Valuation, Solves}
use Rattle.sp_spec_system.specs.Move.{Context, Case, systems_in}
use Rattle.sp_spec_proof.specs.Cases.{cases}
use Rattle.sp_law_system.specs.Proofs.{IsWellMade, IsKept, IsPast}
use Rattle.sp_law_cover.specs.Admitted.{Admits, HasNoAdmitted}
use Rattle.sp_law_cover.specs.Contexts.{IsContextOf}
use Rattle.sp_law_cover.specs.Laws.{MovesCover}
use Rattle.sp_law_cover.proofs.MovesCover.{every_system}
use Rattle.sp_spec_proof.specs.Tree.{Tree, node, Branches, no_branch, branch, IsAccepted, AreAccepted, IsLeft, IsFinished, AreFinished}
use Rattle.sp_law_tree.specs.Laws.{FinishedTreesShow}

-- what a log was by then is a log
past_is_log : (theory : Theory) (past : Log) (newest : List Entry) → IsLog theory (newest ++ past) → IsLog theory past
past_is_log theory past [] is = is
past_is_log theory past (e ∷ newest) is = past_is_log theory past newest is.0

module _ (theory : Theory) (covering : MovesCover theory) (context : Context) (is_of : IsContextOf theory context) where
  -- cases without solutions are not solved by any admitted log, nor by what it was by then
  none_below : (log : Log) → IsLog theory log → (cs : List Case) → Every (λ (c : Case). HasNoAdmitted theory context c.system) cs
      → Every (λ (c : System). (past : Log) → IsPast past log → Admits theory context past → (w : Valuation) → Solves theory past w c → ⊥) (systems_in cs)
  none_below log is_log [] none = tt
  none_below log is_log (c ∷ cs) none =
      ((λ past by_then admitted w solves. none.0 past (past_is_log theory past by_then.0 (subst (IsLog theory) by_then.1 is_log)) admitted w solves), none_below log is_log cs none.1)

  mutual
    pub finished_tree : (tree : Tree) (s : System) → IsWellMade context s → IsAccepted context s tree → IsFinished tree → HasNoAdmitted theory context s
    finished_tree (node move branches) s made accepted finished log is_log admitted v solves =
        at_node (cases context s move) refl accepted (λ cs. finished_branches branches cs)
      where
        at_node : (o : Option (List Case)) → cases context s move ≡ o → AreAccepted context o branches
            → ((cs : List Case) → Every (λ (c : Case). IsWellMade context c.system) cs → AreAccepted context (Some cs) branches → AreFinished branches
            → Every (λ (c : Case). HasNoAdmitted theory context c.system) cs) → ⊥
        at_node None e a below = a
        at_node (Some cs) e a below =
            let kept = every_system (IsWellMade context) cs (every_weaken (IsKept context s) (IsWellMade context) (λ c h. h.well_made) (systems_in cs) (covering.kept context is_of s move cs e made)) in
            (covering.covers_below context is_of s move cs e (λ q. finished.0 (subst IsLeft (sym q) tt)) (λ q. finished.0 (subst IsLeft (sym q) tt)) made).below log is_log admitted v solves
            (none_below log is_log cs (below cs kept a finished.1))

    finished_branches : (branches : Branches) (cs : List Case) → Every (λ (c : Case). IsWellMade context c.system) cs → AreAccepted context (Some cs) branches → AreFinished branches
        → Every (λ (c : Case). HasNoAdmitted theory context c.system) cs
    finished_branches no_branch [] made accepted finished = tt
    finished_branches no_branch (c ∷ cs) made accepted finished = absurd accepted
    finished_branches (branch name tree branches) [] made accepted finished = absurd accepted
    finished_branches (branch name tree branches) (c ∷ cs) made accepted finished =
        (finished_tree tree c.system made.0 accepted.1 finished.0, finished_branches branches cs made.1 accepted.2 finished.1)

pub finished_trees_show : (theory : Theory) → MovesCover theory → FinishedTreesShow theory
finished_trees_show theory covering = record { no_solution = λ context is_of s tree made accepted finished. finished_tree theory covering context is_of tree s made accepted finished }
