-- The system at which a tree's search ends is well made: the root is, and each case of a move is where its system was.
use Rattle.std.proofs.Common.{◌≡◌, Bool, true, false, if◌then◌else◌, List, [], ◌∷◌, Option, Some, None, refl}
use Rattle.sp_spec.specs.Lists.{Every}
use Rattle.sp_spec.specs.Theory.{Theory}
use Rattle.sp_spec.specs.Log.{Log}
use Rattle.sp_spec.proofs.Lists.{every_weaken}
use Rattle.sp_spec_system.specs.System.{System}
use Rattle.sp_spec_system.specs.Move.{Context, Case, end_log, systems_in}
use Rattle.sp_spec_proof.specs.Cases.{cases}
use Rattle.sp_spec_proof.specs.Tree.{Tree, node, Branches, no_branch, branch, is_solved, first_log, found_log, found_below}
use Rattle.sp_law_system.specs.Proofs.{IsWellMade, IsKept}
use Rattle.sp_law_cover.specs.Contexts.{IsContextOf}
use Rattle.sp_law_cover.specs.Laws.{MovesCover}
use Rattle.sp_law_cover.proofs.Covering.{moves_are_covered}
use Rattle.sp_law_cover.proofs.MovesCover.{every_system}
use Rattle.sp_law_tree.specs.Laws.{EndsAreWellMade}

-- the log is that of a system that is well made
abbrev EndsWell : Context → Log → Type 0
EndsWell context log = (t : System) × IsWellMade context t × (end_log context t ≡ Some log)

abbrev AreWellMade : Context → List Case → Type 0
AreWellMade context cs = Every (λ (c : Case). IsWellMade context c.system) cs

-- of two logs the first one there is comes from where they come from
of_either : (context : Context) (log : Log) (o later : Option Log) → (o ≡ Some log → EndsWell context log) → (later ≡ Some log → EndsWell context log)
    → first_log o later ≡ Some log → EndsWell context log
of_either context log (Some l) later h k e = h e
of_either context log None later h k e = k e

-- a move that is no instance has no log below it
none_below : (context : Context) (log : Log) (branches : Branches) → found_below context None branches ≡ Some log → ⊥
none_below context log no_branch e = cc
none_below context log (branch name tree branches) e = cc

module _ (theory : Theory) (covering : MovesCover theory) (context : Context) (is_of : IsContextOf theory context) (log : Log) where
  mutual
    ends_well : (tree : Tree) (s : System) → IsWellMade context s → found_log context s tree ≡ Some log → EndsWell context log
    ends_well (node move branches) s made e = at_node (is_solved move) e (λ k. at_cases (cases context s move) refl k (ends_well_below branches))
      where
        at_cases : (o : Option (List Case)) → cases context s move ≡ o → found_below context o branches ≡ Some log
            → ((cs : List Case) → AreWellMade context cs → found_below context (Some cs) branches ≡ Some log → EndsWell context log) → EndsWell context log
        at_cases None e k below = absurd (none_below context log branches k)
        at_cases (Some cs) e k below =
            below cs (every_system (IsWellMade context) cs (every_weaken (IsKept context s) (IsWellMade context) (λ c h. h.well_made) (systems_in cs) (covering.kept context is_of s move cs e made))) k

        at_node : (b : Bool) → (if b then end_log context s else found_below context (cases context s move) branches) ≡ Some log
            → (found_below context (cases context s move) branches ≡ Some log → EndsWell context log) → EndsWell context log
        at_node true k below = (s, made, k)
        at_node false k below = below k

    ends_well_below : (branches : Branches) (cs : List Case) → AreWellMade context cs → found_below context (Some cs) branches ≡ Some log → EndsWell context log
    ends_well_below no_branch [] made e = absurd cc
    ends_well_below no_branch (c ∷ cs) made e = absurd cc
    ends_well_below (branch name tree branches) [] made e = absurd cc
    ends_well_below (branch name tree branches) (c ∷ cs) made e =
        of_either context log (found_log context c.system tree) (found_below context (Some cs) branches)
        (ends_well tree c.system made.0) (ends_well_below branches cs made.1) e

pub ends_are_well_made_lem : EndsAreWellMade
ends_are_well_made_lem = record {
  ends = λ theory suits context is_of s made tree log e. ends_well theory (moves_are_covered theory suits) context is_of log tree s made e;
}
