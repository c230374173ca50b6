-- How the text of a tree in memory is written: node by node, with the cases that are still to come.
use Rattle.std.specs.Prelude.{ℕ, suc, List, [], ◌∷◌, ◌++◌, codes, length}
use Rattle.sp_spec_system.specs.Move.{Move, unproved, solved}
use Rattle.sp_search.specs.Kinds.{Kind, open_leaf, end_at, choice}
use Rattle.sp_skel.specs.Places.{HasPlace}
use Rattle.sp_skel.specs.TreeText.{line, leading, move_text}

-- For each case around a node, the innermost first, `around` has the names of the later cases of the same move.
-- Behind a tree stands the next case, and before it `qed` for each move that has no case left.
abbrev pub behind : List (List (List ℕ)) → List ℕ × List (List (List ℕ))
behind [] = ([], [])
behind ([] ∷ around) = (line (length around) (codes "qed") ++ (behind around).0, (behind around).1)
behind ((name ∷ names) ∷ around) = (line (length around) (codes "next") ++ line (suc (length around)) (codes "case " ++ name), names ∷ around)

-- the lines of a leaf and of what stands behind it, and the cases that are to come then
abbrev pub leaf : List (List (List ℕ)) → Move → List ℕ × List (List (List ℕ))
leaf around move = (line (length around) (leading move ++ move_text move) ++ (behind around).0, (behind around).1)

-- those of a move over cases, by the name of the first and the names of the others
abbrev pub over_cases : List (List (List ℕ)) → Move → List ℕ → List (List ℕ) → List ℕ × List (List (List ℕ))
over_cases around move [] [] = (line (length around) (move_text move), around)
over_cases around move name names = (line (length around) (move_text move) ++ line (suc (length around)) (codes "case " ++ name), names ∷ around)

abbrev pub written : List (List (List ℕ)) → Kind → List ℕ × List (List (List ℕ))
written around (open_leaf s chosen depth) = leaf around unproved
written around (end_at log) = leaf around solved
written around (choice move []) = leaf around move
written around (choice move (name ∷ names)) = over_cases around move name names

abbrev pub all_written : List (List (List ℕ)) → List Kind → List ℕ
all_written around [] = []
all_written around (n ∷ ns) = (written around n).0 ++ all_written (written around n).1 ns

-- ---- the places that are named

abbrev pub move_at : Kind → Move
move_at (open_leaf s chosen depth) = unproved
move_at (end_at log) = solved
move_at (choice move names) = move

abbrev pub NodesHavePlaces : List Kind → Type 0
NodesHavePlaces [] = Unit {0}
NodesHavePlaces (n ∷ ns) = HasPlace (move_at n) × NodesHavePlaces ns
