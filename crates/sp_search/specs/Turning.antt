-- How a list of nodes is grown: the place of the first open leaf of the least class is found, and other nodes come in its place.
use Rattle.std.specs.Prelude.{ℕ, suc, ◌+◌, nat_lt, List, [], ◌∷◌, ◌++◌, map, take, drop, option_map, Option, Some, None, if◌then◌else◌}
use Rattle.sp_spec.specs.Log.{Log}
use Rattle.sp_spec_system.specs.System.{System}
use Rattle.sp_spec_system.specs.Move.{Move, solved, Context, Case, end_log}
use Rattle.sp_spec_proof.specs.Cases.{cases}
use Rattle.sp_spec_proof.specs.Tree.{is_solved}
use Rattle.sp_spec_proof.specs.Choice as choosing
use Rattle.sp_spec_proof.specs.Choice.{class_of}
use Rattle.sp_search.specs.Growing.{cases_or_none}
use Rattle.sp_search.specs.Kinds.{Kind, open_leaf, end_at, choice}

-- ---- the place

abbrev pub class_at : Kind → Option ℕ
class_at (open_leaf s chosen depth) = class_of chosen depth
class_at (end_at log) = None
class_at (choice move names) = None

-- of two places with their classes the first, unless the other has the lesser class
abbrev pub sooner : Option (ℕ × ℕ) → Option (ℕ × ℕ) → Option (ℕ × ℕ)
sooner None later = later
sooner (Some here) None = Some here
sooner (Some here) (Some later) = if nat_lt later.1 here.1 then Some later else Some here

abbrev pub placed : ℕ → Option ℕ → Option (ℕ × ℕ)
placed place None = None
placed place (Some class) = Some (place, class)

abbrev pub first_least : ℕ → List Kind → Option (ℕ × ℕ)
first_least place [] = None
first_least place (n ∷ ns) = sooner (placed place (class_at n)) (first_least (suc place) ns)

abbrev pub next_place : List Kind → Option ℕ
next_place ns = option_map (λ (found : ℕ × ℕ). found.0) (first_least 0 ns)

abbrev pub leaf_in_front : List Kind → Option Kind
leaf_in_front (open_leaf s chosen depth ∷ ns) = Some (open_leaf s chosen depth)
leaf_in_front ns = None

abbrev pub leaf_at : ℕ → List Kind → Option Kind
leaf_at place ns = leaf_in_front (drop place ns)

-- ---- the nodes in its place

abbrev pub open_node : Context → ℕ → Case → Kind
open_node context depth c = open_leaf c.system (choosing.choice context c.system) depth

abbrev pub name_of : Case → List ℕ
name_of c = c.name

-- a move, and an open leaf at each case
abbrev pub move_nodes : Context → Move → ℕ → List Case → List Kind
move_nodes context move depth cs = choice move (map name_of cs) ∷ map (open_node context depth) cs

abbrev pub end_node : Option Log → Kind
end_node None = choice solved []
end_node (Some log) = end_at log

abbrev pub replaced_nodes : Context → System → Move → ℕ → List Kind
replaced_nodes context s move depth =
    if is_solved move then end_node (end_log context s) ∷ [] else move_nodes context move (depth + 1) (cases_or_none (cases context s move))

abbrev pub in_place_of : Context → Kind → List Kind
in_place_of context (open_leaf s None depth) = open_leaf s None depth ∷ []
in_place_of context (open_leaf s (Some r) depth) = replaced_nodes context s r.move depth
in_place_of context (end_at log) = end_at log ∷ []
in_place_of context (choice move names) = choice move names ∷ []

abbrev pub grown_front : Context → List Kind → List Kind
grown_front context [] = []
grown_front context (n ∷ ns) = in_place_of context n ++ ns

abbrev pub grown_at : Context → ℕ → List Kind → List Kind
grown_at context place ns = take place ns ++ grown_front context (drop place ns)
