-- How the theory asks that its lemmas' proofs are ranked: by the first word of each `heuristic`, as a lemma's own `heuristic=` does. Source: Tamarin manual, "Heuristics".
use Rattle.std.specs.Prelude.{ℕ, List, [], ◌∷◌}
use Rattle.std.specs.List.{flat_map}
use Rattle.sp_spec_text.specs.Written.{Attribute, ranked_by, Item, heuristic_item}

abbrev pub first_ranking : List (List ℕ) → List Attribute
first_ranking [] = []
first_ranking (w ∷ ws) = ranked_by w ∷ []

abbrev pub item_ranking : Item → List Attribute
item_ranking (heuristic_item ws) = first_ranking ws
item_ranking item = []

-- in the order of the text
abbrev pub rankings_in : List Item → List Attribute
rankings_in items = flat_map item_ranking items
