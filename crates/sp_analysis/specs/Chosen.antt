-- Which lemmas are run: each, or the one alone whose name is given. Source: Tamarin manual, "Running Tamarin" (`--prove=NAME`).
use Rattle.std.specs.Prelude.{ℕ, Bool, true, if◌then◌else◌, List, [], ◌∷◌, map, Option, Some, None, bytes_eq}
use Rattle.std.specs.List.{list_any}
use Rattle.sp_spec_proof.specs.Tree.{Tree}
use Rattle.sp_analysis.specs.Taken.{Stated}

-- the lemma of this name is run
abbrev pub is_run : Option (List ℕ) → List ℕ → Bool
is_run None name = true
is_run (Some chosen) name = bytes_eq chosen name

-- those that are run, in the order of the text
abbrev pub run_among : Option (List ℕ) → List Stated → List Stated
run_among chosen [] = []
run_among chosen (q ∷ qs) = if is_run chosen q.lemma.name then q ∷ run_among chosen qs else run_among chosen qs

-- one of the names is the one that is given, if one is
abbrev pub is_among : Option (List ℕ) → List (List ℕ) → Bool
is_among None names = true
is_among (Some chosen) names = list_any (bytes_eq chosen) names

-- the text has the lemma whose name is given, if one is
abbrev pub has_lemma : Option (List ℕ) → List Stated → Bool
has_lemma chosen qs = is_among chosen (map (λ (q : Stated). q.lemma.name) qs)

abbrev pub next_tree : List Tree → Option Tree
next_tree [] = None
next_tree (t ∷ trees) = Some t

abbrev pub later_trees : List Tree → List Tree
later_trees [] = []
later_trees (t ∷ trees) = trees

-- Each lemma that is run gets the next of the trees in the place of its proof; each other keeps what stands there.
abbrev pub placed : Option (List ℕ) → List Stated → List Tree → List (Option Tree)
placed chosen [] trees = []
placed chosen (q ∷ qs) trees = if is_run chosen q.lemma.name then next_tree trees ∷ placed chosen qs (later_trees trees) else None ∷ placed chosen qs trees
