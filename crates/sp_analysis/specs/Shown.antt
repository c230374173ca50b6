-- What is shown of lemmas that were tried, in the place of their proofs: the graphs of the logs that were found, or how many verdicts there are of each kind.
-- Source of the graphs: Tamarin manual, "Graphs"; the words are this project's own.
use Rattle.std.specs.Prelude.{ℕ, Bool, true, false, ◌+◌, List, [], ◌∷◌, ◌++◌, length, filter, map, codes, decimal, Option, Some, None}
use Rattle.sp_spec.specs.Theory.{Theory}
use Rattle.sp_spec.specs.Log.{Log}
use Rattle.sp_spec_text.specs.Numerals.{counted}
use Rattle.sp_spec_printed.specs.Verdict.{Verdict, verified, falsified, incomplete, rejected}
use Rattle.sp_spec_proof.specs.Tree.{steps}
use Rattle.sp_spec_log_lines.specs.Line.{Giving}
use Rattle.sp_law_log_lines.specs.Block.{given_in}
use Rattle.sp_graph.specs.Graph.{graph_text}
use Rattle.sp_analysis.specs.Analysis.{Outcome}

-- ---- graphs

-- that of the log that was found, if one was
abbrev pub graph_or_none : Giving → List ℕ → Option Log → List ℕ
graph_or_none given name None = codes "no graph\n"
graph_or_none given name (Some log) = graph_text given name log

abbrev pub graphs_by : Giving → List Outcome → List ℕ
graphs_by given [] = []
graphs_by given (o ∷ os) = graph_or_none given o.lemma.name o.log ++ graphs_by given os

abbrev pub graphs : Theory → List Outcome → List ℕ
graphs theory os = graphs_by (given_in theory) os

-- ---- counts

abbrev pub is_verified : Verdict → Bool
is_verified verified = true
is_verified falsified = false
is_verified incomplete = false
is_verified (rejected step clause) = false

abbrev pub is_falsified : Verdict → Bool
is_falsified verified = false
is_falsified falsified = true
is_falsified incomplete = false
is_falsified (rejected step clause) = false

abbrev pub is_incomplete : Verdict → Bool
is_incomplete verified = false
is_incomplete falsified = false
is_incomplete incomplete = true
is_incomplete (rejected step clause) = false

abbrev pub how_many : (Verdict → Bool) → List Verdict → ℕ
how_many kind vs = length (filter kind vs)

abbrev pub count_line : List ℕ → ℕ → List ℕ
count_line label n = label ++ (decimal n ++ codes "\n")

-- of these verdicts, by proofs of so many moves together
abbrev pub counts_by : List Verdict → ℕ → List ℕ
counts_by vs moves =
    count_line (codes "lemmas: ") (length vs) ++ (count_line (codes "verified: ") (how_many is_verified vs) ++ (count_line (codes "falsified: ") (how_many is_falsified vs)
    ++ (count_line (codes "incomplete: ") (how_many is_incomplete vs) ++ count_line (codes "steps: ") moves)))

-- the moves of all proofs
abbrev pub all_steps : List Outcome → ℕ
all_steps [] = 0
all_steps (o ∷ os) = steps o.tree + all_steps os

abbrev pub counts : List Outcome → List ℕ
counts os = counts_by (map (λ (o : Outcome). o.verdict) os) (counted (all_steps os))
