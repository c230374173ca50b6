-- No float stands in what is written of a graph.
use Rattle.std.proofs.Common.{◌≡◌, ◌||◌, ℕ, Bool, false, List, [], ◌∷◌, map, refl, ap₂}
use Rattle.serde_json.specs.View.{items_of}
use Rattle.serde_json.specs.Written.{has_float, items_have_float}
use Rattle.sp_spec.specs.Log as log
use Rattle.sp_spec_log_lines.specs.Line.{Giving}
use Rattle.sp_graph.specs.Edges.{Edge, edges}
use Rattle.sp_graph.specs.Graph.{edge, node, graph_of}

plain_edges : (es : List Edge) → items_have_float (items_of (map edge es)) ≡ false
plain_edges [] = refl
plain_edges (e ∷ es) = plain_edges es

plain_nodes : (given : Giving) (entries : List log.Entry) → items_have_float (items_of (map (node given) entries)) ≡ false
plain_nodes given [] = refl
plain_nodes given (e ∷ entries) = plain_nodes given entries

pub plain_graph : (given : Giving) (lemma : List ℕ) (entries : List log.Entry) → has_float (graph_of given lemma entries) ≡ false
plain_graph given lemma entries = ap₂ (λ (a b : Bool). a || (false || (b || false))) (plain_edges (edges entries)) (plain_nodes given entries)
