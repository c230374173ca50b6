-- The graph of a learning log, as a value of JSON, and its text. Source: RFC 8259 (JSON); Tamarin manual, "Graphs"; the names of the members are this project's own.
use Rattle.std.specs.Prelude.{ℕ, Bool, true, false, List, [], ◌∷◌, ◌++◌, map, if◌then◌else◌, codes, ◌==◌}
use Rattle.serde_json.specs.Data.{Data, number, unsigned, string, array, object, member, no_members}
use Rattle.serde_json.specs.View.{items_of}
use Rattle.serde_json.specs.Written.{compact_text}
use Rattle.sp_spec.specs.Lists.{newest_first}
use Rattle.sp_spec.specs.Log.{Entry, step, send, learn, Log}
use Rattle.sp_spec_log_lines.specs.Line.{Giving, log_line}
use Rattle.sp_graph.specs.Edges.{Edge, edges}

abbrev pub node_kind : Entry → List ℕ
node_kind (step r facts sources) = codes "rule"
node_kind (send m) = codes "send"
node_kind (learn m how) = codes "learn"

-- a text without its first word and the blank behind that
abbrev pub behind_word : List ℕ → List ℕ
behind_word [] = []
behind_word (c ∷ cs) = if c == 32 then cs else behind_word cs

-- the kind of the entry, and its line in the log without the first word
abbrev pub node : Giving → Entry → Data
node given e = object (member (codes "kind") (string (node_kind e)) (member (codes "text") (string (behind_word (log_line given e))) no_members))

abbrev pub edge_kind : Bool → List ℕ
edge_kind true = codes "fact"
edge_kind false = codes "learn"

abbrev pub edge : Edge → Data
edge e = object (member (codes "from") (number (unsigned e.from)) (member (codes "kind") (string (edge_kind e.is_fact))
    (member (codes "to") (number (unsigned e.to)) no_members)))

-- of these entries, the oldest first, found for the lemma of this name
abbrev pub graph_of : Giving → List ℕ → List Entry → Data
graph_of given lemma entries =
    object (member (codes "edges") (array (items_of (map edge (edges entries)))) (member (codes "lemma") (string lemma)
    (member (codes "nodes") (array (items_of (map (node given) entries))) no_members)))

-- without a blank, and with a line feed behind it
abbrev pub graph_text : Giving → List ℕ → Log → List ℕ
graph_text given lemma log = compact_text (graph_of given lemma (newest_first log)) ++ codes "\n"
