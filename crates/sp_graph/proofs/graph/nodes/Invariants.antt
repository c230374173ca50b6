use Rattle.std.proofs.Common.{◌≡◌, ◌++◌, drop, map}
use Rattle.serde_json.specs.View.{view}
use Rattle.sp_fact.specs.GroundView.{equation_of}
use Rattle.sp_book.specs.View.{rule_forms_of}
use Rattle.sp_learn.specs.View.{entry_of}
use Rattle.sp_show_log.specs.Given.{given_among}
use Rattle.sp_graph.specs.Graph.{node}
use Rattle.sp_graph.proofs.graph.nodes.Given as goal

abbrev pub invariant-loop-entry : goal.invariant-loop-entry
invariant-loop-entry l =
    let given = given_among (map equation_of l.equations.items) (map rule_forms_of l.rules.items) in
    map view l.values.items ++ map (node given) (map entry_of (drop l.entry-index l.entries.items)) ≡ map (node given) (map entry_of l.entries.items)
