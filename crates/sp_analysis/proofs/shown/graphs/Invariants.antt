use Rattle.std.proofs.Common.{◌≡◌, ◌++◌, map, drop}
use Rattle.sp_analysis.specs.Printed as print
use Rattle.sp_analysis.proofs.shown.graphs.Given as goal

abbrev pub invariant-loop-lemma : goal.invariant-loop-lemma
invariant-loop-lemma l = l.written.items ++ print.graphs_in (map print.printed_of (drop l.lemma-index l.lemmas.items)) ≡ print.graphs_in (map print.printed_of l.lemmas.items)
