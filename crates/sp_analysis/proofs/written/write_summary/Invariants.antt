use Rattle.std.proofs.Common.{◌≡◌, ◌++◌, map, drop}
use Rattle.sp_analysis.specs.Printed as print
use Rattle.sp_analysis.proofs.written.write_summary.Given as goal

abbrev pub invariant-loop-lemma : goal.invariant-loop-lemma
invariant-loop-lemma l = l.out.items ++ print.lines (map print.printed_of (drop l.lemma-index l.lemmas.items)) ≡ l.fn.out.items ++ print.lines (map print.printed_of l.lemmas.items)
