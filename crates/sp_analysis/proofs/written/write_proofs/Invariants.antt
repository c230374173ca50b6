use Rattle.std.proofs.Common.{◌≡◌, ◌++◌, map, drop}
use Rattle.sp_spec_text.specs.Spans.{Rise}
use Rattle.sp_written.specs.Views as view
use Rattle.sp_analysis.specs.Printed as print
use Rattle.sp_analysis.proofs.written.write_proofs.Given as goal

abbrev pub invariant-loop-lemma : goal.invariant-loop-lemma
invariant-loop-lemma l = record {
  rise : Rise l.text l.start (map (λ t. view.span_of t.span) (drop l.lemma-index l.lemmas.items)) l.end;
  so_far : l.out.items ++ print.spliced l.text l.start (map print.printed_of (drop l.lemma-index l.lemmas.items)) l.end
      ≡ l.fn.out.items ++ print.spliced l.text 0 (map print.printed_of l.lemmas.items) l.end;
}
