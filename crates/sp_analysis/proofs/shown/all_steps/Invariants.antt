use Rattle.std.proofs.Common.{◌≡◌, ◌+◌, ◌-◌, ◌^◌, ◌≤◌, map, drop}
use Rattle.sp_spec_text.specs.Numerals.{counted}
use Rattle.sp_analysis.specs.Printed as print
use Rattle.sp_analysis.proofs.shown.all_steps.Given as goal

abbrev pub invariant-loop-lemma : goal.invariant-loop-lemma
invariant-loop-lemma l =
    (counted (print.steps_in (map print.printed_of l.lemmas.items)) ≡ counted (l.total + print.steps_in (map print.printed_of (drop l.lemma-index l.lemmas.items))))
    × (l.total ≤ 2 ^ 64 - 1)
