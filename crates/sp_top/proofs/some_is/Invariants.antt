use Rattle.std.proofs.Common.{◌≡◌, map, drop}
use Rattle.std.specs.List.{list_any}
use Rattle.sp_analysis.specs.View.{verdict_of}
use Rattle.sp_top.specs.Answer as answer
use Rattle.sp_top.proofs.some_is.Given as goal

abbrev pub invariant-loop-verdict : goal.invariant-loop-verdict
invariant-loop-verdict l =
    list_any (answer.is_wanted l.wanted) (map verdict_of l.verdicts.items) ≡ list_any (answer.is_wanted l.wanted) (map verdict_of (drop l.verdict-index l.verdicts.items))
