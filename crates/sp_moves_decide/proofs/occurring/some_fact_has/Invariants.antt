use Rattle.std.proofs.Common.{◌≡◌, drop, map}
use Rattle.std.specs.List.{list_any}
use Rattle.sp_fact.specs.View.{fact_of}
use Rattle.sp_moves_decide.specs.Sought.{fact_has}
use Rattle.sp_moves_decide.specs.SoughtView.{sought_of}
use Rattle.sp_moves_decide.proofs.occurring.some_fact_has.Given as goal

abbrev pub invariant-loop-fact : goal.invariant-loop-fact
invariant-loop-fact l =
    list_any (fact_has (sought_of l.sought)) (map fact_of l.facts.items)
    ≡ list_any (fact_has (sought_of l.sought)) (map fact_of (drop l.fact-index l.fact-items))
