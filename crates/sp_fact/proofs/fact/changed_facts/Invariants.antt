use Rattle.std.proofs.Common.{◌≡◌, take, map}
use Rattle.sp_spec.specs.Rule.{fact_at}
use Rattle.sp_fact.specs.View.{fact_by}
use Rattle.sp_fact.proofs.fact.changed_facts.Given as goal

abbrev pub invariant-loop-fact : goal.invariant-loop-fact
invariant-loop-fact g l =
    let a = g.F.Assigns in
    map (fact_by a.to_of) l.made.items ≡ map (fact_at (a.value_of l.values)) (map (fact_by a.from_of) (take l.fact-index l.fact-items))
