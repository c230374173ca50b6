use Rattle.std.proofs.Common.{◌≡◌, drop, map}
use Rattle.sp_term.specs.Bindings.{bindings}
use Rattle.sp_fact.specs.View.{fact_of}
use Rattle.sp_system.specs.Stays.{fact_stays}
use Rattle.sp_formula.specs.Staying.{all_so}
use Rattle.sp_system.proofs.staying.facts_stay_in.Given as goal

abbrev pub invariant-loop-fact : goal.invariant-loop-fact
invariant-loop-fact l = all_so (fact_stays (bindings l.subst)) (map fact_of l.facts.items) ≡ all_so (fact_stays (bindings l.subst)) (map fact_of (drop l.fact-index l.fact-items))
