use Rattle.std.proofs.Common.{◌≡◌, drop, map}
use Rattle.std.specs.List.{list_all}
use Rattle.sp_fact.specs.GroundView.{equation_of, ground_fact}
use Rattle.sp_log.specs.Checking.{stay}
use Rattle.sp_log.proofs.normal_form.facts_stay.Given as goal

abbrev pub invariant-loop-fact : goal.invariant-loop-fact
invariant-loop-fact l =
    list_all (stay (map equation_of l.equations.items)) (map (λ x. x.args) (map ground_fact l.facts.items))
    ≡ list_all (stay (map equation_of l.equations.items)) (map (λ x. x.args) (map ground_fact (drop l.fact-index l.fact-items)))
