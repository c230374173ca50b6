use Rattle.std.proofs.Common.{◌≡◌, List, map, drop}
use Rattle.std.specs.List.{list_all}
use Rattle.sp_spec.specs.Term.{Variable}
use Rattle.sp_spec.specs.Rule.{Fact}
use Rattle.sp_fact.specs.View.{fact_of}
use Rattle.sp_fact.specs.GroundView.{equation_of}
use Rattle.sp_spec_forms.specs.Reducible.{irreducible_all}
use Rattle.sp_book.proofs.reducible.of_facts.Given as goal

abbrev pub invariant-loop-fact : goal.invariant-loop-fact
invariant-loop-fact l =
    let holds = λ (fs : List (Fact Variable)). list_all (irreducible_all (map equation_of l.equations.items)) (map (λ f. f.args) fs) in
    holds (map fact_of l.facts.items) ≡ holds (map fact_of (drop l.fact-index l.fact-items))
