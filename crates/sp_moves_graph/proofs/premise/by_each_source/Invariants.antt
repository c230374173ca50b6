use Rattle.std.proofs.Common.{◌≡◌, ◌++◌, map, drop}
use Rattle.sp_fact.specs.View.{fact_of}
use Rattle.sp_book.specs.Book.{by_places}
use Rattle.sp_book.specs.BookView.{book_of}
use Rattle.sp_system.specs.SystemView.{system_of}
use Rattle.sp_spec_graph.specs.Premise as spec
use Rattle.sp_moves.specs.View.{case_of}
use Rattle.sp_moves_graph.specs.PremiseRules.{by_source}
use Rattle.sp_moves_graph.proofs.premise.by_each_source.Given as goal

abbrev pub invariant-loop-place : goal.invariant-loop-place
invariant-loop-place l =
    map case_of l.made.items
    ++ by_places (λ r. by_source r (system_of l.system) l.premise.time l.premise.place (fact_of l.fact)) (book_of l.rules) (drop l.place-index l.place-items)
    ≡ spec.by_each_source (book_of l.rules) (system_of l.system) l.premise.time l.premise.place (fact_of l.fact)
