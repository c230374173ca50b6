use Rattle.std.proofs.Common.{◌≡◌, ◌++◌, map, drop}
use Rattle.sp_fact.specs.View.{action_of}
use Rattle.sp_book.specs.Book.{by_places}
use Rattle.sp_book.specs.BookView.{book_of}
use Rattle.sp_system.specs.SystemView.{system_of}
use Rattle.sp_spec_formula.specs.Action as spec
use Rattle.sp_moves.specs.View.{case_of}
use Rattle.sp_moves_formula.specs.Sought.{by_rule}
use Rattle.sp_moves_formula.proofs.by_rules.by_each.Given as goal

abbrev pub invariant-loop-place : goal.invariant-loop-place
invariant-loop-place l =
    map case_of l.made.items ++ by_places (λ r. by_rule r (system_of l.system) l.time (action_of l.action)) (book_of l.rules) (drop l.place-index l.place-items)
    ≡ spec.by_each (book_of l.rules) (system_of l.system) l.time (action_of l.action)
