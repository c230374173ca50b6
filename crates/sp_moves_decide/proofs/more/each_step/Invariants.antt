use Rattle.std.proofs.Common.{◌≡◌, ◌++◌, map, drop}
use Rattle.sp_book.specs.View.{rule_forms_of}
use Rattle.sp_book.specs.BookView.{book_of}
use Rattle.sp_system.specs.SystemView.{system_of}
use Rattle.sp_spec_graph.specs.More as spec
use Rattle.sp_moves.specs.View.{case_of}
use Rattle.sp_moves_decide.proofs.more.each_step.Given as goal

abbrev pub invariant-loop-rule : goal.invariant-loop-rule
invariant-loop-rule l =
    map case_of l.made.items ++ spec.each_step (map rule_forms_of (drop l.rule-index l.rule-items)) (system_of l.system)
    ≡ spec.each_step (book_of l.rules) (system_of l.system)
