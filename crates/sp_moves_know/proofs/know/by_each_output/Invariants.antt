use Rattle.std.proofs.Common.{◌≡◌, ◌++◌, map, drop}
use Rattle.sp_book.specs.View.{rule_forms_of}
use Rattle.sp_book.specs.BookView.{book_of}
use Rattle.sp_system.specs.SystemView.{system_of}
use Rattle.sp_spec_know.specs.Know.{by_each_output}
use Rattle.sp_moves.specs.View.{case_of}
use Rattle.sp_moves_know.proofs.know.by_each_output.Given as goal

abbrev pub invariant-loop-rule : goal.invariant-loop-rule
invariant-loop-rule l =
    map case_of l.made.items ++ by_each_output (map rule_forms_of (drop l.rule-index l.rule-items)) (system_of l.system) l.time
    ≡ by_each_output (book_of l.rules) (system_of l.system) l.time
