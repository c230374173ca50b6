use Rattle.std.proofs.Common.{ℕ, List, map, drop}
use Rattle.sp_book.specs.View.{rule_forms_of}
use Rattle.sp_book.specs.Book.{listed, shown_names, given_names}
use Rattle.sp_book.proofs.Listed.{IsListed}
use Rattle.sp_book.proofs.book.RuleBook.new.Given as goal

abbrev pub invariant-loop-place : goal.invariant-loop-place
invariant-loop-place l =
    ((q : List ℕ) → IsListed shown_names q l.place (listed l.by_action q) (map rule_forms_of (drop l.place l.rule-items)) (map rule_forms_of l.rule-items))
    × ((q : List ℕ) → IsListed given_names q l.place (listed l.by_conclusion q) (map rule_forms_of (drop l.place l.rule-items)) (map rule_forms_of l.rule-items))
