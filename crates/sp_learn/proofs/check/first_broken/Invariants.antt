use Rattle.std.proofs.Common.{◌≡◌, drop, map, take}
use Rattle.sp_fact.specs.GroundView.{signature_of}
use Rattle.sp_book.specs.View.{rule_forms_of}
use Rattle.sp_learn.specs.Checking.{check_of, check_behind}
use Rattle.sp_learn.specs.View.{IsUsed, entry_of}
use Rattle.sp_learn.proofs.check.first_broken.Given as goal

abbrev pub invariant-loop-number : goal.invariant-loop-number
invariant-loop-number l =
    (check_of (signature_of l.signature) (map rule_forms_of l.rules.items) (map entry_of l.entries.items)
    ≡ check_behind (signature_of l.signature) (map rule_forms_of l.rules.items) (map entry_of (take l.number l.entries.items)) (map entry_of (drop l.number l.entries.items)))
    × IsUsed l.used (map entry_of (take l.number l.entries.items))
