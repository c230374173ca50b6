use Rattle.std.proofs.Common.{map, sym}
use Rattle.std.proofs.lemmas.List.{append-nil}
use Rattle.sp_fact.specs.GroundView.{ground_of}
use Rattle.sp_log.specs.View as steps
use Rattle.sp_learn.specs.View.{entry_of}
use Rattle.sp_learn.proofs.Used.{used_more}
use Rattle.sp_learn.proofs.check.broken_step.Goals as goal

pub returns-clause-adds : goal.returns-clause-adds
returns-clause-adds c =
    λ none'. used_more c.args.used.now (record { sources = c.sources_are_new.new.named; names = c.names_are_new.new.used; learnt = c.args.used.now.learnt })
    (map entry_of c.args.earlier.now) (steps.entry_of c.args.step.now) c.requires
    (c.in_ok-sources_are_new.ensures.adds c.if-not-branch-2.false) (c.in_ok-names_are_new.ensures.adds c.if-not-branch-3.false)
    (sym (append-nil (map ground_of c.args.used.now.learnt.items)))
