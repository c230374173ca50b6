use Rattle.std.proofs.Common.{◌≡◌, ◌++◌, drop, map}
use Rattle.sp_fact.specs.GroundView.{ground_of}
use Rattle.sp_learn.specs.Learning as spec
use Rattle.sp_learn.specs.View.{entry_of}
use Rattle.sp_learn.proofs.log.learnt_in.Given as goal

abbrev pub invariant-loop-entry : goal.invariant-loop-entry
invariant-loop-entry l = map ground_of l.learnt.items ++ spec.learnt_in (map entry_of (drop l.entry-index l.entries)) ≡ spec.learnt_in (map entry_of l.entries)
