use Rattle.std.proofs.Common.{◌≡◌, drop}
use Rattle.sp_term.specs.View.{view_all}
use Rattle.sp_system.specs.SystemView.{system_of}
use Rattle.sp_spec_know.specs.Know.{with_learnings}
use Rattle.sp_moves_know.proofs.know.with_learnings.Given as goal

abbrev pub invariant-loop-message : goal.invariant-loop-message
invariant-loop-message l =
    with_learnings l.time (view_all (drop l.message-index l.message-items)) (system_of l.system)
    ≡ with_learnings l.time (view_all l.messages.items) (system_of l.initial.system)
