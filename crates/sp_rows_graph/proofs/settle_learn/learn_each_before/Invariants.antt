use Rattle.std.proofs.Common.{◌≡◌, map, drop}
use Rattle.sp_term.specs.View.{view}
use Rattle.sp_system.specs.SystemView.{system_of}
use Rattle.sp_spec_know.specs.SettleLearn.{each_learnt_before}
use Rattle.sp_rows_graph.proofs.settle_learn.learn_each_before.Given as goal

abbrev pub invariant-loop-part : goal.invariant-loop-part
invariant-loop-part l =
    each_learnt_before l.time (map view (drop l.part-index l.part-items)) (system_of l.system)
    ≡ each_learnt_before l.time (map view l.parts.items) (system_of l.initial.system)
