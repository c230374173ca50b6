use Rattle.std.proofs.Common.{◌≡◌, ◌++◌, map, drop}
use Rattle.sp_fact.specs.GroundView.{trace_of}
use Rattle.sp_pose.specs.Asked.{asked_of}
use Rattle.sp_replay.specs.Held.{held_lines}
use Rattle.sp_replay.proofs.written.write_lemmas.Given as goal

abbrev pub invariant-loop-lemma : goal.invariant-loop-lemma
invariant-loop-lemma l =
    l.out.items ++ held_lines (trace_of l.trace) (map asked_of (drop l.lemma-index l.lemmas.items))
    ≡ l.fn.out.items ++ held_lines (trace_of l.trace) (map asked_of l.lemmas.items)
