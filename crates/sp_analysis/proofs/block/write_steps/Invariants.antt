use Rattle.std.proofs.Common.{◌≡◌, ◌++◌, map, drop, string_bytes}
use Rattle.sp_spec.specs.Lists.{Every}
use Rattle.sp_fact.specs.GroundView.{step_of}
use Rattle.sp_show.specs.Numbers.{StepHasNames, numbered_names}
use Rattle.sp_law_printed_log.specs.Block as spec
use Rattle.sp_analysis.proofs.block.write_steps.Given as goal

abbrev pub invariant-loop-step : goal.invariant-loop-step
invariant-loop-step l =
    (string_bytes l.out ++ spec.steps_text (map step_of (drop l.step-index l.steps.items)) ≡ string_bytes l.fn.out ++ spec.steps_text (map step_of l.steps.items))
    × (Every (StepHasNames numbered_names) (map step_of (drop l.step-index l.steps.items)) → Every (StepHasNames numbered_names) (map step_of l.steps.items))
