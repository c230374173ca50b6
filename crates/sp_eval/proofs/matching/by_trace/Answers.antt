use Rattle.std.proofs.Common.{◌≡◌, ◌++◌, List, sym, ap, ◌∙◌, arith}
use Rattle.std.proofs.lemmas.Grind.{common_steps}
use Rattle.sp_law_decide.specs.Deciding as deciding
use Rattle.sp_formula.specs.FormulaView.{moment_of}
use Rattle.sp_formula.specs.PlaceView.{placed_action}
use Rattle.sp_fact.specs.GroundView.{entries_of}
use Rattle.sp_eval.specs.View.{environment_of, environments_of}
use Rattle.sp_eval.proofs.Traces.{onward, trace_onward}
use Rattle.sp_eval.proofs.matching.by_trace.Goals as goal

pub returns : goal.returns
returns c =
    let a = placed_action c.args.action.now in
    let i = moment_of c.args.time in
    let env = environment_of c.args.env.now in
    let before = environments_of c.args.found.now.items in
    let gathered : environments_of c.loop-position.found.items ≡ before ++ onward a i 0 (entries_of c.args.trace.now) env = grind (arith, common_steps) in
    gathered ∙ ap (λ (envs : List deciding.Environment). before ++ envs) (sym (trace_onward a i env (entries_of c.args.trace.now)))
