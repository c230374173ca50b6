use Rattle.std.proofs.Common.{[], ◌∷◌, map, option_map, sym, ap, ◌∙◌}
use Rattle.std.proofs.lemmas.List.{map-append}
use Rattle.sp_pose.specs.Asked.{asked_of}
use Rattle.sp_analysis.specs.Printed.{asked_run}
use Rattle.sp_analysis.proofs.ReadRun.{then_run}
use Rattle.sp_analysis.proofs.chosen.run_among.Goals as goal

pub loop-lemma-preserved : goal.loop-lemma-preserved
loop-lemma-preserved c =
    let chosen = option_map (λ s. s.now) c.args.chosen in
    let seen = map asked_of c.loop-lemma.yielded in
    then_run chosen seen (map asked_of c.loop-lemma.run.items) (map asked_of c.push_run.new.run.items) (asked_of c.in-Some.lemma) c.loop-lemma.invariant c.in_ok-push_run.ensures
    ∙ ap (asked_run chosen) (sym (map-append asked_of c.loop-lemma.yielded (c.in-Some.lemma ∷ [])))
