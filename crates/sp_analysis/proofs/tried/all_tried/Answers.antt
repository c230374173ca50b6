use Rattle.std.proofs.Common.{[], ◌∷◌, map, ap, ◌∙◌}
use Rattle.std.proofs.lemmas.List.{map-append}
use Rattle.sp_spec.proofs.Lists.{next_there}
use Rattle.sp_analysis.specs.View.{setting_in, taken_of}
use Rattle.sp_analysis.specs.Printed.{printed_of}
use Rattle.sp_analysis.proofs.Walked.{one_printed, one_nameable}
use Rattle.sp_analysis.proofs.tried.all_tried.Goals as goal

pub loop-lemma-preserved : goal.loop-lemma-preserved
loop-lemma-preserved c =
    let setting = setting_in c.args.setting.now in
    let lemmas = c.args.lemmas.now.items in
    let place = c.loop-lemma.lemma-index in
    let lemma = c.lemma-item.result in
    let at = next_there c.deref-lemma-items.result.now lemmas place lemma c.deref-lemma-items.ensures.value c.loop-lemma-test.true c.lemma-item.is in
    let taken = map taken_of c.loop-lemma.taken.items in
    let more = map taken_of c.push_taken.new.taken.items in
    let p = printed_of c.in_ok-tried.tried in (
      one_printed c.args.command setting taken more place lemmas lemma at p c.in_ok-tried.ensures.printed c.in_ok-push_taken.ensures (map printed_of c.loop-lemma.made.items)
          (map printed_of c.push.new.self.items) (_) c.loop-lemma.invariant.0
          (ap (map printed_of) c.in_ok-push.ensures.items ∙ map-append printed_of c.loop-lemma.made.items (c.in_ok-tried.tried ∷ [])),
      λ named. c.loop-lemma.invariant.1 (one_nameable c.args.command setting taken more place lemmas lemma at p c.in_ok-tried.ensures.printed c.in_ok-push_taken.ensures
          c.in_ok-tried.ensures.nameable named),
    )
