use Rattle.std.proofs.Common.{◌≡◌, [], ◌++◌, map, drop}
use Rattle.sp_pose.specs.Asked as ask
use Rattle.sp_analysis.specs.View.{setting_in, taken_of}
use Rattle.sp_analysis.specs.Printed as print
use Rattle.sp_analysis.proofs.tried.all_tried.Given as goal

abbrev pub invariant-loop-lemma : goal.invariant-loop-lemma
invariant-loop-lemma l =
    let setting = setting_in l.setting in
    let rest = map ask.asked_of (drop l.lemma-index l.lemmas.items) in
    let all = map ask.asked_of l.lemmas.items in
    (map print.printed_of l.made.items ++ print.all_to_print l.command setting (map taken_of l.taken.items) rest ≡ print.all_to_print l.command setting [] all)
    × (print.AreNameable l.command setting (map taken_of l.taken.items) rest → print.AreNameable l.command setting [] all)
