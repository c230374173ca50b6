use Rattle.std.proofs.Common.{◌≡◌, List, [], map, ap₂, option_map, subst}
use Rattle.sp_pose.specs.Asked.{Asked, asked_of}
use Rattle.sp_analysis.specs.Sought.{Setting}
use Rattle.sp_analysis.specs.Printed.{printed_of, all_to_print, AreNameable}
use Rattle.sp_analysis.proofs.Outcomes.{setting_for, setting_with, rise_tried, is_answered}
use Rattle.sp_analysis.proofs.replies.done.Goals as goal

pub answered_by-requires-clause-rise : goal.answered_by-requires-clause-rise
answered_by-requires-clause-rise c =
    let chosen = option_map (λ s. s.now) c.args.chosen in
    let is = ap₂ (setting_with c.args.problem) c.in_ok-book.ensures c.in_ok-restrictions.ensures in
    let tried = subst (λ (x : Setting). map printed_of c.in_ok-tried.tried.items ≡ all_to_print c.args.command x [] (map asked_of c.in_ok-to_run.to_run.items)) is c.in_ok-tried.ensures.printed in
    let prints = subst (λ (as' : List Asked). map printed_of c.in_ok-tried.tried.items ≡ all_to_print c.args.command (setting_for c.args.problem) [] as') c.in_ok-to_run.ensures tried in
    rise_tried c.args.command chosen (setting_for c.args.problem) c.args.problem c.in_ok-tried.tried.items c.requires.posed prints

pub returns : goal.returns
returns c =
    let chosen = option_map (λ s. s.now) c.args.chosen in
    let is = ap₂ (setting_with c.args.problem) c.in_ok-book.ensures c.in_ok-restrictions.ensures in
    let tried = subst (λ (x : Setting). map printed_of c.in_ok-tried.tried.items ≡ all_to_print c.args.command x [] (map asked_of c.in_ok-to_run.to_run.items)) is c.in_ok-tried.ensures.printed in
    let prints = subst (λ (as' : List Asked). map printed_of c.in_ok-tried.tried.items ≡ all_to_print c.args.command (setting_for c.args.problem) [] as') c.in_ok-to_run.ensures tried in
    let named = subst (λ (x : Setting). AreNameable c.args.command x [] (map asked_of c.in_ok-to_run.to_run.items)) is c.in_ok-tried.ensures.nameable in
    let nameable = subst (λ (as' : List Asked). AreNameable c.args.command (setting_for c.args.problem) [] as') c.in_ok-to_run.ensures named in
    is_answered chosen c.args.problem c.in_ok-tried.tried.items c.answered_by.result c.requires.posed c.requires.has c.args.command prints nameable c.answered_by.ensures.written
    c.answered_by.ensures.verdicts
