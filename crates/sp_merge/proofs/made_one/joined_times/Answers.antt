use Rattle.std.proofs.Common.{◌≡◌, ◌+◌, ℕ, suc, length, map, ap, ◌∙◌, arith}
use Rattle.std.specs.Global.{Vec}
use Rattle.std.proofs.lemmas.List.{length-map}
use Rattle.sp_spec_system.specs.MakingOne.{Joining, all_joined}
use Rattle.sp_system.specs.declared.event.Event.{Event}
use Rattle.sp_system.specs.SystemView.{event_of}
use Rattle.sp_merge.specs.JoiningView.{joining_of}
use Rattle.sp_merge.proofs.made_one.joined_times.Goals as goal

pub returns : goal.returns
returns c =
    let begun = c.in_ok-joining.joining in
    let events = c.deref.result.now in
    let turns : c.len-turns.result + 1 ≡ suc (length (map event_of events.items)) = omega (arith, c.len-turns.ensures, events.ok.0, length-map events.items event_of) in
    c.in_ok-made.ensures
    ∙ ap (λ (n : ℕ). all_joined n (joining_of begun)) (turns ∙ ap (λ (v : Vec Event). suc (length (map event_of v.items))) c.deref.ensures)
    ∙ ap (λ (j : Joining). all_joined (suc (length j.system.events)) j) c.in_ok-joining.ensures
