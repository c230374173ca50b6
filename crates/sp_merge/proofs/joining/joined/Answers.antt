use Rattle.std.proofs.Common.{◌≡◌, ℕ, Some, List, map, option_map, slice_index_or, sym, ap, ◌∙◌, arith}
use Rattle.std.specs.Global.{Vec}
use Rattle.sp_spec_system.specs.System.{Event}
use Rattle.sp_spec_system.specs.Equating.{Merging}
use Rattle.sp_spec_system.specs.MakingOne.{Joining, at_times, joined}
use Rattle.sp_system.specs.declared.event.Event as memory
use Rattle.sp_system.specs.SystemView.{event_of}
use Rattle.sp_merge.specs.MadeOneView.{merging_at, merging_positions}
use Rattle.sp_merge.specs.MergingView.{merging_of}
use Rattle.sp_merge.specs.JoiningView.{in_one_time, joining_of, with_merging}
use Rattle.sp_merge.proofs.Merges.{bounds, both_meet, none_meet}
use Rattle.sp_merge.proofs.joining.joined.Goals as goal

-- the events that are read are those of the system
at_positions : (i k : ℕ) {v w : Vec memory.Event} → v ≡ w → merging_positions (at_times i k) (map event_of v.items) ≡ merging_positions (at_times i k) (map event_of w.items)
at_positions i k e = ap (λ (v : Vec memory.Event). merging_positions (at_times i k) (map event_of v.items)) e

at_place : (k : ℕ) (x : memory.Event) {v w : Vec memory.Event} → v ≡ w → slice_index_or v.items k x ≡ slice_index_or w.items k x
at_place k x e = ap (λ (v : Vec memory.Event). slice_index_or v.items k x) e

-- what merging gives leads to this
abbrev by_merging : ℕ × ℕ → Joining → Event → List Event → Merging → Joining
by_merging p j a others m = in_one_time p (with_merging a.time others m j)

pub returns-in_default : goal.returns-in_default
returns-in_default c =
    let j = joining_of c.args.joining in
    let is = at_positions c.args.first c.args.second c.deref-events.ensures in
    ap Some c.in_ok-alone.ensures
    ∙ sym
    (ap (joined (c.args.first, c.args.second) j)
    (none_meet c.args.joining.system.events.items c.args.first c.args.second (sym c.in_default.is ∙ c.first_meeting.ensures ∙ is)))

pub index-one-requires : goal.index-one-requires
index-one-requires c =
    let events = c.deref-events.result.now in
    let h = bounds events.items c.args.first c.args.second c.in-Some.left c.in-Some.right (sym c.in-Some.is ∙ c.first_meeting.ensures) in
    let k = h.0 in
    omega (arith, k, events.ok.0)

pub index-other-requires : goal.index-other-requires
index-other-requires c =
    let events = c.deref-events.result.now in
    let h = bounds events.items c.args.first c.args.second c.in-Some.left c.in-Some.right (sym c.in-Some.is ∙ c.first_meeting.ensures) in
    let k = h.1 in
    omega (arith, k, events.ok.0)

pub with_merging-requires : goal.with_merging-requires
with_merging-requires c =
    let is = at_positions c.args.first c.args.second c.deref-events.ensures in
    let h = bounds c.args.joining.system.events.items c.args.first c.args.second c.in-Some.left c.in-Some.right (sym c.in-Some.is ∙ c.first_meeting.ensures ∙ is) in
    h.1

pub returns-in_default-2 : goal.returns-in_default-2
returns-in_default-2 c =
    let p : ℕ × ℕ = (c.args.first, c.args.second) in
    let j = joining_of c.args.joining in
    let x = c.index-one.result.now in
    let y = c.index-other.result.now in
    let is = at_positions c.args.first c.args.second c.deref-events.ensures in
    let others = (merging_at (event_of x) (event_of y) j.system.events c.in-Some.right).others in
    sym
    (ap (joined p j)
    (both_meet c.args.joining.system.events.items c.args.first c.args.second c.in-Some.left c.in-Some.right x y (sym c.in-Some.is ∙ c.first_meeting.ensures ∙ is)
    (c.index-one.ensures ∙ at_place c.in-Some.left x c.deref-events.ensures) (c.index-other.ensures ∙ at_place c.in-Some.right y c.deref-events.ensures))
    ∙ ap (option_map (by_merging p j (event_of x) others)) (sym c.in_ok-found.ensures ∙ ap (option_map merging_of) c.in_default-2.is))

pub returns : goal.returns
returns c =
    let p : ℕ × ℕ = (c.args.first, c.args.second) in
    let j = joining_of c.args.joining in
    let x = c.index-one.result.now in
    let y = c.index-other.result.now in
    let is = at_positions c.args.first c.args.second c.deref-events.ensures in
    let others = (merging_at (event_of x) (event_of y) j.system.events c.in-Some.right).others in
    ap Some (c.in_ok-made.ensures ∙ ap (in_one_time p) c.in_ok-merged.ensures)
    ∙ sym
    (ap (joined p j)
    (both_meet c.args.joining.system.events.items c.args.first c.args.second c.in-Some.left c.in-Some.right x y (sym c.in-Some.is ∙ c.first_meeting.ensures ∙ is)
    (c.index-one.ensures ∙ at_place c.in-Some.left x c.deref-events.ensures) (c.index-other.ensures ∙ at_place c.in-Some.right y c.deref-events.ensures))
    ∙ ap (option_map (by_merging p j (event_of x) others)) (sym c.in_ok-found.ensures ∙ ap (option_map merging_of) c.in-Some-2.is))
