use Rattle.std.proofs.Common.{◌<◌, List, Option, map, length, option_map, sym, ap, ◌∙◌, arith}
use denote.Ref.{Bor}
use Rattle.sp_spec_system.specs.System as spec
use Rattle.sp_system.specs.SystemView.{event_of}
use Rattle.sp_system.specs.declared.event.Event.{Event}
use Rattle.sp_spec_solved.specs.Listing.{in_order}
use Rattle.sp_solved.specs.ListingView.{events_of}
use Rattle.sp_solved.proofs.Rounds.{stuck, one_linear_source}
use Rattle.sp_solved.proofs.listing.in_order.Goals as goal

abbrev with_others : List (Bor Event) → Bor Event → spec.Event × List spec.Event
with_others others e = (event_of e.now, events_of others)

abbrev taken_with : List (Bor Event) → Option (Bor Event) → Option (spec.Event × List spec.Event)
taken_with others o = option_map (with_others others) o

pub returns-in_default : goal.returns-in_default
returns-in_default c =
    let es = c.args.events.now.items in
    let more : c.loop.counter < length es = omega (arith, c.loop-test.true, c.len-end.ensures, c.args.events.now.ok.0) in
    stuck c.args.order.now (length es) c.loop.counter (events_of c.loop.left.items) (events_of c.loop.listed.items) (in_order c.args.order.now (map event_of es)) more
    (sym c.take_free.ensures ∙ ap (taken_with c.take_free.new.left.items) c.in_default.is) c.loop.invariant

pub loop-preserved : goal.loop-preserved
loop-preserved c =
    let es = c.args.events.now.items in
    let more : c.loop.counter < length es = omega (arith, c.loop-test.true, c.len-end.ensures, c.args.events.now.ok.0) in
    one_linear_source c.args.order.now (length es) c.loop.counter (events_of c.loop.left.items) (events_of c.take_free.new.left.items) c.loop.listed.items c.push.new.self.items c.in-Some.event
    (in_order c.args.order.now (map event_of es)) more
    (sym c.take_free.ensures ∙ ap (taken_with c.take_free.new.left.items) c.in-Some.is) c.in_ok-push.ensures.items c.loop.invariant
