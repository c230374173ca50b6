use Rattle.std.proofs.Common.{sym, ◌∙◌, arith}
use Rattle.std.proofs.lemmas.List.{length-map}
use denote.Ref.{Bor}
use Rattle.sp_system.specs.SystemView.{event_of}
use Rattle.sp_system.specs.declared.event.Event.{Event}
use Rattle.sp_solved.specs.ListingView.{events_of}
use Rattle.sp_solved.proofs.Free.{none_free, free_below, taken_there}
use Rattle.sp_solved.proofs.listing.take_free.Goals as goal

pub returns-in_default : goal.returns-in_default
returns-in_default c =
    sym (none_free c.args.order.now (events_of c.args.left.now.items) (events_of c.args.left.now.items) (sym c.free_place.ensures ∙ c.in_default.is))

pub remove-requires : goal.remove-requires
remove-requires c =
    let h = free_below c.args.order.now (events_of c.args.left.now.items) (events_of c.args.left.now.items) c.in-Some.place (sym c.free_place.ensures ∙ c.in-Some.is) in
    omega (arith, h, length-map c.args.left.now.items (λ (e : Bor Event). event_of e.now), c.args.left.now.ok.0)

pub returns : goal.returns
returns c =
    sym (taken_there c.args.order.now (events_of c.args.left.now.items) c.args.left.now.items c.in-Some.place c.remove.result c.remove.new.self.items (sym c.free_place.ensures ∙ c.in-Some.is) c.remove.ensures.value c.remove.ensures.by_index.2)
