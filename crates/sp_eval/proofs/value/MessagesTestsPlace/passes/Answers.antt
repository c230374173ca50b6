use Rattle.std.proofs.Common.{sym, ap, ◌∙◌, arith}
use Rattle.sp_law_decide.specs.Deciding.{place_known}
use Rattle.sp_term.specs.View.{never_of, view_by}
use Rattle.sp_formula.specs.PlaceView.{place_of}
use Rattle.sp_formula.specs.SlotsView.{slot_by}
use Rattle.sp_formula.specs.declared.place.Place.{Place}
use Rattle.sp_eval.specs.View.{messages_of}
use Rattle.sp_eval.proofs.Slots.{is_some_mapped, filled_there, beyond_filled}
use Rattle.sp_eval.proofs.value.MessagesTestsPlace.passes.Goals as goal

pub returns-then-index-len : goal.returns-then-index-len
returns-then-index-len c =
    let slots = c.args.self.now.slots in
    sym
    (ap (λ (p : Place). place_known (messages_of c.args.self.now) (place_of p)) c.in-Bound.is
    ∙ beyond_filled (slot_by never_of) slots.items c.in-Bound.place (omega (arith, c.if-index-len.true, c.len.ensures, slots.ok.0)))

pub returns-else-index-len : goal.returns-else-index-len
returns-else-index-len c =
    let slots = c.args.self.now.slots in
    c.is_some.ensures
    ∙ is_some_mapped (view_by never_of) c.index.result.now.value
    ∙ sym
    (ap (λ (p : Place). place_known (messages_of c.args.self.now) (place_of p)) c.in-Bound.is
    ∙ filled_there (slot_by never_of) slots.items c.in-Bound.place c.index.result.now (omega (arith, c.if-index-len.false, c.len.ensures, slots.ok.0)) c.index.ensures)
