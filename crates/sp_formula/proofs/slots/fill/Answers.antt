use Rattle.std.proofs.Common.{Some, sym, ap, ◌∙◌, arith}
use Rattle.sp_spec.specs.Term.{Term}
use Rattle.sp_spec.specs.Same.{same_by}
use Rattle.sp_spec.specs.Matching.{has_sort_by}
use Rattle.sp_spec.specs.Slots.{slot}
use Rattle.sp_spec.proofs.Lists.{length_map}
use Rattle.sp_term.specs.View.{sort_of, view_by}
use Rattle.sp_formula.specs.SlotsView.{slot_by, slots_by}
use Rattle.sp_formula.proofs.Filled.{filled_beyond, kept_value, refused_value, new_value}
use Rattle.sp_formula.proofs.slots.fill.Goals as goal

pub returns-then-index-len : goal.returns-then-index-len
returns-then-index-len g c =
    let m = g.M.Leaf in
    let slots = c.args.slots.now in
    let k = length_map (slot_by m.leaf_of) slots.items in
    sym
    (filled_beyond (same_by m.test) (has_sort_by m.of_sort) c.args.beyond (view_by m.leaf_of c.args.term.now) (slots_by m.leaf_of slots.items) c.args.place
    (omega (arith, k, c.if-index-len.true, c.len.ensures, slots.ok.0)))

pub returns-then-not-has_sort : goal.returns-then-not-has_sort
returns-then-not-has_sort g c =
    let m = g.M.Leaf in
    let s = c.index-slot.result.now in
    refused_value (same_by m.test) (has_sort_by m.of_sort) c.args.beyond (view_by m.leaf_of c.args.term.now) (slot_by m.leaf_of) c.args.slots.now.items c.args.place s
    (omega (arith, c.if-index-len.false, c.len.ensures, c.args.slots.now.ok.0)) c.index-slot.ensures (let e = c.in-None.is in cc) (sym c.has_sort.ensures ∙ c.if-not-has_sort.true)

pub returns-in-Some : goal.returns-in-Some
returns-in-Some g c =
    let m = g.M.Leaf in
    let s = c.index-slot.result.now in
    kept_value (same_by m.test) (has_sort_by m.of_sort) c.args.beyond (view_by m.leaf_of c.args.term.now) (slot_by m.leaf_of) c.args.slots.now.items c.args.place s
    (omega (arith, c.if-index-len.false, c.len.ensures, c.args.slots.now.ok.0)) c.index-slot.ensures (view_by m.leaf_of c.in-Some.value) (let e = c.in-Some.is in cc) c.same.result c.same.ensures.tests

pub returns-in_ok-clone-in-None : goal.returns-in_ok-clone-in-None
returns-in_ok-clone-in-None g c =
    let m = g.M.Leaf in
    let s = c.index-slot.result.now in
    new_value (same_by m.test) (has_sort_by m.of_sort) c.args.beyond (view_by m.leaf_of c.args.term.now) (slot_by m.leaf_of) c.args.slots.now.items c.args.place s _
    (omega (arith, c.if-index-len.false, c.len.ensures, c.args.slots.now.ok.0)) c.index-slot.ensures (let e = c.in-None.is in cc)
    (sym c.has_sort.ensures ∙ c.if-not-has_sort.false) (ap (λ (t : Term m.Kind). slot (sort_of s.sort) (Some t)) c.in_ok-clone-in-None.ensures.cases)
