use Rattle.std.proofs.Common.{◌≡◌, ℕ, ◌-◌, IfOk, refl, sym, ◌∙◌, subst, arith}
use Rattle.sp_spec.specs.Term.{Term, var}
use Rattle.sp_spec.specs.Guarded.{Place, free, bound}
use Rattle.sp_spec.specs.Change.{raised, raised_place}
use Rattle.sp_term.specs.View.{view}
use Rattle.sp_spec.proofs.Values.{valued-valued}
use Rattle.sp_formula.specs.PlaceView.{place_of, placed_term}
use Rattle.sp_formula.specs.declared.place.Place.TheVariants.{Bound}
use Rattle.sp_rows_formula.specs.OpeningView.{change_of, value_place}
use Rattle.sp_rows_formula.proofs.Openings.{stands_there, stands_past, view_var}
use Rattle.sp_rows_formula.proofs.Lifted.{lifted_inside, stays_past, moves_past}
use Rattle.sp_rows_formula.proofs.opening.Values.message.Goals as goal

place : ℕ → Term Place
place k = var (bound k)

pub returns-then-place-inside : goal.returns-then-place-inside
unfolding place
returns-then-place-inside c =
    view_var place_of (Bound c.args.place)
    ∙ sym (lifted_inside place raised (λ k. refl) c.args.inside.messages (change_of c.args.self.now).bound_terms c.args.place c.if-place-inside.true)

pub returns-then-beyond-count : goal.returns-then-beyond-count
unfolding place
returns-then-beyond-count c =
    let beyond = c.args.place - c.args.inside.messages in
    let x = c.index.result.now in
    let there = stands_there value_place c.args.self.now.messages.items place beyond (c.len-count.result - 1 - beyond) x
    (omega (arith, c.if-beyond-count.true, c.len-count.ensures)) c.index.ensures in
    subst (λ (t : Term Place). IfOk c.placed.result (λ u. placed_term u ≡ t))
    (sym
    (stays_past place raised (λ k. refl) c.args.inside.messages (change_of c.args.self.now).bound_terms c.args.place beyond (value_place x)
    (omega (arith, c.if-place-inside.false)) there (valued-valued (λ x. var (free x)) raised_place (view x))))
    c.placed.ensures

pub returns-else-beyond-count : goal.returns-else-beyond-count
unfolding place
returns-else-beyond-count c =
    let beyond = c.args.place - c.args.inside.messages in
    let past = stands_past value_place c.args.self.now.messages.items place beyond (beyond - c.len-count.result)
    (omega (arith, c.if-beyond-count.false, c.len-count.ensures)) in
    view_var place_of (Bound (c.args.place - c.len-count.result))
    ∙ sym
    (moves_past place raised (λ k. refl) c.args.inside.messages (change_of c.args.self.now).bound_terms c.args.place beyond (beyond - c.len-count.result) (c.args.place - c.len-count.result)
    (omega (arith, c.if-place-inside.false)) past (omega (arith, c.if-place-inside.false, c.if-beyond-count.false)))
