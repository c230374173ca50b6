use Rattle.std.proofs.Common.{map, sym, ap, ◌∙◌}
use Rattle.sp_term.specs.View.{view}
use Rattle.sp_fact.specs.GroundView.{equation_of}
use Rattle.sp_spec_forms.specs.Narrowing.{each, narrow}
use Rattle.sp_variant.specs.View.{chosen_of, list_by, way_by}
use Rattle.sp_variant.proofs.Rows.{as_terms, made_longer, longer_at, longer_begins, longer_done, narrow_all-each, one_row, rows_as_terms}
use Rattle.sp_variant.proofs.narrowing.+narrow.Goals as goal

pub narrow_all-loop-term-init : goal.narrow_all-loop-term-init
narrow_all-loop-term-init t c =
    let m = narrow (map equation_of c.args.equations.now.items) in
    let s = chosen_of c.args.chosen.now in
    let ts = map view c.deref-term-items.result.now in
    ap (λ rows. made_longer m rows ts)
    (one_row view c.new-rows.result.items c.push.new.self.items c.in_ok-empty.field-0 s c.new-rows.ensures.items c.in_ok-push.ensures.items c.in_ok-empty.ensures.row c.in_ok-empty.ensures.way)
    ∙ longer_begins m s ts
    ∙ ap (λ us. each m (map view us) s) c.deref-term-items.ensures.value

pub narrow_all-loop-term-preserved : goal.narrow_all-loop-term-preserved
narrow_all-loop-term-preserved t c =
    let m = narrow (map equation_of c.args.equations.now.items) in
    longer_at m view c.deref-term-items.result.now c.loop-term.term-index c.term-item.result (map (way_by (list_by view)) c.loop-term.rows.items) (map (way_by (list_by view)) c.in_ok-rows.rows.items)
    (each m (map view c.args.terms.now.items) (chosen_of c.args.chosen.now)) c.loop-term-test.true c.term-item.is c.in_ok-rows.ensures c.loop-term.invariant

pub narrow_all-returns : goal.narrow_all-returns
narrow_all-returns t c =
    let es = map equation_of c.args.equations.now.items in
    let ts = map view c.args.terms.now.items in
    let s = chosen_of c.args.chosen.now in
    rows_as_terms c.loop-term.rows.items
    ∙ ap (map as_terms)
    (longer_done (narrow es) view c.deref-term-items.result.now c.loop-term.term-index (map (way_by (list_by view)) c.loop-term.rows.items) (each (narrow es) ts s)
    c.loop-term-test.false c.loop-term.invariant)
    ∙ sym (narrow_all-each es ts s)
