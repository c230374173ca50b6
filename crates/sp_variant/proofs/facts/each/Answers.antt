use Rattle.std.proofs.Common.{map, ap, ◌∙◌}
use Rattle.sp_fact.specs.GroundView.{equation_of}
use Rattle.sp_spec_forms.specs.Narrowing.{each}
use Rattle.sp_variant.specs.View.{chosen_of, list_by, way_by}
use Rattle.sp_variant.specs.Rows.{narrow_arguments}
use Rattle.sp_variant.proofs.Rows.{made_longer, longer_at, longer_begins, longer_done, one_row}
use Rattle.sp_variant.proofs.facts.each.Goals as goal

pub loop-one-init : goal.loop-one-init
loop-one-init g c =
    let t = g.T.HasArguments in
    let m = narrow_arguments t.args_of t.with_args (map equation_of c.args.equations.now.items) in
    let s = chosen_of c.args.chosen.now in
    let xs = map t.kind_of c.deref-one-items.result.now in
    ap (λ rows. made_longer m rows xs)
    (one_row t.kind_of c.new-rows.result.items c.push.new.self.items c.in_ok-empty.field-0 s c.new-rows.ensures.items c.in_ok-push.ensures.items c.in_ok-empty.ensures.row c.in_ok-empty.ensures.way)
    ∙ longer_begins m s xs
    ∙ ap (λ ys. each m (map t.kind_of ys) s) c.deref-one-items.ensures.value

pub loop-one-preserved : goal.loop-one-preserved
loop-one-preserved g c =
    let t = g.T.HasArguments in
    let m = narrow_arguments t.args_of t.with_args (map equation_of c.args.equations.now.items) in
    longer_at m t.kind_of c.deref-one-items.result.now c.loop-one.one-index c.one-item.result (map (way_by (list_by t.kind_of)) c.loop-one.rows.items)
    (map (way_by (list_by t.kind_of)) c.in_ok-rows.rows.items) (each m (list_by t.kind_of c.args.all.now) (chosen_of c.args.chosen.now))
    c.loop-one-test.true c.one-item.is c.in_ok-rows.ensures c.loop-one.invariant

pub returns : goal.returns
returns g c =
    let t = g.T.HasArguments in
    let m = narrow_arguments t.args_of t.with_args (map equation_of c.args.equations.now.items) in
    longer_done m t.kind_of c.deref-one-items.result.now c.loop-one.one-index (map (way_by (list_by t.kind_of)) c.loop-one.rows.items)
    (each m (list_by t.kind_of c.args.all.now) (chosen_of c.args.chosen.now)) c.loop-one-test.false c.loop-one.invariant
