use Rattle.std.proofs.Common.{◌≡◌, ◌≤◌, ℕ, List, length, map, ap, sym, ◌∙◌, subst, arith}
use Rattle.std.proofs.lemmas.Bool.{eqb-true}
use Rattle.sp_spec_system.specs.Equating.{order_changed}
use Rattle.sp_spec.specs.Change.{time_replaced}
use Rattle.sp_order.specs.Ordered.{Ordered, place}
use Rattle.sp_order.proofs.Untouched.{untouched, by_itself}
use Rattle.sp_order.proofs.closure.Closure.stays.Goals as goal

pub returns-then-small-large : goal.returns-then-small-large
returns-then-small-large c e =
    subst (λ (i : ℕ). map (order_changed (time_replaced c.args.small i)) c.args.self.now.pairs ≡ c.args.self.now.pairs) c.if-small-large.true (by_itself c.args.small c.args.self.now.pairs)

pub returns : goal.returns
returns c e =
    let times = c.self.inside.times.items in
    let at : c.place_of.result ≡ place times c.args.large = c.place_of.ensures ∙ ap (λ (ts : List ℕ). place ts c.args.large) c.deref.ensures.value in
    let len : c.len.result ≡ length times = c.len.ensures ∙ sym c.deref.ensures.len ∙ ap length c.deref.ensures.value in
    let past = eqb-true c.place_of.result c.len.result e in
    let behind : length times ≤ place times c.args.large = omega (arith, at, len, past) in
    subst (λ (o : Ordered). map (order_changed (time_replaced c.args.small c.args.large)) o.pairs ≡ o.pairs) c.self.view_is
    (untouched times c.self.inside.pairs.items c.self.inside.rows.items c.self.inside.words c.self.invariant c.args.large behind c.args.small)
