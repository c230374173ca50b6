use Rattle.std.proofs.Common.{◌≡◌, ◌<◌, ◌*◌, ◌++◌, ◌∷◌, [], length, ap, sym, ◌∙◌, subst, arith, List, ℕ}
use Rattle.sp_order.specs.Ordered.{Ordered, place}
use Rattle.sp_order.specs.Closed.{IsClosed}
use Rattle.sp_order.proofs.Keeping.{closed_put}
use Rattle.sp_order.proofs.Places.{place-le, last}
use Rattle.sp_order.proofs.closure.Closure.put.Goals as goal

pub invariant_of-self-in-Continue-branch-3 : goal.invariant_of-self-in-Continue-branch-3
invariant_of-self-in-Continue-branch-3 c =
    let times = c.self.inside.times.items in
    let behind : place times c.args.time ≡ length times
    = ap (λ (ts : List ℕ). place ts c.args.time) (sym c.deref.ensures.value) ∙ sym c.place_of-at.ensures ∙ c.if-at-count.true ∙ c.len-count.ensures ∙ sym c.deref.ensures.len ∙ ap length c.deref.ensures.value in
    let made : c.push.new.self.items ≡ times ++ c.args.time ∷ [] = c.in_ok-push.ensures.items in
    let rows : length times < length c.free_row.new.rows.items = (let h = c.in_ok-free_row.ensures.enough in let e = c.len-count.ensures ∙ sym c.deref.ensures.len ∙ ap length c.deref.ensures.value in omega (arith, h, e)) in
    let words = (let h = c.in_ok-widen.ensures.enough in let e = c.len-count.ensures ∙ sym c.deref.ensures.len ∙ ap length c.deref.ensures.value in let r : length times < 64 * c.widen.new.words = omega (arith, h, e) in r) in
    subst (λ (ts : List ℕ). IsClosed ts c.self.inside.pairs.items c.free_row.new.rows.items c.widen.new.words) (sym made)
    (closed_put times c.self.inside.pairs.items c.self.inside.rows.items c.widen.new.rows.items c.free_row.new.rows.items c.self.inside.words c.widen.new.words c.args.time c.self.invariant behind
    c.in_ok-widen.ensures.same c.in_ok-free_row.ensures.same c.in_ok-free_row.ensures.as_wide rows words)

pub returns-in_ok-push-clause-place : goal.returns-in_ok-push-clause-place
returns-in_ok-push-clause-place c =
    let times = c.self.inside.times.items in
    let behind : place times c.args.time ≡ length times
    = ap (λ (ts : List ℕ). place ts c.args.time) (sym c.deref.ensures.value) ∙ sym c.place_of-at.ensures ∙ c.if-at-count.true ∙ c.len-count.ensures ∙ sym c.deref.ensures.len ∙ ap length c.deref.ensures.value in
    let made : c.push.new.self.items ≡ times ++ c.args.time ∷ [] = c.in_ok-push.ensures.items in
    c.place_of-at.ensures ∙ ap (λ (ts : List ℕ). place ts c.args.time) c.deref.ensures.value ∙ behind ∙ sym (last times c.args.time behind) ∙ ap (λ (ts : List ℕ). place ts c.args.time) (sym made)

pub returns-else-at-count-clause-within : goal.returns-else-at-count-clause-within
returns-else-at-count-clause-within c =
    let times = c.self.inside.times.items in
    let at : c.place_of-at.result ≡ place times c.args.time = c.place_of-at.ensures ∙ ap (λ (ts : List ℕ). place ts c.args.time) c.deref.ensures.value in
    let l = place-le times c.args.time in
    let len = sym c.deref.ensures.len ∙ ap length c.deref.ensures.value in
    let n : c.place_of-at.result < length times = omega (arith, at, l, c.if-at-count.false, c.len-count.ensures, len) in
    subst (λ (o : Ordered). c.place_of-at.result < length o.times) c.self.view_is n
