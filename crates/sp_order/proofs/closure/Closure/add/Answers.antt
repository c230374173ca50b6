use Rattle.std.proofs.Common.{◌≡◌, ◌<◌, ◌++◌, ◌∷◌, [], length, get_or, set, true, ap, sym, ◌∙◌, subst, arith, List, ℕ, Bool}
use Rattle.std.specs.Vec.{with_items}
use Rattle.std.proofs.lemmas.List.{with_items_is, get_or_read}
use Rattle.sp_order.specs.Ordered.{Ordered, place, with_time}
use Rattle.sp_order.specs.Closed.{IsClosed}
use Rattle.sp_order.proofs.Keeping.{closed_add, times_stay, no_fewer, Joins}
use Rattle.sp_order.proofs.closure.Closure.add.Goals as goal

pub invariant_of-self-2 : goal.invariant_of-self-2
invariant_of-self-2 c =
    let times = c.self.inside.times.items in
    let pairs = c.self.inside.pairs.items in
    let rows = c.self.inside.rows.items in
    let made = c.join.new.rows in
    let from = c.in_ok-from.from in
    let to = c.in_ok-to.to in
    let mask = c.add.new.self in
    let v : times ≡ c.put-2.new.self.times = ap (λ (o : Ordered). o.times) c.self.view_is in
    let u : times ≡ with_time c.put.new.self.times c.args.second = v ∙ c.in_ok-to.ensures.times in
    let near : place c.put.new.self.times c.args.first < length c.put.new.self.times = (let h = c.in_ok-from.ensures.within in let e = c.in_ok-from.ensures.place in omega (arith, h, e)) in
    let first : from ≡ place times c.args.first
    = c.in_ok-from.ensures.place ∙ sym (times_stay c.put.new.self.times c.args.second c.args.first near) ∙ ap (λ (ts : List ℕ). place ts c.args.first) (sym u) in
    let second : to ≡ place times c.args.second = c.in_ok-to.ensures.place ∙ ap (λ (ts : List ℕ). place ts c.args.second) (sym v) in
    let from_within : from < length times
    = (let h = c.in_ok-from.ensures.within in let n = no_fewer c.put.new.self.times c.args.second in let e = ap length u in omega (arith, h, n, e)) in
    let to_within : to < length times = (let h = c.in_ok-to.ensures.within in let e = ap length v in omega (arith, h, e)) in
    let enough = c.self.invariant.enough_rows in
    let words = c.self.invariant.enough_words in
    let to_row : to < length rows = omega (arith, to_within, enough) in
    let read : c.index.result.now ≡ get_or rows to [] = get_or_read rows to c.index.result.now to_row c.index.ensures [] in
    let joins : Joins rows made from to c.self.inside.words mask
    = record {
      mask_is = c.add.ensures ∙ ap (λ (r : List Bool). set r to true) (c.in_ok-mask.ensures ∙ read);
      as_long = c.join.ensures.as_long ∙ ap length c.deref_mut.ensures.value;
      each = rw (← c.deref_mut.ensures.value) c.join.ensures.each;
      first_within = omega (arith, from_within, enough);
      second_within = to_row;
      place_within = omega (arith, to_within, words);
      as_wide = c.self.invariant.as_wide;
    } in
    let pushed : c.push.new.self.items ≡ pairs ++ (c.args.first, c.args.second) ∷ [] = c.in_ok-push.ensures.items in
    let put_back : (with_items c.self.inside.rows made).items ≡ made = with_items_is c.self.inside.rows made (c.join.ensures.as_long ∙ c.deref_mut.ensures.len) in
    subst (λ (ps : List (ℕ × ℕ)). IsClosed times ps (with_items c.self.inside.rows made).items c.self.inside.words) (sym pushed)
    (subst (λ (rs : List (List Bool)). IsClosed times (pairs ++ (c.args.first, c.args.second) ∷ []) rs c.self.inside.words) (sym put_back)
    (closed_add times pairs rows made c.self.inside.words c.args.first c.args.second from to mask c.self.invariant first second from_within to_within joins))
