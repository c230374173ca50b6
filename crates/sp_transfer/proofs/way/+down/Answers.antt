use Rattle.std.proofs.Common.{◌≡◌, ◌∙◌, ◌+◌, ◌∷◌, ◌<◌, Some, None, option_map, List, length, get_or, map, sym, ap, subst, drop, take}
use Rattle.sp_spec.specs.Term.{Terms, Variable}
use Rattle.sp_spec.specs.Destruction.{way_among, way_to}
use Rattle.sp_term.specs.declared.term.Term as memory
use Rattle.sp_term.specs.declared.term.Variable as leaf
use Rattle.sp_term.specs.View.{name_of, variable_of, view, view_all}
use Rattle.sp_term.proofs.Lists.{count-view_all}
use Rattle.sp_destruct.proofs.Ways.{rest_at, row_more}
use Rattle.sp_law_log_execution.specs.Executed as spec
use Rattle.sp_transfer.specs.Executing.{level_of, levels_of}
use Rattle.sp_transfer.proofs.Ways.{back_counted, enters, front_counted, level_made, levels, passes}
use Rattle.sp_transfer.proofs.way.+down.Goals as goal

pub way_among-returns-in-Some : goal.way_among-returns-in-Some
way_among-returns-in-Some t c =
    let xs = c.args.args.now.items in
    let i = c.loop-place.place in
    let x = c.term-item.result in
    let r = view c.args.wanted.now in
    let f = name_of c.args.symbol.now in
    let same = c.deref-term-items.ensures.value in
    let below = subst (λ (ys : List (memory.Term leaf.Variable)). i < length ys) same c.loop-place-test.true in
    let item = subst (λ (ys : List (memory.Term leaf.Variable)). x ≡ get_or ys i x) same c.term-item.is in
    let front = view_all (take i xs) in
    let back = view_all (drop (i + 1) xs) in
    let l = c.in_ok-level.field-0 in
    let counted = c.in_ok-level.ensures.counted in
    let as_long = sym (c.len.ensures ∙ c.args.args.now.ok.0) in
    let made = level_made (level_of l) f front back (view x) c.in_ok-level.ensures.named
    (front_counted xs i l.front below counted.0 ∙ sym (count-view_all variable_of (take i xs)))
    (back_counted xs i l.front l.back c.len.result below as_long counted.0 counted.1 ∙ sym (count-view_all variable_of (drop (i + 1) xs))) in
    let ls = levels_of c.in-Some.way in
    let inner : levels (way_to r (view x)) ≡ Some ls = sym c.in_ok-way.ensures ∙ ap (option_map levels_of) c.in-Some.is in
    ap (λ ys. Some (map level_of ys)) c.in_ok-insert.ensures.items
    ∙ ap (λ (y : spec.Level). Some (y ∷ ls)) made
    ∙ sym (ap levels (c.loop-place.invariant ∙ ap (way_among r f front) (rest_at xs i x below item)) ∙ enters r f front (view x) back ls inner)

pub way_among-loop-place-preserved : goal.way_among-loop-place-preserved
way_among-loop-place-preserved t c =
    let xs = c.args.args.now.items in
    let i = c.loop-place.place in
    let x = c.term-item.result in
    let r = view c.args.wanted.now in
    let f = name_of c.args.symbol.now in
    let same = c.deref-term-items.ensures.value in
    let below = subst (λ (ys : List (memory.Term leaf.Variable)). i < length ys) same c.loop-place-test.true in
    let item = subst (λ (ys : List (memory.Term leaf.Variable)). x ≡ get_or ys i x) same c.term-item.is in
    let front = view_all (take i xs) in
    let back = view_all (drop (i + 1) xs) in
    let none : levels (way_to r (view x)) ≡ None = sym c.in_ok-way.ensures ∙ ap (option_map levels_of) c.in_default.is in
    c.loop-place.invariant ∙ ap (way_among r f front) (rest_at xs i x below item)
    ∙ passes r f front (view x) back none
    ∙ ap (λ (us : Terms Variable). way_among r f us back) (sym (row_more xs i x below item))
