use Rattle.std.proofs.Common.{◌≡◌, ◌∙◌, ◌+◌, ◌++◌, ◌∷◌, ◌<◌, [], true, false, IfOk, List, length, get_or, map, sym, ap, subst, drop, take, arith}
use Rattle.std.proofs.lemmas.List.{append-nil, append_assoc}
use Rattle.sp_spec.specs.Term.{count, joined, none, more, Terms, Variable}
use Rattle.sp_spec.specs.Destruction.{Destruction, is_public, way_among, way_to}
use Rattle.sp_term.specs.declared.term.Term as memory
use Rattle.sp_term.specs.declared.term.Variable as leaf
use Rattle.sp_term.specs.View.{name_of, variable_of, view, view_all}
use Rattle.sp_term.proofs.Lists.{count-view_all}
use Rattle.sp_fact.specs.GroundView.{symbol_of}
use Rattle.sp_spec.specs.Same.{alike}
use Rattle.sp_destruct.specs.View.{along_from, destruction_of}
use Rattle.sp_destruct.proofs.Ways.{enters, nothing_below, passes, rest_at, row_at, row_more}
use Rattle.sp_destruct.proofs.destruction.+way.Goals as goal

pub below_one-returns-then-not-may_apply : goal.below_one-returns-then-not-may_apply
below_one-returns-then-not-may_apply t c =
    let symbols = map symbol_of c.args.symbols.now.items in
    let f = name_of c.args.symbol.now in
    let ts = view_all c.args.args.now.items in
    let as_long : length c.args.args.now.items ≡ c.len.result = let o = c.args.args.now.ok in let l = c.len.ensures in omega (arith, o, l) in
    let no : is_public symbols f (count ts) ≡ false =
    ap (is_public symbols f) (count-view_all variable_of c.args.args.now.items) ∙ ap (is_public symbols f) as_long ∙ sym c.if-not-may_apply.ensures in
    let nothing = nothing_below symbols (view c.args.wanted.now) f (view_all c.args.sides.items) none ts no in
    sym (ap (λ (ds : List Destruction). map destruction_of c.args.found.items ++ ds) nothing ∙ append-nil (map destruction_of c.args.found.items))

pub below_one-returns-then-has_part : goal.below_one-returns-then-has_part
below_one-returns-then-has_part t c =
    let symbols = map symbol_of c.args.symbols.now.items in
    let xs = c.args.args.now.items in
    let i = c.loop-place.place in
    let x = c.term-item.result in
    let r = view c.args.wanted.now in
    let f = name_of c.args.symbol.now in
    let same = c.deref-term-items.ensures.value in
    let below = subst (λ (ys : List (memory.Term leaf.Variable)). i < length ys) same c.loop-place-test.true in
    let item = subst (λ (ys : List (memory.Term leaf.Variable)). x ≡ get_or ys i x) same c.term-item.is in
    let sides = view_all c.args.sides.items in
    let front = view_all (take i xs) in
    let back = view_all (drop (i + 1) xs) in
    let as_long : length xs ≡ c.len.result = let o = c.args.args.now.ok in let l = c.len.ensures in omega (arith, o, l) in
    let public : is_public symbols f (count (joined front (more (view x) back))) ≡ true =
    ap (λ (us : Terms Variable). is_public symbols f (count us)) (sym (row_at xs i x below item)) ∙ ap (is_public symbols f) (count-view_all variable_of xs) ∙ ap (is_public symbols f) as_long ∙ sym c.if-not-may_apply.ensures
    in
    let apart : alike r (view x) ≡ false = sym c.if-same.ensures.tests in
    let step = enters symbols r f front (view x) back sides apart (sym c.if-has_part.ensures) public in
    let way = c.loop-place.invariant ∙ ap (way_among r f front) (rest_at xs i x below item) in
    let one : Terms Variable → Destruction = λ us. record { pattern = view x; sides = us; result = r } in
    let row : map destruction_of c.in_ok-more.more.items ++ along_from symbols r (view_all c.in_ok-sides.sides.items) (way_to r (view x))
    ≡ map destruction_of c.args.found.items ++ along_from symbols r sides (way_among r f none (view_all xs)) =
    ap (λ (ds : List Destruction). ds ++ along_from symbols r (view_all c.in_ok-sides.sides.items) (way_to r (view x))) c.in_ok-more.ensures
    ∙ append_assoc (map destruction_of c.args.found.items) (one (view_all c.in_ok-sides.sides.items) ∷ []) (along_from symbols r (view_all c.in_ok-sides.sides.items) (way_to r (view x)))
    ∙ ap (λ (ds : List Destruction). map destruction_of c.args.found.items ++ ds)
    (ap (λ (us : Terms Variable). one us ∷ along_from symbols r us (way_to r (view x))) c.in_ok-sides.ensures
    ∙ sym step ∙ ap (along_from symbols r sides) (sym way))
    in
    subst (λ (z : List Destruction). IfOk c.below.result (λ ds. map destruction_of ds.items ≡ z)) row c.below.ensures

pub below_one-loop-place-preserved : goal.below_one-loop-place-preserved
below_one-loop-place-preserved t c =
    let xs = c.args.args.now.items in
    let i = c.loop-place.place in
    let x = c.term-item.result in
    let r = view c.args.wanted.now in
    let f = name_of c.args.symbol.now in
    let same = c.deref-term-items.ensures.value in
    let below = subst (λ (ys : List (memory.Term leaf.Variable)). i < length ys) same c.loop-place-test.true in
    let item = subst (λ (ys : List (memory.Term leaf.Variable)). x ≡ get_or ys i x) same c.term-item.is in
    c.loop-place.invariant ∙ ap (way_among r f (view_all (take i xs))) (rest_at xs i x below item)
    ∙ passes r f (view_all (take i xs)) (view x) (view_all (drop (i + 1) xs)) (sym c.if-has_part.ensures)
    ∙ ap (λ (us : Terms Variable). way_among r f us (view_all (drop (i + 1) xs))) (sym (row_more xs i x below item))
