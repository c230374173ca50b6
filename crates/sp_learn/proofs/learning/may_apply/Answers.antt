use Rattle.std.proofs.Common.{◌≡◌, Bool, true, false, ◌&&◌, length, map, sym, ap, ◌∙◌, arith}
use Rattle.sp_spec.specs.Term.{count}
use Rattle.sp_term.specs.View.{name_of, never_of}
use Rattle.sp_term.proofs.Lists.{count-view_all}
use Rattle.sp_fact.specs.GroundView.{ground_of, grounds_of, symbol_of}
use Rattle.sp_norm.specs.Over.{any_public}
use Rattle.sp_learn.specs.Learning as spec
use Rattle.sp_learn.proofs.learning.may_apply.Goals as goal

-- the second test decides where the first is passed
by_second : (x y r : Bool) → x ≡ true → r ≡ y → r ≡ (x && y)
by_second true y r e h = h
by_second false y r e h = absurd cc

by_first : (x y r : Bool) → r ≡ false → r ≡ x → r ≡ (x && y)
by_first true y r e h = absurd cc
by_first false y r e h = e

pub returns-then-has_public : goal.returns-then-has_public
returns-then-has_public c =
    let symbols = map symbol_of c.args.symbols.now.items in
    let f = name_of c.args.symbol.now in
    let ts = c.args.terms.now.items in
    let as_long : length ts ≡ c.len.result = let o = c.args.terms.now.ok in let l = c.len.ensures in omega (arith, o, l) in
    let public : any_public symbols f (count (grounds_of ts)) ≡ true =
    ap (any_public symbols f) (count-view_all never_of ts ∙ as_long) ∙ sym c.has_public.ensures.tests ∙ c.if-has_public.true in
    by_second (any_public symbols f (count (grounds_of ts))) (spec.are_among (map ground_of c.args.learnt.now.items) (grounds_of ts)) c.are_among.result public c.are_among.ensures

pub returns-else-has_public : goal.returns-else-has_public
returns-else-has_public c =
    let symbols = map symbol_of c.args.symbols.now.items in
    let f = name_of c.args.symbol.now in
    let ts = c.args.terms.now.items in
    let as_long : length ts ≡ c.len.result = let o = c.args.terms.now.ok in let l = c.len.ensures in omega (arith, o, l) in
    by_first (any_public symbols f (count (grounds_of ts))) (spec.are_among (map ground_of c.args.learnt.now.items) (grounds_of ts)) c.has_public.result c.if-has_public.false
    (c.has_public.ensures.tests ∙ ap (any_public symbols f) (sym (count-view_all never_of ts ∙ as_long)))
