use Rattle.std.proofs.Common.{◌≡◌, ◌||◌, Bool, map, sym, ap, ◌∙◌}
use Rattle.sp_read_parts.specs.Views.{variable}
use Rattle.sp_read_parts.specs.Formulas.{formula}
use Rattle.sp_read_parts.specs.declared.written.ReadFormula.{ReadFormula}
use Rattle.sp_read_parts.proofs.Chains.{chain_seen}
use Rattle.sp_read_parts.proofs.Shown.{every_shown, some_shown}
use Rattle.sp_walk.specs.Atoms.{any_atom}
use Rattle.sp_walk.proofs.Passing.{any_for_all, any_for_some, any_joined}
use Rattle.sp_walk.proofs.any.+any.Goals as goal
use Rattle.sp_walk.proofs.any.+any.Goals.{or_any_atom-then-found, or_any_atom-else-found}

pub any_atom-returns-in-ForAll : goal.any_atom-returns-in-ForAll
any_atom-returns-in-ForAll g t c =
    let passes = g.T.TestsAtoms.test_of c.args.test.now in
    c.any_atom-in-ForAll.ensures
    ∙ ap (λ (f : ReadFormula). any_atom passes (formula f)) c.deref-in-ForAll.ensures
    ∙ any_for_all passes (map variable c.in-ForAll.field-0.items) (formula c.in-ForAll.body.value)
    ∙ sym (ap (any_atom passes) (ap formula c.in-ForAll.is ∙ every_shown c.in-ForAll.field-0 c.in-ForAll.body))

pub any_atom-returns-in-ForSome : goal.any_atom-returns-in-ForSome
any_atom-returns-in-ForSome g t c =
    let passes = g.T.TestsAtoms.test_of c.args.test.now in
    c.any_atom-in-ForSome.ensures
    ∙ ap (λ (f : ReadFormula). any_atom passes (formula f)) c.deref-in-ForSome.ensures
    ∙ any_for_some passes (map variable c.in-ForSome.field-0.items) (formula c.in-ForSome.body.value)
    ∙ sym (ap (any_atom passes) (ap formula c.in-ForSome.is ∙ some_shown c.in-ForSome.field-0 c.in-ForSome.body))

pub or_any_atom-loop-part-preserved : goal.or_any_atom-loop-part-preserved
or_any_atom-loop-part-preserved g t c o f so =
    let passes = g.T.TestsAtoms.test_of c.args.test.now in
    let next = c.any_atom-next.result in
    let either : c.if-found.found ≡ c.loop-part.found || next =
    elim c.if-found.branch [ or_any_atom-then-found w ↦ w.found-is ∙ w.if-found.true ∙ ap (λ (b : Bool). b || next) (sym w.if-found.true) | or_any_atom-else-found w ↦ w.found-is ∙ ap (λ (b : Bool). b || next) (sym w.if-found.false) ] in
    chain_seen o (any_atom passes) (λ a b. a || b) (any_joined passes o) f c.deref-part-items.result.now c.loop-part.part-index c.part-item.result c.loop-part.found next
    c.if-found.found c.loop-part-test.true c.part-item.is (c.loop-part.invariant o f so) c.any_atom-next.ensures either
