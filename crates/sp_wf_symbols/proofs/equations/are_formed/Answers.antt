use Rattle.std.proofs.Common.{◌≡◌, ◌&&◌, ◌+◌, Bool, true, false, map, drop, sym, ap, ◌∙◌, rules}
use Rattle.sp_fact.specs.GroundView.{symbol_of, equation_of}
use Rattle.sp_declared.specs.NumberedView.{numbered_of}
use Rattle.sp_wf_symbols.proofs.EquationForms.{all_formed, next_formed}
use Rattle.sp_wf_symbols.proofs.equations.are_formed.Goals as goal

pub returns-then-not-is_formed : goal.returns-then-not-is_formed
returns-then-not-is_formed c =
    let symbols = map symbol_of c.args.symbols.now.items in
    let es = map equation_of c.args.equations.now.items in
    let all = c.deref-one-items.result.now in
    let i = c.loop-one.one-index in
    let unformed : c.is_formed.result ≡ false = search rules in
    sym (c.loop-one.invariant
    ∙ next_formed symbols es numbered_of all i c.one-item.result c.loop-one-test.true c.one-item.is
    ∙ ap (λ (b : Bool). b && all_formed symbols es (map numbered_of (drop (i + 1) all))) (sym c.is_formed.ensures ∙ unformed))

pub loop-one-preserved : goal.loop-one-preserved
loop-one-preserved c =
    let symbols = map symbol_of c.args.symbols.now.items in
    let es = map equation_of c.args.equations.now.items in
    let all = c.deref-one-items.result.now in
    let i = c.loop-one.one-index in
    let formed : c.is_formed.result ≡ true = search rules in
    c.loop-one.invariant
    ∙ next_formed symbols es numbered_of all i c.one-item.result c.loop-one-test.true c.one-item.is
    ∙ ap (λ (b : Bool). b && all_formed symbols es (map numbered_of (drop (i + 1) all))) (sym c.is_formed.ensures ∙ formed)
