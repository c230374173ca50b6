use Rattle.std.proofs.Common.{map, arith, sym, ap, ◌∙◌}
use Rattle.sp_term.specs.View.{name_of}
use Rattle.sp_fact.specs.GroundView.{symbol_of, ground_of, grounds_of}
use Rattle.sp_fact.proofs.Applied.{ground_app}
use Rattle.sp_norm.specs.Over.{over, all_over}
use Rattle.sp_norm.proofs.Symbols.{over_by_arguments, over_without_symbol}
use Rattle.sp_norm.proofs.over.+over.Goals as goal

pub tree_over-returns-then-any_symbol : goal.tree_over-returns-then-any_symbol
tree_over-returns-then-any_symbol t c =
    let s = map symbol_of c.args.symbols.now.items in
    let terms = c.in-App.terms.value in
    let e =
    over_by_arguments s (name_of c.in-App.f) terms.items c.len.result
    (c.len.ensures ∙ ap (λ v. v.len) c.deref.ensures ∙ omega (arith, terms.ok.0)) (sym c.any_symbol.ensures ∙ c.if-any_symbol.true) in
    c.trees_over.ensures ∙ ap (λ v. all_over s (grounds_of v.items)) c.deref-then-any_symbol.ensures ∙ sym e ∙ ap (over s) (sym (ap ground_of c.in-App.is ∙ ground_app c.in-App.f c.in-App.terms c.in-App.field-2))

pub tree_over-returns-else-any_symbol : goal.tree_over-returns-else-any_symbol
tree_over-returns-else-any_symbol t c =
    let s = map symbol_of c.args.symbols.now.items in
    let terms = c.in-App.terms.value in
    let e =
    over_without_symbol s (name_of c.in-App.f) terms.items c.len.result
    (c.len.ensures ∙ ap (λ v. v.len) c.deref.ensures ∙ omega (arith, terms.ok.0)) (sym c.any_symbol.ensures ∙ c.if-any_symbol.false) in
    c.if-any_symbol.false ∙ sym e ∙ ap (over s) (sym (ap ground_of c.in-App.is ∙ ground_app c.in-App.f c.in-App.terms c.in-App.field-2))
