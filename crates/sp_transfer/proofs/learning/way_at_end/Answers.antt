use Rattle.std.proofs.Common.{◌≡◌, ◌∙◌, ◌==◌, ◌&&◌, Bool, ℕ, length, map, sym, ap, subst, if◌then◌else◌, IfOk, arith}
use Rattle.sp_term.specs.View.{name_of, never_of}
use Rattle.sp_term.proofs.Lists.{count-view_all}
use Rattle.sp_spec.specs.Log.{How, constructed}
use Rattle.sp_law_adversary.specs.Learning.{way_at_end, by}
use Rattle.sp_fact.specs.GroundView.{ground_of, grounds_of, symbol_of}
use Rattle.sp_norm.specs.Over.{any_public}
use Rattle.sp_learn.specs.View.{how_of}
use Rattle.sp_transfer.specs.View.{chain_of}
use Rattle.sp_transfer.proofs.Absorbing.{of_app, way_of}
use Rattle.sp_transfer.proofs.learning.way_at_end.Goals as goal

pub returns-then-stands_alone : goal.returns-then-stands_alone
returns-then-stands_alone c =
    let symbols = map symbol_of c.args.symbols.now.items in
    let chain = chain_of c.args.chain.now in
    let terms = c.in-App.terms.value in
    let as_long : c.len.result ≡ length terms.items = c.len.ensures ∙ ap (λ v. v.len) c.deref.ensures ∙ omega (arith, terms.ok.0) in
    let f = name_of c.in-App.symbol in
    let alone : ℕ → How = λ n. if (n == 0) && any_public symbols f 0 then constructed else by chain in
    ap (λ (b : Bool). if b then constructed else by chain) c.if-stands_alone.ensures
    ∙ ap alone (as_long ∙ sym (count-view_all never_of terms.items))
    ∙ sym (way_of symbols chain f (grounds_of terms.items))
    ∙ sym (of_app (way_at_end symbols chain) c.args.message.now c.in-App.symbol c.in-App.terms c.in-App.field-2 c.in-App.is)

pub returns-else-stands_alone : goal.returns-else-stands_alone
returns-else-stands_alone c =
    let symbols = map symbol_of c.args.symbols.now.items in
    let chain = chain_of c.args.chain.now in
    let terms = c.in-App.terms.value in
    let as_long : c.len.result ≡ length terms.items = c.len.ensures ∙ ap (λ v. v.len) c.deref.ensures ∙ omega (arith, terms.ok.0) in
    let f = name_of c.in-App.symbol in
    let alone : ℕ → How = λ n. if (n == 0) && any_public symbols f 0 then constructed else by chain in
    let same : by chain ≡ way_at_end symbols chain (ground_of c.args.message.now) =
    ap (λ (b : Bool). if b then constructed else by chain) c.if-stands_alone.ensures
    ∙ ap alone (as_long ∙ sym (count-view_all never_of terms.items))
    ∙ sym (way_of symbols chain f (grounds_of terms.items))
    ∙ sym (of_app (way_at_end symbols chain) c.args.message.now c.in-App.symbol c.in-App.terms c.in-App.field-2 c.in-App.is) in
    subst (λ (way : How). IfOk c.way.result (λ h. how_of h ≡ way)) same c.way.ensures
