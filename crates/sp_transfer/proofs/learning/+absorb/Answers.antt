use Rattle.std.proofs.Common.{◌≡◌, ◌∙◌, true, false, OnOk, length, map, sym, ap, subst, arith}
use Rattle.sp_term.specs.View.{name_of, never_of}
use Rattle.sp_term.proofs.Lists.{count-view_all}
use Rattle.sp_spec.specs.Term.{count, Ground}
use Rattle.sp_spec.specs.Log.{constructed, Log}
use Rattle.sp_law_adversary.specs.Learning as spec
use Rattle.sp_fact.specs.GroundView.{ground_of, grounds_of, symbol_of}
use Rattle.sp_transfer.specs.Absorbing.{absorbed_parts}
use Rattle.sp_transfer.specs.View.{chain_of, log_in}
use Rattle.sp_transfer.proofs.Absorbing.{is_pair, of_app, absorbed_end, absorbed_learnt, absorbed_pair}
use Rattle.sp_transfer.proofs.learning.+absorb.Goals as goal

pub absorb-returns-then-not-is_pair : goal.absorb-returns-then-not-is_pair
absorb-returns-then-not-is_pair t c =
    let symbols = map symbol_of c.args.symbols.now.items in
    let chain = chain_of c.args.chain.now in
    let log = log_in c.args.entries.now.items in
    let terms = c.in-App.terms.value in
    let f = name_of c.in-App.symbol in
    let as_long : c.len.result ≡ length terms.items = c.len.ensures ∙ ap (λ v. v.len) c.deref.ensures ∙ omega (arith, terms.ok.0) in
    let no : is_pair f (count (grounds_of terms.items)) ≡ false = ap (is_pair f) (count-view_all never_of terms.items ∙ sym as_long) ∙ sym c.if-not-is_pair.ensures in
    let ends : Ground → Log = λ m. spec.learnt_by log m (spec.way_at_end symbols chain m) in
    let same : ends (ground_of c.args.end.now) ≡ spec.absorbed symbols chain (ground_of c.args.end.now) log =
    of_app ends c.args.end.now c.in-App.symbol c.in-App.terms c.in-App.field-2 c.in-App.is
    ∙ sym (absorbed_end symbols chain f (grounds_of terms.items) log no)
    ∙ sym (of_app (λ m. spec.absorbed symbols chain m log) c.args.end.now c.in-App.symbol c.in-App.terms c.in-App.field-2 c.in-App.is) in
    subst (λ (z : Log). OnOk c.absorb_end.result (log_in c.absorb_end.new.entries.items ≡ z)) same c.absorb_end.ensures

pub absorb-returns-then-is_learnt : goal.absorb-returns-then-is_learnt
absorb-returns-then-is_learnt t c =
    let symbols = map symbol_of c.args.symbols.now.items in
    let chain = chain_of c.args.chain.now in
    let log = log_in c.args.entries.now.items in
    let terms = c.in-App.terms.value in
    let f = name_of c.in-App.symbol in
    let as_long : c.len.result ≡ length terms.items = c.len.ensures ∙ ap (λ v. v.len) c.deref.ensures ∙ omega (arith, terms.ok.0) in
    let yes : is_pair f (count (grounds_of terms.items)) ≡ true = ap (is_pair f) (count-view_all never_of terms.items ∙ sym as_long) ∙ sym c.if-not-is_pair.ensures in
    let message = of_app (λ m. m) c.args.end.now c.in-App.symbol c.in-App.terms c.in-App.field-2 c.in-App.is in
    sym
    (ap (λ m. spec.absorbed symbols chain m log) message
    ∙ absorbed_learnt symbols chain f (grounds_of terms.items) log yes (ap (spec.is_learnt log) (sym message) ∙ sym c.if-is_learnt.ensures))

pub absorb-returns-in_ok-absorb_parts-in-App : goal.absorb-returns-in_ok-absorb_parts-in-App
absorb-returns-in_ok-absorb_parts-in-App t c =
    let symbols = map symbol_of c.args.symbols.now.items in
    let chain = chain_of c.args.chain.now in
    let log = log_in c.args.entries.now.items in
    let terms = c.in-App.terms.value in
    let f = name_of c.in-App.symbol in
    let as_long : c.len.result ≡ length terms.items = c.len.ensures ∙ ap (λ v. v.len) c.deref.ensures ∙ omega (arith, terms.ok.0) in
    let yes : is_pair f (count (grounds_of terms.items)) ≡ true = ap (is_pair f) (count-view_all never_of terms.items ∙ sym as_long) ∙ sym c.if-not-is_pair.ensures in
    let message = of_app (λ m. m) c.args.end.now c.in-App.symbol c.in-App.terms c.in-App.field-2 c.in-App.is in
    let m = ground_of c.args.end.now in
    let parts : log_in c.absorb_parts.new.entries.items ≡ absorbed_parts symbols chain (grounds_of terms.items) log =
    c.in_ok-absorb_parts-in-App.ensures ∙ ap (λ v. absorbed_parts symbols chain (grounds_of v.items) log) c.deref-in-App.ensures in
    let same : spec.learnt_by (log_in c.absorb_parts.new.entries.items) m constructed ≡ spec.absorbed symbols chain m log =
    ap (λ l. spec.learnt_by l m constructed) parts
    ∙ ap (λ t. spec.learnt_by (absorbed_parts symbols chain (grounds_of terms.items) log) t constructed) message
    ∙ sym (absorbed_pair symbols chain f (grounds_of terms.items) log yes (ap (spec.is_learnt log) (sym message) ∙ sym c.if-is_learnt.ensures))
    ∙ ap (λ t. spec.absorbed symbols chain t log) (sym message) in
    subst (λ (z : Log). OnOk c.learn.result (log_in c.learn.new.entries.items ≡ z)) same c.learn.ensures
