use Rattle.std.proofs.Common.{◌≡◌, List, OnOk, ⊎_elim, ◌++◌, map, take, sym, ap, ◌∙◌}
use Rattle.sp_spec.specs.Formula.{Formula}
use Rattle.sp_spec.proofs.Options.{on_so}
use Rattle.sp_read_parts.specs.Formulas.{Joint, conjoint, disjoint, join, chain, formula}
use Rattle.sp_read_parts.specs.declared.written.ReadFormula.{ReadFormula}
use Rattle.sp_read_parts.proofs.Chains.{chain_taken}
use Rattle.sp_read_parts.proofs.Shown.{both_shown, either_shown, implies_shown, equivalent_shown, every_shown, some_shown}
use Rattle.sp_walk.specs.Atoms.{collected}
use Rattle.sp_walk.specs.View.{innermost_first}
use Rattle.sp_walk.proofs.Collected.{behind_all, behind_some, joined}
use Rattle.sp_walk.proofs.collect.+collected.Goals as goal

pub collect_atoms-returns-in-ForAll : goal.collect_atoms-returns-in-ForAll
collect_atoms-returns-in-ForAll g t c =
    let by = g.C.Collects in
    let gives = by.gives c.args.by.now in
    let bs = c.args.binders.now.items in
    let old = by.seen_of c.args.seen.now in
    let named = c.in-ForAll.more in
    let body = c.in-ForAll.body in
    let whole = collected gives (innermost_first bs) (formula c.args.formula.now) in
    let shown : collected gives (innermost_first (bs ++ named.items)) (formula body.value) ≡ whole =
    ⊎_elim (λ e. behind_all gives bs named.items (formula body.value) ∙ sym (ap (collected gives (innermost_first bs)) (ap formula e ∙ every_shown named body)))
    (λ e. behind_some gives bs named.items (formula body.value) ∙ sym (ap (collected gives (innermost_first bs)) (ap formula e ∙ some_shown named body))) c.in-ForAll.is in
    on_so c.collect_behind.result _ (by.seen_of c.collect_behind.new.seen ≡ by.after old whole)
    (λ told. told ∙ ap (by.after old) (ap (λ (f : ReadFormula). collected gives (innermost_first (bs ++ named.items)) (formula f)) c.deref-in-ForAll.ensures ∙ shown))
    c.collect_behind.ensures

pub collect_later-loop-part-preserved : goal.collect_later-loop-part-preserved
collect_later-loop-part-preserved g t c o before f so =
    let by = g.C.Collects in
    let gives = by.gives c.args.by.now in
    let bs = innermost_first c.args.binders.now.items in
    let all = c.deref-part-items.result.now in
    let k = c.loop-part.part-index in
    let part = c.part-item.result in
    let gone = chain o f (map formula (take k all)) in
    c.in_ok-collect_atoms.ensures
    ∙ ap (λ (s : by.Seen). by.after s (collected gives bs (formula part))) (c.loop-part.invariant o before f so)
    ∙ g.met.C.Collects.one_by_one before (collected gives bs gone) (collected gives bs (formula part))
    ∙ ap (by.after before) (sym (joined gives bs o gone (formula part)) ∙ sym (ap (collected gives bs) (chain_taken o f all k part c.loop-part-test.true c.part-item.is)))

pub collect_atoms-returns-in_ok-collect_atoms-in-Both-2 : goal.collect_atoms-returns-in_ok-collect_atoms-in-Both-2
collect_atoms-returns-in_ok-collect_atoms-in-Both-2 g t c =
    let by = g.C.Collects in
    let bs = innermost_first c.args.binders.now.items in
    let given : Formula → List by.Item = collected (by.gives c.args.by.now) bs in
    let old = by.seen_of c.args.seen.now in
    let left = formula c.in-Both.left.value in
    let right = formula c.in-Both.right.value in
    let first : by.seen_of c.collect_atoms-in-Both.new.seen ≡ by.after old (given left) =
    c.in_ok-collect_atoms-in-Both.ensures ∙ ap (λ (f : ReadFormula). by.after old (given (formula f))) c.deref-in-Both.ensures in
    let two : by.seen_of c.collect_atoms-in-Both-2.new.seen ≡ by.after (by.after old (given left)) (given right) =
    c.in_ok-collect_atoms-in-Both-2.ensures
    ∙ ap (λ (f : ReadFormula). by.after (by.seen_of c.collect_atoms-in-Both.new.seen) (given (formula f))) c.deref-in-Both-2.ensures
    ∙ ap (λ (s : by.Seen). by.after s (given right)) first in
    let shown : (o : Joint) → formula c.args.formula.now ≡ chain o (join o left right) (map formula c.in-Both.more.items)
    → OnOk c.collect_later.result (by.seen_of c.collect_later.new.seen ≡ by.after old (given (formula c.args.formula.now))) = (λ o e.
    on_so c.collect_later.result _ (by.seen_of c.collect_later.new.seen ≡ by.after old (given (formula c.args.formula.now)))
    (λ known.
    known o old (join o left right)
    (two ∙ g.met.C.Collects.one_by_one old (given left) (given right) ∙ ap (by.after old) (sym (joined (by.gives c.args.by.now) bs o left right)))
    ∙ ap (by.after old) (sym (ap given e)))
    c.collect_later.ensures) in
    ⊎_elim (λ e. shown conjoint (ap formula e ∙ both_shown c.in-Both.left c.in-Both.right c.in-Both.more))
    (λ e. shown disjoint (ap formula e ∙ either_shown c.in-Both.left c.in-Both.right c.in-Both.more)) c.in-Both.is
