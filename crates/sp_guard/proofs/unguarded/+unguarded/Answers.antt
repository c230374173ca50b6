use Rattle.std.proofs.Common.{◌≡◌, ℕ, List, Option, IfOk, ⊎_elim, ◌++◌, map, refl, sym, subst, ap, ap₂, ◌∙◌}
use Rattle.sp_spec_text.specs.Shapes.{quantified}
use Rattle.sp_spec_text.specs.Formulas.{quantified_some}
use Rattle.sp_read_parts.specs.Views.{variable}
use Rattle.sp_read_parts.specs.Formulas.{Joint, conjoint, disjoint, join, chain, formula}
use Rattle.sp_read_parts.specs.declared.written.ReadFormula.{ReadFormula}
use Rattle.sp_read_parts.specs.declared.written.WrittenVariable.{WrittenVariable}
use Rattle.sp_read_parts.proofs.Shown.{both_shown, either_shown, every_shown, some_shown}
use Rattle.std.specs.Option.{option_or}
use Rattle.sp_read_parts.proofs.Chains.{chain_seen}
use Rattle.sp_law_guard.specs.GuardedForm.{guarded_form}
use Rattle.sp_guard.specs.View.{innermost_first}
use Rattle.sp_guard.specs.Unguarded.{nothing_above, unguarded}
use Rattle.sp_guard.specs.FirstNamed.{named_in_form, below_each, above_of, name_of}
use Rattle.sp_spec.proofs.Options.{ok_so}
use Rattle.sp_guard.proofs.Joints.{unguarded_joined, any_above}
use Rattle.sp_guard.proofs.Names.{all_named, some_named}
use Rattle.sp_guard.proofs.unguarded.+unguarded.Goals as goal

pub unguarded-returns-in-ForAll : goal.unguarded-returns-in-ForAll
unguarded-returns-in-ForAll t c =
    let bs = c.args.binders.now.items in
    let vs = c.in-ForAll.named.items in
    let body = c.deref-in-ForAll.result.now in
    let first = named_in_form c.args.above.of_all (guarded_form (innermost_first bs) (formula c.args.formula.now)) (map variable vs) in
    subst (λ (x : Option (List ℕ)). IfOk c.unguarded_behind.result (λ o. name_of o ≡ x))
    (all_named bs vs (bs ++ vs) (above_of c.args.above) (above_of c.below_all-below.result) (formula body) (formula c.args.formula.now) first
    (ap formula c.in-ForAll.is ∙ every_shown c.in-ForAll.named c.in-ForAll.body ∙ ap (λ (f : ReadFormula). quantified (map variable vs) (formula f)) (sym c.deref-in-ForAll.ensures))
    refl refl c.below_all-below.ensures.exact)
    c.unguarded_behind.ensures

pub unguarded-returns-in-ForSome : goal.unguarded-returns-in-ForSome
unguarded-returns-in-ForSome t c =
    let bs = c.args.binders.now.items in
    let vs = c.in-ForSome.named.items in
    let body = c.deref-in-ForSome.result.now in
    let first = named_in_form c.args.above.of_some (guarded_form (innermost_first bs) (formula c.args.formula.now)) (map variable vs) in
    subst (λ (x : Option (List ℕ)). IfOk c.unguarded_behind-in-ForSome.result (λ o. name_of o ≡ x))
    (some_named bs vs (bs ++ vs) (above_of c.args.above) (above_of c.below_each-below.result) (formula body) (formula c.args.formula.now) first
    (ap formula c.in-ForSome.is ∙ some_shown c.in-ForSome.named c.in-ForSome.body ∙ ap (λ (f : ReadFormula). quantified_some (map variable vs) (formula f)) (sym c.deref-in-ForSome.ensures))
    refl refl c.below_each-below.ensures.exact)
    c.unguarded_behind-in-ForSome.ensures

pub or_unguarded_later-loop-part-preserved : goal.or_unguarded_later-loop-part-preserved
or_unguarded_later-loop-part-preserved t c o f so =
    let bs = innermost_first c.args.binders.now.items in
    chain_seen o (unguarded bs nothing_above) option_or (unguarded_joined bs nothing_above o) f c.deref-part-items.result.now c.loop-part.part-index c.part-item.result
    (name_of c.loop-part.found) (unguarded bs nothing_above (formula c.part-item.result)) (name_of c.in_ok-found.found)
    c.loop-part-test.true c.part-item.is (c.loop-part.invariant o f so) refl c.in_ok-found.ensures

pub unguarded-returns-in_ok-found-in-Both : goal.unguarded-returns-in_ok-found-in-Both
unguarded-returns-in_ok-found-in-Both t c =
    let bs = innermost_first c.args.binders.now.items in
    let above = above_of c.args.above in
    let left = formula c.in-Both.left.value in
    let right = formula c.in-Both.right.value in
    let seen : ReadFormula → Option (List ℕ) = λ f. unguarded bs nothing_above (formula f) in
    let two : name_of c.in_ok-found-in-Both.found ≡ option_or (unguarded bs nothing_above left) (unguarded bs nothing_above right) =
    c.in_ok-found-in-Both.ensures ∙ ap₂ option_or (c.in_ok-first-in-Both.ensures ∙ ap seen c.deref-in-Both.ensures) (ap seen c.deref-in-Both-2.ensures) in
    let shown : (o : Joint) → formula c.args.formula.now ≡ chain o (join o left right) (map formula c.in-Both.more.items)
    → IfOk c.or_unguarded_later.result (λ found. name_of found ≡ unguarded bs above (formula c.args.formula.now)) = (λ o e.
    ok_so c.or_unguarded_later.result _ (λ found. name_of found ≡ unguarded bs above (formula c.args.formula.now))
    (λ found told.
    told o (join o left right) (two ∙ sym (unguarded_joined bs nothing_above o left right))
    ∙ any_above bs nothing_above above o left right (map formula c.in-Both.more.items)
    ∙ sym (ap (unguarded bs above) e))
    c.or_unguarded_later.ensures) in
    ⊎_elim (λ e. shown conjoint (ap formula e ∙ both_shown c.in-Both.left c.in-Both.right c.in-Both.more))
    (λ e. shown disjoint (ap formula e ∙ either_shown c.in-Both.left c.in-Both.right c.in-Both.more)) c.in-Both.is

pub unguarded_behind-returns : goal.unguarded_behind-returns
unguarded_behind-returns t c =
    subst (λ (x : Option (List ℕ)). IfOk c.or_unguarded.result (λ o. name_of o ≡ x))
    (ap₂ option_or c.in_ok-found.ensures
    (ap (λ (all : List WrittenVariable). unguarded (innermost_first all) (above_of c.args.below) (formula c.args.body.now)) c.in_ok-inner.ensures))
    c.or_unguarded.ensures
