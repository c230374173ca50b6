use Rattle.std.proofs.Common.{◌≡◌, ℕ, ◌+◌, ◌<◌, List, [], ◌∷◌, ◌++◌, map, drop, length, get_or, append_assoc, sym, ap, ◌∙◌}
use Rattle.std.proofs.lemmas.List.{append-nil, at_drop_all, drop_more, map-append}
use Rattle.sp_spec.specs.Log.{entry_actions}
use Rattle.sp_learn.specs.declared.log.Entry.{Entry}
use Rattle.sp_fact.specs.GroundView.{ground_action}
use Rattle.sp_spec.specs.Lists.{newest_first}
use Rattle.sp_learn.specs.View.{entries_of, entry_of}
use Rattle.sp_learn.proofs.Orders.{whole_newest}
use Rattle.sp_learn.proofs.trace.whole_trace.Goals as goal

-- one thing more is made, of the element here
one_shown : {A B C D : Type 0} (v : A → D) (w : B → C) (u : C → D) (made made' : List A) (xs : List B) (all : List D) (i : ℕ) (y : A) (x : B)
    → map v made ++ map u (map w (drop i xs)) ≡ all → made' ≡ made ++ y ∷ [] → i < length xs → x ≡ get_or xs i x → v y ≡ u (w x)
    → map v made' ++ map u (map w (drop (i + 1) xs)) ≡ all
one_shown v w u made made' xs all i y x before push below item one =
    let rest = map u (map w (drop (i + 1) xs)) in
    ap (λ zs. map v zs ++ rest) push
    ∙ ap (λ zs. zs ++ rest) (map-append v made (y ∷ []))
    ∙ append_assoc (map v made) (v y ∷ []) rest
    ∙ ap (λ z. map v made ++ z ∷ rest) (one ∙ ap (λ z. u (w z)) item)
    ∙ sym (ap (λ zs. map v made ++ map u (map w zs)) (drop_more xs i x below))
    ∙ before

pub loop-entry-preserved : goal.loop-entry-preserved
loop-entry-preserved c =
    one_shown (λ entry. map ground_action entry.items) entry_of entry_actions c.loop-entry.entries.items c.push.new.self.items c.deref-entry-items.result.now
    (map entry_actions (entries_of c.args.log.now)) c.loop-entry.entry-index c.in_ok-actions_of.field-0 c.entry-item.result
    c.loop-entry.invariant c.in_ok-push.ensures.items c.loop-entry-test.true c.entry-item.is c.in_ok-actions_of.ensures

pub returns : goal.returns
returns c =
    let made = map (λ entry. map ground_action entry.items) c.loop-entry.entries.items in
    let all =
    sym (append-nil made)
    ∙ sym (at_drop_all (λ (xs : List Entry). made ++ map entry_actions (map entry_of xs)) c.deref-entry-items.result.now c.loop-entry.entry-index c.loop-entry-test.false)
    ∙ c.loop-entry.invariant in
    ap newest_first all ∙ whole_newest (entries_of c.args.log.now)
