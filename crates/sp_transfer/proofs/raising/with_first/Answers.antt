use Rattle.std.proofs.Common.{◌≡◌, ◌++◌, ◌∙◌, IfOk, List, map, sym, ap, subst, take}
use Rattle.std.proofs.lemmas.List.{take-map, take_min}
use Rattle.sp_spec.specs.Term.{Ground}
use Rattle.sp_fact.specs.GroundView.{ground_of}
use Rattle.sp_transfer.proofs.raising.with_first.Goals as goal

pub returns : goal.returns
returns c =
    let ms = c.args.messages.now in
    let made = map ground_of c.args.made.items in
    let first =
    ap (λ n. map ground_of (take n ms)) c.min-end.ensures ∙ ap (map ground_of) (take_min c.args.count ms) ∙ sym (take-map ground_of c.args.count ms) in
    subst (λ (z : List Ground). IfOk c.with_copies.result (λ ts. map ground_of ts.items ≡ z)) (ap (λ (xs : List Ground). made ++ xs) first) c.with_copies.ensures
