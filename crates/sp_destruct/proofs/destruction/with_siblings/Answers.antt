use Rattle.std.proofs.Common.{◌≡◌, ◌∙◌, ◌+◌, ◌-◌, IfOk, List, length, ap, subst, drop, take}
use Rattle.std.proofs.lemmas.List.{take_rest}
use Rattle.sp_spec.specs.Term.{joined, Terms, Variable}
use Rattle.sp_term.specs.declared.term.Term as memory
use Rattle.sp_term.specs.declared.term.Variable as leaf
use Rattle.sp_term.specs.View.{view_all}
use Rattle.sp_destruct.proofs.Ways.{joined_again}
use Rattle.sp_destruct.proofs.destruction.with_siblings.Goals as goal

pub returns : goal.returns
returns c =
    let ts = view_all c.args.terms.items in
    let xs = c.args.args.now.items in
    let k = c.args.place in
    let front = c.in_ok-front.ensures ∙ ap (λ (ys : List (memory.Term leaf.Variable)). joined ts (view_all (take k ys))) c.deref.ensures.value in
    let back = ap view_all (take_rest c.deref-2.result.now (k + 1)) ∙ ap (λ (ys : List (memory.Term leaf.Variable)). view_all (drop (k + 1) ys)) c.deref-2.ensures.value in
    let row =
    ap (λ (us : Terms Variable). joined us (view_all (take (length c.deref-2.result.now - (k + 1)) (drop (k + 1) c.deref-2.result.now)))) front
    ∙ ap (joined (joined ts (view_all (take k xs)))) back ∙ joined_again ts (view_all (take k xs)) (view_all (drop (k + 1) xs))
    in
    subst (λ (z : Terms Variable). IfOk c.with_copies-2.result (λ ys. view_all ys.items ≡ z)) row c.with_copies-2.ensures
