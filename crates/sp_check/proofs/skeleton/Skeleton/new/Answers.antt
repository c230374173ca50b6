use Rattle.std.proofs.Common.{◌≡◌, ◌+◌, ◌-◌, ◌≤◌, ℕ, suc, List, ◌∷◌, drop, length, get_or, add-one, drop-cons, refl, sym, ap, ◌∙◌, subst, arith}
use Rattle.std.proofs.lemmas.List.{length-drop}
use Rattle.std.proofs.Math.ListN.{drop_of_length-le}
use Rattle.sp_spec_nodes.specs.Preorder.{AreTrees}
use Rattle.sp_spec_nodes.proofs.Walks.{awaited_next, awaited_last, trees_fit}
use Rattle.sp_check.specs.declared.skeleton.Node.{Node}
use Rattle.sp_check.proofs.Kept.{cases_in}
use Rattle.sp_check.proofs.skeleton.Skeleton.new.Goals as goal

next_node : (ns : List Node) (i : ℕ) (n : Node) → i + 1 ≤ length ns → n ≡ get_or ns i n → drop i ns ≡ n ∷ drop (i + 1) ns
next_node ns i n within is = rw add-one (drop-cons ns i n (omega arith) ∙ ap (λ (m : Node). m ∷ drop (suc i) ns) (sym is))

pub loop-node-init : goal.loop-node-init
loop-node-init c =
    let are : List Node → Type 0 = λ ns. AreTrees cases_in 1 ns in
    (λ h. subst are (sym c.deref-node-items.ensures.value) h, λ h. subst are c.deref-node-items.ensures.value h)

pub returns-in_err-checked_sub : goal.returns-in_err-checked_sub
returns-in_err-checked_sub c =
    let ns = c.deref-node-items.result.now in
    let next = next_node ns c.loop-node.node-index c.node-item.result (omega arith) c.node-item.is in
    let none : c.loop-node.awaited ≡ 0 = omega (arith, c.in_err-checked_sub.ensures) in
    rw c.from_residual.ensures
    (λ h. subst (λ (k : ℕ). AreTrees cases_in k (c.node-item.result ∷ drop (c.loop-node.node-index + 1) ns)) none (subst (AreTrees cases_in c.loop-node.awaited) next (c.loop-node.invariant.0 h)))

pub returns-in_err-awaited : goal.returns-in_err-awaited
returns-in_err-awaited c =
    let ns = c.deref-node-items.result.now in
    let rest : List Node = drop (c.loop-node.node-index + 1) ns in
    let next = next_node ns c.loop-node.node-index c.node-item.result (omega arith) c.node-item.is in
    let more : ℕ = (c.loop-node.awaited - 1) + cases_in c.node-item.result in
    let step = awaited_next cases_in c.loop-node.awaited more c.node-item.result rest (omega (arith, c.in_ok-checked_sub.ensures)) refl in
    rw c.from_residual-in_err-awaited.ensures
    (λ h.
    let fit : more ≤ length rest = trees_fit cases_in more rest (step.0 (subst (AreTrees cases_in c.loop-node.awaited) next (c.loop-node.invariant.0 h))) in
    omega (arith, fit, length-drop (c.loop-node.node-index + 1) ns, ap (λ (ms : List Node). length ms) c.deref-node-items.ensures.value, c.in_err-awaited.ensures, c.in_ok-checked_sub.ensures, c.len.ensures))

pub loop-node-preserved : goal.loop-node-preserved
loop-node-preserved c =
    let ns = c.deref-node-items.result.now in
    let rest : List Node = drop (c.loop-node.node-index + 1) ns in
    let next = next_node ns c.loop-node.node-index c.node-item.result (omega arith) c.node-item.is in
    let step = awaited_next cases_in c.loop-node.awaited c.in_ok-awaited.awaited c.node-item.result rest (omega (arith, c.in_ok-checked_sub.ensures)) (omega (arith, c.in_ok-checked_sub.ensures, c.in_ok-awaited.ensures, c.len.ensures)) in
    let are = AreTrees cases_in c.loop-node.awaited in
    (λ h. step.0 (subst are next (c.loop-node.invariant.0 h)), λ h. c.loop-node.invariant.1 (subst are (sym next) (step.1 h)))

pub invariant_of-result : goal.invariant_of-result
invariant_of-result c =
    let ns = c.deref-node-items.result.now in
    let i = c.loop-node.node-index in
    let ended = awaited_last cases_in c.loop-node.awaited (drop i ns) (drop_of_length-le ns {i = i} (omega arith)) in
    record { is_one = c.loop-node.invariant.1 (ended.1 (omega arith)) }

pub returns-else-awaited-eq0 : goal.returns-else-awaited-eq0
returns-else-awaited-eq0 c =
    let ns = c.deref-node-items.result.now in
    let i = c.loop-node.node-index in
    let ended = awaited_last cases_in c.loop-node.awaited (drop i ns) (drop_of_length-le ns {i = i} (omega arith)) in
    λ h. c.if-awaited-eq0.false (ended.0 (c.loop-node.invariant.0 h))
