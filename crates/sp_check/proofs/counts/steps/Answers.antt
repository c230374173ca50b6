use Rattle.std.proofs.Common.{◌≡◌, ◌-◌, ◌^◌, min, ℕ, List, sym, ap, ◌∙◌, arith}
use Rattle.sp_check.specs.declared.skeleton.Node.{Node}
use Rattle.sp_check.specs.Skeleton as spec
use Rattle.sp_check.specs.View.{nodes_of, skeleton_of}
use Rattle.sp_check.proofs.Kept.{seen_one}
use Rattle.sp_check.proofs.Told.{steps_among, steps_told}
use Rattle.sp_check.proofs.counts.steps.Goals as goal

pub loop-node-init : goal.loop-node-init
loop-node-init c =
    let k = c.args.skeleton.now in
    let told : spec.steps (skeleton_of k) ≡ steps_among (nodes_of c.deref-node-items.result.now) =
    steps_told (nodes_of k.nodes.items) (seen_one k.nodes.items k.is_one) ∙ ap (λ (ns : List Node). steps_among (nodes_of ns)) (sym c.deref-node-items.ensures.value) in
    (ap (λ (n : ℕ). min n (2 ^ 64 - 1)) (omega (arith, told)), omega arith)
