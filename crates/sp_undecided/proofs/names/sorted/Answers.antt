use Rattle.std.proofs.Common.{◌≡◌, ◌-◌, ◌<◌, ℕ, length, get_or, sym, ap, ap₂, ◌∙◌, arith}
use Rattle.sp_term.specs.View.{name_of}
use Rattle.sp_spec_proof.specs.Deciding.{placed_by_bytes}
use Rattle.sp_undecided.proofs.Sorted.{next_sorted}
use Rattle.sp_undecided.proofs.names.sorted.Goals as goal

pub loop-count-preserved : goal.loop-count-preserved
loop-count-preserved c =
    let all = c.args.names.now.items in
    let done = c.loop-count.count in
    let x = c.index.result.now in
    let below : done < length all = omega (arith, c.loop-count-test.true, c.len-count-end.ensures) in
    let is : x ≡ get_or all (length all - 1 - done) x = c.index.ensures ∙ ap (λ (n : ℕ). get_or all (n - 1 - done) x) (c.len-in-loop-count.ensures ∙ c.args.names.now.ok.0) in
    c.in_ok-place.ensures ∙ ap₂ placed_by_bytes c.in_ok-name.ensures.cases c.loop-count.invariant ∙ sym (next_sorted name_of all done x below is)
