use Rattle.std.proofs.Common.{◌∙◌, ◌++◌, ◌+◌, map, drop, slice_index_or, sym, ap}
use Rattle.std.proofs.lemmas.Grind.{get_or_default_zero}
use Rattle.sp_spec.proofs.Lists.{next_item}
use Rattle.sp_fact.specs.GroundView.{ground_of}
use Rattle.sp_law_log_execution.specs.Executed as spec
use Rattle.sp_transfer.proofs.Executing.{is_absent, is_there, message_absent, message_there}
use Rattle.sp_transfer.proofs.chain.messages_at.Goals as goal
use Rattle.sp_transfer.proofs.chain.messages_at.Goals.{in-Some+in_ok-clone+in_ok-push, in_default}

pub loop-place-preserved : goal.loop-place-preserved
loop-place-preserved c =
    let learnt = c.args.learnt.now.items in
    let places = c.deref-place-items.result.now in
    let i = c.loop-place.place-index in
    let k = slice_index_or places i 0 in
    let rest = drop (i + 1) places in
    let found = c.loop-place.found.items in
    let read = c.deref.result.now in
    let next = ap (λ ks. map ground_of found ++ spec.messages_at (map ground_of learnt) ks) (sym (next_item places i k c.loop-place-test.true (sym (get_or_default_zero places i k c.loop-place-test.true)))) in
    elim c.match-get.branch [
      | in-Some+in_ok-clone+in_ok-push w ↦
          (let t = w.in-Some.message.now in
          let u = w.in_ok-clone.field-0 in
          let there = is_there read learnt k t c.deref.ensures.value w.in-Some.ensures.lookup.3.0 w.in-Some.ensures.lookup.3.1 in
          ap (λ v. map ground_of v.items ++ spec.messages_at (map ground_of learnt) rest) w.found-is
          ∙ ap (λ ts. map ground_of ts ++ spec.messages_at (map ground_of learnt) rest) w.in_ok-push.ensures.items
          ∙ message_there ground_of learnt k rest found t u there w.in_ok-clone.ensures.cases ∙ next ∙ c.loop-place.invariant)
      | in_default w ↦
          (ap (λ v. map ground_of v.items ++ spec.messages_at (map ground_of learnt) rest) w.found-is
          ∙ ap (λ ms. map ground_of found ++ ms)
          (message_absent ground_of learnt k rest (is_absent read learnt k c.deref.ensures.value w.in_default.ensures.lookup.3))
          ∙ next ∙ c.loop-place.invariant)
    ]
