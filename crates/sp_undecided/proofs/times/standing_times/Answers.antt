use Rattle.std.proofs.Common.{◌≡◌, ℕ, Bool, true, false, ◌∷◌, [], ◌++◌, sym, ap, ◌∙◌, append-nil}
use Rattle.std.specs.Global.{Vec}
use Rattle.sp_system.specs.SystemView.{system_of}
use Rattle.sp_spec_system.specs.Occurring.{has_time}
use Rattle.sp_undecided.specs.Undecided.{standing_times}
use Rattle.sp_undecided.proofs.Counted.{standing_more}
use Rattle.sp_undecided.proofs.times.standing_times.Goals as goal
use Rattle.sp_undecided.proofs.times.standing_times.Goals.{then-has_time+in_ok-push, else-has_time}

pub loop-number-preserved : goal.loop-number-preserved
loop-number-preserved c =
    let s = system_of c.args.system.now in
    let k = c.loop-number.number in
    let n = c.args.system.now.next in
    let made = c.loop-number.made.items in
    let new = c.if-has_time.made.items in
    elim c.if-has_time.branch [
      | then-has_time+in_ok-push w ↦
          let is : new ≡ made ++ k ∷ [] = ap (λ (v : Vec ℕ). v.items) w.made-is ∙ w.in_ok-push.ensures.items in
          standing_more (λ i. has_time i s) k n true made new (standing_times s) c.loop-number-test.true (sym c.has_time.ensures ∙ w.if-has_time.true) c.loop-number.invariant is
      | else-has_time w ↦
          let is : new ≡ made ++ [] = ap (λ (v : Vec ℕ). v.items) w.made-is ∙ sym (append-nil made) in
          standing_more (λ i. has_time i s) k n false made new (standing_times s) c.loop-number-test.true (sym c.has_time.ensures ∙ w.if-has_time.false) c.loop-number.invariant is
    ]
