use Rattle.std.proofs.Common.{◌≡◌, ◌≤◌, ◌-◌, ℕ, List, Option, length, take, drop, ap, ◌∙◌, arith, length-drop, take_all}
use Rattle.sp_io.specs.Told.{extended}
use Rattle.sp_io.proofs.Extended.{extended-take_add}
use Rattle.sp_io.proofs.write_whole.Goals as goal

-- the rest of the bytes, as a slice names it
rest : (bytes : List ℕ) (d : ℕ) → take (length bytes - d) (drop d bytes) ≡ drop d bytes
rest bytes d = take_all (length bytes - d) (drop d bytes) (omega (arith, length-drop d bytes))

pub loop-done-preserved : goal.loop-done-preserved
loop-done-preserved g c =
    let bytes = c.args.bytes.now in
    let done = c.loop-done.done in
    let whole = rest bytes done in
    record {
      within = let h : c.in_ok-n.n ≤ length (take (length bytes - done) (drop done bytes)) = c.in_ok-n.ensures.within in
          let w = c.loop-done.invariant.within in
          omega (arith, ap length whole, length-drop done bytes);
      written = (rw rest at c.in_ok-n.ensures.appended)
          ∙ ap (λ (told : Option (List ℕ)). extended told (take c.in_ok-n.n (drop done bytes))) c.loop-done.invariant.written
          ∙ extended-take_add (g.K.Sink.written c.args.sink.now) bytes done c.in_ok-n.n;
      count = omega (arith, c.in_ok-n.ensures.count);
    }
