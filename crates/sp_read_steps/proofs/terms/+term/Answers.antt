use Rattle.std.proofs.Common.{sym, arith}
use Rattle.sp_term.specs.View.{name_of}
use Rattle.sp_read_steps.specs.Reading.{read_whole, read_over, read_pair}
use Rattle.sp_read_steps.specs.View.{symbols_of}
use Rattle.sp_read_steps.proofs.Heads.{over_shorter, opened_shorter, reads_shorter}
use Rattle.sp_read_steps.proofs.One.{over_not, pair_not}
use Rattle.sp_read_steps.proofs.Going.{row_more, row_last, row_no_sign}
use Rattle.sp_read_steps.proofs.terms.+term.Goals as goal

pub row-returns-in-Some-behind : goal.row-returns-in-Some-behind
row-returns-in-Some-behind t c =
    let one = rw c.in-Some-2.is at c.in_ok-next.ensures in
    rw c.in_ok-push.ensures (row_last c.loop-found.invariant.reads one c.in-Some-behind.ensures)

pub row-loop-found-smaller : goal.row-loop-found-smaller
row-loop-found-smaller t c =
    let one = rw c.in-Some-2.is at c.in_ok-next.ensures in
    omega (arith, reads_shorter (symbols_of c.args.symbols.now.items) one, c.in-Some-after.ensures.shorter)

pub row-loop-found-preserved : goal.row-loop-found-preserved
row-loop-found-preserved t c =
    let one = rw c.in-Some-2.is at c.in_ok-next.ensures in
    record {
      reads = rw c.in_ok-push.ensures (row_more c.requires c.loop-found.invariant.reads one c.in-Some-after.ensures.value);
      shorter = omega (arith, reads_shorter (symbols_of c.args.symbols.now.items) one, c.in-Some-after.ensures.shorter, c.loop-found.invariant.shorter);
    }

pub row-returns-in-None : goal.row-returns-in-None
row-returns-in-None t c =
    let one = rw c.in-Some-2.is at c.in_ok-next.ensures in
    row_no_sign c.loop-found.invariant.reads one c.in_default-behind.ensures c.in-None.ensures.value

pub term-row-requires : goal.term-row-requires
term-row-requires t c =
    let h = rw c.in-Over.is at c.in_ok-found.ensures in
    let shorter = over_shorter (symbols_of c.args.symbols.now.items) c.args.text.now (name_of c.in-Over.symbol) c.in-Over.inside.now (sym h) in
    (omega arith, λ e. let none : ⊥ = omega arith in none)

pub term-returns-in_default-2 : goal.term-returns-in_default-2
term-returns-in_default-2 t c =
    let h = rw c.in-Over.is at c.in_ok-found.ensures in
    let row = rw c.in-Some.is at c.in_ok-terms-in-Over.ensures in
    let a = rw c.in_default-2.is at c.in_ok-made-in-Over.ensures in
    over_not (sym h) row (sym a)

pub term-row-requires-in-Opened : goal.term-row-requires-in-Opened
term-row-requires-in-Opened t c =
    let h = rw c.in-Opened.is at c.in_ok-found.ensures in
    let shorter = opened_shorter (symbols_of c.args.symbols.now.items) c.args.text.now c.in-Opened.inside.now (sym h) in
    (omega arith, λ e. let none : ⊥ = omega arith in none)

pub term-returns-in_default-4 : goal.term-returns-in_default-4
term-returns-in_default-4 t c =
    let h = rw c.in-Opened.is at c.in_ok-found.ensures in
    let row = rw c.in-Some-3.is at c.in_ok-terms-in-Opened.ensures in
    let a = rw c.in_default-4.is at c.in_ok-made-in-Opened.ensures in
    pair_not (sym h) row (sym a)

pub term-returns-in-Whole : goal.term-returns-in-Whole
term-returns-in-Whole t c =
    let h = rw c.in-Whole.is at c.in_ok-found.ensures in
    read_whole (sym h)

pub term-returns-in-Some-2 : goal.term-returns-in-Some-2
term-returns-in-Some-2 t c =
    let h = rw c.in-Over.is at c.in_ok-found.ensures in
    let row = rw c.in-Some.is at c.in_ok-terms-in-Over.ensures in
    let a = rw c.in-Some-2.is at c.in_ok-made-in-Over.ensures in
    read_over (sym h) row (sym a)

pub term-returns-in-Some-4 : goal.term-returns-in-Some-4
term-returns-in-Some-4 t c =
    let h = rw c.in-Opened.is at c.in_ok-found.ensures in
    let row = rw c.in-Some-3.is at c.in_ok-terms-in-Opened.ensures in
    let a = rw c.in-Some-4.is at c.in_ok-made-in-Opened.ensures in
    read_pair (sym h) row (sym a)
