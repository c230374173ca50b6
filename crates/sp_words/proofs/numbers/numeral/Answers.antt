use Rattle.std.proofs.Common.{arith, drop}
use Rattle.sp_words.proofs.Numerals.{begins_behind_zero, is_no_number, is_number, is_written}
use Rattle.sp_words.proofs.numbers.numeral.Goals as goal
use Rattle.sp_words.proofs.numbers.numeral.Goals.{then-starts_with-via-then-starts_with, then-starts_with-via-else-starts_with+then-starts_with-2}

pub returns-then-starts_with : goal.returns-then-starts_with
returns-then-starts_with c n is = elim c.then-starts_with.branch [
  | then-starts_with-via-then-starts_with w ↦ let led = w.if-starts_with.ensures.cases in
      omega (arith, begins_behind_zero n 43 (drop led.0 c.args.text.now) c.args.text.now is.0 is.1 (omega arith) led.1.1)
  | then-starts_with-via-else-starts_with+then-starts_with-2 w ↦ let led = w.if-starts_with-2.ensures.cases in
      omega (arith, begins_behind_zero n 48 (drop led.0 c.args.text.now) c.args.text.now is.0 is.1 (omega arith) led.1.1)
]

pub returns-in-Ok : goal.returns-in-Ok
returns-in-Ok c = (
  is_written c.args.text.now c.parse.result c.parse.ensures.value.0 c.in-Ok.number c.if-starts_with.ensures.cases c.if-starts_with-2.ensures.cases c.in-Ok.is,
  c.if-number-ge1.true,
  c.if-number-most.true,
)

pub returns-in_default : goal.returns-in_default
returns-in_default c n is =
    omega (arith, is.2, c.if-number-most.false, is_number c.args.text.now c.parse.result c.parse.ensures.value.0 n c.in-Ok.number c.in-Ok.is is.0 (omega arith))

pub returns-in_default-2 : goal.returns-in_default-2
returns-in_default-2 c n is =
    omega (arith, is.1, c.if-number-ge1.false, is_number c.args.text.now c.parse.result c.parse.ensures.value.0 n c.in-Ok.number c.in-Ok.is is.0 (omega arith))

pub returns-in_default-3 : goal.returns-in_default-3
returns-in_default-3 c n is = is_no_number c.args.text.now c.parse.result c.parse.ensures.value.0 n c.in_default.field-0 c.in_default.is is.0 (omega arith)
