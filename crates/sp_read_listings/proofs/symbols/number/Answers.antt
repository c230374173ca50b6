use Rattle.std.proofs.Common.{ℕ, ◌+◌, List, drop, sym, ap, ◌∙◌, arith}
use Rattle.std.proofs.lemmas.List.{at_drop_more}
use Rattle.sp_spec_text.specs.Numerals.{value, counted}
use Rattle.sp_read_listings.proofs.Numbers.{count_more}
use Rattle.sp_read_listings.proofs.symbols.number.Goals as goal

pub loop-digit-preserved : goal.loop-digit-preserved
loop-digit-preserved c =
    let n = c.loop-digit.number in
    let digits = c.as_bytes-digits.result.now in
    let rest = drop (c.loop-digit.digit-index + 1) digits in
    let next = at_drop_more (λ (ds : List ℕ). counted (value n ds)) digits c.loop-digit.digit-index 0 c.loop-digit-test.true in
    (ap (λ (m : ℕ). counted (value m rest)) c.with_digit-number.ensures ∙ (count_more rest n _ ∙ (sym next ∙ c.loop-digit.invariant.0)), omega (arith, c.with_digit-number.type_inv))
