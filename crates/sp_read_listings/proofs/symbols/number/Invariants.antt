use Rattle.std.proofs.Common.{◌≡◌, ◌-◌, ◌^◌, ◌≤◌, drop}
use Rattle.sp_spec_text.specs.Numerals.{value, counted}
use Rattle.sp_read_listings.proofs.symbols.number.Given as goal

abbrev pub invariant-loop-digit : goal.invariant-loop-digit
invariant-loop-digit l = (counted (value l.number (drop l.digit-index l.digits)) ≡ counted (value 0 l.digits)) × (l.number ≤ 2 ^ 64 - 1)
