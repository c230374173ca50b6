-- How many turns of a loop are left.
use Rattle.std.proofs.Common.{◌≡◌, ◌<◌, ℕ, suc, ◌+◌, ◌-◌, arith}

pub one_less : (total i : ℕ) → i < total → total - i ≡ suc (total - (i + 1))
one_less total i h = omega arith
