-- Numbers of brackets.
use Rattle.std.proofs.Common.{◌≡◌, ℕ, zero, suc, ◌+◌, arith}
use Rattle.sp_await.specs.Table.{deep}

pub deep_sum : (n k : ℕ) → deep n k ≡ n + k
deep_sum n zero = omega arith
deep_sum n (suc k) = let e = deep_sum n k in omega (arith, e)
