-- What a sink in memory is seen as.
use Rattle.std.specs.Prelude.{ℕ, Bool, ◌||◌, List, nat_eq}
use Rattle.sp_io.specs.Calls.{raised, is_planned}

pub record Slate : Type 0 where
  -- the bytes written so far
  pub written : List ℕ
  -- how many bytes it takes in one call
  pub piece : ℕ
  -- how many more bytes it has room for
  pub room : ℕ
  -- the numbers of the calls that are to fail; the first call has the number 1
  pub failing : List ℕ
  -- how many calls came with a piece that isn't empty
  pub calls : ℕ
  -- how many of them failed
  pub faults : ℕ

-- whether the next call fails, if its piece isn't empty
abbrev pub fails_next : Slate → Bool
fails_next slate = is_planned slate.failing (raised slate.calls) || nat_eq slate.room 0
