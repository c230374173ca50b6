-- What a library in memory is seen as.
use Rattle.std.specs.Prelude.{ℕ, List, Option, bytes_eq}
use Rattle.std.specs.Map.{lookup}

pub record Shelf : Type 0 where
  -- the names with the bytes under each
  pub texts : List (List ℕ × List ℕ)
  -- the numbers of the calls that are to fail; the first call has the number 1
  pub failing : List ℕ
  -- the names fetched so far
  pub asked : List (List ℕ)
  -- how many calls came
  pub calls : ℕ
  -- how many of them failed
  pub faults : ℕ

-- the bytes under a name
abbrev pub under : Shelf → List ℕ → Option (List ℕ)
under shelf name = lookup (λ key. bytes_eq name key) shelf.texts
