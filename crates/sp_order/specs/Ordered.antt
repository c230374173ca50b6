-- Times and the pairs of their order, as they came.
use Rattle.std.specs.Prelude.{ℕ, zero, suc, ◌==◌, length, List, [], ◌∷◌, ◌++◌, if◌then◌else◌}

pub record Ordered : Type 0 where
  pub times : List ℕ
  pub pairs : List (ℕ × ℕ)

abbrev pub nothing : Ordered
nothing = record { times = []; pairs = [] }

-- the first place at which the time stands; where it stands at none, how many there are
abbrev pub place : List ℕ → ℕ → ℕ
place [] t = zero
place (s ∷ times) t = if s == t then zero else suc (place times t)

-- the time is put behind the others, if it does not stand among them, so that its place is behind theirs
abbrev pub with_time : List ℕ → ℕ → List ℕ
with_time times t = if place times t == length times then times ++ t ∷ [] else times

-- the pair is put behind the others, and its times behind the times
abbrev pub with_order : Ordered → ℕ → ℕ → Ordered
with_order o i j = record { times = with_time (with_time o.times i) j; pairs = o.pairs ++ (i, j) ∷ [] }
