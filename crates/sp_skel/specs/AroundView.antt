-- The names of cases that are still to come, as they are kept in memory.
use Rattle.std.specs.Prelude.{ℕ, List, map, reverse, string_bytes}
use denote.Ref.{Bor}
use Rattle.std.specs.declared.string.String.{String}
use Rattle.std.specs.declared.alloc.Global.{Global}

-- the innermost first, which is the last in memory
abbrev pub around_of : List (Bor (List (String Global))) → List (List (List ℕ))
around_of around = reverse (map (λ (names : Bor (List (String Global))). map string_bytes names.now) around)
