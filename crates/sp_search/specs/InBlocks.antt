-- Lists of nodes in blocks, side by side: the place of the first open leaf of the least class among them, and growth there.
use Rattle.std.specs.Prelude.{ℕ, suc, nat_lt, Bool, true, false, ◌||◌, List, [], ◌∷◌, ◌++◌, take, drop, Option, Some, None, if◌then◌else◌}
use Rattle.sp_spec_system.specs.Move.{Context}
use Rattle.sp_search.specs.Kinds.{Kind, open_leaf, end_at, choice}
use Rattle.sp_search.specs.Turning.{first_least, grown_at}

abbrev pub joined : List (List Kind) → List Kind
joined [] = []
joined (b ∷ bs) = b ++ joined bs

-- ---- whether the search ends

abbrev pub is_end : Kind → Bool
is_end (open_leaf s chosen depth) = false
is_end (end_at log) = true
is_end (choice move names) = false

abbrev pub ends : List Kind → Bool
ends [] = false
ends (n ∷ ns) = is_end n || ends ns

-- ---- the place: a block, a place in it and the class there

-- of two the first, unless the other has the lesser class
abbrev pub sooner_spot : Option (ℕ × ℕ × ℕ) → Option (ℕ × ℕ × ℕ) → Option (ℕ × ℕ × ℕ)
sooner_spot None later = later
sooner_spot (Some here) None = Some here
sooner_spot (Some here) (Some later) = if nat_lt later.2 here.2 then Some later else Some here

abbrev pub spot : ℕ → Option (ℕ × ℕ) → Option (ℕ × ℕ × ℕ)
spot block None = None
spot block (Some found) = Some (block, found.0, found.1)

abbrev pub first_spot : ℕ → List (List Kind) → Option (ℕ × ℕ × ℕ)
first_spot block [] = None
first_spot block (b ∷ bs) = sooner_spot (spot block (first_least 0 b)) (first_spot (suc block) bs)

-- ---- growth there

abbrev pub block_in_front : List (List Kind) → List Kind
block_in_front [] = []
block_in_front (b ∷ bs) = b

abbrev pub block_at : ℕ → List (List Kind) → List Kind
block_at block bs = block_in_front (drop block bs)

-- these nodes in place of a block's
abbrev pub with_block : ℕ → List Kind → List (List Kind) → List Kind
with_block block ns bs = joined (take block bs) ++ (ns ++ joined (drop (suc block) bs))

abbrev pub grown_in_block : Context → ℕ → ℕ → List (List Kind) → List Kind
grown_in_block context block place bs = with_block block (grown_at context place (block_at block bs)) bs
