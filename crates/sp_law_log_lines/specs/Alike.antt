-- Entries of logs that are the same as far as their lines go: sources of premises and chains aside. Source: CSF 2012, "Normal message deduction" (dependency graphs without their
-- edges).
use Rattle.std.specs.Prelude.{◌≡◌, List, [], ◌∷◌}
use Rattle.sp_spec.specs.Log.{Entry, step, send, learn}
use Rattle.sp_spec_log_lines.specs.Line.{way_of}

-- steps of one rule with the same facts, the same message sent, the same message learnt in the same way
abbrev pub IsAlike : Entry → Entry → Type 0
IsAlike (step r facts sources) (step q others from) = (r ≡ q) × (facts ≡ others)
IsAlike (send m) (send n) = m ≡ n
IsAlike (learn m how) (learn n other) = (m ≡ n) × (way_of how ≡ way_of other)
IsAlike e f = ⊥

-- one by one
abbrev pub AreAlike : List Entry → List Entry → Type 0
AreAlike [] [] = Unit {0}
AreAlike (e ∷ es) (f ∷ fs) = IsAlike e f × AreAlike es fs
AreAlike es fs = ⊥
