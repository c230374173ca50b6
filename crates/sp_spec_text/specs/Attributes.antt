-- The words of attributes of lemmas, and of restrictions. Source: Tamarin manual, "Property specification" and "Advanced features".
use Rattle.std.specs.Prelude.{ℕ, Bool, ◌||◌, if◌then◌else◌, List, codes}
use Rattle.std.specs.Str.{bytes_eq}
use Rattle.sp_spec_text.specs.Written.{Attribute, reused, of_sources, by_induction, unknown}

-- the attribute that a word is by itself
unfoldable pub attribute_of : List ℕ → Attribute
attribute_of w =
    if bytes_eq w (codes "reuse") then reused
    else if bytes_eq w (codes "sources") || bytes_eq w (codes "typing") then of_sources
    else if bytes_eq w (codes "use_induction") then by_induction
    else unknown w

-- the words with which a restriction begins
unfoldable pub is_restriction : List ℕ → Bool
is_restriction w = bytes_eq w (codes "restriction") || bytes_eq w (codes "axiom")
