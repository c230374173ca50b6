-- Constants in groups: those that are the same in lower case.
use Rattle.std.specs.Prelude.{◌≡◌, ℕ, List, [], Option, None, Some, String, Vec, string_bytes, string_eq, filter}
use denote.Ref.{Bor}
use Rattle.std.specs.Str.{bytes_eq, str_to_ascii_lowercase}
use Rattle.indexmap.specs.IndexMap.{IndexMap, get}
use Rattle.sp_declared.specs.View as declared

-- those of these constants that are this in lower case
abbrev pub in_group : List ℕ → List (List ℕ) → List (List ℕ)
in_group lower constants = filter (λ c. bytes_eq (str_to_ascii_lowercase c) lower) constants

abbrev pub group_at : {A : Type 0} → Option (Vec (Bor (List ℕ)) A) → List (List ℕ)
group_at None = []
group_at (Some group) = declared.texts_of group.items

-- the map has the groups of these constants
abbrev pub Grouped : {A B S : Type 0} → IndexMap (String A) (Vec (Bor (List ℕ)) B) S → List (List ℕ) → Type 0
Grouped {A = A} groups constants = (lower : String A) → group_at (get string_eq groups lower) ≡ in_group (string_bytes lower) constants
