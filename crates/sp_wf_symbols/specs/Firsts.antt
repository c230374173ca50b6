-- The first symbols of names, in a map.
use Rattle.std.specs.Prelude.{◌≡◌, ℕ, List, if◌then◌else◌, Option, Some, None, option_map}
use Rattle.std.specs.Str.{bytes_eq}
use Rattle.std.specs.List.{find}
use denote.Ref.{Bor}
use Rattle.indexmap.specs.IndexMap.{IndexMap, get_by}
use Rattle.sp_spec.specs.Signature.{Symbol}
use Rattle.sp_fact.specs.GroundView.{symbol_of}
use Rattle.sp_fact.specs.declared.signature.Symbol as memory

-- what the map has under a name
abbrev pub first_in : {S : Type 0} → IndexMap (Bor (List ℕ)) (Bor memory.Symbol) S → Bor (List ℕ) → Option Symbol
first_in firsts name = option_map (λ s. symbol_of s.now) (get_by (λ k. bytes_eq name.now k.now) firsts)

-- the symbol, if it has this name
abbrev pub if_named : List ℕ → Symbol → Option Symbol
if_named name s = if bytes_eq s.name name then Some s else None

-- the first of these that has this name
abbrev pub first_named : List ℕ → List Symbol → Option Symbol
first_named name symbols = find (λ s. bytes_eq s.name name) symbols

-- the map has the first symbol of each name that these have
abbrev pub KnowsFirsts : {S : Type 0} → IndexMap (Bor (List ℕ)) (Bor memory.Symbol) S → List Symbol → Type 0
KnowsFirsts firsts symbols = (name : Bor (List ℕ)) → first_in firsts name ≡ first_named name.now symbols
