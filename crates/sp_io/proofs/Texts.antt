-- A map from texts to bytes, and the list of pairs that it is seen as.
use Rattle.std.proofs.Common.{◌≡◌, ℕ, Bool, true, false, cond, List, [], ◌∷◌, Option, Some, String, map, string_bytes, bytes_eq, refl, ap, sym, ◌∙◌}
use Rattle.std.specs.Prelude.{if◌then◌else◌, option_map}
use Rattle.std.specs.String.{string_cmp}
use Rattle.std.specs.BTreeMap.{BTreeMap, Updates, get_by_text}
use Rattle.std.specs.Map.{lookup}
use Rattle.std.specs.Ordering.{is_eq, nat_cmp}
use Rattle.std.specs.Cmp.Lexicographic.{slice_cmp}
use Rattle.std.proofs.lemmas.Map.Text.{is_eq-slice_cmp, btree_map_updates_text}

option_map-cond : {X Y : Type 0} (f : X → Y) (b : Bool) (x : X) (rest : Option X) → cond b (Some (f x)) (option_map f rest) ≡ option_map f (cond b (Some x) rest)
option_map-cond f true x rest = refl
option_map-cond f false x rest = refl

module _ {A X : Type 0} (bytes_of : X → List ℕ) where
  abbrev pub pairs : List (String A × X) → List (List ℕ × List ℕ)
  pairs entries = map (λ entry. (string_bytes entry.0, bytes_of entry.1)) entries

  -- the pairs have under each name what the map has
  pub lookup-pairs : (entries : List (String A × X)) (name : List ℕ)
      → lookup (λ key. bytes_eq name key) (pairs entries) ≡ option_map bytes_of (lookup (λ key. is_eq (slice_cmp nat_cmp name (string_bytes key))) entries)
  lookup-pairs [] name = refl
  lookup-pairs (entry ∷ entries) name =
      rw (is_eq-slice_cmp name (string_bytes entry.0), lookup-pairs entries name) (option_map-cond bytes_of (bytes_eq name (string_bytes entry.0)) entry.1 _)

  -- what the pairs have after an insertion
  pub lookup-pairs-updates : (old new : BTreeMap (String A) X) (key : String A) (value : X) → Updates string_cmp old new key (Some value) → (name : List ℕ)
      → lookup (λ k. bytes_eq name k) (pairs new.entries) ≡ (if bytes_eq (string_bytes key) name then Some (bytes_of value) else lookup (λ k. bytes_eq name k) (pairs old.entries))
  lookup-pairs-updates old new key value updates name =
      lookup-pairs new.entries name ∙ ap (λ (o : Option X). option_map bytes_of o) (btree_map_updates_text (string_bytes key) old new (Some value) updates name)
      ∙ sym (option_map-cond bytes_of (bytes_eq (string_bytes key) name) value (get_by_text old name)) ∙ rw (lookup-pairs old.entries name) refl
