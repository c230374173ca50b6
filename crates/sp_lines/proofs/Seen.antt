-- A text that is put among others stands there once, and is new exactly where it isn't listed.
use Rattle.std.proofs.Common.{◌≡◌, Bool, true, false, not, ◌||◌, if◌then◌else◌, List, [], ◌∷◌, ◌++◌, map, refl, ap, ap₂, ◌∙◌}
use Rattle.std.proofs.lemmas.List.{map-append}
use Rattle.std.proofs.lemmas.Cmp.{nat_list_eq_equiv}
use Rattle.std.specs.Prelude.{String, string_bytes}
use Rattle.std.specs.Str.{bytes_eq}
use Rattle.std.specs.List.{list_any}
use Rattle.indexmap.specs.IndexSet.{insert_key}
use Rattle.sp_spec.specs.Lists.{is_listed}
use Rattle.sp_spec.specs.Constants.{once_after}

module _ {A : Type 0} where
  listed : (k : String A) (ks : List (String A)) → list_any (λ y. bytes_eq (string_bytes k) (string_bytes y)) ks ≡ is_listed (string_bytes k) (map string_bytes ks)
  listed k [] = refl
  listed k (y ∷ ys) = ap₂ (λ (a b : Bool). a || b) (nat_list_eq_equiv.symm (string_bytes k) (string_bytes y)) (listed k ys)

  put : (b : Bool) (ks : List (String A)) (k : String A) → map string_bytes (if b then ks else ks ++ k ∷ []) ≡ (if b then map string_bytes ks else map string_bytes ks ++ string_bytes k ∷ [])
  put true ks k = refl
  put false ks k = map-append string_bytes ks (k ∷ [])

  pub seen_once : (ks ns : List (String A)) (k : String A) → ns ≡ insert_key (λ x y. bytes_eq (string_bytes x) (string_bytes y)) ks k
      → map string_bytes ns ≡ once_after (map string_bytes ks) (string_bytes k ∷ [])
  seen_once ks ns k e =
      ap (map string_bytes) e ∙ put (list_any (λ y. bytes_eq (string_bytes k) (string_bytes y)) ks) ks k
      ∙ ap (λ (b : Bool). if b then map string_bytes ks else map string_bytes ks ++ string_bytes k ∷ []) (listed k ks)

  pub new_text : (b : Bool) (ks : List (String A)) (k : String A) → b ≡ not (list_any (λ y. bytes_eq (string_bytes k) (string_bytes y)) ks)
      → b ≡ not (is_listed (string_bytes k) (map string_bytes ks))
  new_text b ks k e = e ∙ ap not (listed k ks)
