-- Constants that differ in case only stand in one group.
use Rattle.std.proofs.Common.{◌≡◌, ℕ, Bool, true, false, not, ◌&&◌, cond, List, [], ◌∷◌, ◌++◌, Option, Some, None, refl, sym, ap, ◌∙◌}
use denote.Ref.{Bor}
use Rattle.std.proofs.lemmas.List.{append-nil}
use Rattle.std.proofs.lemmas.List.Elements.{filter-append}
use Rattle.std.proofs.lemmas.Slice.Eq.{bytes_eq-Decides}
use Rattle.std.specs.Prelude.{String, Vec, string_bytes, string_eq}
use Rattle.std.specs.Str.{bytes_eq, str_to_ascii_lowercase}
use Rattle.indexmap.specs.IndexMap.{IndexMap, get, IsEmpty, UpdatesBy, Updates, with_entries}
use Rattle.sp_declared.specs.View as declared
use Rattle.sp_warn.specs.Warning.{alike, told}
use Rattle.sp_warn.specs.Constants.{differ_in_case, alike_before}
use Rattle.sp_warn.specs.Groups.{in_group, group_at, Grouped}

at : (b : Bool) (c x : List ℕ) (kept xs : List (List ℕ)) → bytes_eq (str_to_ascii_lowercase x) (str_to_ascii_lowercase c) ≡ b → alike_before kept c ≡ alike_before xs c
    → alike_before (cond b (x ∷ kept) kept) c ≡ alike_before (x ∷ xs) c
at true c x kept xs e rest = ap (told (differ_in_case x c) (alike x c)) rest
at false c x kept xs e rest = rest ∙ sym (ap (λ (b : Bool). told (b && not (bytes_eq x c)) (alike x c) (alike_before xs c)) e)

-- a constant differs in case only from those of its group
pub in_its_group : (c : List ℕ) (xs : List (List ℕ)) → alike_before (in_group (str_to_ascii_lowercase c) xs) c ≡ alike_before xs c
in_its_group c [] = refl
in_its_group c (x ∷ xs) =
    at (bytes_eq (str_to_ascii_lowercase x) (str_to_ascii_lowercase c)) c x (in_group (str_to_ascii_lowercase c) xs) xs refl (in_its_group c xs)

-- one more constant
joins : (b : Bool) (k c : List ℕ) (xs : List (List ℕ)) → bytes_eq (str_to_ascii_lowercase c) k ≡ b → in_group k (xs ++ c ∷ []) ≡ in_group k xs ++ cond b (c ∷ []) []
joins b k c xs e =
    filter-append (λ x. bytes_eq (str_to_ascii_lowercase x) k) xs (c ∷ []) ∙ ap (λ (t : Bool). in_group k xs ++ cond t (c ∷ []) []) e

module _ {B : Type 0} where
  grouped_at : (b : Bool) (l k c : List ℕ) (xs old : List (List ℕ)) (group : Vec (Bor (List ℕ)) B) (rest kept : Option (Vec (Bor (List ℕ)) B)) → bytes_eq l k ≡ b → l ≡ str_to_ascii_lowercase c
      → rest ≡ cond b None kept → old ≡ in_group l xs → declared.texts_of group.items ≡ old ++ c ∷ [] → group_at kept ≡ in_group k xs
      → group_at (cond b (Some group) rest) ≡ in_group k (xs ++ c ∷ [])
  grouped_at true l k c xs old group rest kept e lower gone is more so =
      let same : l ≡ k = (bytes_eq-Decides l k).0 e in
      more ∙ ap (λ (ys : List (List ℕ)). ys ++ c ∷ []) (is ∙ ap (λ (j : List ℕ). in_group j xs) same)
      ∙ sym (joins true k c xs (ap (λ (j : List ℕ). bytes_eq j k) (sym lower) ∙ e))
  grouped_at false l k c xs old group rest kept e lower gone is more so =
      ap group_at gone ∙ so ∙ sym (joins false k c xs (ap (λ (j : List ℕ). bytes_eq j k) (sym lower) ∙ e) ∙ append-nil (in_group k xs))

  pub grouped_more : {A S : Type 0} (m n o : IndexMap (String A) (Vec (Bor (List ℕ)) B) S) (c : List ℕ) (xs : List (List ℕ)) (lower : String A) (group : Vec (Bor (List ℕ)) B)
      → Grouped m xs → string_bytes lower ≡ str_to_ascii_lowercase c → UpdatesBy string_eq (string_eq lower) m n None → Updates string_eq n o lower (Some group)
      → declared.texts_of group.items ≡ group_at (get string_eq m lower) ++ c ∷ [] → Grouped o (xs ++ c ∷ [])
  grouped_more m n o c xs lower group so is taken put more k =
      ap group_at (put.0 k)
      ∙ grouped_at (string_eq lower k) (string_bytes lower) (string_bytes k) c xs (group_at (get string_eq m lower)) group (get string_eq n k) (get string_eq m k)
      refl is (taken.0 k) (so lower) more (so k)

  pub grouped_nothing : {A S : Type 0} (m : IndexMap (String A) (Vec (Bor (List ℕ)) B) S) → IsEmpty m → Grouped m []
  grouped_nothing m empty k = ap (λ es. group_at (get string_eq (with_entries m es) k)) empty
