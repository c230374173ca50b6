-- The first two elements of a list of which a test holds, as a loop looks for them; what is in memory stands for what is tested.
use Rattle.std.proofs.Common.{◌≡◌, ◌<◌, ◌≤◌, ◌||◌, ℕ, ◌+◌, List, [], ◌∷◌, drop, length, map, Bool, true, false, if◌then◌else◌, Option, Some, None, option_map, is_some, refl, sym, ap, ◌∙◌, slice_index_or}
use Rattle.std.proofs.lemmas.List.{drop_more, drop_all}
use Rattle.sp_spec_system.specs.Picked.{first_with, first_two, some_with, some_two}
use Rattle.std.specs.Option.{option_or}

-- where the test holds with no element, none is found
pub none_with : {S : Type 0} (test : S → S → Bool) (l : S) → ((m : S) → test l m ≡ false) → (ls : List S) → first_with test l ls ≡ None
none_with test l apart [] = refl
none_with test l apart (m ∷ ms) = ap (λ b. if b then Some (l, m) else first_with test l ms) (apart m) ∙ none_with test l apart ms

pub none_some : {S : Type 0} (test : S → S → Bool) (l : S) → ((m : S) → test l m ≡ false) → (ls : List S) → some_with test l ls ≡ false
none_some test l apart [] = refl
none_some test l apart (m ∷ ms) = ap (λ b. b || some_with test l ms) (apart m) ∙ none_some test l apart ms

module _ {M S : Type 0} (of : M → S) (test : S → S → Bool) where
  -- what is left of the search from i on
  abbrev pub with_left : S → List M → ℕ → Option (S × S)
  with_left l ls i = first_with test l (map of (drop i ls))

  abbrev pub two_left : List M → ℕ → Option (S × S)
  two_left ls i = first_two test (map of (drop i ls))

  first_next : (l : S) (ls : List M) (i : ℕ) (m : M) → i < length ls → m ≡ slice_index_or ls i m
      → with_left l ls i ≡ (if test l (of m) then Some (l, of m) else with_left l ls (i + 1))
  first_next l ls i m h is =
      ap (λ (ms : List M). first_with test l (map of ms)) (drop_more ls i m h)
      ∙ ap (λ (n : M). first_with test l (of n ∷ map of (drop (i + 1) ls))) (sym is)

  pub first_more : (l : S) (ls : List M) (i : ℕ) (m : M) → i < length ls → m ≡ slice_index_or ls i m → test l (of m) ≡ false → with_left l ls i ≡ with_left l ls (i + 1)
  first_more l ls i m h is apart = first_next l ls i m h is ∙ ap (λ b. if b then Some (l, of m) else with_left l ls (i + 1)) apart

  pub first_found : (l : S) (ls : List M) (i : ℕ) (m : M) → i < length ls → m ≡ slice_index_or ls i m → test l (of m) ≡ true → with_left l ls i ≡ Some (l, of m)
  first_found l ls i m h is found = first_next l ls i m h is ∙ ap (λ b. if b then Some (l, of m) else with_left l ls (i + 1)) found

  pub first_nothing : (l : S) (ls : List M) (i : ℕ) → length ls ≤ i → with_left l ls i ≡ None
  first_nothing l ls i h = ap (λ (ms : List M). first_with test l (map of ms)) (drop_all i ls h)

  pair_next : (ls : List M) (i : ℕ) (m : M) → i < length ls → m ≡ slice_index_or ls i m → two_left ls i ≡ option_or (with_left (of m) ls (i + 1)) (two_left ls (i + 1))
  pair_next ls i m h is =
      ap (λ (ms : List M). first_two test (map of ms)) (drop_more ls i m h)
      ∙ ap (λ (n : M). option_or (with_left (of n) ls (i + 1)) (two_left ls (i + 1))) (sym is)

  pub pair_more : (ls : List M) (i : ℕ) (m : M) → i < length ls → m ≡ slice_index_or ls i m → None ≡ with_left (of m) ls (i + 1) → two_left ls i ≡ two_left ls (i + 1)
  pair_more ls i m h is e = pair_next ls i m h is ∙ ap (λ (o : Option (S × S)). option_or o (two_left ls (i + 1))) (sym e)

  pub pair_found : (ls : List M) (i : ℕ) (m : M) (p : S × S) → i < length ls → m ≡ slice_index_or ls i m → Some p ≡ with_left (of m) ls (i + 1) → two_left ls i ≡ Some p
  pair_found ls i m p h is e = pair_next ls i m h is ∙ ap (λ (o : Option (S × S)). option_or o (two_left ls (i + 1))) (sym e)

  pub pair_nothing : (ls : List M) (i : ℕ) → length ls ≤ i → two_left ls i ≡ None
  pair_nothing ls i h = ap (λ (ms : List M). first_two test (map of ms)) (drop_all i ls h)

  -- the same where it is asked for only whether there are two
  some_next : (l : S) (ls : List M) (i : ℕ) (m : M) → i < length ls → m ≡ slice_index_or ls i m
      → some_with test l (map of (drop i ls)) ≡ (test l (of m) || some_with test l (map of (drop (i + 1) ls)))
  some_next l ls i m h is =
      ap (λ (ms : List M). some_with test l (map of ms)) (drop_more ls i m h)
      ∙ ap (λ (n : M). test l (of n) || some_with test l (map of (drop (i + 1) ls))) (sym is)

  pub some_more : (l : S) (ls : List M) (i : ℕ) (m : M) → i < length ls → m ≡ slice_index_or ls i m → test l (of m) ≡ false
      → some_with test l (map of (drop i ls)) ≡ some_with test l (map of (drop (i + 1) ls))
  some_more l ls i m h is apart = some_next l ls i m h is ∙ ap (λ b. b || some_with test l (map of (drop (i + 1) ls))) apart

  pub some_found : (l : S) (ls : List M) (i : ℕ) (m : M) → i < length ls → m ≡ slice_index_or ls i m → test l (of m) ≡ true → some_with test l (map of (drop i ls)) ≡ true
  some_found l ls i m h is found = some_next l ls i m h is ∙ ap (λ b. b || some_with test l (map of (drop (i + 1) ls))) found

  pub some_nothing : (l : S) (ls : List M) (i : ℕ) → length ls ≤ i → some_with test l (map of (drop i ls)) ≡ false
  some_nothing l ls i h = ap (λ (ms : List M). some_with test l (map of ms)) (drop_all i ls h)

  two_next : (ls : List M) (i : ℕ) (m : M) → i < length ls → m ≡ slice_index_or ls i m
      → some_two test (map of (drop i ls)) ≡ (some_with test (of m) (map of (drop (i + 1) ls)) || some_two test (map of (drop (i + 1) ls)))
  two_next ls i m h is =
      ap (λ (ms : List M). some_two test (map of ms)) (drop_more ls i m h)
      ∙ ap (λ (n : M). some_with test (of n) (map of (drop (i + 1) ls)) || some_two test (map of (drop (i + 1) ls))) (sym is)

  pub two_more : (ls : List M) (i : ℕ) (m : M) → i < length ls → m ≡ slice_index_or ls i m → some_with test (of m) (map of (drop (i + 1) ls)) ≡ false
      → some_two test (map of (drop i ls)) ≡ some_two test (map of (drop (i + 1) ls))
  two_more ls i m h is apart = two_next ls i m h is ∙ ap (λ b. b || some_two test (map of (drop (i + 1) ls))) apart

  pub two_found : (ls : List M) (i : ℕ) (m : M) → i < length ls → m ≡ slice_index_or ls i m → some_with test (of m) (map of (drop (i + 1) ls)) ≡ true
      → some_two test (map of (drop i ls)) ≡ true
  two_found ls i m h is found = two_next ls i m h is ∙ ap (λ b. b || some_two test (map of (drop (i + 1) ls))) found

  pub two_nothing : (ls : List M) (i : ℕ) → length ls ≤ i → some_two test (map of (drop i ls)) ≡ false
  two_nothing ls i h = ap (λ (ms : List M). some_two test (map of ms)) (drop_all i ls h)

  found_with : (l : S) (ls : List S) → is_some (first_with test l ls) ≡ some_with test l ls
  found_with l [] = refl
  found_with l (m ∷ ms) = at (test l m) (found_with l ms)
    where
      at : (b : Bool) → is_some (first_with test l ms) ≡ some_with test l ms → is_some (if b then Some (l, m) else first_with test l ms) ≡ (b || some_with test l ms)
      at true h = refl
      at false h = h

  pub found_two : (ls : List S) → is_some (first_two test ls) ≡ some_two test ls
  found_two [] = refl
  found_two (l ∷ ls) = at (first_with test l ls) (found_with l ls) (found_two ls)
    where
      at : (o : Option (S × S)) → is_some o ≡ some_with test l ls → is_some (first_two test ls) ≡ some_two test ls
          → is_some (option_or o (first_two test ls)) ≡ (some_with test l ls || some_two test ls)
      at None h k = k ∙ ap (λ b. b || some_two test ls) h
      at (Some p) h k = ap (λ b. b || some_two test ls) h

  -- what two in memory stand for
  abbrev both : M × M → S × S
  both p = (of p.0, of p.1)

  pub two_seen : (ls : List S) (o : Option (M × M)) → option_map both o ≡ first_two test ls → is_some o ≡ some_two test ls
  two_seen ls o e = seen o ∙ ap is_some e ∙ found_two ls
    where
      seen : (p : Option (M × M)) → is_some p ≡ is_some (option_map both p)
      seen None = refl
      seen (Some q) = refl
