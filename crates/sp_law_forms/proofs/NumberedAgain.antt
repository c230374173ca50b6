-- A form that is numbered again stays as it is.
use Rattle.std.proofs.Common.{◌≡◌, ℕ, suc, Bool, true, false, not, cond, List, [], ◌∷◌, ◌++◌, map, length, refl, sym, ap, ap₂, ◌∙◌}
use Rattle.std.proofs.lemmas.List.{map-append, length-map}
use Rattle.std.specs.List.{filter}
use Rattle.sp_spec.specs.Lists.{Member, Every}
use Rattle.sp_spec.specs.Term.{Variable, Term, var, Terms, valued_all, in_terms, EachVariables}
use Rattle.sp_spec.specs.Same.{same_variable}
use Rattle.sp_spec.specs.Rule.{Facts, facts_at, occurrences}
use Rattle.sp_spec.proofs.Lists.{every_from, every_member, every_parts, every_weaken}
use Rattle.sp_spec.proofs.Bools.{same_tests}
use Rattle.sp_spec.proofs.Occurrences.{occurrences_each, terms_each}
use Rattle.sp_spec.proofs.Same.{same_variable_decides}
use Rattle.sp_spec.proofs.Values.{valued_all-valued_all}
use Rattle.sp_spec_forms.specs.Numbering.{Form, without_repeats, seen, place, renumbered, numbered}
use Rattle.sp_law_forms.proofs.Repeats.{member_once}
use Rattle.sp_law_forms.proofs.Facts.{SameArgs, same_facts_at, after, facts_after, arguments_weaken}
use Rattle.sp_law_forms.proofs.Numbered.{back, back_place, each_once, same_valued_all}
use Rattle.sp_law_forms.proofs.Renamed.{in_terms_renamed, occurrences_renamed}

abbrev once : List Variable → List Variable
once xs = without_repeats same_variable xs

-- variables that stay apart when they are renamed
module _ (all : List Variable) (r : Variable → Variable) (apart : (x y : Variable) → Member x all → Member y all → r x ≡ r y → x ≡ y) where
  abbrev Among : Variable → Type 0
  Among x = Member x all

  same_among : (x y : Variable) → Among x → Among y → same_variable (r x) (r y) ≡ same_variable x y
  same_among x y m k =
      same_tests (same_variable (r x) (r y)) (same_variable x y)
      (λ e. (same_variable_decides x y).1 (apart x y m k ((same_variable_decides (r x) (r y)).0 e)))
      (λ e. (same_variable_decides (r x) (r y)).1 (ap r ((same_variable_decides x y).0 e)))

  others_renamed : (x : Variable) → Among x → (ys : List Variable) → Every Among ys
      → filter (λ y. not (same_variable (r x) y)) (map r ys) ≡ map r (filter (λ y. not (same_variable x y)) ys)
  others_renamed x m [] h = refl
  others_renamed x m (y ∷ ys) h =
      ap₂ (λ b zs. cond (not b) (r y ∷ zs) zs) (same_among x y m h.0) (others_renamed x m ys h.1)
      ∙ at (same_variable x y) (filter (λ z. not (same_variable x z)) ys)
    where
      at : (b : Bool) (zs : List Variable) → cond (not b) (r y ∷ map r zs) (map r zs) ≡ map r (cond (not b) (y ∷ zs) zs)
      at true zs = refl
      at false zs = refl

  pub once_renamed : (xs : List Variable) → Every Among xs → once (map r xs) ≡ map r (once xs)
  once_renamed [] h = refl
  once_renamed (x ∷ xs) h =
      ap (λ zs. r x ∷ filter (λ y. not (same_variable (r x) y)) zs) (once_renamed xs h.1)
      ∙ ap (λ zs. r x ∷ zs)
      (others_renamed x h.0 (once xs) (every_from Among (once xs) (λ y m. every_member Among xs y (member_once same_variable y xs m) h.1)))

  pub place_renamed : (x : Variable) → Among x → (ys : List Variable) → Every Among ys → place (map r ys) (r x) ≡ place ys x
  place_renamed x m [] h = refl
  place_renamed x m (y ∷ ys) h = ap₂ (λ b n. cond b 0 (suc n)) (same_among y x h.0 m) (place_renamed x m ys h.1)

-- as it is numbered, a variable is told by its sort and place
abbrev pub at_place : List Variable → Variable → Variable
at_place xs x = record { sort = x.sort; number = place xs x }

at_places_apart : (xs : List Variable) (x y : Variable) → Member x xs → Member y xs → at_place xs x ≡ at_place xs y → x ≡ y
at_places_apart xs x y m k e =
    sym (back_place xs x x m refl)
    ∙ ap (λ (z : Variable). back xs x z.number) e
    ∙ back_place xs y x k (ap (λ (z : Variable). z.sort) e)

module _ (f : Facts Variable) (kept : Terms Variable) where
  abbrev xs : List Variable
  xs = seen f kept

  abbrev r : Variable → Variable
  r = at_place xs

  abbrev all : List Variable
  all = occurrences f ++ in_terms kept

  abbrev In : Variable → Type 0
  In x = Member x xs

  all_in : Every In all
  all_in = each_once all

  facts_in : Every In (occurrences f)
  facts_in = (every_parts In (occurrences f) (in_terms kept) all_in).0

  kept_in : Every In (in_terms kept)
  kept_in = (every_parts In (occurrences f) (in_terms kept) all_in).1

  once_facts : once (occurrences (numbered f kept).facts) ≡ map r (once (occurrences f))
  once_facts = ap once (occurrences_renamed r f) ∙ once_renamed xs r (at_places_apart xs) (occurrences f) facts_in

  seen_again : seen (numbered f kept).facts (numbered f kept).kept ≡ map r xs
  seen_again =
      ap once (ap₂ (λ ys zs. ys ++ zs) (occurrences_renamed r f) (in_terms_renamed r kept) ∙ sym (map-append r (occurrences f) (in_terms kept)))
      ∙ once_renamed xs r (at_places_apart xs) all all_in

  -- each variable has the place that it had
  abbrev ys : List Variable
  ys = seen (numbered f kept).facts (numbered f kept).kept

  abbrev IsAsBefore : Variable → Type 0
  IsAsBefore x = after (renumbered ys) (renumbered xs) x ≡ renumbered xs x

  placed_again : (x : Variable) → In x → IsAsBefore x
  placed_again x m =
      let made : ℕ → Term Variable = λ n. var (record { sort = x.sort; number = n }) in
      ap made (ap (λ zs. place zs (r x)) seen_again ∙ place_renamed xs r (at_places_apart xs) x m xs (every_from In xs (λ y k. k)))

  facts_again : facts_at (renumbered ys) (numbered f kept).facts ≡ (numbered f kept).facts
  facts_again =
      let twice = after (renumbered ys) (renumbered xs) in
      facts_after (renumbered ys) (renumbered xs) f
      ∙ same_facts_at twice (renumbered xs) f
      (arguments_weaken (EachVariables IsAsBefore) (SameArgs twice (renumbered xs)) (same_valued_all twice (renumbered xs)) f
      (occurrences_each IsAsBefore f (every_weaken In IsAsBefore placed_again (occurrences f) facts_in)))

  kept_again : valued_all (renumbered ys) (numbered f kept).kept ≡ (numbered f kept).kept
  kept_again =
      let twice = after (renumbered ys) (renumbered xs) in
      valued_all-valued_all (renumbered xs) (renumbered ys) kept
      ∙ same_valued_all twice (renumbered xs) kept (terms_each IsAsBefore kept (every_weaken In IsAsBefore placed_again (in_terms kept) kept_in))

  count_again : length (once (occurrences (numbered f kept).facts)) ≡ (numbered f kept).count
  count_again = ap length once_facts ∙ length-map (once (occurrences f)) r

  pub numbered_again : numbered (numbered f kept).facts (numbered f kept).kept ≡ numbered f kept
  numbered_again =
      let made : Facts Variable → ℕ → Terms Variable → Form = λ g n ts. record { facts = g; count = n; kept = ts } in
      ap (λ (g : Facts Variable). made g (length (once (occurrences (numbered f kept).facts))) (valued_all (renumbered ys) (numbered f kept).kept)) facts_again
      ∙ ap₂ (made (numbered f kept).facts) count_again kept_again
