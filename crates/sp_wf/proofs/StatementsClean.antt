-- What is told of restrictions and lemmas, seen alike and each by itself: of their formulas, of what restrictions name, of attributes of lemmas.
use Rattle.std.proofs.Common.{◌≡◌, ℕ, true, false, List, [], ◌∷◌, map, refl, sym, subst}
use Rattle.std.specs.List.{flat_map}
use Rattle.sp_spec.specs.Lists.{Every}
use Rattle.sp_spec.specs.Theory.{Restriction, Lemma}
use Rattle.sp_spec.specs.Verdict.{names_learning}
use Rattle.sp_spec.specs.Signature.{Symbol}
use Rattle.sp_spec.proofs.Lists.{every_append, every_parts}
use Rattle.sp_spec_text.specs.Written.{Attribute, reused, of_sources, by_induction, hiding, ranked_by, unknown, Item, builtins_item, functions_item, equations_item, heuristic_item, block_item, rule_item, restriction_item, lemma_item, item_attributes, restrictions_in, lemmas_in}
use Rattle.sp_spec_text.specs.Declared.{resolved_item}
use Rattle.sp_finding.specs.Finding.{restricts_learning, are_none}
use Rattle.sp_finding.proofs.Nothing.{none_parts, none_both, none_told, told_none}
use Rattle.sp_wf_formulas.specs.Statements.{as_lemma, statements_in}
use Rattle.sp_wf.specs.ItemFindings.{learning_in_item, left_out_by, left_out_of, attributes_in_item}
use Rattle.sp_wf.specs.Laws.{IsKnown}
use Rattle.sp_wf.proofs.ItemsClean.{Clean, kept_by}

-- ---- restrictions, and lemmas

module _ (P : Lemma → Type 0) where
  abbrev OfRestriction : Restriction → Type 0
  OfRestriction r = P (as_lemma r)

  pub each_kind : (xs : List Item) → Every P (statements_in xs) → Every OfRestriction (restrictions_in xs) × Every P (lemmas_in xs)
  each_kind [] h = (tt, tt)
  each_kind (builtins_item bs ∷ xs) h = each_kind xs h
  each_kind (functions_item ss ∷ xs) h = each_kind xs h
  each_kind (equations_item es ∷ xs) h = each_kind xs h
  each_kind (heuristic_item ws ∷ xs) h = each_kind xs h
  each_kind (block_item w ∷ xs) h = each_kind xs h
  each_kind (rule_item bs r ∷ xs) h = each_kind xs h
  each_kind (restriction_item r ∷ xs) h = let k = each_kind xs h.1 in ((h.0, k.0), k.1)
  each_kind (lemma_item l as' p ∷ xs) h = let k = each_kind xs h.1 in (k.0, (h.0, k.1))

  pub both_kinds : (xs : List Item) → Every OfRestriction (restrictions_in xs) → Every P (lemmas_in xs) → Every P (statements_in xs)
  both_kinds [] h k = tt
  both_kinds (builtins_item bs ∷ xs) h k = both_kinds xs h k
  both_kinds (functions_item ss ∷ xs) h k = both_kinds xs h k
  both_kinds (equations_item es ∷ xs) h k = both_kinds xs h k
  both_kinds (heuristic_item ws ∷ xs) h k = both_kinds xs h k
  both_kinds (block_item w ∷ xs) h k = both_kinds xs h k
  both_kinds (rule_item bs r ∷ xs) h k = both_kinds xs h k
  both_kinds (restriction_item r ∷ xs) h k = (h.0, both_kinds xs h.1 k)
  both_kinds (lemma_item l as' p ∷ xs) h k = (k.0, both_kinds xs h k.1)

-- ---- restrictions that don't name the action of learning

abbrev pub IsSilent : Restriction → Type 0
IsSilent r = names_learning r.formula ≡ false

pub all_silent : (xs : List Item) → Every (Clean learning_in_item) xs → Every IsSilent (restrictions_in xs)
all_silent [] h = tt
all_silent (builtins_item bs ∷ xs) h = all_silent xs h.1
all_silent (functions_item ss ∷ xs) h = all_silent xs h.1
all_silent (equations_item es ∷ xs) h = all_silent xs h.1
all_silent (heuristic_item ws ∷ xs) h = all_silent xs h.1
all_silent (block_item w ∷ xs) h = all_silent xs h.1
all_silent (rule_item bs r ∷ xs) h = all_silent xs h.1
all_silent (restriction_item r ∷ xs) h = ((none_told (names_learning r.formula) (restricts_learning r.name) [] h.0).0, all_silent xs h.1)
all_silent (lemma_item l as' p ∷ xs) h = all_silent xs h.1

pub silent_clean : (xs : List Item) → Every IsSilent (restrictions_in xs) → Every (Clean learning_in_item) xs
silent_clean [] h = tt
silent_clean (builtins_item bs ∷ xs) h = (refl, silent_clean xs h)
silent_clean (functions_item ss ∷ xs) h = (refl, silent_clean xs h)
silent_clean (equations_item es ∷ xs) h = (refl, silent_clean xs h)
silent_clean (heuristic_item ws ∷ xs) h = (refl, silent_clean xs h)
silent_clean (block_item w ∷ xs) h = (refl, silent_clean xs h)
silent_clean (rule_item bs r ∷ xs) h = (refl, silent_clean xs h)
silent_clean (restriction_item r ∷ xs) h = (told_none (names_learning r.formula) (restricts_learning r.name) [] h.0 refl, silent_clean xs h.1)
silent_clean (lemma_item l as' p ∷ xs) h = (refl, silent_clean xs h)

-- ---- attributes that are known

known_by : (n : List ℕ) (a : Attribute) → are_none (left_out_by n a) ≡ true → IsKnown a
known_by n reused e = tt
known_by n of_sources e = tt
known_by n by_induction e = tt
known_by n (hiding w) e = tt
known_by n (ranked_by w) e = tt
known_by n (unknown w) e = absurd cc

by_known : (n : List ℕ) (a : Attribute) → IsKnown a → are_none (left_out_by n a) ≡ true
by_known n reused h = refl
by_known n of_sources h = refl
by_known n by_induction h = refl
by_known n (hiding w) h = refl
by_known n (ranked_by w) h = refl
by_known n (unknown w) h = absurd h

of_lemma : (n : List ℕ) (as' : List Attribute) → are_none (left_out_of n as') ≡ true → Every IsKnown as'
of_lemma n [] e = tt
of_lemma n (a ∷ as') e = let k = none_parts (left_out_by n a) (left_out_of n as') e in (known_by n a k.0, of_lemma n as' k.1)

lemma_of : (n : List ℕ) (as' : List Attribute) → Every IsKnown as' → are_none (left_out_of n as') ≡ true
lemma_of n [] h = refl
lemma_of n (a ∷ as') h = none_both (left_out_by n a) (left_out_of n as') (by_known n a h.0) (lemma_of n as' h.1)

abbrev attributes_of : List Item → List Attribute
attributes_of xs = flat_map item_attributes xs

all_attributes : (xs : List Item) → Every (Clean attributes_in_item) xs → Every IsKnown (attributes_of xs)
all_attributes [] h = tt
all_attributes (builtins_item bs ∷ xs) h = all_attributes xs h.1
all_attributes (functions_item ss ∷ xs) h = all_attributes xs h.1
all_attributes (equations_item es ∷ xs) h = all_attributes xs h.1
all_attributes (heuristic_item ws ∷ xs) h = all_attributes xs h.1
all_attributes (block_item w ∷ xs) h = all_attributes xs h.1
all_attributes (rule_item bs r ∷ xs) h = all_attributes xs h.1
all_attributes (restriction_item r ∷ xs) h = all_attributes xs h.1
all_attributes (lemma_item l as' p ∷ xs) h = every_append IsKnown as' (attributes_of xs) (of_lemma l.name as' h.0) (all_attributes xs h.1)

attributes_clean : (xs : List Item) → Every IsKnown (attributes_of xs) → Every (Clean attributes_in_item) xs
attributes_clean [] h = tt
attributes_clean (builtins_item bs ∷ xs) h = (refl, attributes_clean xs h)
attributes_clean (functions_item ss ∷ xs) h = (refl, attributes_clean xs h)
attributes_clean (equations_item es ∷ xs) h = (refl, attributes_clean xs h)
attributes_clean (heuristic_item ws ∷ xs) h = (refl, attributes_clean xs h)
attributes_clean (block_item w ∷ xs) h = (refl, attributes_clean xs h)
attributes_clean (rule_item bs r ∷ xs) h = (refl, attributes_clean xs h)
attributes_clean (restriction_item r ∷ xs) h = (refl, attributes_clean xs h)
attributes_clean (lemma_item l as' p ∷ xs) h = let k = every_parts IsKnown as' (attributes_of xs) h in (lemma_of l.name as' k.0, attributes_clean xs k.1)

-- what names stand for changes no attributes
same_attributes : (symbols : List Symbol) (x : Item) → item_attributes (resolved_item symbols x) ≡ item_attributes x
same_attributes symbols (builtins_item bs) = refl
same_attributes symbols (functions_item ss) = refl
same_attributes symbols (equations_item es) = refl
same_attributes symbols (heuristic_item ws) = refl
same_attributes symbols (block_item w) = refl
same_attributes symbols (rule_item bs r) = refl
same_attributes symbols (restriction_item r) = refl
same_attributes symbols (lemma_item l as' p) = refl

attributes_kept : (symbols : List Symbol) (xs : List Item) → attributes_of (map (resolved_item symbols) xs) ≡ attributes_of xs
attributes_kept symbols xs = kept_by item_attributes symbols (same_attributes symbols) xs

pub known_attributes : (symbols : List Symbol) (xs : List Item) → Every (Clean attributes_in_item) (map (resolved_item symbols) xs) → Every IsKnown (attributes_of xs)
known_attributes symbols xs h = subst (Every IsKnown) (attributes_kept symbols xs) (all_attributes (map (resolved_item symbols) xs) h)

pub attributes_known : (symbols : List Symbol) (xs : List Item) → Every IsKnown (attributes_of xs) → Every (Clean attributes_in_item) (map (resolved_item symbols) xs)
attributes_known symbols xs h = attributes_clean (map (resolved_item symbols) xs) (subst (Every IsKnown) (sym (attributes_kept symbols xs)) h)
