-- No left side matches a term in a form, and no two forms have the same facts.
use Rattle.std.proofs.Common.{◌≡◌, ℕ, Bool, true, false, not, cond, List, [], ◌∷◌, map, sym, ap, ◌∙◌, subst, true≢false}
use Rattle.std.proofs.lemmas.Bool.{and_parts}
use Rattle.std.specs.List.{filter, list_any}
use Rattle.sp_spec.specs.Lists.{Member, Distinct}
use Rattle.sp_spec.specs.Term.{Variable, Term, app, Terms, valued}
use Rattle.sp_spec.specs.Signature.{Equation}
use Rattle.sp_spec.specs.Rule.{Rule}
use Rattle.sp_spec.proofs.Lists.{every_member, member_mapped, member_map}
use Rattle.sp_law_equal.specs.Parts.{IsPartOfOne}
use Rattle.sp_law_equal.proofs.Parts.{part_of_one_keeps}
use Rattle.sp_spec_forms.proofs.Alike.{alike_facts_from}
use Rattle.sp_spec_forms.specs.Numbering.{Form, without_repeats}
use Rattle.sp_spec_forms.specs.Reducible.{args_of, is_matched, irreducible, irreducible_all}
use Rattle.sp_spec_forms.specs.Forms.{results, forms, is_normal_form, alike_form}
use Rattle.sp_law_forms.specs.Laws.{AreOverMessages, FormsAreProper}
use Rattle.sp_law_forms.proofs.Lists.{any_passes, all_from, member_passes, member_filtered}
use Rattle.sp_law_forms.proofs.Matched.{is_matched_from}
use Rattle.sp_law_forms.proofs.Results.{nothing_lost}
use Rattle.sp_law_forms.proofs.Proper.{form_normal, form_again, form_below}
use Rattle.sp_law_forms.proofs.Renamed.{numbered_same}

module _ (es : List Equation) (msg : AreOverMessages es) (rule : Rule) (form : Form) (m : Member form (forms es rule)) where
  module _ (ts : Terms Variable) (mem : Member ts (args_of form.facts)) (f : List ℕ) (us : Terms Variable) (part : IsPartOfOne (app f us) ts) where
    part_irreducible : irreducible es (app f us) ≡ true
    part_irreducible =
        part_of_one_keeps (λ u. irreducible es u ≡ true) (λ us. irreducible_all es us ≡ true)
        (λ g ws h. (and_parts (irreducible_all es ws) (not (list_any (is_matched (app g ws)) es)) h).0)
        (λ u ws h. (and_parts (irreducible es u) (irreducible_all es ws) h).0)
        (λ u ws h. (and_parts (irreducible es u) (irreducible_all es ws) h).1)
        (app f us) ts part
        (every_member (λ ws. irreducible_all es ws ≡ true) (args_of form.facts) ts mem
        (all_from (irreducible_all es) (args_of form.facts) (form_normal es rule form m)))

    none_matches : (e : Equation) → Member e es → (s : Variable → Term Variable) → valued s e.left ≡ app f us → ⊥
    none_matches e among s same =
        let none = (and_parts (irreducible_all es us) (not (list_any (is_matched (app f us)) es)) part_irreducible).1 in
        let found = is_matched_from (app f us) e s (msg e among) same in
        true≢false (sym none ∙ ap not (any_passes (is_matched (app f us)) e es among found))

alike_form_from : (a b : Form) → a.facts ≡ b.facts → alike_form a b ≡ true
alike_form_from a b e = alike_facts_from a.facts b.facts e

-- what is kept of a list of distinct images has distinct images
distinct_filter : {A B : Type 0} (f : A → B) (test : A → Bool) (xs : List A) → Distinct (map f xs) → Distinct (map f (filter test xs))
distinct_filter f test [] d = tt
distinct_filter f test (x ∷ xs) d = by_test (test x) (distinct_filter f test xs d.1)
  where
    by_test : (c : Bool) → Distinct (map f (filter test xs)) → Distinct (map f (cond c (x ∷ filter test xs) (filter test xs)))
    by_test true k = (λ m. let r = member_mapped f (f x) (filter test xs) m in d.0 (subst (λ y. Member y (map f xs)) r.2 (member_map f r.0 xs (member_filtered test r.0 xs r.1))), k)
    by_test false k = k

distinct_once : {A B : Type 0} (f : A → B) (same : A → A → Bool) → ((x y : A) → f x ≡ f y → same x y ≡ true) → (xs : List A) → Distinct (map f (without_repeats same xs))
distinct_once f same h [] = tt
distinct_once f same h (x ∷ xs) = (
  λ m.
      let r = member_mapped f (f x) (filter (λ y. not (same x y)) (without_repeats same xs)) m in
      true≢false (sym (member_passes (λ y. not (same x y)) r.0 (without_repeats same xs) r.1) ∙ ap not (h x r.0 (sym r.2))),
  distinct_filter f (λ y. not (same x y)) (without_repeats same xs) (distinct_once f same h xs),
)

pub proper_law : FormsAreProper
proper_law = record {
  numbers = form_below;
  again = form_again;
  irreducible = λ es msg rule form m ts mem f us part e among s same. none_matches es msg rule form m ts mem f us part e among s same;
  distinct = λ es rule. distinct_once (λ (f : Form). f.facts) alike_form alike_form_from (filter (is_normal_form es) (results es rule));
  whole = nothing_lost;
  names = λ r injective sorts f kept kept'. numbered_same r injective sorts f kept kept';
}
