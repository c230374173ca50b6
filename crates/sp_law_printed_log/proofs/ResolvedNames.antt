-- Where values stand for bound names and symbols for the names that are such, what has names as a text may have them has such names still, and the public names are the same.
use Rattle.std.proofs.Common.{◌≡◌, ℕ, Bool, true, false, if◌then◌else◌, List, [], ◌∷◌, ◌++◌, map, refl, sym, ap₂, subst}
use Rattle.std.specs.Prelude.{not, ◌&&◌}
use Rattle.sp_spec.specs.Lists.{Every, is_listed}
use Rattle.sp_spec.proofs.Lists.{every_map}
use Rattle.sp_spec.specs.Term.{Term, var, constant, name, app, Terms, none, more, valued_all}
use Rattle.sp_spec.specs.Signature.{Symbol}
use Rattle.sp_spec.specs.Formula.{Written, Formula, truth, falsity, happens, equals, precedes, not_so, both, either, implies, for_all, for_some}
use Rattle.sp_spec.specs.Theory.{Restriction, Lemma}
use Rattle.sp_spec.specs.Written.{WrittenRule}
use Rattle.sp_spec.specs.Constants.{in_term, in_terms, in_formula}
use Rattle.sp_spec_text.specs.Bindings.{with_values}
use Rattle.sp_spec_text.specs.Written.{Item, builtins_item, functions_item, equations_item, heuristic_item, block_item, rule_item, restriction_item, lemma_item}
use Rattle.sp_spec_text.specs.Declared.{is_constant, is_bare, resolved_name, resolved_term, resolved_formula, resolved_restriction, resolved_lemma, resolved_rule, resolved_item}
use Rattle.sp_spec_printed.specs.StepLines.{IsQuotable}
use Rattle.sp_law_printed_log.proofs.SpelledNames.{IsNamedVariable, IsNamedTerm, IsNamedWritten, rule_valued, IsNamedRestriction, IsNamedLemma}
use Rattle.sp_law_printed_log.proofs.DeclaredNames.{IsNamedItem}

module _ (symbols : List Symbol) where
  -- ---- public names

  no_constant : (bound : List (List ℕ)) (x : Written) → in_term (resolved_name symbols bound x) ≡ []
  no_constant bound x = by_test (is_bare x.mark && (is_constant symbols x.name && not (is_listed x.name bound)))
    where
      by_test : (b : Bool) → in_term (if b then app x.name none else var x) ≡ []
      by_test true = refl
      by_test false = refl

  abbrev both_lists : List (List ℕ) → List (List ℕ) → List (List ℕ)
  both_lists xs ys = xs ++ ys

  mutual
    term_kept : (bound : List (List ℕ)) (t : Term Written) → in_term (resolved_term symbols bound t) ≡ in_term t
    term_kept bound (var x) = no_constant bound x
    term_kept bound (constant c) = refl
    term_kept bound (name n) = refl
    term_kept bound (app f ts) = terms_kept bound ts

    terms_kept : (bound : List (List ℕ)) (ts : Terms Written) → in_terms (valued_all (resolved_name symbols bound) ts) ≡ in_terms ts
    terms_kept bound none = refl
    terms_kept bound (more t ts) = ap₂ both_lists (term_kept bound t) (terms_kept bound ts)

  pub formula_kept : (bound : List (List ℕ)) (f : Formula) → in_formula (resolved_formula symbols bound f) ≡ in_formula f
  formula_kept bound truth = refl
  formula_kept bound falsity = refl
  formula_kept bound (happens a i) = terms_kept bound a.args
  formula_kept bound (equals t u) = ap₂ both_lists (term_kept bound t) (term_kept bound u)
  formula_kept bound (precedes i j) = refl
  formula_kept bound (not_so f) = formula_kept bound f
  formula_kept bound (both f g) = ap₂ both_lists (formula_kept bound f) (formula_kept bound g)
  formula_kept bound (either f g) = ap₂ both_lists (formula_kept bound f) (formula_kept bound g)
  formula_kept bound (implies f g) = ap₂ both_lists (formula_kept bound f) (formula_kept bound g)
  formula_kept bound (for_all x f) = formula_kept (x.name ∷ bound) f
  formula_kept bound (for_some x f) = formula_kept (x.name ∷ bound) f

  -- ---- names

  name_named : (x : Written) → IsNamedVariable x → IsNamedTerm (resolved_name symbols [] x)
  name_named x h = by_test (is_bare x.mark && (is_constant symbols x.name && not (is_listed x.name [])))
    where
      by_test : (b : Bool) → IsNamedTerm (if b then app x.name none else var x)
      by_test true = tt
      by_test false = h

  rule_named : (r : WrittenRule) → IsNamedWritten r → IsNamedWritten (resolved_rule symbols r)
  rule_named r h = rule_valued (resolved_name symbols []) name_named r h

  restriction_named : (r : Restriction) → IsNamedRestriction r → IsNamedRestriction (resolved_restriction symbols r)
  restriction_named r h = (h.0, subst (Every IsQuotable) (sym (formula_kept [] r.formula)) h.1)

  lemma_named : (l : Lemma) → IsNamedLemma l → IsNamedLemma (resolved_lemma symbols l)
  lemma_named l h = (h.0, subst (Every IsQuotable) (sym (formula_kept [] l.formula)) h.1)

  item_named : (x : Item) → IsNamedItem x → IsNamedItem (resolved_item symbols x)
  item_named (builtins_item bs) h = tt
  item_named (functions_item ss) h = h
  item_named (equations_item es) h = tt
  item_named (heuristic_item ws) h = tt
  item_named (block_item w) h = tt
  item_named (rule_item bs r) h = rule_named (with_values bs r) h
  item_named (restriction_item r) h = restriction_named r h
  item_named (lemma_item l as' p) h = lemma_named l h

  pub resolved_items_named : (items : List Item) → Every IsNamedItem items → Every IsNamedItem (map (resolved_item symbols) items)
  resolved_items_named items e = every_map IsNamedItem IsNamedItem (resolved_item symbols) item_named items e
