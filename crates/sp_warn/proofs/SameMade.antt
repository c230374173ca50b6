-- Forms that have the same ones among them give the same warnings.
use Rattle.std.proofs.Common.{◌≡◌, ℕ, Bool, not, List, [], ◌∷◌, refl, ap, ap₂}
use Rattle.std.specs.List.{flat_map}
use Rattle.sp_spec.specs.Term.{count}
use Rattle.sp_spec.specs.Rule.{Fact}
use Rattle.sp_spec.specs.Formula.{Written, Formula}
use Rattle.sp_spec.specs.Written.{WrittenRule}
use Rattle.sp_spec_text.specs.Written.{Item, builtins_item, functions_item, equations_item, heuristic_item, block_item, rule_item, restriction_item, lemma_item}
use Rattle.sp_walk.specs.Atoms.{Atom, happens, equals, precedes, collected}
use Rattle.sp_warn.specs.Forms.{Form, fact_form, action_form, is_among}
use Rattle.sp_warn.specs.Warning.{Warning, no_source, in_no_rule, told}
use Rattle.sp_warn.specs.Warnings.{without_source, sources_of_rule, at_atom, actions_of_formula, actions_of_item}

module _ (made here : List Form) (same : (x : Form) → is_among x made ≡ is_among x here) where
  same_premises : (r : List ℕ) (fs : List (Fact Written)) → without_source made r fs ≡ without_source here r fs
  same_premises r [] = refl
  same_premises r (f ∷ fs) = ap₂ (λ (b : Bool) (ws : List Warning). told (not b) (no_source r f.symbol (count f.args)) ws) (same (fact_form f)) (same_premises r fs)

  pub same_sources : (rs : List WrittenRule) → flat_map (sources_of_rule made) rs ≡ flat_map (sources_of_rule here) rs
  same_sources rs = λ i. flat_map (λ r. same_premises r.name r.facts.premises i) rs

  same_atom : (x : List ℕ) (a : Atom) → at_atom made x a ≡ at_atom here x a
  same_atom x (happens a i) = ap (λ (b : Bool). told (not b) (in_no_rule x a.symbol (count a.args)) []) (same (action_form a))
  same_atom x (equals t u) = refl
  same_atom x (precedes i j) = refl

  same_formula : (x : List ℕ) (f : Formula) → actions_of_formula made x f ≡ actions_of_formula here x f
  same_formula x f = λ i. collected (λ bs a. same_atom x a i) [] f

  same_item : (x : Item) → actions_of_item made x ≡ actions_of_item here x
  same_item (builtins_item bs) = refl
  same_item (functions_item fs) = refl
  same_item (equations_item es) = refl
  same_item (heuristic_item ws) = refl
  same_item (block_item w) = refl
  same_item (rule_item bs r) = refl
  same_item (restriction_item r) = same_formula r.name r.formula
  same_item (lemma_item l as' p) = same_formula l.name l.formula

  pub same_actions : (xs : List Item) → flat_map (actions_of_item made) xs ≡ flat_map (actions_of_item here) xs
  same_actions xs = λ i. flat_map (λ x. same_item x i) xs
