-- Facts as premises, actions and conclusions that are made one after the other.
use Rattle.std.proofs.Common.{◌≡◌, List, [], ◌∷◌, ◌++◌, map, refl, sym, ap, ap₂, ◌∙◌}
use Rattle.std.specs.List.{flat_map}
use Rattle.std.proofs.lemmas.List.{map-append}
use Rattle.sp_spec.specs.Term.{Variable}
use Rattle.sp_spec.specs.Signature.{Equation}
use Rattle.sp_spec.specs.Rule.{Fact, Action, Facts}
use Rattle.sp_spec_forms.specs.Narrowing.{Chosen, each, narrow_fact, narrow_action, narrow_facts}
use Rattle.sp_variant.specs.Rows.{finished, with_conclusions, with_actions}

abbrev Later : Type 0
Later = List (Action Variable) × List (Fact Variable)

abbrev facts_by : List (Fact Variable) → Later × Chosen → Facts Variable × Chosen
facts_by premises q = (record { premises = premises; actions = q.0.0; conclusions = q.0.1 }, q.1)

abbrev paired : List (Action Variable) → List (List (Fact Variable) × Chosen) → List (Later × Chosen)
paired actions ways = map (λ c. ((actions, c.0), c.1)) ways

finished-paired : (premises : List (Fact Variable)) (actions : List (Action Variable)) (ways : List (List (Fact Variable) × Chosen))
    → finished premises actions ways ≡ map (facts_by premises) (paired actions ways)
finished-paired premises actions [] = refl
finished-paired premises actions (c ∷ ways) = ap (λ rest. facts_by premises ((actions, c.0), c.1) ∷ rest) (finished-paired premises actions ways)

module _ (es : List Equation) (f : Facts Variable) where
  of_actions : (premises : List (Fact Variable)) (rows : List (List (Action Variable) × Chosen))
      → flat_map (with_conclusions es f premises) rows ≡ map (facts_by premises) (flat_map (λ a. paired a.0 (each (narrow_fact es) f.conclusions a.1)) rows)
  of_actions premises [] = refl
  of_actions premises (a ∷ rows) =
      ap₂ (λ xs ys. xs ++ ys) (finished-paired premises a.0 (each (narrow_fact es) f.conclusions a.1)) (of_actions premises rows)
      ∙ sym (map-append (facts_by premises) (paired a.0 (each (narrow_fact es) f.conclusions a.1)) (flat_map (λ b. paired b.0 (each (narrow_fact es) f.conclusions b.1)) rows))

  of_premises : (rows : List (List (Fact Variable) × Chosen))
      → flat_map (with_actions es f) rows
      ≡ flat_map (λ p. map (facts_by p.0) (flat_map (λ a. paired a.0 (each (narrow_fact es) f.conclusions a.1)) (each (narrow_action es) f.actions p.1))) rows
  of_premises [] = refl
  of_premises (p ∷ rows) = ap₂ (λ xs ys. xs ++ ys) (of_actions p.0 (each (narrow_action es) f.actions p.1)) (of_premises rows)

  pub facts_in_rows : (s : Chosen) → flat_map (with_actions es f) (each (narrow_fact es) f.premises s) ≡ narrow_facts es f s
  facts_in_rows s = of_premises (each (narrow_fact es) f.premises s)
