-- A proof that is to begin with induction does so: the move is chosen at its root, where there are cases.
use Rattle.std.proofs.Common.{◌≡◌, Bool, true, if◌then◌else◌, List, [], ◌∷◌, ◌++◌, map, Option, Some, option_map, is_some, refl, ap, ◌∙◌}
use Rattle.sp_spec_system.specs.System.{System}
use Rattle.sp_spec_system.specs.Move.{induction, InductionCases, Root, root_system, Context, Case}
use Rattle.sp_spec_system.specs.Picked.{first_some}
use Rattle.sp_spec_formula.specs.Induction.{root_induction}
use Rattle.sp_spec_formula.proofs.Roots.{it_is_there}
use Rattle.sp_spec_proof.specs.Cases.{simple_case}
use Rattle.sp_spec_proof.specs.Kinds.{Picker, of_rank, only, pickers_by, last_picker, are_consecutive, first_pickers, pickers}
use Rattle.sp_spec_proof.specs.Choice.{with_rank, is_instance, picked, choice}

module _ (context : Context) where
  abbrev kinds : List Picker
  kinds = pickers_by (are_consecutive context.root) ++ last_picker ∷ []

  abbrev first : Picker
  first = of_rank 0 (only induction)

  there : (r : Root) (i : InductionCases) → context.root ≡ Some r → r.cases ≡ Some i → is_instance context (root_system r) induction ≡ true
  there r i e h =
      ap (λ (o : Option (List Case)). is_some (option_map (map (simple_case context.rules)) o)) (ap (λ (o : Option Root). root_induction o (root_system r)) e ∙ it_is_there r i h)

  comes_first : (r : Root) → context.root ≡ Some r → r.begins_with_induction ≡ true → pickers context ≡ first ∷ kinds
  comes_first r e h = ap (λ (o : Option Root). first_pickers o ++ kinds) e ∙ ap (λ (b : Bool). (if b then first ∷ [] else []) ++ kinds) h

  picks : (s : System) → is_instance context s induction ≡ true → first_some (picked context s) (first ∷ kinds) ≡ Some (with_rank 0 induction)
  picks s e = rw e refl

  pub chosen_first : (r : Root) (i : InductionCases) → context.root ≡ Some r → r.begins_with_induction ≡ true → r.cases ≡ Some i
      → choice context (root_system r) ≡ Some (with_rank 0 induction)
  unfolding choice
  chosen_first r i e begins h =
      ap (first_some (picked context (root_system r))) (comes_first r e begins) ∙ picks (root_system r) (there r i e h)
