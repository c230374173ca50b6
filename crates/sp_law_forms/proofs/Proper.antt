-- Forms are numbered, in normal form, and come from results.
use Rattle.std.proofs.Common.{◌≡◌, inl, inr, ℕ, ◌<◌, true, length, List, [], Option, Some, None, subst}
use Rattle.std.specs.List.{filter}
use Rattle.sp_spec.specs.Lists.{Member}
use Rattle.sp_spec.specs.Term.{Variable, Terms, valued_all, EachVariables}
use Rattle.sp_spec.specs.Signature.{Equation}
use Rattle.sp_spec.specs.Substitution.{Binding, bound_to}
use Rattle.sp_spec.specs.Unifier.{mgu}
use Rattle.sp_spec.specs.Rule.{Facts, Rule, InFacts, facts_at}
use Rattle.sp_spec_forms.specs.Narrowing.{Chosen, narrow_facts}
use Rattle.sp_spec_forms.specs.Numbering.{Form, seen, numbered}
use Rattle.sp_spec_forms.specs.Forms.{rule_variables, form_by, start, results, forms, is_normal_form, alike_form}
use Rattle.sp_law_forms.proofs.Lists.{member_flat_mapped, member_filtered, member_passes}
use Rattle.sp_law_forms.proofs.Repeats.{member_once}
use Rattle.sp_law_forms.proofs.Numbered.{numbered_below}
use Rattle.sp_law_forms.proofs.NumberedAgain.{numbered_again}

-- before anything is chosen
abbrev pub begin : Rule → Chosen
begin rule = record { pairs = []; next = start rule }

-- the rule's variables, as its forms keep them
abbrev pub variables_of : Rule → Terms Variable
variables_of rule = rule_variables 0 rule.variables

module _ (es : List Equation) (rule : Rule) (form : Form) where
  abbrev IsNumbered : Type 0
  IsNumbered = (f : Facts Variable) × (kept : Terms Variable) × (numbered f kept ≡ form)

  by_answer : (g : Facts Variable) (o : Option (List Binding)) → Member form (form_by (variables_of rule) g o) → IsNumbered
  by_answer g None m = absurd m
  by_answer g (Some bs) (inl m) = (facts_at (bound_to bs) g, valued_all (bound_to bs) (variables_of rule), m)
  by_answer g (Some bs) (inr m) = absurd m

  pub form_result : Member form (forms es rule) → Member form (results es rule)
  form_result m =
      member_filtered (is_normal_form es) form (results es rule) (member_once alike_form form (filter (is_normal_form es) (results es rule)) m)

  form_numbered : Member form (forms es rule) → IsNumbered
  form_numbered m =
      let c =
      member_flat_mapped (λ (r : Facts Variable × Chosen). form_by (variables_of rule) r.0 (mgu r.1.pairs)) form
      (narrow_facts es rule.facts (begin rule)) (form_result m) in
      by_answer c.0.0 (mgu c.0.1.pairs) c.2

  pub form_normal : Member form (forms es rule) → is_normal_form es form ≡ true
  form_normal m = member_passes (is_normal_form es) form (results es rule) (member_once alike_form form (filter (is_normal_form es) (results es rule)) m)

  pub form_again : Member form (forms es rule) → numbered form.facts form.kept ≡ form
  form_again m = let k = form_numbered m in subst (λ (g : Form). numbered g.facts g.kept ≡ g) k.2 (numbered_again k.0 k.1)

  abbrev AreBelow : ℕ → Form → Type 0
  AreBelow n g = InFacts (λ (x : Variable). x.number < g.count) g.facts × EachVariables (λ (x : Variable). x.number < n) g.kept

  pub form_below : Member form (forms es rule) → AreBelow (length (seen form.facts form.kept)) form
  form_below m = subst (AreBelow (length (seen form.facts form.kept))) (form_again m) (numbered_below form.facts form.kept)
