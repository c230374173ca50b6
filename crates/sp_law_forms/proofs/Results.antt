-- Results whose value is normal are in normal form, and leaving out repetitions loses no facts.
use Rattle.std.proofs.Common.{◌≡◌, ℕ, ◌≤◌, true, List, [], ◌∷◌, map, refl, sym, ap, ◌∙◌, subst, arith}
use Rattle.std.specs.List.{filter}
use Rattle.sp_spec.specs.Lists.{Member, Every}
use Rattle.sp_spec.specs.Term.{Variable, Terms, Values, valued_all}
use Rattle.sp_spec.specs.Signature.{Equation, RespectsSorts}
use Rattle.sp_spec.specs.Equal.{AreNormal}
use Rattle.sp_spec.specs.Rule.{Fact, Action, Facts, Rule, OfArguments, fact_at, action_at, facts_at}
use Rattle.sp_spec.proofs.Lists.{every_all, every_map, every_weaken}
use Rattle.sp_law_equal.specs.NormalForms.{HaveNormalForms}
use Rattle.sp_law_equal.specs.Normal.{normal_fact, normal_action, normal_facts}
use Rattle.sp_law_equal.proofs.Forms.{are_normal}
use Rattle.sp_spec_forms.specs.Shifted.{above_all}
use Rattle.sp_spec_forms.specs.Numbering.{Form}
use Rattle.sp_spec_forms.specs.Reducible.{args_of, irreducible_all}
use Rattle.sp_spec_forms.specs.Forms.{above_each, is_normal_form, alike_form, results, forms}
use Rattle.sp_law_forms.proofs.Lists.{every_of_map, member_filter, all_pass}
use Rattle.sp_law_forms.proofs.Facts.{of_arguments}
use Rattle.sp_law_forms.proofs.Repeats.{kept_for}
use Rattle.sp_law_forms.proofs.Irreducible.{irreducible_all_if, alike_form_tells}

pub every_above : (tss : List (Terms Variable)) (n : ℕ) → above_each tss ≤ n → Every (λ ts. above_all ts ≤ n) tss
every_above [] n le = tt
every_above (ts ∷ tss) n le = (omega (arith, le), every_above tss n (omega (arith, le)))

-- leaving out repetitions loses no facts
pub nothing_lost : (es : List Equation) (rule : Rule) (form : Form) → Member form (results es rule) → is_normal_form es form ≡ true
    → (kept : Form) × Member kept (forms es rule) × (kept.facts ≡ form.facts)
nothing_lost es rule form m e =
    kept_for alike_form (λ a b. a.facts ≡ b.facts) (λ a. refl) (λ a b c p q. p ∙ q) alike_form_tells form
    (filter (is_normal_form es) (results es rule)) (member_filter (is_normal_form es) form (results es rule) m e)

-- facts with a normal value are those of a normal form
module _ (es : List Equation) (good : HaveNormalForms es) (w : Values) (sorts : RespectsSorts w) where
  abbrev IsNormalAt : Terms Variable → Type 0
  IsNormalAt ts = AreNormal es (valued_all w ts)

  normal_args : (gs : List (Fact Variable)) (zs : List (Fact ⊥)) → map (fact_at w) gs ≡ map (normal_fact es) zs → Every (λ (g : Fact Variable). IsNormalAt g.args) gs
  normal_args gs zs e =
      let N : Fact ⊥ → Type 0 = λ g. AreNormal es g.args in
      let all = every_map (λ (z : Fact ⊥). Unit {0}) N (normal_fact es) (λ z h. are_normal es good z.args) zs (every_all (λ (z : Fact ⊥). Unit {0}) (λ z. tt) zs) in
      every_of_map N (fact_at w) gs (subst (Every N) (sym e) all)

  normal_action_args : (gs : List (Action Variable)) (zs : List (Action ⊥)) → map (action_at w) gs ≡ map (normal_action es) zs
      → Every (λ (g : Action Variable). IsNormalAt g.args) gs
  normal_action_args gs zs e =
      let N : Action ⊥ → Type 0 = λ g. AreNormal es g.args in
      let all = every_map (λ (z : Action ⊥). Unit {0}) N (normal_action es) (λ z h. are_normal es good z.args) zs (every_all (λ (z : Action ⊥). Unit {0}) (λ z. tt) zs) in
      every_of_map N (action_at w) gs (subst (Every N) (sym e) all)

  pub normal_form_if : (form : Form) (z : Facts ⊥) → facts_at w form.facts ≡ normal_facts es z → is_normal_form es form ≡ true
  normal_form_if form z e =
      let f = form.facts in
      let args : OfArguments IsNormalAt f = record {
        premises = normal_args f.premises z.premises (ap (λ g. g.premises) e);
        actions = normal_action_args f.actions z.actions (ap (λ g. g.actions) e);
        conclusions = normal_args f.conclusions z.conclusions (ap (λ g. g.conclusions) e);
      } in
      all_pass (irreducible_all es) (args_of f)
      (every_weaken IsNormalAt (λ ts. irreducible_all es ts ≡ true) (λ ts h. irreducible_all_if es w sorts ts h) (args_of f)
      (of_arguments IsNormalAt f args))
