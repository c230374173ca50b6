-- The forms are sound.
use Rattle.std.proofs.Common.{◌≡◌, inl, inr, List, Option, Some, None, refl, sym, ap, ◌∙◌, subst}
use Rattle.sp_spec.specs.Lists.{Member}
use Rattle.sp_spec.specs.Term.{Variable, Values, valued_all}
use Rattle.sp_spec.specs.Signature.{Symbol, Equation, RespectsSorts, IsOver}
use Rattle.sp_spec.specs.Substitution.{Binding, bound_to}
use Rattle.sp_spec.specs.Unifier.{mgu}
use Rattle.sp_spec.specs.Rule.{OfArguments, Facts, Rule, facts_at}
use Rattle.sp_law_equal.specs.Pointwise.{AreSameFacts}
use Rattle.sp_law_equal.specs.Right.{AreTermsOver, EquationsAreOver}
use Rattle.sp_spec.proofs.Values.{valued_all-valued_all}
use Rattle.sp_law_unify.specs.MostGeneral.{AreSolution}
use Rattle.sp_law_unify.proofs.Unique.{unifier_law}
use Rattle.sp_spec_forms.specs.Narrowing.{Chosen, narrow_facts}
use Rattle.sp_spec_forms.specs.Forms.{form_by, results, forms}
use Rattle.sp_spec_forms.specs.Numbering.{Form, numbered, seen, place, renumbered}
use Rattle.sp_law_forms.specs.Laws.{FormsAreSound}
use Rattle.sp_law_forms.proofs.Over.{over_at, unifier_over}
use Rattle.sp_law_forms.proofs.OverWays.{over_facts}
use Rattle.sp_law_forms.proofs.Lists.{member_flat_mapped}
use Rattle.sp_law_forms.proofs.Facts.{after, facts_after}
use Rattle.sp_law_forms.proofs.Sound.{sound_facts}
use Rattle.sp_law_forms.proofs.Proper.{begin, variables_of, form_result}

module _ (es : List Equation) (rule : Rule) (form : Form) (w : Values) (sorts : RespectsSorts w) where
  abbrev Sound : Type 0
  Sound =
      (v : Values) × RespectsSorts v × (((symbols : List Symbol) → EquationsAreOver symbols es → OfArguments (AreTermsOver symbols) rule.facts
      → ((x : Variable) → IsOver symbols (w x)) → (x : Variable) → IsOver symbols (v x))) × (valued_all v (variables_of rule) ≡ valued_all w form.kept)
      × AreSameFacts es (facts_at v rule.facts) (facts_at w form.facts)

  module _ (g : Facts Variable) (s : Chosen) (among : Member {A = Facts Variable × Chosen} (g, s) (narrow_facts es rule.facts (begin rule)))
      (bs : List Binding) (is : mgu s.pairs ≡ Some bs) where
    abbrev old : List Variable
    old = seen (facts_at (bound_to bs) g) (valued_all (bound_to bs) (variables_of rule))

    -- the values before the variables were numbered, and before they were bound
    abbrev unnumbered : Values
    unnumbered = after w (renumbered old)

    abbrev unbound : Values
    unbound = after unnumbered (bound_to bs)

    solution : AreSolution s.pairs unbound
    solution = let most = unifier_law.some s.pairs bs is in most.gives unnumbered (λ x. sorts (record { sort = x.sort; number = place old x }))

    sound_by : numbered (facts_at (bound_to bs) g) (valued_all (bound_to bs) (variables_of rule)) ≡ form → Sound
    sound_by e =
        let k = sound_facts es unbound solution.respects rule.facts (begin rule) (g, s) among solution.makes_same in
        let facts = facts_after w (renumbered old) (facts_at (bound_to bs) g) ∙ facts_after unnumbered (bound_to bs) g in
        let kept = valued_all-valued_all (renumbered old) w (valued_all (bound_to bs) (variables_of rule)) ∙ valued_all-valued_all (bound_to bs) unnumbered (variables_of rule) in (
          unbound,
          solution.respects,
          (λ symbols e_over r_over w_over x.
              let pairs_over = (over_facts symbols es e_over rule.facts r_over (begin rule) (g, s) among tt).0 in
              over_at symbols unnumbered (λ y. w_over (record { sort = y.sort; number = place old y })) (bound_to bs x) (unifier_over symbols s.pairs bs is pairs_over x)),
          sym (ap (λ (f : Form). valued_all w f.kept) (sym e) ∙ kept),
          subst (λ (h : Facts ⊥). AreSameFacts es (facts_at unbound rule.facts) h) (sym (ap (λ (f : Form). facts_at w f.facts) (sym e) ∙ facts)) k.1,
        )

  by_answer : (g : Facts Variable) (s : Chosen) → Member {A = Facts Variable × Chosen} (g, s) (narrow_facts es rule.facts (begin rule))
      → (o : Option (List Binding)) → mgu s.pairs ≡ o → Member form (form_by (variables_of rule) g o) → Sound
  by_answer g s among None e m = absurd m
  by_answer g s among (Some bs) e (inl m) = sound_by g s among bs e m
  by_answer g s among (Some bs) e (inr m) = absurd m

  sound_result : Member form (results es rule) → Sound
  sound_result m =
      let c = member_flat_mapped (λ (r : Facts Variable × Chosen). form_by (variables_of rule) r.0 (mgu r.1.pairs)) form (narrow_facts es rule.facts (begin rule)) m in
      by_answer c.0.0 c.0.1 c.1 (mgu c.0.1.pairs) refl c.2

  sound : Member form (forms es rule) → Sound
  sound m = sound_result (form_result es rule form m)

pub sound_law : FormsAreSound
sound_law = record {
  each = λ es rule form m w sorts. let k = sound es rule form w sorts m in (k.0, k.1, k.3, k.4);
  over = λ signature rule e_over r_over form m w given.
      let k = sound signature.equations rule form w (λ x. (given x).0) m in
      (k.0, λ x. (k.1 x, k.2 signature.symbols e_over r_over (λ y. (given y).1) x), k.3, k.4);
}
