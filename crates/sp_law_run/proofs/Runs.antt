-- The same steps lead to states that are alike, with one trace.
use Rattle.std.proofs.Common.{◌≡◌, List, [], ◌∷◌, ◌++◌, refl, sym, ap, ap₂, ◌∙◌, subst}
use Rattle.sp_spec.specs.Signature.{Equation}
use Rattle.sp_spec.specs.Rule.{Fact, Facts}
use Rattle.sp_spec.specs.Theory.{Theory, signature_of}
use Rattle.sp_spec.specs.Execution.{Step, State, Trace, Takes, made_by, with_entry, Leads, Runs}
use Rattle.sp_law_equal.specs.NormalForms.{HaveNormalForms}
use Rattle.sp_law_equal.specs.Normal.{normal_fact}
use Rattle.sp_law_equal.specs.Right.{AreRight}
use Rattle.sp_law_run.specs.Taken.{SameFacts}
use Rattle.sp_law_run.specs.Laws.{AreAlike}
use Rattle.sp_law_run.proofs.Counted.{same_facts_itself, same_facts_then, same_facts_back, same_facts_added}
use Rattle.sp_law_run.proofs.Taking.{map_append, normals, takes_alike}
use Rattle.sp_law_run.proofs.Instances.{one_instance}

-- the state after a step
abbrev pub after : Step → Facts ⊥ → State → List (Fact ⊥) → State
after step facts before rest = record { facts = facts.conclusions ++ rest; made = made_by step before.made }

-- conclusions are added on either side
pub added_alike : (es : List Equation) (cs xs ys : List (Fact ⊥)) → SameFacts (normals es xs) (normals es ys) → SameFacts (normals es (cs ++ xs)) (normals es (cs ++ ys))
added_alike es cs xs ys s =
    let n = normal_fact es in
    let a = map_append n cs xs in
    let b = map_append n cs ys in
    let first = same_facts_back (normals es xs ++ normals es cs) (normals es cs ++ normals es xs)
    (same_facts_added (normals es xs) (normals es xs) (normals es cs) (same_facts_itself (normals es xs))) in
    let second = same_facts_added (normals es xs) (normals es ys) (normals es cs) s in
    let all = same_facts_then (normals es cs ++ normals es xs) (normals es xs ++ normals es cs) (normals es cs ++ normals es ys) first second in
    subst (λ (zs : List (Fact ⊥)). SameFacts zs (normals es (cs ++ ys))) (sym a) (subst (λ (zs : List (Fact ⊥)). SameFacts (normals es cs ++ normals es xs) zs) (sym b) all)

module _ (theory : Theory) (good : HaveNormalForms (signature_of theory).equations) (right : AreRight theory.rules) where
  abbrev es : List Equation
  es = (signature_of theory).equations

  -- one step from states that are alike leads to states that are alike
  leads_alike : (step : Step) (f g : Facts ⊥) (s t s' t' : State) → AreAlike es s t → Leads theory step f s s' → Leads theory step g t t' → AreAlike es s' t' × (f ≡ g)
  leads_alike step f g s t s' t' a l m =
      let same : g ≡ f = one_instance theory right step m.values l.values g f m.is_instance l.is_instance in
      let takes = subst (λ (h : Facts ⊥). Takes es h.premises t.facts m.rest) same m.takes in
      let adds : t' ≡ after step f t m.rest = subst (λ (h : Facts ⊥). t' ≡ after step h t m.rest) same m.adds in
      let facts = added_alike es f.conclusions l.rest m.rest (takes_alike es good f.premises s.facts t.facts l.rest m.rest a.facts l.takes takes) in
      let alike : AreAlike es (after step f s l.rest) (after step f t m.rest) = record { facts = facts; made = ap (made_by step) a.made } in (
        subst (λ (z : State). AreAlike es z t') (sym l.adds) (subst (λ (z : State). AreAlike es (after step f s l.rest) z) (sym adds) alike),
        sym same,
      )

  pub runs_alike : (steps : List Step) (s t : State) (shown other : Trace) → Runs theory steps s shown → Runs theory steps t other → AreAlike es s t × (shown ≡ other)
  runs_alike [] s t shown other a b =
      let same = a.0 ∙ sym b.0 in
      (subst (λ (z : State). AreAlike es s z) same (record { facts = same_facts_itself (normals es s.facts); made = refl }), a.1 ∙ sym b.1)
  runs_alike (step ∷ past) s t shown other a b =
      let before = runs_alike past a.0 b.0 a.1 b.1 a.3 b.3 in
      let here = leads_alike step a.2 b.2 a.0 b.0 s t before.0 a.4 b.4 in
      (here.0, a.5 ∙ ap₂ with_entry (ap (λ (f : Facts ⊥). f.actions) here.1) before.1 ∙ sym b.5)
