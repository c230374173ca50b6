-- Reducible event term contradicts: the log has the facts of its entries in normal form, so no equation can be used inside them.
use Rattle.std.proofs.Common.{◌≡◌, ℕ, true, not, List, [], ◌∷◌, refl, sym, ap, ◌∙◌, inl, ⊎_elim, true≢false}
use Rattle.std.proofs.lemmas.Bool.{or_cases}
use Rattle.sp_spec.specs.Lists.{Every}
use Rattle.sp_spec.specs.Term.{none, more, valued}
use Rattle.sp_spec.specs.Signature.{Equation, RespectsSorts}
use Rattle.sp_spec.specs.Rule.{facts_at, sends, learns}
use Rattle.sp_spec.specs.Theory.{Theory, signature_of}
use Rattle.sp_spec.specs.Log.{Log, send, learn, IsLog}
use Rattle.sp_law_equal.specs.NormalForms.{HaveNormalForms}
use Rattle.sp_law_equal.proofs.Facts.{facts_normal_form_only}
use Rattle.sp_spec_forms.specs.Reducible.{args_of, irreducible_all, irreducible_facts}
use Rattle.sp_spec_system.specs.System.{Happening, rule_step, sending, learning, happening_facts, Event}
use Rattle.sp_spec_system.specs.Solutions.{Valuation, HappensAt, HappensIn}
use Rattle.sp_spec_graph.specs.ReducibleEvent.{has_reducible}
use Rattle.sp_law_forms.proofs.Irreducible.{irreducible_all_if}
use Rattle.sp_law_forms.proofs.Lists.{all_pass}
use Rattle.sp_law_forms.proofs.Results.{normal_form_if}
use Rattle.sp_law_formula.proofs.Entries.{entry_is_step}
use Rattle.sp_law_formula.proofs.Learnt.{entry_normal}

module _ (theory : Theory) (good : HaveNormalForms (signature_of theory).equations) (log : Log) (is : IsLog theory log) (v : Valuation) (sorts : RespectsSorts v.terms) where
  abbrev es : List Equation
  es = (signature_of theory).equations

  happening_irreducible : (p : ℕ) (h : Happening) → HappensAt log p v h → irreducible_facts es (happening_facts h) ≡ true
  happening_irreducible p (rule_step r facts) k =
      let s = entry_is_step theory log is p r (facts_at v.terms facts) k.0 k.1 in
      let own = facts_at s.3 s.0.facts in
      normal_form_if es good v.terms sorts (record { facts = facts; count = 0; kept = none }) own (facts_normal_form_only es good own (facts_at v.terms facts) s.5)
  happening_irreducible p (sending m) k =
      let t = valued v.terms m in
      let e = irreducible_all_if es v.terms sorts (more m none) (entry_normal theory log is p (send t) k (sends t) (inl refl)) in
      all_pass (irreducible_all es) (args_of (happening_facts (sending m))) (e, (e, tt))
  happening_irreducible p (learning m way) k =
      let t = valued v.terms m in
      let e = irreducible_all_if es v.terms sorts (more m none) (entry_normal theory log is p (learn t k.0) k.1 (learns t) (inl refl)) in
      all_pass (irreducible_all es) (args_of (happening_facts (learning m way))) (e, tt)

  pub reducible_contradicts : (events : List Event) → has_reducible es events ≡ true → Every (HappensIn log v) events → ⊥
  reducible_contradicts [] e h = true≢false (sym e)
  reducible_contradicts (d ∷ events) e h =
      ⊎_elim
      (λ k. true≢false (sym k ∙ ap not (happening_irreducible (v.times d.time) d.happening h.0)))
      (λ k. reducible_contradicts events k h.1)
      (or_cases (not (irreducible_facts es (happening_facts d.happening))) (has_reducible es events) e)
