-- No finding stands on what rules bind exactly where each name is bound once and stands with its binding's mark.
use Rattle.std.proofs.Common.{◌≡◌, ℕ, true, List, [], ◌∷◌, ◌++◌, map, refl, ap}
use Rattle.sp_spec.specs.Lists.{Every}
use Rattle.sp_spec.specs.Signature.{Symbol}
use Rattle.sp_spec.specs.Written.{WrittenRule}
use Rattle.sp_spec_text.specs.Bindings.{Binding, with_values}
use Rattle.sp_spec_text.specs.Written.{Item, builtins_item, functions_item, equations_item, heuristic_item, block_item, rule_item, restriction_item, lemma_item}
use Rattle.sp_spec_text.specs.Declared.{resolved_rule, resolved_item}
use Rattle.sp_declared.specs.WrittenRules.{rules_written}
use Rattle.sp_finding.specs.Finding.{Finding, bound_twice, two_sorts, are_none}
use Rattle.sp_finding.proofs.Nothing.{none_parts, none_both}
use Rattle.sp_wf_rules.specs.RuleFindings.{sorts_in_rule}
use Rattle.sp_wf_rules.specs.BindingFindings.{names_bound, bound_in}
use Rattle.sp_wf.specs.ItemFindings.{with_bound, twice_in_rule, marks_in_rule}
use Rattle.sp_wf.specs.Laws.{BindsWell}
use Rattle.sp_wf.proofs.NamesClean.{none_again, distinct_told}
use Rattle.sp_wf.proofs.ItemsClean.{Clean}

-- ---- what is found in a rule

none_mapped : (say : List ℕ → Finding) (xs : List (List ℕ)) → are_none (map say xs) ≡ true → xs ≡ []
none_mapped say [] e = refl
none_mapped say (x ∷ xs) e = absurd cc

mapped_none : (say : List ℕ → Finding) (xs : List (List ℕ)) → xs ≡ [] → are_none (map say xs) ≡ true
mapped_none say xs e = ap (λ (ys : List (List ℕ)). are_none (map say ys)) e

-- ---- in all rules of a text in which values stand for the names that are bound

module _ (symbols : List Symbol) where
  abbrev seen : List Item → List Item
  seen xs = map (resolved_item symbols) xs

  abbrev rule : List Binding → WrittenRule → WrittenRule
  rule bs r = resolved_rule symbols (with_values bs r)

  pub record AllBindWell (xs : List Item) : Type 0 where
    pub sorts : Every (Clean sorts_in_rule) (rules_written (seen xs))
    pub bindings : Every BindsWell (bound_in xs)

  abbrev twice : List Item → List Finding
  twice xs = with_bound twice_in_rule (bound_in xs) (seen xs)

  abbrev marks : List Item → List Finding
  marks xs = with_bound marks_in_rule (bound_in xs) (seen xs)

  nothing_bound : (xs : List Item) → AllBindWell xs → Every BindsWell (record { bound = []; misused = [] } ∷ bound_in xs)
  nothing_bound xs h = (record { once = tt; marks = refl }, h.bindings)

  pub bind_well : (xs : List Item) → are_none (twice xs) ≡ true → are_none (marks xs) ≡ true → AllBindWell xs
  bind_well [] e k = record { sorts = tt; bindings = tt }
  bind_well (builtins_item bs ∷ xs) e k = let h = bind_well xs e k in record { sorts = h.sorts; bindings = nothing_bound xs h }
  bind_well (functions_item ss ∷ xs) e k = let h = bind_well xs e k in record { sorts = h.sorts; bindings = nothing_bound xs h }
  bind_well (equations_item es ∷ xs) e k = let h = bind_well xs e k in record { sorts = h.sorts; bindings = nothing_bound xs h }
  bind_well (heuristic_item ws ∷ xs) e k = let h = bind_well xs e k in record { sorts = h.sorts; bindings = nothing_bound xs h }
  bind_well (block_item w ∷ xs) e k = let h = bind_well xs e k in record { sorts = h.sorts; bindings = nothing_bound xs h }
  bind_well (rule_item bs r ∷ xs) e k =
      let b = names_bound bs r.facts in
      let n = (rule bs r).name in
      let a = none_parts (twice_in_rule b (rule bs r) ++ []) (twice xs) e in
      let c = none_parts (twice_in_rule b (rule bs r)) [] a.0 in
      let d = none_parts (marks_in_rule b (rule bs r) ++ []) (marks xs) k in
      let f = none_parts (marks_in_rule b (rule bs r)) [] d.0 in
      let g = none_parts (sorts_in_rule (rule bs r)) (map (two_sorts n) b.misused) f.0 in
      let h = bind_well xs a.1 d.1 in
      record { sorts = (g.0, h.sorts); bindings = (record { once = none_again (bound_twice n) b.bound c.0; marks = none_mapped (two_sorts n) b.misused g.1 }, h.bindings) }
  bind_well (restriction_item r ∷ xs) e k = let h = bind_well xs e k in record { sorts = h.sorts; bindings = nothing_bound xs h }
  bind_well (lemma_item l as' p ∷ xs) e k = let h = bind_well xs e k in record { sorts = h.sorts; bindings = nothing_bound xs h }

  pub none_twice : (xs : List Item) → AllBindWell xs → are_none (twice xs) ≡ true
  none_twice [] h = refl
  none_twice (builtins_item bs ∷ xs) h = none_twice xs (record { sorts = h.sorts; bindings = h.bindings.1 })
  none_twice (functions_item ss ∷ xs) h = none_twice xs (record { sorts = h.sorts; bindings = h.bindings.1 })
  none_twice (equations_item es ∷ xs) h = none_twice xs (record { sorts = h.sorts; bindings = h.bindings.1 })
  none_twice (heuristic_item ws ∷ xs) h = none_twice xs (record { sorts = h.sorts; bindings = h.bindings.1 })
  none_twice (block_item w ∷ xs) h = none_twice xs (record { sorts = h.sorts; bindings = h.bindings.1 })
  none_twice (rule_item bs r ∷ xs) h =
      let b = names_bound bs r.facts in
      none_both (twice_in_rule b (rule bs r) ++ []) (twice xs) (none_both (twice_in_rule b (rule bs r)) [] (distinct_told (bound_twice (rule bs r).name) b.bound h.bindings.0.once) refl)
      (none_twice xs (record { sorts = h.sorts.1; bindings = h.bindings.1 }))
  none_twice (restriction_item r ∷ xs) h = none_twice xs (record { sorts = h.sorts; bindings = h.bindings.1 })
  none_twice (lemma_item l as' p ∷ xs) h = none_twice xs (record { sorts = h.sorts; bindings = h.bindings.1 })

  pub none_marked : (xs : List Item) → AllBindWell xs → are_none (marks xs) ≡ true
  none_marked [] h = refl
  none_marked (builtins_item bs ∷ xs) h = none_marked xs (record { sorts = h.sorts; bindings = h.bindings.1 })
  none_marked (functions_item ss ∷ xs) h = none_marked xs (record { sorts = h.sorts; bindings = h.bindings.1 })
  none_marked (equations_item es ∷ xs) h = none_marked xs (record { sorts = h.sorts; bindings = h.bindings.1 })
  none_marked (heuristic_item ws ∷ xs) h = none_marked xs (record { sorts = h.sorts; bindings = h.bindings.1 })
  none_marked (block_item w ∷ xs) h = none_marked xs (record { sorts = h.sorts; bindings = h.bindings.1 })
  none_marked (rule_item bs r ∷ xs) h =
      let b = names_bound bs r.facts in
      none_both (marks_in_rule b (rule bs r) ++ []) (marks xs)
      (none_both (marks_in_rule b (rule bs r)) []
      (none_both (sorts_in_rule (rule bs r)) (map (two_sorts (rule bs r).name) b.misused) h.sorts.0 (mapped_none (two_sorts (rule bs r).name) b.misused h.bindings.0.marks)) refl)
      (none_marked xs (record { sorts = h.sorts.1; bindings = h.bindings.1 }))
  none_marked (restriction_item r ∷ xs) h = none_marked xs (record { sorts = h.sorts; bindings = h.bindings.1 })
  none_marked (lemma_item l as' p ∷ xs) h = none_marked xs (record { sorts = h.sorts; bindings = h.bindings.1 })
