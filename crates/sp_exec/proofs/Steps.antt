-- A step on the normal facts is one of the definition, on each state that they follow.
use Rattle.std.proofs.Common.{◌≡◌, ◌<◌, ⊎_elim, List, [], ◌∷◌, ◌++◌, Bool, true, false, Option, Some, None, Result, Ok, Err, if◌then◌else◌, inl, inr, refl, sym, ap, ◌∙◌, subst, map, arith}
use Rattle.sp_spec.specs.Lists.{Member, newest_first}
use Rattle.sp_spec.proofs.Lists.{member_left, member_right, member_either, newest_last}
use Rattle.sp_spec.specs.Term.{Ground}
use Rattle.sp_spec.specs.Signature.{Equation}
use Rattle.sp_spec.specs.Rule.{Fact, Action, Facts}
use Rattle.sp_spec.specs.Theory.{Theory, signature_of}
use Rattle.sp_spec.specs.Execution.{Step, make_fresh, use_rule, take_out, put_in, know_public, make_own, apply_symbol, State, Trace, Takes, IsNew, made_by, with_entry, Leads, Cause, no_such_rule, no_instance, premise_absent, fresh_name_twice, wrong_sort, IsNoStep}
use Rattle.sp_law_equal.specs.NormalForms.{HaveNormalForms}
use Rattle.sp_law_equal.specs.Normal.{normal_action, normal_fact, normal_facts}
use Rattle.sp_law_run.specs.NormalStep.{normal_trace}
use Rattle.sp_law_equal.specs.Right.{AreRight}
use Rattle.sp_law_run.specs.Taken.{SameFacts, taken}
use Rattle.sp_law_run.proofs.Counted.{same_facts_added}
use Rattle.sp_law_run.proofs.Taking.{map_append, normals, takes_taken, taken_takes}
use Rattle.sp_law_run.proofs.Instances.{one_instance}
use Rattle.sp_law_run.proofs.Runs.{after}
use Rattle.sp_exec.specs.Next.{Reached, Instance, instance_of, is_made_twice, made_after, entries_after, reached_after, by_rest, by_instance, next}
use Rattle.sp_exec.specs.Replay.{rank}
use Rattle.sp_exec.proofs.Told.{made_twice, made_once}
use Rattle.sp_exec.proofs.Instances.{IsFault, HasInstance, IsRightInstance, instance_right}

-- what was reached follows the state and the trace: it has their normal forms
pub record Follows (es : List Equation) (m : Reached) (s : State) (trace : Trace) : Type 0 where
  pub facts : SameFacts m.facts (normals es s.facts)
  pub there : (t : Ground) → Member t m.made → Member t s.made
  pub back : (t : Ground) → Member t s.made → Member t m.made
  pub shown : newest_first m.entries ≡ normal_trace es trace

abbrev pub IsRightNext : Theory → Step → State → Trace → Result Reached Cause → Type 0
IsRightNext theory step s trace (Err cause) = IsFault theory step s cause
IsRightNext theory step s trace (Ok m) =
    (facts : Facts ⊥) × (s' : State) × Leads theory step facts s s' × Follows (signature_of theory).equations m s' (with_entry facts.actions trace)

entry_shown : (es : List Equation) (actions : List (Action ⊥)) (entries : List (List (Action ⊥))) (trace : Trace) → newest_first entries ≡ normal_trace es trace →
    newest_first (entries_after (map (normal_action es) actions) entries) ≡ normal_trace es (with_entry actions trace)
entry_shown es [] entries trace h = h
entry_shown es (a ∷ actions) entries trace h = newest_last entries (map (normal_action es) (a ∷ actions)) ∙ ap (λ zs. map (normal_action es) (a ∷ actions) ∷ zs) h

added_there : (x t : Ground) (xs ys : List Ground) → (Member t xs → Member t ys) → Member t (xs ++ x ∷ []) → Member t (x ∷ ys)
added_there x t xs ys h m = ⊎_elim (λ a. inr (h a)) (λ b. ⊎_elim (λ e. inl e) (λ n. absurd n) b) (member_either t xs (x ∷ []) m)

added_back : (x t : Ground) (xs ys : List Ground) → (Member t ys → Member t xs) → Member t (x ∷ ys) → Member t (xs ++ x ∷ [])
added_back x t xs ys h m = ⊎_elim (λ e. member_right t xs (x ∷ []) (inl e)) (λ n. member_left t xs (x ∷ []) (h n)) m

made_there : (step : Step) (xs ys : List Ground) → ((t : Ground) → Member t xs → Member t ys) → (t : Ground) → Member t (made_after step xs) → Member t (made_by step ys)
made_there (make_fresh x) xs ys h t m = added_there x t xs ys (h t) m
made_there (use_rule x given) xs ys h t m = h t m
made_there (take_out x) xs ys h t m = h t m
made_there (put_in x) xs ys h t m = h t m
made_there (know_public x) xs ys h t m = h t m
made_there (make_own x) xs ys h t m = h t m
made_there (apply_symbol f ts) xs ys h t m = h t m

made_back : (step : Step) (xs ys : List Ground) → ((t : Ground) → Member t ys → Member t xs) → (t : Ground) → Member t (made_by step ys) → Member t (made_after step xs)
made_back (make_fresh x) xs ys h t m = added_back x t xs ys (h t) m
made_back (use_rule x given) xs ys h t m = h t m
made_back (take_out x) xs ys h t m = h t m
made_back (put_in x) xs ys h t m = h t m
made_back (know_public x) xs ys h t m = h t m
made_back (make_own x) xs ys h t m = h t m
made_back (apply_symbol f ts) xs ys h t m = h t m

module _ (theory : Theory) (good : HaveNormalForms (signature_of theory).equations) (right : AreRight theory.rules) where
  abbrev es : List Equation
  es = (signature_of theory).equations

  module _ (step : Step) (m : Reached) (s : State) (trace : Trace) (follows : Follows es m s trace) (i : Instance) (h : HasInstance theory step i) where
    abbrev shown_facts : Facts ⊥
    shown_facts = normal_facts es i.facts

    below_two : (c : Cause) → rank c < 2 → IsNoStep c theory step s → ⊥
    below_two no_such_rule l k = k h.is_named
    below_two no_instance l k = k h.values i.facts h.is_instance
    below_two premise_absent l k = absurd (omega arith)
    below_two fresh_name_twice l k = absurd (omega arith)
    below_two wrong_sort l k = absurd (omega arith)

    module _ (rest : List (Fact ⊥)) (takes : Takes es i.facts.premises s.facts rest) where
      below_three : (c : Cause) → rank c < 3 → IsNoStep c theory step s → ⊥
      below_three no_such_rule l k = k h.is_named
      below_three no_instance l k = k h.values i.facts h.is_instance
      below_three premise_absent l k = k h.values i.facts rest h.is_instance takes
      below_three fresh_name_twice l k = absurd (omega arith)
      below_three wrong_sort l k = absurd (omega arith)

      below_four : IsNew step s → (c : Cause) → rank c < 4 → IsNoStep c theory step s → ⊥
      below_four n no_such_rule l k = k h.is_named
      below_four n no_instance l k = k h.values i.facts h.is_instance
      below_four n premise_absent l k = k h.values i.facts rest h.is_instance takes
      below_four n fresh_name_twice l k = k n
      below_four n wrong_sort l k = absurd (omega arith)

      module _ (kept : List (Fact ⊥)) (same : SameFacts kept (normals es rest)) where
        followed : Follows es (reached_after step shown_facts kept m) (after step i.facts s rest) (with_entry i.facts.actions trace)
        followed = record {
          facts = subst (λ (zs : List (Fact ⊥)). SameFacts (kept ++ normals es i.facts.conclusions) zs) (sym (map_append (normal_fact es) i.facts.conclusions rest))
              (same_facts_added kept (normals es rest) (normals es i.facts.conclusions) same);
          there = made_there step m.made s.made follows.there;
          back = made_back step m.made s.made follows.back;
          shown = entry_shown es i.facts.actions m.entries trace follows.shown;
        }

        by_sorts : IsNew step s → (b : Bool) → i.sorted ≡ b →
            IsRightNext theory step s trace (if b then Ok (reached_after step shown_facts kept m) else Err wrong_sort)
        by_sorts n true e = (
          i.facts,
          after step i.facts s rest,
          record { values = h.values; rest = rest; named = h.is_named; is_instance = h.is_instance; takes = takes; is_new = n; sorts = h.sorts e; adds = refl },
          followed,
        )
        by_sorts n false e = record { fails = λ v facts k t. h.no_sorts e v facts k t; least = below_four n }

        by_made : (b : Bool) → is_made_twice step m.made ≡ b →
            IsRightNext theory step s trace (if b then Err fresh_name_twice else if i.sorted then Ok (reached_after step shown_facts kept m) else Err wrong_sort)
        by_made true e = record { fails = made_twice step m.made s follows.there e; least = below_three }
        by_made false e = by_sorts (made_once step m.made s follows.back e) i.sorted refl

    absent : (facts : Facts ⊥) (rest : List (Fact ⊥)) → taken (normals es i.facts.premises) m.facts ≡ None →
        facts ≡ i.facts → Takes es facts.premises s.facts rest → ⊥
    absent facts rest e same t =
        let t' = subst (λ (f : Facts ⊥). Takes es f.premises s.facts rest) same t in
        let r = takes_taken es good i.facts.premises m.facts s.facts rest follows.facts t' in
        let apart = sym e ∙ r.1 in
        absurd cc

    by_premises : (o : Option (List (Fact ⊥))) → taken (normals es i.facts.premises) m.facts ≡ o → IsRightNext theory step s trace (by_rest step shown_facts i.sorted m o)
    by_premises None e = record {
      fails = λ v facts rest k t. absent facts rest e (one_instance theory right step v h.values facts i.facts k h.is_instance) t;
      least = below_two;
    }
    by_premises (Some kept) e =
        let r = taken_takes es good i.facts.premises m.facts s.facts kept follows.facts e in
        by_made r.0 r.1 kept r.2 (is_made_twice step m.made) refl

  next_by : (step : Step) (m : Reached) (s : State) (trace : Trace) → Follows es m s trace → (r : Result Instance Cause) → IsRightInstance theory step r →
      IsRightNext theory step s trace (by_instance (signature_of theory) step m r)
  next_by step m s trace follows (Err cause) h = h s
  next_by step m s trace follows (Ok i) h = by_premises step m s trace follows i h (taken (normals es i.facts.premises) m.facts) refl

  -- the step is done as the definition does it, or fails for the least cause
  pub next_right : (step : Step) (m : Reached) (s : State) (trace : Trace) → Follows es m s trace →
      IsRightNext theory step s trace (next (signature_of theory) theory.rules step m)
  next_right step m s trace follows = next_by step m s trace follows (instance_of (signature_of theory) theory.rules step) (instance_right theory right step)
