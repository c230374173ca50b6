-- What happens at a position does so under values that agree on its variables and times, and after replacing that changes no value; and what
-- is put in for its variables and times is all that then stands in it.
use Rattle.std.proofs.Common.{◌≡◌, ◌∷◌, [], ℕ, List, ◌++◌, map, sym, ◌∙◌, subst}
use Rattle.sp_spec.specs.Lists.{Every, AtPosition}
use Rattle.sp_spec.specs.Term.{Names, Variable, Term, Ground, valued, MadeOf}
use Rattle.sp_spec.specs.Rule.{Facts, facts_at}
use Rattle.sp_spec.specs.Log.{Log, How, by_chain, step, send, learn}
use Rattle.sp_spec.specs.Substitution.{Binding, bound_to, Fixes}
use Rattle.sp_spec_system.specs.System.{Way, anyhow, public_name, own_name, constructed, chain_begun, chain_done, Happening, rule_step, sending, learning}
use Rattle.sp_spec_system.specs.Solutions.{Valuation, Begins, IsWayOf, HappensAt}
use Rattle.sp_spec_system.specs.Numbered.{InWay, InHappening}
use Rattle.sp_spec_system.specs.Equating.{way_changed, happening_changed}
use Rattle.sp_spec.proofs.Lists.{every_map, every_all, every_weaken, map_each, map-map}
use Rattle.sp_law_system.proofs.Facts.{valued_same, facts_same, fixed_term, fixed_facts}
use Rattle.sp_law_equal.proofs.Made.{each_weaken, facts_weaken, each_valued, facts_valued}

-- the values of a message and of a way are what the log has to have
module _ (v w : Valuation) where
  as_many_begin : (ts us : List (Term Variable)) → map (valued w.terms) us ≡ map (valued v.terms) ts → Begins ts → Begins us
  as_many_begin (t ∷ ts) [] d b = absurd cc
  as_many_begin (t ∷ ts) (u ∷ us) d b = tt
  as_many_begin [] us d b = absurd b

  begun_kept : (i j k : ℕ) (ts us : List (Term Variable)) (how : How) → w.times j ≡ v.times i → map (valued w.terms) us ≡ map (valued v.terms) ts
      → IsWayOf v (chain_begun i k ts) how → IsWayOf w (chain_begun j k us) how
  begun_kept i j k ts us how e d h = (
    h.0,
    subst (λ (xs : List Ground). how ≡ by_chain (w.times j) k (xs ++ h.0)) (sym d) (subst (λ (q : ℕ). how ≡ by_chain q k (map (valued v.terms) ts ++ h.0)) (sym e) h.1),
    as_many_begin ts us d h.2,
  )

  done_kept : (i j k : ℕ) (ts us : List (Term Variable)) (how : How) → w.times j ≡ v.times i → map (valued w.terms) us ≡ map (valued v.terms) ts
      → IsWayOf v (chain_done i k ts) how → IsWayOf w (chain_done j k us) how
  done_kept i j k ts us how e d h =
      subst (λ (xs : List Ground). how ≡ by_chain (w.times j) k xs) (sym d) (subst (λ (q : ℕ). how ≡ by_chain q k (map (valued v.terms) ts)) (sym e) h)

  module _ (log : Log) (p : ℕ) where
    learning_kept : (t u : Term Variable) (way other : Way) → valued w.terms u ≡ valued v.terms t → ((how : How) → IsWayOf v way how → IsWayOf w other how)
        → HappensAt log p v (learning t way) → HappensAt log p w (learning u other)
    learning_kept t u way other e k h = (h.0, subst (λ (g : Ground). AtPosition log p (learn g h.0)) (sym e) h.1, k h.0 h.2)

    sending_kept : (t u : Term Variable) → valued w.terms u ≡ valued v.terms t → HappensAt log p v (sending t) → HappensAt log p w (sending u)
    sending_kept t u e h = subst (λ (g : Ground). AtPosition log p (send g)) (sym e) h

-- values that agree on these variables and times
module _ (N : Names) (P : Variable → Type 0) (Q : ℕ → Type 0) (v w : Valuation) (terms : (x : Variable) → P x → w.terms x ≡ v.terms x) (times : (i : ℕ) → Q i → w.times i ≡ v.times i) where
  pub agree_term : (t : Term Variable) → MadeOf N P t → valued w.terms t ≡ valued v.terms t
  agree_term t b = valued_same N w.terms v.terms t (each_weaken N _ _ terms t b)

  agree_terms : (ts : List (Term Variable)) → Every (MadeOf N P) ts → map (valued w.terms) ts ≡ map (valued v.terms) ts
  agree_terms ts b = map_each (valued w.terms) (valued v.terms) ts (every_weaken _ _ agree_term ts b)

  agree_way : (way : Way) → InWay N P Q way → (how : How) → IsWayOf v way how → IsWayOf w way how
  agree_way anyhow b how h = tt
  agree_way public_name b how h = h
  agree_way own_name b how h = h
  agree_way constructed b how h = h
  agree_way (chain_begun i k ts) b how h = begun_kept v w i i k ts ts how (times i b.0) (agree_terms ts b.1) h
  agree_way (chain_done i k ts) b how h = done_kept v w i i k ts ts how (times i b.0) (agree_terms ts b.1) h

  pub agree_happening : (log : Log) (p : ℕ) (h : Happening) → InHappening N P Q h → HappensAt log p v h → HappensAt log p w h
  agree_happening log p (rule_step r facts) b h =
      let e : facts_at v.terms facts ≡ facts_at w.terms facts = facts_same N v.terms w.terms facts (facts_weaken N _ _ (λ x k. sym (terms x k)) facts b) in
      (h.0, subst (λ (f : Facts ⊥). AtPosition log p (step r f h.0)) e h.1)
  agree_happening log p (sending m) b h = sending_kept v w log p m m (agree_term m b) h
  agree_happening log p (learning m way) b h = learning_kept v w log p m m way way (agree_term m b.0) (agree_way way b.1) h

-- replacing that the values fix
module _ (v : Valuation) (bs : List Binding) (fixes : Fixes v.terms bs) (times : ℕ → ℕ) (same_times : (i : ℕ) → v.times (times i) ≡ v.times i) where
  change_terms : (ts : List (Term Variable)) → map (valued v.terms) (map (valued (bound_to bs)) ts) ≡ map (valued v.terms) ts
  change_terms ts = map-map (valued (bound_to bs)) (valued v.terms) ts ∙ map_each _ (valued v.terms) ts (every_all _ (fixed_term v.terms bs fixes) ts)

  change_way : (way : Way) (how : How) → IsWayOf v way how → IsWayOf v (way_changed (bound_to bs) times way) how
  change_way anyhow how h = tt
  change_way public_name how h = h
  change_way own_name how h = h
  change_way constructed how h = h
  change_way (chain_begun i k ts) how h = begun_kept v v i (times i) k ts (map (valued (bound_to bs)) ts) how (same_times i) (change_terms ts) h
  change_way (chain_done i k ts) how h = done_kept v v i (times i) k ts (map (valued (bound_to bs)) ts) how (same_times i) (change_terms ts) h

  pub change_happening : (log : Log) (p : ℕ) (h : Happening) → HappensAt log p v h → HappensAt log p v (happening_changed (bound_to bs) times h)
  change_happening log p (rule_step r facts) h = (h.0, subst (λ (f : Facts ⊥). AtPosition log p (step r f h.0)) (sym (fixed_facts v.terms bs fixes facts)) h.1)
  change_happening log p (sending m) h = sending_kept v v log p m (valued (bound_to bs) m) (fixed_term v.terms bs fixes m) h
  change_happening log p (learning m way) h =
      learning_kept v v log p m (valued (bound_to bs) m) way (way_changed (bound_to bs) times way) (fixed_term v.terms bs fixes m) (change_way way) h

-- and what then stands in it
module _ (N : Names) (P : Variable → Type 0) (Q : ℕ → Type 0) (terms : Variable → Term Variable) (terms_within : (x : Variable) → P x → MadeOf N P (terms x)) (times : ℕ → ℕ) (times_within : (i : ℕ) → Q i → Q (times i)) where
  way_in : (way : Way) → InWay N P Q way → InWay N P Q (way_changed terms times way)
  way_in anyhow b = tt
  way_in public_name b = tt
  way_in own_name b = tt
  way_in constructed b = tt
  way_in (chain_begun i k ts) b = (times_within i b.0, every_map _ _ (valued terms) (each_valued N P P terms terms_within) ts b.1)
  way_in (chain_done i k ts) b = (times_within i b.0, every_map _ _ (valued terms) (each_valued N P P terms terms_within) ts b.1)

  pub happening_in : (h : Happening) → InHappening N P Q h → InHappening N P Q (happening_changed terms times h)
  happening_in (rule_step r facts) b = facts_valued N P P terms terms_within facts b
  happening_in (sending m) b = each_valued N P P terms terms_within m b
  happening_in (learning m way) b = (each_valued N P P terms terms_within m b.0, way_in way b.1)
