-- What has none of the bound variables, and not the time, is unchanged.
use Rattle.std.proofs.Common.{◌≡◌, ℕ, true, ◌&&◌, List, map, refl, ap, ap₂}
use Rattle.std.proofs.lemmas.Bool.{and_parts}
use Rattle.sp_spec.specs.Term.{Variable, Term, Terms, valued, valued_all, each_variables}
use Rattle.sp_spec.specs.Rule.{Fact, Action, Facts, fact_at, action_at, facts_at}
use Rattle.sp_spec.specs.Substitution.{Binding, bound_to}
use Rattle.sp_spec.specs.Unifier.{Pair}
use Rattle.sp_spec.specs.Change.{time_replaced}
use Rattle.sp_spec_system.specs.System.{Way, anyhow, public_name, own_name, constructed, chain_begun, chain_done, Happening, rule_step, sending, learning, Event, Link}
use Rattle.sp_spec_system.specs.Equating.{way_changed, happening_changed, event_changed, pair_changed, link_changed}
use Rattle.sp_formula.specs.Staying.{is_unbound, time_stays, all_so}
use Rattle.sp_formula.proofs.Stays.{term_kept, terms_kept, all_kept, unbound_kept, time_kept}
use Rattle.sp_system.specs.Stays.{term_stays, fact_stays, action_stays, facts_stay, way_stays, happening_stays, event_stays, pair_stays, link_stays}

module _ (bs : List Binding) where
  term_same : (t : Term Variable) → term_stays bs t ≡ true → valued (bound_to bs) t ≡ t
  term_same t h = term_kept (is_unbound bs) (bound_to bs) (unbound_kept bs) t h

  args_same : (ts : Terms Variable) → each_variables (is_unbound bs) ts ≡ true → valued_all (bound_to bs) ts ≡ ts
  args_same ts h = terms_kept (is_unbound bs) (bound_to bs) (unbound_kept bs) ts h

  fact_same : (f : Fact Variable) → fact_stays bs f ≡ true → fact_at (bound_to bs) f ≡ f
  fact_same f h = ap (λ (ts : Terms Variable). let made : Fact Variable = record { symbol = f.symbol; persistent = f.persistent; args = ts } in made) (args_same f.args h)

  action_same : (a : Action Variable) → action_stays bs a ≡ true → action_at (bound_to bs) a ≡ a
  action_same a h = ap (λ (ts : Terms Variable). let made : Action Variable = record { symbol = a.symbol; args = ts } in made) (args_same a.args h)

  facts_same : (f : Facts Variable) → facts_stay bs f ≡ true → facts_at (bound_to bs) f ≡ f
  facts_same f h =
      let outer = and_parts (all_so (fact_stays bs) f.premises && all_so (action_stays bs) f.actions) (all_so (fact_stays bs) f.conclusions) h in
      let inner = and_parts (all_so (fact_stays bs) f.premises) (all_so (action_stays bs) f.actions) outer.0 in
      let made : List (Fact Variable) → List (Action Variable) → List (Fact Variable) → Facts Variable = λ ps xs cs. record { premises = ps; actions = xs; conclusions = cs } in
      let premises = all_kept (fact_stays bs) (fact_at (bound_to bs)) fact_same f.premises inner.0 in
      let actions = all_kept (action_stays bs) (action_at (bound_to bs)) action_same f.actions inner.1 in
      let conclusions = all_kept (fact_stays bs) (fact_at (bound_to bs)) fact_same f.conclusions outer.1 in
      ap₂ (λ (g : List (Fact Variable) → Facts Variable) cs. g cs) (ap₂ made premises actions) conclusions

  pub pair_kept : (p : Pair) → pair_stays bs p ≡ true → pair_changed (bound_to bs) p ≡ p
  pair_kept p h =
      let both = and_parts (term_stays bs p.0) (term_stays bs p.1) h in
      ap₂ (λ (t u : Term Variable). let made : Pair = (t, u) in made) (term_same p.0 both.0) (term_same p.1 both.1)

  pub pairs_kept : (ps : List Pair) → all_so (pair_stays bs) ps ≡ true → map (pair_changed (bound_to bs)) ps ≡ ps
  pairs_kept ps h = all_kept (pair_stays bs) (pair_changed (bound_to bs)) pair_kept ps h

  module _ (small large : ℕ) where
    chain_same : (f : ℕ → List (Term Variable) → Way) (i : ℕ) (ts : List (Term Variable)) → (time_stays small large i && all_so (term_stays bs) ts) ≡ true
        → f (time_replaced small large i) (map (valued (bound_to bs)) ts) ≡ f i ts
    chain_same f i ts h =
        let both = and_parts (time_stays small large i) (all_so (term_stays bs) ts) h in
        ap₂ f (time_kept small large i both.0) (all_kept (term_stays bs) (valued (bound_to bs)) term_same ts both.1)

    way_same : (way : Way) → way_stays bs small large way ≡ true → way_changed (bound_to bs) (time_replaced small large) way ≡ way
    way_same anyhow h = refl
    way_same public_name h = refl
    way_same own_name h = refl
    way_same constructed h = refl
    way_same (chain_begun i k ts) h = chain_same (λ j us. chain_begun j k us) i ts h
    way_same (chain_done i k ts) h = chain_same (λ j us. chain_done j k us) i ts h

    pub happening_kept : (x : Happening) → happening_stays bs small large x ≡ true → happening_changed (bound_to bs) (time_replaced small large) x ≡ x
    happening_kept (rule_step r facts) h = ap (rule_step r) (facts_same facts h)
    happening_kept (sending m) h = ap sending (term_same m h)
    happening_kept (learning m way) h =
        let both = and_parts (term_stays bs m) (way_stays bs small large way) h in ap₂ learning (term_same m both.0) (way_same way both.1)

    event_kept : (e : Event) → event_stays bs small large e ≡ true → event_changed (bound_to bs) (time_replaced small large) e ≡ e
    event_kept e h =
        let both = and_parts (time_stays small large e.time) (happening_stays bs small large e.happening) h in
        ap₂ (λ (i : ℕ) (x : Happening). let made : Event = record { time = i; happening = x } in made) (time_kept small large e.time both.0) (happening_kept e.happening both.1)

    pub events_kept : (es : List Event) → all_so (event_stays bs small large) es ≡ true → map (event_changed (bound_to bs) (time_replaced small large)) es ≡ es
    events_kept es h = all_kept (event_stays bs small large) (event_changed (bound_to bs) (time_replaced small large)) event_kept es h

module _ (small large : ℕ) where
  link_kept : (l : Link) → link_stays small large l ≡ true → link_changed (time_replaced small large) l ≡ l
  link_kept l h =
      let both = and_parts (time_stays small large l.from) (time_stays small large l.to) h in
      ap₂ (λ (i j : ℕ). let made : Link = record { from = i; conclusion = l.conclusion; to = j; premise = l.premise } in made)
      (time_kept small large l.from both.0) (time_kept small large l.to both.1)

  pub links_kept : (ls : List Link) → all_so (link_stays small large) ls ≡ true → map (link_changed (time_replaced small large)) ls ≡ ls
  links_kept ls h = all_kept (link_stays small large) (link_changed (time_replaced small large)) link_kept ls h
