-- Each entry of a solution's log becomes, under the renaming, the one that is suggested for its event.
use Rattle.std.proofs.Common.{◌≡◌, ⊎_elim, ℕ, zero, true, List, [], ◌∷◌, map, Some, inl, inr, refl, sym, ap, ap₂, ◌∙◌, subst}
use Rattle.sp_spec.specs.Lists.{Member, Every, AtPlace, AtPosition}
use Rattle.sp_spec.proofs.Lists.{every_member, every_from, every_parts, member_left, member_right, member_either}
use Rattle.sp_spec.proofs.Logs.{entry_behind}
use Rattle.sp_spec.specs.Term.{Msg, Variable, Term, Ground, Values, valued, in_term}
use Rattle.sp_spec.specs.Rule.{Facts, facts_at}
use Rattle.sp_spec.specs.Theory.{Theory}
use Rattle.sp_spec.specs.Log.{Log, Entry, step, send, learn, Source, How, by_chain, IsLog, HasSources, premise_sources}
use Rattle.sp_spec_system.specs.System.{Way, anyhow, own_name, constructed, chain_begun, chain_done, Happening, rule_step, sending, learning, Event, System}
use Rattle.sp_spec_system.specs.System as system
use Rattle.sp_spec_system.specs.Numbered.{names_in, InEvent, InHappening, InWay}
use Rattle.sp_spec_system.specs.Solutions.{Valuation, Solves, HappensAt, IsWayOf}
use Rattle.sp_spec_solved.specs.Listing.{in_order}
use Rattle.sp_spec_solved.specs.Naming.{in_way, in_step, in_events}
use Rattle.sp_spec_solved.specs.Candidate.{is_settled, is_settled_way, how_at}
use Rattle.sp_law_candidate.proofs.Sources.{past-first}
use Rattle.sp_law_exchange.specs.Renaming.{Renaming, renamed, how_renamed, entry_renamed}
use Rattle.sp_spec_system.specs.Occurring.{happening_times}
use Rattle.sp_law_know.proofs.Learnt.{learnt_public}
use Rattle.sp_law_exchange.specs.Laws.{any_variable, any_time}
use Rattle.sp_law_decided.specs.Decided.{IsDecided}
use Rattle.sp_law_decided.proofs.Times.{chain_time}
use Rattle.sp_law_decided.proofs.Whole.{of_system, happens, place_is, same_position}
use Rattle.sp_law_decided.proofs.Renaming.{term_renamed, chain_renamed, step_renamed}
use Rattle.sp_law_decided.proofs.Suggested.{IsSuggested}
use Rattle.sp_law_decided.proofs.Sources.{same_sources}
use Rattle.sp_law_decided.proofs.Learning.{public_value, chain_below}

pub stands_among : (es : List Event) (e : Event) (x : Variable) → Member e es → Member x (in_step e.happening) → Member x (in_events es)
stands_among [] e x m k = absurd m
stands_among (d ∷ es) e x (inl s) k = member_left x (in_step d.happening) (in_events es) (subst (λ (h : Event). Member x (in_step h.happening)) (sym s) k)
stands_among (d ∷ es) e x (inr m) k = member_right x (in_step d.happening) (in_events es) (stands_among es e x m k)

-- a variable in events stands in one of them
pub stands_in : (es : List Event) (x : Variable) → Member x (in_events es) → (e : Event) × Member e es × Member x (in_step e.happening)
stands_in [] x m = absurd m
stands_in (e ∷ es) x m = ⊎_elim (λ k. (e, inl refl, k)) (λ k. let r = stands_in es x k in (r.0, inr r.1, r.2)) (member_either x (in_step e.happening) (in_events es) m)

module _ (theory : Theory) (constants : List (List ℕ)) (s : System) (decided : IsDecided constants s)
    (entries : Log) (is_log : IsLog theory entries) (v : Valuation) (solves : Solves theory entries v s)
    (listed : List Event) (is_order : in_order s.order s.events ≡ Some listed)
    (r : Renaming) (stay : Every (λ c. r.public c ≡ c) constants)
    (w : Values) (leads : (x : Variable) → Member x (in_events listed) → renamed r (v.terms x) ≡ w x) where
  abbrev IsNamed : Variable → Type 0
  IsNamed x = x.sort ≡ Msg → ⊥

  abbrev Good : Variable → Type 0
  Good x = renamed r (v.terms x) ≡ w x

  abbrev Becomes : ℕ → Entry → Type 0
  Becomes p d = (there : Entry) × AtPosition entries p there × (entry_renamed r there ≡ d)

  -- ---- how it is learnt

  way_is : (e : Event) → Member e listed → (m : Term Variable) (way : Way) → e.happening ≡ learning m way → InWay (names_in constants) any_variable any_time way
      → Every IsNamed (in_term m) → Every Good (in_way way) → is_settled_way m way ≡ true
      → (how : How) → AtPosition entries (v.times e.time) (learn (valued v.terms m) how) → IsWayOf v way how → how_renamed r how ≡ how_at listed w way
  way_is e k m anyhow is in_it named good settled how there way =
      ap (how_renamed r) (learnt_public theory entries is_log (v.times e.time) (valued v.terms m) how there (public_value v.terms (λ x. (solves.sorts x).0) m named settled))
  way_is e k m system.public_name is in_it named good settled how there way = ap (how_renamed r) way
  way_is e k m own_name is in_it named good settled how there way = ap (how_renamed r) way
  way_is e k m constructed is in_it named good settled how there way = ap (how_renamed r) way
  way_is e k m (chain_begun i c ts) is in_it named good settled how there way = absurd cc
  way_is e k m (chain_done i c ts) is in_it named good settled how there way =
      let of_chain : how ≡ by_chain (v.times i) c (map (valued v.terms) ts) = way in
      let at_chain = subst (λ (h : How). AtPosition entries (v.times e.time) (learn (valued v.terms m) h)) of_chain there in
      let below = chain_below theory entries is_log (v.times e.time) (valued v.terms m) (v.times i) c (map (valued v.terms) ts) at_chain in
      let in_system = chain_time s e i (of_system theory constants s decided entries v solves listed is_order e k) (subst (λ (h : Happening). Member i (happening_times h)) (sym is) (inl refl)) in
      let place = same_position theory constants s decided entries v solves listed is_order i in_system below in
      ap (how_renamed r) of_chain
      ∙ ap₂ (λ (q : ℕ) (us : List Ground). by_chain q c us) (sym place) (chain_renamed constants r stay v.terms w ts in_it.1 good)

  -- ---- the entry

  log_sources_are : (p : ℕ) (n : List ℕ) (facts : Facts ⊥) (ss : List Source) → AtPosition entries p (step n facts ss) → (past_log : Log) × HasSources facts.premises ss past_log
  log_sources_are p n facts ss there = let b = entry_behind theory entries is_log p (step n facts ss) there in (b.past, (b.keeps premise_sources).0)

  by_happening : (e : Event) → Member e listed → (h : Happening) → e.happening ≡ h → InHappening (names_in constants) any_variable any_time h → Every IsNamed (in_step h) → Every Good (in_step h) → is_settled h ≡ true
      → HappensAt entries (v.times e.time) v h → (d : Entry) → IsSuggested listed s.links w (record { time = e.time; happening = h }) d → Becomes (v.times e.time) d
  by_happening e k (rule_step n facts) is names named good settled at_time d made =
      let ss = at_time.0 in
      let there = at_time.1 in
      let b = log_sources_are (v.times e.time) n (facts_at v.terms facts) ss there in
      let same =
      same_sources entries v listed s.links solves.links (place_is theory constants s decided entries v solves listed is_order) e.time n (facts_at v.terms facts) ss there
      b.0 zero facts.premises ss b.1 (λ (j : ℕ) (x : Source) (a : AtPlace ss j x). subst (λ (q : ℕ). AtPlace ss q x) (sym (past-first j)) a) made.0 made.1 in (
        step n (facts_at v.terms facts) ss,
        there,
        ap₂ (λ (fs : Facts ⊥) (xs : List Source). step n fs xs) (step_renamed constants r stay v.terms w facts names good) same ∙ sym made.2,
      )
  by_happening e k (sending m) is names named good settled at_time d made =
      (send (valued v.terms m), at_time, ap send (term_renamed constants r stay v.terms w m names good) ∙ sym made.2)
  by_happening e k (learning m way) is names named good settled at_time d made =
      let both = every_parts Good (in_term m) (in_way way) good in (
        learn (valued v.terms m) at_time.0,
        at_time.1,
        ap₂ learn (term_renamed constants r stay v.terms w m names.0 both.0)
            (way_is e k m way is names.1 (every_parts IsNamed (in_term m) (in_way way) named).0 both.1 settled at_time.0 at_time.1 at_time.2) ∙ sym made.2,
      )

  pub entry_is : (e : Event) → Member e listed → (d : Entry) → IsSuggested listed s.links w e d → Becomes (v.times e.time) d
  entry_is e k d made =
      let m = of_system theory constants s decided entries v solves listed is_order e k in
      by_happening e k e.happening refl
      (every_member (InEvent (names_in constants) any_variable any_time) s.events e m decided.names).1
      (every_from IsNamed (in_step e.happening) (λ x a. decided.named x (stands_among s.events e x m a)))
      (every_from Good (in_step e.happening) (λ x a. leads x (stands_among listed e x k a)))
      (decided.settled e m)
      (happens theory constants s decided entries v solves listed is_order e k)
      d made
