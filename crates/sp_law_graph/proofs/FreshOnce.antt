-- Two events that use the same Fr are one entry of the log: the row makes them one, and where it can't there is no solution.
use Rattle.std.proofs.Common.{◌≡◌, ◌⊎◌, ◌≤◌, ℕ, Bool, true, false, if◌then◌else◌, List, [], ◌∷◌, ◌++◌, map, Some, refl, sym, ap, ◌∙◌, subst, inl, inr, ⊎_elim}
use Rattle.sp_spec.proofs.Same.{alike_same}
use Rattle.std.proofs.lemmas.Bool.{or_cases}
use Rattle.sp_spec.specs.Lists.{Member, AtPosition}
use Rattle.sp_spec.specs.Term.{Names, Variable, Term, Terms, none, more, Ground, Values, valued, valued_all}
use Rattle.sp_spec.specs.Rule.{Fact, fact_at, facts_at}
use Rattle.sp_spec.specs.Theory.{Theory}
use Rattle.sp_spec.specs.Same.{alike}
use Rattle.sp_spec.specs.Log.{Log, How, Entry, step, send, learn, fresh_names_once, IsLog, is_fr, first_arg, fresh_of, fresh_uses, all_fresh_uses}
use Rattle.sp_spec.proofs.Lists.{member_map, member_left, member_right, distinct_apart}
use Rattle.sp_spec_system.specs.System.{anyhow, public_name, own_name, constructed, chain_begun, chain_done, Happening, rule_step, sending, learning, Event, System}
use Rattle.sp_spec_system.specs.Solutions.{Valuation, HappensAt, HappensIn, Solves}
use Rattle.sp_spec_system.specs.Numbered.{IsNumbered}
use Rattle.sp_spec_system.specs.Covering.{Covers}
use Rattle.sp_law_system.specs.Laws.{UnifierIsRight}
use Rattle.sp_spec_graph.specs.Fresh.{first_term, fresh_terms, happening_fresh, stands_in, share_one, shares_fresh}
use Rattle.sp_spec_graph.specs.FreshOnce.{fresh_once, fails_to_merge}
use Rattle.sp_law_graph.proofs.OneEvent.{one_event_covers, one_event_numbered, apart_contradicts}

-- the Fr that an entry of the log uses is among those that the log uses
uses_among : (log : Log) (p : ℕ) (e : Entry) (t : Ground) → AtPosition log p e → Member t (fresh_uses e) → Member t (all_fresh_uses log)
uses_among [] p e t a m = absurd a
uses_among (d ∷ log) p e t (inl a) m = member_left t (fresh_uses d) (all_fresh_uses log) (subst (λ (x : Entry). Member t (fresh_uses x)) (sym a.1) m)
uses_among (d ∷ log) p e t (inr a) m = member_right t (fresh_uses d) (all_fresh_uses log) (uses_among log p e t a m)

-- two entries that use one Fr are at one position
pub one_position : (theory : Theory) (log : Log) → IsLog theory log → (p q : ℕ) (d e : Entry) (t : Ground) → AtPosition log p d → AtPosition log q e → Member t (fresh_uses d) → Member t (fresh_uses e) → p ≡ q
one_position theory [] is p q d e t a b m k = absurd a
one_position theory (z ∷ log) is p q d e t (inl a) (inl b) m k = a.0 ∙ sym b.0
one_position theory (z ∷ log) is p q d e t (inl a) (inr b) m k =
    absurd (distinct_apart t (fresh_uses z) (all_fresh_uses log) (is.1 fresh_names_once) (subst (λ (x : Entry). Member t (fresh_uses x)) (sym a.1) m) (uses_among log q e t b k))
one_position theory (z ∷ log) is p q d e t (inr a) (inl b) m k =
    absurd (distinct_apart t (fresh_uses z) (all_fresh_uses log) (is.1 fresh_names_once) (subst (λ (x : Entry). Member t (fresh_uses x)) (sym b.1) k) (uses_among log p d t a m))
one_position theory (z ∷ log) is p q d e t (inr a) (inr b) m k = one_position theory log is.0 p q d e t a b m k

-- the names that the instance uses are the values of the terms whose Fr the premises use
pub fresh_values : (v : Values) (fs : List (Fact Variable)) → fresh_of (map (fact_at v) fs) ≡ map (valued v) (fresh_terms fs)
fresh_values v [] = refl
fresh_values v (f ∷ fs) = at (is_fr f) f.args (fresh_values v fs)
  where
    at : (b : Bool) (ts : Terms Variable) → fresh_of (map (fact_at v) fs) ≡ map (valued v) (fresh_terms fs)
        → (if b then first_arg (valued_all v ts) else []) ++ fresh_of (map (fact_at v) fs) ≡ map (valued v) ((if b then first_term ts else []) ++ fresh_terms fs)
    at true none rest = rest
    at true (more t ts) rest = ap (λ (xs : List Ground). valued v t ∷ xs) rest
    at false ts rest = rest

pub fresh_member : (v : Values) (t : Term Variable) (fs : List (Fact Variable)) → Member t (fresh_terms fs) → Member (valued v t) (fresh_of (map (fact_at v) fs))
fresh_member v t fs m = subst (Member (valued v t)) (sym (fresh_values v fs)) (member_map (valued v) t (fresh_terms fs) m)

pub stands_member : (t : Term Variable) (us : List (Term Variable)) → stands_in t us ≡ true → Member t us
stands_member t [] e = absurd cc
stands_member t (u ∷ us) e = ⊎_elim (λ k. inl (sym (alike_same t u k))) (λ k. inr (stands_member t us k)) (or_cases (alike t u) (stands_in t us) e)

shared_member : (ts us : List (Term Variable)) → share_one ts us ≡ true → (t : Term Variable) × Member t ts × Member t us
shared_member [] us e = absurd cc
shared_member (t ∷ ts) us e =
    ⊎_elim
    (λ k. (t, inl refl, stands_member t us k))
    (λ k. let r = shared_member ts us k in (r.0, inr r.1, r.2))
    (or_cases (stands_in t us) (share_one ts us) e)

-- The entry of what happens uses the values of the terms that this uses. (What is learnt anyhow uses none, while its entry may.)
pub happening_values : (log : Log) (p : ℕ) (v : Valuation) (h : Happening) → HappensAt log p v h
    → (e : Entry) × AtPosition log p e × ((happening_fresh h ≡ []) ⊎ (fresh_uses e ≡ map (valued v.terms) (happening_fresh h)))
happening_values log p v (rule_step r facts) k = (step r (facts_at v.terms facts) k.0, k.1, inr (fresh_values v.terms facts.premises))
happening_values log p v (sending m) k = (send (valued v.terms m), k, inl refl)
happening_values log p v (learning m own_name) k =
    (learn (valued v.terms m) k.0, k.1, inr (subst (λ (how : How). fresh_uses (learn (valued v.terms m) how) ≡ valued v.terms m ∷ []) (sym k.2) refl))
happening_values log p v (learning m anyhow) k = (learn (valued v.terms m) k.0, k.1, inl refl)
happening_values log p v (learning m public_name) k = (learn (valued v.terms m) k.0, k.1, inl refl)
happening_values log p v (learning m constructed) k = (learn (valued v.terms m) k.0, k.1, inl refl)
happening_values log p v (learning m (chain_begun i c ts)) k = (learn (valued v.terms m) k.0, k.1, inl refl)
happening_values log p v (learning m (chain_done i c ts)) k = (learn (valued v.terms m) k.0, k.1, inl refl)

pub happening_uses : (log : Log) (p : ℕ) (v : Valuation) (h : Happening) → HappensAt log p v h → (t : Term Variable) → Member t (happening_fresh h)
    → (e : Entry) × AtPosition log p e × Member (valued v.terms t) (fresh_uses e)
happening_uses log p v h k t m = let d = happening_values log p v h k in (d.0, d.1, at d.0 d.2)
  where
    at : (e : Entry) → (happening_fresh h ≡ []) ⊎ (fresh_uses e ≡ map (valued v.terms) (happening_fresh h)) → Member (valued v.terms t) (fresh_uses e)
    at e (inl nothing) = absurd (subst (Member t) nothing m)
    at e (inr uses) = subst (Member (valued v.terms t)) (sym uses) (member_map (valued v.terms) t (happening_fresh h) m)

-- two happenings that use one Fr are at one position
one_time : (theory : Theory) (log : Log) → IsLog theory log → (v : Valuation) (p q : ℕ) (a b : Happening) → HappensAt log p v a → HappensAt log q v b → share_one (happening_fresh a) (happening_fresh b) ≡ true → p ≡ q
one_time theory log is v p q a b h k s =
    let t = shared_member (happening_fresh a) (happening_fresh b) s in
    let d = happening_uses log p v a h t.0 t.1 in
    let e = happening_uses log q v b k t.0 t.2 in
    one_position theory log is p q d.0 e.0 (valued v.terms t.0) d.1 e.1 d.2 e.2

one_event : (theory : Theory) (log : Log) → IsLog theory log → (v : Valuation) (d e : Event) → HappensIn log v d → HappensIn log v e → shares_fresh d e ≡ true → v.times d.time ≡ v.times e.time
one_event theory log is v d e h k s = one_time theory log is v (v.times d.time) (v.times e.time) d.happening e.happening h k s

module _ (N : Names) (right : UnifierIsRight) (theory : Theory) where
  pub fresh_once_covers : (s t : System) → fresh_once s ≡ Some t → IsNumbered N s → Covers theory s (t ∷ [])
  fresh_once_covers = one_event_covers shares_fresh N right theory (one_event theory)

  pub fresh_once_numbered : (s t : System) → fresh_once s ≡ Some t → IsNumbered N s → IsNumbered N t × (s.next ≤ t.next)
  fresh_once_numbered = one_event_numbered shares_fresh N right theory (one_event theory)

  -- Failing merge: any two events that use one Fr are one.
  pub merge_contradicts : (s : System) → fails_to_merge s ≡ true → IsNumbered N s → (log : Log) → IsLog theory log → (v : Valuation) → Solves theory log v s → ⊥
  merge_contradicts s e n log is v h = apart_contradicts shares_fresh N right theory (one_event theory) s n log is v h e
