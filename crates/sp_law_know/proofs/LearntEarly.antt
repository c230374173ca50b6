-- Learnt before its chain's step contradicts: in a log no message of a chain was learnt before what the chain begins with was put out.
use Rattle.std.proofs.Common.{◌≡◌, ◌&&◌, ℕ, true, List, [], ◌∷◌, ◌++◌, map, refl, sym, subst, inl, inr, ⊎_elim}
use Rattle.std.proofs.lemmas.Bool.{or_cases, and_parts}
use Rattle.std.proofs.lemmas.List.{append-nil}
use Rattle.sp_spec.specs.Lists.{Member, Every, AtPosition}
use Rattle.sp_spec.specs.Term.{Variable, Term, Ground, valued}
use Rattle.sp_spec.specs.Theory.{Theory}
use Rattle.sp_spec.specs.Log.{Log, How, learn, by_chain, IsLog}
use Rattle.sp_spec.proofs.Lists.{member_map, member_left}
use Rattle.sp_spec_system.specs.System.{Way, anyhow, public_name, own_name, constructed, chain_begun, chain_done, Happening, rule_step, sending, learning, Event, System}
use Rattle.sp_spec_system.specs.Solutions.{Valuation, IsWayOf, HappensAt, HappensIn, Solves}
use Rattle.sp_spec_system.specs.Order.{is_before}
use Rattle.sp_law_formula.proofs.InOrder.{before_later}
use Rattle.sp_spec_know.specs.Learning.{is_learning_of}
use Rattle.sp_spec_know.specs.LearntEarly.{is_learnt_before, is_one_learnt_before, is_early_way, is_early, have_early, has_early}
use Rattle.sp_law_know.proofs.Learnt.{IsLearntBefore, chain_not_before}
use Rattle.sp_law_know.proofs.Learning.{learning_learns}

module _ (theory : Theory) (log : Log) (is : IsLog theory log) (v : Valuation) (s : System) (h : Solves theory log v s) where
  -- what is learnt before a time in the system is learnt before its position in the log
  learnt_there : (i : ℕ) (t : Term Variable) (es : List Event) → is_learnt_before s.order i t es ≡ true → Every (HappensIn log v) es
      → IsLearntBefore log (v.times i) (valued v.terms t)
  learnt_there i t [] e k = absurd cc
  learnt_there i t (d ∷ es) e k =
      ⊎_elim
      (λ c.
      let both = and_parts (is_learning_of t d.happening) (is_before s.order d.time i) c in
      let known = learning_learns log v (v.times d.time) t d.happening both.0 k.0 in
      (v.times d.time, known.0, known.1, before_later log v s.order h.order d.time i both.1))
      (λ c. learnt_there i t es c k.1)
      (or_cases (is_learning_of t d.happening && is_before s.order d.time i) (is_learnt_before s.order i t es) e)

  one_there : (i : ℕ) (ts : List (Term Variable)) → is_one_learnt_before s i ts ≡ true
      → (t : Term Variable) × Member t ts × IsLearntBefore log (v.times i) (valued v.terms t)
  one_there i [] e = absurd cc
  one_there i (t ∷ ts) e =
      ⊎_elim
      (λ c. (t, inl refl, learnt_there i t s.events c h.events))
      (λ c. let r = one_there i ts c in (r.0, inr r.1, r.2))
      (or_cases (is_learnt_before s.order i t s.events) (is_one_learnt_before s i ts) e)

  -- a chain of an entry begins with these messages
  chain_early : (p : ℕ) (m : Ground) (i k : ℕ) (ts : List (Term Variable)) (others : List Ground)
      → AtPosition log p (learn m (by_chain (v.times i) k (map (valued v.terms) ts ++ others)))
      → is_one_learnt_before s i ts ≡ true → ⊥
  chain_early p m i k ts others there e =
      let messages = map (valued v.terms) ts in
      let t = one_there i ts e in
      let known = t.2 in
      let among = member_left (valued v.terms t.0) messages others (member_map (valued v.terms) t.0 ts t.1) in
      chain_not_before theory log is p m (v.times i) k (messages ++ others) there (valued v.terms t.0) among known.0 known.1 known.2 known.3

  way_early : (p : ℕ) (m : Ground) (how : How) → AtPosition log p (learn m how) → (way : Way) → IsWayOf v way how → is_early_way s way ≡ true → ⊥
  way_early p m how there (chain_begun i k ts) w e = chain_early p m i k ts w.0 (subst (λ (x : How). AtPosition log p (learn m x)) w.1 there) e
  way_early p m how there (chain_done i k ts) w e =
      let messages = map (valued v.terms) ts in
      let whole = subst (λ (x : How). AtPosition log p (learn m x)) w there in
      chain_early p m i k ts [] (subst (λ (us : List Ground). AtPosition log p (learn m (by_chain (v.times i) k us))) (sym (append-nil messages)) whole) e
  way_early p m how there anyhow w e = absurd cc
  way_early p m how there public_name w e = absurd cc
  way_early p m how there own_name w e = absurd cc
  way_early p m how there constructed w e = absurd cc

  happening_early : (p : ℕ) (d : Happening) → HappensAt log p v d → is_early s d ≡ true → ⊥
  happening_early p (learning m way) k e = way_early p (valued v.terms m) k.0 k.1 way k.2 e
  happening_early p (sending m) k e = absurd cc
  happening_early p (rule_step r facts) k e = absurd cc

  have_early_contradicts : (es : List Event) → have_early s es ≡ true → Every (HappensIn log v) es → ⊥
  have_early_contradicts [] e k = absurd cc
  have_early_contradicts (d ∷ es) e k =
      ⊎_elim
      (λ c. happening_early (v.times d.time) d.happening k.0 c)
      (λ c. have_early_contradicts es c k.1)
      (or_cases (is_early s d.happening) (have_early s es) e)

  pub early_contradicts : has_early s ≡ true → ⊥
  early_contradicts e = have_early_contradicts s.events e h.events
