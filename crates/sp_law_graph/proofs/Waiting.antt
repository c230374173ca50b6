-- The system that waits for a premise's source: the source's time is a new number before the premise's, and the link is there.
use Rattle.std.proofs.Common.{◌≡◌, ◌<◌, ℕ, suc, Bool, true, false, if◌then◌else◌, List, [], ◌∷◌, ◌++◌, length, refl, sym, subst, arith, nat_eq}
use Rattle.std.proofs.lemmas.Bool.{eqb-true, eq-eqb}
use Rattle.sp_spec.specs.Term.{Names}
use Rattle.sp_spec.specs.Lists.{AtPlace, AtPosition}
use Rattle.sp_spec.specs.Rule.{Facts}
use Rattle.sp_spec.specs.Theory.{Theory}
use Rattle.sp_spec.specs.Log.{Log, step, Source, conclusion}
use Rattle.sp_spec.proofs.Lists.{every_append, position_below}
use Rattle.sp_spec_system.specs.System.{Link, System, with_links, with_order, with_next}
use Rattle.sp_spec_system.specs.Solutions.{Valuation, LinkHolds, IsBefore, Solves}
use Rattle.sp_spec_system.specs.Numbered.{IsNumbered}
use Rattle.sp_spec_system.specs.Covering.{Agrees}
use Rattle.sp_law_system.proofs.Solutions.{agree_solves}
use Rattle.sp_law_system.proofs.With.{LinkUnder, BothUnder, links_solve, order_solves, next_solves, links_numbered, order_numbered, next_numbered}
use Rattle.sp_spec_graph.specs.Premise.{awaiting}

-- a value for one time beside the others
pub timed : ℕ → ℕ → Valuation → Valuation
timed n q v = record { terms = v.terms; times = λ i. if nat_eq i n then q else v.times i }

pub timed_terms : (n q : ℕ) (v : Valuation) → (timed n q v).terms ≡ v.terms
unfolding timed
timed_terms n q v = refl

pub timed_agrees : (n q : ℕ) (v : Valuation) → Agrees n v (timed n q v)
unfolding timed
timed_agrees n q v = record { terms = λ x h. refl; times = λ i h. at (nat_eq i n) refl h }
  where
    at : {i : ℕ} (b : Bool) → nat_eq i n ≡ b → i < n → (if b then q else v.times i) ≡ v.times i
    at {i} true e h = let g : i ≡ n = eqb-true i n e in absurd (omega arith)
    at false e h = refl

pub timed_new : (n q : ℕ) (v : Valuation) → (timed n q v).times n ≡ q
unfolding timed
timed_new n q v = rw (eq-eqb n n refl) refl

-- the new time is before another where its value is
pub timed_before : (n q : ℕ) (v : Valuation) (log : Log) (i : ℕ) → i < n → q < v.times i → v.times i < length log → IsBefore log (timed n q v) (n, i)
timed_before n q v log i under earlier below =
    let same = (timed_agrees n q v).times i under in (
      subst (λ (x : ℕ). x < (timed n q v).times i) (sym (timed_new n q v)) (subst (λ (x : ℕ). q < x) (sym same) earlier),
      subst (λ (x : ℕ). x < length log) (sym same) below,
    )

-- what solves the system does so with a value for the next number's time
pub timed_solves : {N : Names} → (theory : Theory) (log : Log) (s : System) (v : Valuation) (q : ℕ) → IsNumbered N s → Solves theory log v s → Solves theory log (timed s.next q v) s
unfolding timed
timed_solves theory log s v q n h = agree_solves theory log s v (timed s.next q v) n (timed_agrees s.next q v) h.normal h.sorts h

module _ {N : Names} (s : System) (n : IsNumbered N s) (i : ℕ) (i_under : i < s.next) (p k : ℕ) where
  abbrev link : Link
  link = record { from = s.next; conclusion = k; to = i; premise = p }

  pub awaiting_numbered : IsNumbered N (awaiting s i p k)
  awaiting_numbered =
      let next = suc s.next in
      let new : s.next < next = omega arith in
      let old : i < next = omega (arith, i_under) in
      let m = next_numbered s n next (omega arith) in
      let linked = links_numbered (with_next s next) m (s.links ++ link ∷ []) (every_append (LinkUnder next) s.links (link ∷ []) m.links ((new, old), tt)) in
      order_numbered (with_links (with_next s next) (s.links ++ link ∷ [])) linked (s.order ++ (s.next, i) ∷ []) (every_append (BothUnder next) s.order ((s.next, i) ∷ []) m.order ((new, old), tt))

  -- where the log names the source of that premise
  module _ (theory : Theory) (log : Log) (v : Valuation) (h : Solves theory log v s) (q : ℕ) (earlier : q < v.times i)
      (r : List ℕ) (facts : Facts ⊥) (sources : List Source) (premise_event : AtPosition log (v.times i) (step r facts sources)) (named : AtPlace sources p (conclusion q k)) where
    abbrev value : Valuation
    value = timed s.next q v

    new_link : LinkHolds log value link
    new_link = (
      r,
      facts,
      sources,
      subst (λ (x : ℕ). AtPosition log x (step r facts sources)) (sym ((timed_agrees s.next q v).times i i_under)) premise_event,
      subst (λ (x : ℕ). AtPlace sources p (conclusion x k)) (sym (timed_new s.next q v)) named,
    )

    new_order : IsBefore log value (s.next, i)
    new_order = timed_before s.next q v log i i_under earlier (position_below log (v.times i) (step r facts sources) premise_event)

    pub awaiting_solved : Solves theory log value (awaiting s i p k)
    awaiting_solved =
        let old = timed_solves theory log s v q n h in
        let linked = links_solve theory log value s old (s.links ++ link ∷ []) (every_append (LinkHolds log value) s.links (link ∷ []) old.links (new_link, tt)) in
        let ordered = order_solves theory log value (with_links s (s.links ++ link ∷ [])) linked (s.order ++ (s.next, i) ∷ []) (every_append (IsBefore log value) s.order ((s.next, i) ∷ []) old.order (new_order, tt)) in
        next_solves theory log value (with_order (with_links s (s.links ++ link ∷ [])) (s.order ++ (s.next, i) ∷ [])) ordered (suc s.next)
