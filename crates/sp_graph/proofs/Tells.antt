-- The tests of taking tell what the definitions of taking say.
use Rattle.std.proofs.Common.{◌≡◌, ◌⊎◌, ◌↔◌, ◌==◌, ℕ, Bool, true, false, List, [], ◌∷◌, inl, inr, refl, sym, ap, subst}
use Rattle.std.proofs.lemmas.Bool.{eqb-true, eq-eqb, or_cases, or_left, or_right}
use Rattle.sp_spec.specs.Lists.{Member}
use Rattle.sp_spec.specs.Same.{same_term}
use Rattle.sp_spec.specs.Term.{var, constant, name, app, none, more, list_of, Ground, Grounds}
use Rattle.sp_spec.specs.Log.{Source, fresh_rule, conclusion, How, public_name, own_name, constructed, by_chain, Entry, step, send, learn}
use Rattle.sp_spec.proofs.Same.{same_term_decides}
use Rattle.sp_graph.specs.Edges.{is_source, is_argument, is_part, learns_one, is_learnt_from}
use Rattle.sp_graph.specs.Laws.{TakesFact, Learns, IsLearntFrom, TakesMessage}
use Rattle.sp_graph.proofs.Leading.{Tests}

source_found : (p : ℕ) (sources : List Source) → is_source p sources ≡ true → (k : ℕ) × Member (conclusion p k) sources
source_found p [] e = absurd cc
source_found p (fresh_rule ∷ sources) e = let r = source_found p sources e in (r.0, inr r.1)
source_found p (conclusion q k ∷ sources) e = at (or_cases (p == q) (is_source p sources) e) (source_found p sources)
  where
    at : ((p == q) ≡ true) ⊎ (is_source p sources ≡ true) → (is_source p sources ≡ true → (l : ℕ) × Member (conclusion p l) sources)
        → (l : ℕ) × Member (conclusion p l) (conclusion q k ∷ sources)
    at (inl h) behind = (k, inl (ap (λ n. conclusion n k) (sym (eqb-true p q h))))
    at (inr h) behind = let r = behind h in (r.0, inr r.1)

source_is : (p k : ℕ) (sources : List Source) → Member (conclusion p k) sources → is_source p sources ≡ true
source_is p k [] m = absurd m
source_is p k (fresh_rule ∷ sources) (inl e) = absurd cc
source_is p k (fresh_rule ∷ sources) (inr m) = source_is p k sources m
source_is p k (conclusion q l ∷ sources) (inl e) = or_left (p == q) (is_source p sources) (eq-eqb p q (let h : p ≡ q = cc in h))
source_is p k (conclusion q l ∷ sources) (inr m) = or_right (p == q) (is_source p sources) (source_is p k sources m)

argument_found : (m : Ground) (ts : Grounds) → is_argument m ts ≡ true → Member m (list_of ts)
argument_found m none e = absurd cc
argument_found m (more t ts) e = at (or_cases (same_term m t) (is_argument m ts) e) (argument_found m ts)
  where
    at : (same_term m t ≡ true) ⊎ (is_argument m ts ≡ true) → (is_argument m ts ≡ true → Member m (list_of ts)) → Member m (list_of (more t ts))
    at (inl h) behind = inl (sym ((same_term_decides m t).0 h))
    at (inr h) behind = inr (behind h)

argument_is : (m : Ground) (ts : Grounds) → Member m (list_of ts) → is_argument m ts ≡ true
argument_is m none a = absurd a
argument_is m (more t ts) (inl e) = or_left (same_term m t) (is_argument m ts) ((same_term_decides m t).1 (sym e))
argument_is m (more t ts) (inr a) = or_right (same_term m t) (is_argument m ts) (argument_is m ts a)

learnt_found : (test : Ground → Bool) (x : Entry) → learns_one test x ≡ true → (t : Ground) × (test t ≡ true) × Learns x t
learnt_found test (step r facts sources) e = absurd cc
learnt_found test (send m) e = absurd cc
learnt_found test (learn m how) e = (m, e, (how, refl))

learnt_is : (test : Ground → Bool) (x : Entry) (t : Ground) → test t ≡ true → Learns x t → learns_one test x ≡ true
learnt_is test x t e l = subst (λ y. learns_one test y ≡ true) (sym l.1) e

learns_found : (m : Ground) (x : Entry) → learns_one (λ t. same_term t m) x ≡ true → Learns x m
learns_found m x e = let r = learnt_found (λ t. same_term t m) x e in subst (Learns x) ((same_term_decides r.0 m).0 r.1) r.2

part_found : (t m : Ground) → is_part t m ≡ true → (f : List ℕ) × (ts : Grounds) × (m ≡ app f ts) × Member t (list_of ts)
part_found t (var x) e = absurd x
part_found t (constant c) e = absurd cc
part_found t (name n) e = absurd cc
part_found t (app f ts) e = (f, ts, refl, argument_found t ts e)

way_found : (m : Ground) (how : How) (p : ℕ) (x : Entry) → is_learnt_from m how p x ≡ true → IsLearntFrom m how p x
way_found m public_name p x e = absurd cc
way_found m own_name p x e = absurd cc
way_found m constructed p x e =
    let r = learnt_found (λ t. is_part t m) x e in
    let whole = part_found r.0 m r.1 in
    (whole.0, whole.1, whole.2, r.0, whole.3, r.2)
way_found m (by_chain q k chain) p x e = sym (eqb-true p q e)

way_is : (m : Ground) (how : How) (p : ℕ) (x : Entry) → IsLearntFrom m how p x → is_learnt_from m how p x ≡ true
way_is m public_name p x h = absurd h
way_is m own_name p x h = absurd h
way_is m constructed p x (f, ts, whole, t, a, l) =
    learnt_is (λ u. is_part u m) x t (subst (λ u. is_part t u ≡ true) (sym whole) (argument_is t ts a)) l
way_is m (by_chain q k chain) p x h = eq-eqb p q (sym h)

pub fact_tested : (e : Entry) (p : ℕ) (x : Entry) → Tests true e p x ↔ TakesFact e p x
fact_tested (step r facts sources) p x = ((λ h. source_found p sources h.0), (λ h. (source_is p h.0 sources h.1, refl)))
fact_tested (send m) p x = ((λ h. absurd (let e : false ≡ true = h.1 in cc)), (λ h. absurd h))
fact_tested (learn m how) p x = ((λ h. absurd (let e : false ≡ true = h.1 in cc)), (λ h. absurd h))

pub message_tested : (e : Entry) (p : ℕ) (x : Entry) → Tests false e p x ↔ TakesMessage e p x
message_tested (step r facts sources) p x = ((λ h. absurd (let e : true ≡ false = h.1 in cc)), (λ h. absurd h))
message_tested (send m) p x = ((λ h. learns_found m x h.0), (λ h. (learnt_is (λ t. same_term t m) x m ((same_term_decides m m).1 refl) h, refl)))
message_tested (learn m how) p x = ((λ h. way_found m how p x h.0), (λ h. (way_is m how p x h, refl)))
