-- Source used twice contradicts: a linear source is that of one premise, a premise has one source, and an entry uses no Fr twice.
use Rattle.std.proofs.Common.{◌≡◌, ℕ, true, not, ◌&&◌, nat_eq, List, [], ◌∷◌, subst, ⊎_elim, ◌⊎◌, map, inl, inr}
use Rattle.std.proofs.lemmas.Bool.{or_cases, and_parts, eq-eqb}
use Rattle.sp_spec.specs.Lists.{Every, AtPosition, Distinct}
use Rattle.sp_spec.specs.Term.{Variable, Term, Values, valued}
use Rattle.sp_spec.specs.Theory.{Theory}
use Rattle.sp_spec.specs.Log.{Log, IsLog, Entry, fresh_names_once, fresh_uses, all_fresh_uses}
use Rattle.sp_spec.proofs.Lists.{member_map, distinct_left}
use Rattle.sp_spec_system.specs.System.{Happening, Event, Link, System}
use Rattle.sp_spec_system.specs.Solutions.{Valuation, LinkHolds, HappensAt, HappensIn, Solves}
use Rattle.sp_spec_system.specs.Equating.{same_premise}
use Rattle.sp_spec_graph.specs.LinearOnce.{one_linear_source}
use Rattle.sp_law_graph.proofs.Two.{two_contradict}
use Rattle.sp_spec_system.specs.Picked.{some_two}
use Rattle.sp_spec_graph.specs.SourceTwice.{used_twice, repeats, takes_fr_twice}
use Rattle.sp_spec_graph.specs.Fresh.{happening_fresh, stands_in}
use Rattle.sp_law_graph.proofs.LinearOnce.{taken_once, given_once}
use Rattle.sp_law_graph.proofs.FreshOnce.{stands_member, happening_values}

differ : (i j : ℕ) → not (nat_eq i j) ≡ true → i ≡ j → ⊥
differ i j e k = let h : nat_eq i j ≡ true = eq-eqb i j k in cc

-- two premises of an event have one linear source, or one premise has two sources
module _ (theory : Theory) (log : Log) (is : IsLog theory log) (v : Valuation) where
  used_contradicts : (events : List Event) → Every (HappensIn log v) events → (l m : Link) → used_twice events l m ≡ true → LinkHolds log v l → LinkHolds log v m → ⊥
  used_contradicts events happen l m e h k =
      ⊎_elim
      (λ c.
      let both = and_parts (one_linear_source events l m && nat_eq l.to m.to) (not (nat_eq l.premise m.premise)) c in
      differ l.premise m.premise both.1 (taken_once theory log is v events happen l m (and_parts (one_linear_source events l m) (nat_eq l.to m.to) both.0).0 h k).1)
      (λ c.
      let both = and_parts (same_premise l m && nat_eq l.from m.from) (not (nat_eq l.conclusion m.conclusion)) c in
      differ l.conclusion m.conclusion both.1 (given_once theory log is v l m (and_parts (same_premise l m) (nat_eq l.from m.from) both.0).0 h k).1)
      (or_cases (one_linear_source events l m && nat_eq l.to m.to && not (nat_eq l.premise m.premise)) (same_premise l m && nat_eq l.from m.from && not (nat_eq l.conclusion m.conclusion)) e)

  pub used_twice_contradicts : (s : System) → some_two (used_twice s.events) s.links ≡ true → Solves theory log v s → ⊥
  used_twice_contradicts s e h = two_contradict (used_twice s.events) (LinkHolds log v) (used_contradicts s.events h.events) s.links e h.links

-- an entry uses no Fr twice
entry_distinct : (theory : Theory) (log : Log) → IsLog theory log → (p : ℕ) (e : Entry) → AtPosition log p e → Distinct (fresh_uses e)
entry_distinct theory [] is p e a = absurd a
entry_distinct theory (d ∷ log) is p e (inl a) = subst (λ (x : Entry). Distinct (fresh_uses x)) a.1 (distinct_left (fresh_uses d) (all_fresh_uses log) (is.1 fresh_names_once))
entry_distinct theory (d ∷ log) is p e (inr a) = entry_distinct theory log is.0 p e a

repeats_contradicts : (v : Values) (ts : List (Term Variable)) → repeats ts ≡ true → Distinct (map (valued v) ts) → ⊥
repeats_contradicts v [] e d = absurd cc
repeats_contradicts v (t ∷ ts) e d =
    ⊎_elim (λ k. d.0 (member_map (valued v) t ts (stands_member t ts k))) (λ k. repeats_contradicts v ts k d.1) (or_cases (stands_in t ts) (repeats ts) e)

fr_contradicts : (theory : Theory) (log : Log) → IsLog theory log → (v : Valuation) (p : ℕ) (a : Happening) → HappensAt log p v a → repeats (happening_fresh a) ≡ true → ⊥
fr_contradicts theory log is v p a h e = let d = happening_values log p v a h in at d.0 d.1 d.2
  where
    at : (d : Entry) → AtPosition log p d → (happening_fresh a ≡ []) ⊎ (fresh_uses d ≡ map (valued v.terms) (happening_fresh a)) → ⊥
    at d there (inl nothing) = let none : repeats [] ≡ true = subst (λ (ts : List (Term Variable)). repeats ts ≡ true) nothing e in absurd cc
    at d there (inr uses) = repeats_contradicts v.terms (happening_fresh a) e (subst Distinct uses (entry_distinct theory log is p d there))

pub fr_twice_contradicts : (theory : Theory) (log : Log) → IsLog theory log → (v : Valuation) (es : List Event) → takes_fr_twice es ≡ true → Every (HappensIn log v) es → ⊥
fr_twice_contradicts theory log is v [] e h = absurd cc
fr_twice_contradicts theory log is v (d ∷ es) e h =
    ⊎_elim
    (λ k. fr_contradicts theory log is v (v.times d.time) d.happening h.0 k)
    (λ k. fr_twice_contradicts theory log is v es k h.1)
    (or_cases (repeats (happening_fresh d.happening)) (takes_fr_twice es) e)
