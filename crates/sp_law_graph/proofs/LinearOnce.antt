-- Links: two premises with one linear source are one, and so are the sources of one premise. The row makes their times one, and where
-- that can't be there is no solution.
use Rattle.std.proofs.Common.{◌≡◌, ◌≤◌, ℕ, Bool, true, false, not, ◌&&◌, nat_eq, slice_get, List, [], ◌∷◌, Option, Some, None, option_map, is_none, refl, sym, subst, ⊎_elim}
use Rattle.std.proofs.lemmas.Bool.{or_cases, and_parts, eqb-true}
use Rattle.sp_spec.specs.Lists.{Every, AtPlace, AtPosition}
use Rattle.sp_spec.specs.Term.{Names, Variable}
use Rattle.sp_spec.specs.Rule.{Fact, Facts, fact_at}
use Rattle.sp_spec.specs.Theory.{Theory}
use Rattle.sp_spec.specs.Log.{Log, step, Source, conclusion, IsLog}
use Rattle.sp_spec.proofs.Lists.{every_both, every_member, position_one, place_got}
use Rattle.sp_spec_system.specs.System.{Happening, Event, Link, System, happening_premises}
use Rattle.sp_spec_system.specs.Solutions.{Valuation, LinkHolds, HappensAt, HappensIn, Solves}
use Rattle.sp_spec_system.specs.Numbered.{IsNumbered}
use Rattle.sp_spec_system.specs.Covering.{Covers}
use Rattle.sp_law_system.specs.Laws.{UnifierIsRight}
use Rattle.sp_spec_system.specs.Equating.{same_source, same_premise}
use Rattle.sp_spec_system.specs.MakingOne.{event_at, premise_at, made_one}
use Rattle.sp_spec_graph.specs.LinearOnce.{is_linear, one_linear_source, premises_clash, sources_clash, premise_times, source_times, times_of_links, linear_once, cannot_link, fails_to_link}
use Rattle.sp_law_graph.proofs.Two.{two_found, two_contradict}
use Rattle.sp_spec_system.specs.Picked.{first_two}
use Rattle.std.specs.Option.{option_or}
use Rattle.sp_spec.proofs.Options.{mapped, then_some}
use Rattle.sp_law_formula.proofs.OneCase.{covers_by_itself}
use Rattle.sp_law_graph.proofs.Sources.{premise_event, one_source, source_once}
use Rattle.sp_law_formula.proofs.Merged.{SolvedBy, NumberedFrom}
use Rattle.sp_law_formula.proofs.MadeOne.{made_one_holds, made_one_numbered}
use Rattle.sp_law_formula.proofs.Equate.{not_none}
use Rattle.sp_law_system.proofs.With.{BothUnder, LinkUnder}
use Rattle.sp_law_formula.proofs.Action.{event_found}

-- what holds of the times that links make one
times_found : (P : Link → Type 0) (X : ℕ × ℕ → Type 0) (events : List Event) (links : List Link) (p : ℕ × ℕ) → times_of_links events links ≡ Some p → Every P links
    → ((l m : Link) → premises_clash events l m ≡ true → P l → P m → X (l.to, m.to)) → ((l m : Link) → sources_clash l m ≡ true → P l → P m → X (l.from, m.from)) → X p
times_found P X events links p e h taken given = at (first_two (premises_clash events) links) refl e
  where
    at : (o : Option (Link × Link)) → first_two (premises_clash events) links ≡ o → option_or (option_map premise_times o) (option_map source_times (first_two sources_clash links)) ≡ Some p → X p
    at (Some q) c d =
        let two = two_found (premises_clash events) P links q c h in
        let g : premise_times q ≡ p = cc in
        subst X g (taken q.0 q.1 two.0 two.1 two.2)
    at None c d =
        let r = mapped source_times (first_two sources_clash links) p d in
        let two = two_found sources_clash P links r.0 r.1 h in
        subst X (sym r.2) (given r.0.0 r.0.1 two.0 two.1 two.2)

-- what a solution says of links
module _ (theory : Theory) (log : Log) (is : IsLog theory log) (v : Valuation) where
  -- a premise that is linear in the system is linear in the entry
  linear_at : (q : ℕ) (h : Happening) (a : ℕ) (f : Fact Variable) → slice_get (happening_premises h) a ≡ Some f → HappensAt log q v h
      → (r : List ℕ) (facts : Facts ⊥) (sources : List Source) → AtPosition log q (step r facts sources) → AtPlace facts.premises a (fact_at v.terms f)
  linear_at q h a f e k r facts sources there =
      let t = premise_event log q v h k a f (place_got (happening_premises h) a f e) in
      let one : step t.0 t.1 t.2 ≡ step r facts sources = position_one log q (step t.0 t.1 t.2) (step r facts sources) t.3 there in
      let same : t.1 ≡ facts = cc in
      subst (λ (x : Facts ⊥). AtPlace x.premises a (fact_at v.terms f)) same t.4

  linear_premise : (events : List Event) → Every (HappensIn log v) events → (i a : ℕ) → is_linear (premise_at events i a) ≡ true
      → (r : List ℕ) (facts : Facts ⊥) (sources : List Source) → AtPosition log (v.times i) (step r facts sources) → (f : Fact ⊥) × AtPlace facts.premises a f × (f.persistent ≡ false)
  linear_premise events h i a e r facts sources there = at (premise_at events i a) refl e
    where
      at : (o : Option (Fact Variable)) → premise_at events i a ≡ o → is_linear o ≡ true → (f : Fact ⊥) × AtPlace facts.premises a f × (f.persistent ≡ false)
      at None c d = absurd cc
      at (Some f) c d =
          let q = then_some (λ (x : Event). slice_get (happening_premises x.happening) a) (event_at i events) f c in
          let found = event_found i events q.0 q.1 in
          let happens = every_member (HappensIn log v) events q.0 found.0 h in
          let here = subst (λ (x : ℕ). HappensAt log (v.times x) v q.0.happening) found.1 happens in
          (fact_at v.terms f, linear_at (v.times i) q.0.happening a f q.2 here r facts sources there, (let g : f.persistent ≡ false = linear f.persistent d in g))
        where
          linear : (b : Bool) → not b ≡ true → b ≡ false
          linear true k = absurd cc
          linear false k = refl

  pub taken_once : (events : List Event) → Every (HappensIn log v) events → (l m : Link) → one_linear_source events l m ≡ true → LinkHolds log v l → LinkHolds log v m → (v.times l.to ≡ v.times m.to) × (l.premise ≡ m.premise)
  taken_once events happen l m e h k =
      let both = and_parts (same_source l m) (is_linear (premise_at events l.to l.premise)) e in
      let source = and_parts (nat_eq l.from m.from) (nat_eq l.conclusion m.conclusion) both.0 in
      let f = linear_premise events happen l.to l.premise both.1 h.0 h.1 h.2 h.3 in
      let named = subst (λ (x : ℕ). AtPlace k.2 m.premise (conclusion (v.times x) m.conclusion)) (sym (eqb-true l.from m.from source.0)) k.4 in
      let named_too = subst (λ (x : ℕ). AtPlace k.2 m.premise (conclusion (v.times l.from) x)) (sym (eqb-true l.conclusion m.conclusion source.1)) named in
      source_once theory log is (v.times l.from) l.conclusion (v.times l.to) (v.times m.to) h.0 k.0 h.1 k.1 h.2 k.2 h.3 k.3 l.premise m.premise h.4 named_too f.0 f.1 f.2

  pub given_once : (l m : Link) → same_premise l m ≡ true → LinkHolds log v l → LinkHolds log v m → (v.times l.from ≡ v.times m.from) × (l.conclusion ≡ m.conclusion)
  given_once l m e h k =
      let both = and_parts (nat_eq l.to m.to) (nat_eq l.premise m.premise) e in
      let there = subst (λ (x : ℕ). AtPosition log (v.times x) (step k.0 k.1 k.2)) (sym (eqb-true l.to m.to both.0)) k.3 in
      let one : step k.0 k.1 k.2 ≡ step h.0 h.1 h.2 = position_one log (v.times l.to) (step k.0 k.1 k.2) (step h.0 h.1 h.2) there h.3 in
      let sources : k.2 ≡ h.2 = cc in
      let named = subst (λ (x : List Source). AtPlace x m.premise (conclusion (v.times m.from) m.conclusion)) sources k.4 in
      let named_too = subst (λ (x : ℕ). AtPlace h.2 x (conclusion (v.times m.from) m.conclusion)) (sym (eqb-true l.premise m.premise both.1)) named in
      one_source h.2 l.premise (v.times l.from) l.conclusion (v.times m.from) m.conclusion h.4 named_too

  premises_one : (events : List Event) → Every (HappensIn log v) events → (l m : Link) → premises_clash events l m ≡ true → LinkHolds log v l → LinkHolds log v m → v.times l.to ≡ v.times m.to
  premises_one events happen l m e h k = (taken_once events happen l m (and_parts (one_linear_source events l m) (not (nat_eq l.to m.to)) e).0 h k).0

  sources_one : (l m : Link) → sources_clash l m ≡ true → LinkHolds log v l → LinkHolds log v m → v.times l.from ≡ v.times m.from
  sources_one l m e h k = (given_once l m (and_parts (same_premise l m) (not (nat_eq l.from m.from)) e).0 h k).0

module _ (N : Names) (right : UnifierIsRight) (theory : Theory) where
  times_in : (s : System) → IsNumbered N s → (p : ℕ × ℕ) → times_of_links s.events s.links ≡ Some p → BothUnder s.next p
  times_in s n p e = times_found (LinkUnder s.next) (BothUnder s.next) s.events s.links p e n.links (λ l m c a b. (a.1, b.1)) (λ l m c a b. (a.0, b.0))

  pub linear_once_covers : (s t : System) → linear_once s ≡ Some t → IsNumbered N s → Covers theory s (t ∷ [])
  linear_once_covers s t e n =
      let q = then_some (made_one s) (times_of_links s.events s.links) t e in
      covers_by_itself theory s t (λ log is v h.
      let one = times_found (LinkHolds log v) (λ p. v.times p.0 ≡ v.times p.1) s.events s.links q.0 q.1 h.links (premises_one theory log is v s.events h.events) (sources_one theory log is v) in
      subst (SolvedBy theory log v) q.2 (made_one_holds right s n theory log v h q.0 (times_in s n q.0 q.1) one))

  pub linear_once_numbered : (s t : System) → linear_once s ≡ Some t → IsNumbered N s → IsNumbered N t × (s.next ≤ t.next)
  linear_once_numbered s t e n =
      let q = then_some (made_one s) (times_of_links s.events s.links) t e in
      subst (NumberedFrom N s.next) q.2 (made_one_numbered right s n q.0 (times_in s n q.0 q.1))

  -- Failing unification of links: what two links say is one can be made one.
  module _ (s : System) (n : IsNumbered N s) (log : Log) (is : IsLog theory log) (v : Valuation) (h : Solves theory log v s) where
    abbrev Stands : Link → Type 0
    Stands l = LinkUnder s.next l × LinkHolds log v l

    made_contradicts : (p : ℕ × ℕ) → is_none (made_one s p) ≡ true → BothUnder s.next p → v.times p.0 ≡ v.times p.1 → ⊥
    made_contradicts p e under one = not_none theory log v (made_one s p) e (made_one_holds right s n theory log v h p under one)

    cannot_contradict : (l m : Link) → cannot_link s l m ≡ true → Stands l → Stands m → ⊥
    cannot_contradict l m e a b =
        ⊎_elim
        (λ c.
        let both = and_parts (premises_clash s.events l m) (is_none (made_one s (premise_times (l, m)))) c in
        made_contradicts (premise_times (l, m)) both.1 (a.0.1, b.0.1) (premises_one theory log is v s.events h.events l m both.0 a.1 b.1))
        (λ c.
        let both = and_parts (sources_clash l m) (is_none (made_one s (source_times (l, m)))) c in
        made_contradicts (source_times (l, m)) both.1 (a.0.0, b.0.0) (sources_one theory log is v l m both.0 a.1 b.1))
        (or_cases (premises_clash s.events l m && is_none (made_one s (premise_times (l, m)))) (sources_clash l m && is_none (made_one s (source_times (l, m)))) e)

    pub links_contradict : fails_to_link s ≡ true → ⊥
    links_contradict e =
        two_contradict (cannot_link s) Stands cannot_contradict s.links e (every_both (LinkUnder s.next) (LinkHolds log v) Stands (λ l i k. (i, k)) s.links n.links h.links)
