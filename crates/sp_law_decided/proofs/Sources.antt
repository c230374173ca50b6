-- The sources that a log names are those that the links say.
use Rattle.std.proofs.Common.{◌≡◌, ◌<◌, ℕ, zero, suc, ◌==◌, Bool, true, false, ◌&&◌, if◌then◌else◌, List, [], ◌∷◌, length, map, Some, inl, inr, refl, sym, ap, ap₂, ◌∙◌, subst}
use Rattle.std.proofs.lemmas.Bool.{eqb-true, eq-eqb, and_parts, and_from}
use Rattle.sp_spec.specs.Lists.{Member, Every, AtPlace, AtPosition}
use Rattle.sp_spec.proofs.Lists.{every_member, position_one, position_below, place_one}
use Rattle.sp_spec.proofs.Options.{mapped, then_some}
use Rattle.sp_spec.specs.Term.{Variable}
use Rattle.sp_spec.specs.Rule.{Fact, Facts, fact_at}
use Rattle.sp_spec.specs.Log.{Log, step, Source, fresh_rule, conclusion, is_fr, HasSources}
use Rattle.sp_spec_system.specs.System.{Event, Link}
use Rattle.sp_spec_system.specs.Solutions.{Valuation, LinkHolds}
use Rattle.sp_spec_solved.specs.Candidate.{first_link, place_of, given_by, linked_source, source_of, sources_from}
use Rattle.sp_law_candidate.proofs.Sources.{past}
use Rattle.sp_law_decided.proofs.Suggested.{first_there}

-- ---- the first link to a premise

pub link_is : (ls : List Link) (i p : ℕ) (l : Link) → first_link ls i p ≡ Some l → Member l ls × (l.to ≡ i) × (l.premise ≡ p)
link_is [] i p l e = absurd cc
link_is (k ∷ ls) i p l e = at ((k.to == i) && (k.premise == p)) refl e (λ h. link_is ls i p l h)
  where
    at : (b : Bool) → ((k.to == i) && (k.premise == p)) ≡ b → (if b then Some k else first_link ls i p) ≡ Some l
        → (first_link ls i p ≡ Some l → Member l ls × (l.to ≡ i) × (l.premise ≡ p)) → Member l (k ∷ ls) × (l.to ≡ i) × (l.premise ≡ p)
    at true f h later =
        let same : k ≡ l = cc in
        let both = and_parts (k.to == i) (k.premise == p) f in
        (inl same, sym (ap (λ (m : Link). m.to) same) ∙ eqb-true k.to i both.0, sym (ap (λ (m : Link). m.premise) same) ∙ eqb-true k.premise p both.1)
    at false f h later = let r = later h in (inr r.0, r.1, r.2)

pub link_there : (ls : List Link) (i p : ℕ) (l : Link) → Member l ls → l.to ≡ i → l.premise ≡ p → (k : Link) × (first_link ls i p ≡ Some k)
link_there [] i p l m a b = absurd m
link_there (k ∷ ls) i p l (inl e) a b = (
  k,
  ap (λ (c : Bool). if c then Some k else first_link ls i p)
      (and_from (k.to == i) (k.premise == p) (eq-eqb k.to i (ap (λ (m : Link). m.to) e ∙ a)) (eq-eqb k.premise p (ap (λ (m : Link). m.premise) e ∙ b))),
)
link_there (k ∷ ls) i p l (inr m) a b = at ((k.to == i) && (k.premise == p)) (link_there ls i p l m a b)
  where
    at : (c : Bool) → (h : Link) × (first_link ls i p ≡ Some h) → (h : Link) × ((if c then Some k else first_link ls i p) ≡ Some h)
    at true r = (k, refl)
    at false r = (r.0, r.1)

-- ---- a source came earlier

pub source_below : (past_log : Log) (fs : List (Fact ⊥)) (ss : List Source) → HasSources fs ss past_log → (a p k : ℕ) → AtPlace ss a (conclusion p k) → p < length past_log
source_below past_log fs [] has a p k there = absurd there
source_below past_log [] (x ∷ ss) has a p k there = absurd has
source_below past_log (f ∷ fs) (fresh_rule ∷ ss) has zero p k there = let e : fresh_rule ≡ conclusion p k = there in absurd cc
source_below past_log (f ∷ fs) (conclusion q l ∷ ss) has zero p k there =
    let e : conclusion q l ≡ conclusion p k = there in
    let same : q ≡ p = cc in
    subst (λ (n : ℕ). n < length past_log) same (position_below past_log q has.1.0 has.1.1)
source_below past_log (f ∷ fs) (fresh_rule ∷ ss) has (suc a) p k there = source_below past_log fs ss has.1 a p k there
source_below past_log (f ∷ fs) (conclusion q l ∷ ss) has (suc a) p k there = source_below past_log fs ss has.2 a p k there

-- ---- the sources of a step

-- In a log over which the links hold, where each listed event is at the position of its place, the step at a time.
module _ (log : Log) (v : Valuation) (listed : List Event) (links : List Link) (hold : Every (LinkHolds log v) links)
    (place_is : (i q : ℕ) → place_of i listed ≡ Some q → v.times i ≡ q)
    (i : ℕ) (r : List ℕ) (shown : Facts ⊥) (all : List Source) (there : AtPosition log (v.times i) (step r shown all)) where
  same_step : (n : List ℕ) (other : Facts ⊥) (ss : List Source) → AtPosition log (v.times i) (step n other ss) → ss ≡ all
  same_step n other ss a =
      let e : step n other ss ≡ step r shown all = position_one log (v.times i) (step n other ss) (step r shown all) a there in cc

  -- what the log names at the place of a premise with a link
  pub link_source : (p : ℕ) (l : Link) → first_link links i p ≡ Some l → AtPlace all p (conclusion (v.times l.from) l.conclusion)
  link_source p l e =
      let is = link_is links i p l e in
      let h = every_member (LinkHolds log v) links l is.0 hold in
      let at_step : AtPosition log (v.times i) (step h.0 h.1 h.2) = subst (λ (t : ℕ). AtPosition log (v.times t) (step h.0 h.1 h.2)) is.1 h.3 in
      let same = same_step h.0 h.1 h.2 at_step in
      subst (λ (a : ℕ). AtPlace all a (conclusion (v.times l.from) l.conclusion)) is.2
      (subst (λ (ss : List Source). AtPlace ss l.premise (conclusion (v.times l.from) l.conclusion)) same h.4)

  linked_same : (p : ℕ) (x y : Source) → AtPlace all p x → linked_source listed links i p ≡ Some y → x ≡ y
  linked_same p x y a e =
      let k = then_some (given_by listed) (first_link links i p) y e in
      let g = mapped (λ (q : ℕ). conclusion q k.0.conclusion) (place_of k.0.from listed) y k.2 in
      place_one all p x (conclusion (v.times k.0.from) k.0.conclusion) a (link_source p k.0 k.1)
      ∙ ap (λ (q : ℕ). conclusion q k.0.conclusion) (place_is k.0.from g.0 g.1) ∙ sym g.2

  source_same : (past_log : Log) (f : Fact Variable) (fs : List (Fact Variable)) (x : Source) (ss : List Source) (p : ℕ) (y : Source)
      → HasSources (fact_at v.terms f ∷ map (fact_at v.terms) fs) (x ∷ ss) past_log → AtPlace all p x → source_of listed links i p f ≡ Some y → x ≡ y
  source_same past_log f fs fresh_rule ss p y has a e =
      let own : is_fr f ≡ true = has.0 in
      let g : Some fresh_rule ≡ Some y = sym (ap (λ (b : Bool). if b then Some fresh_rule else linked_source listed links i p) own) ∙ e in cc
  source_same past_log f fs (conclusion q k) ss p y has a e =
      let none : is_fr f ≡ false = has.0 in
      linked_same p (conclusion q k) y a (sym (ap (λ (b : Bool). if b then Some fresh_rule else linked_source listed links i p) none) ∙ e)

  pub same_sources : (past_log : Log) (p : ℕ) (fs : List (Fact Variable)) (ss : List Source) → HasSources (map (fact_at v.terms) fs) ss past_log
      → ((k : ℕ) (x : Source) → AtPlace ss k x → AtPlace all (past p k) x) → (made : List Source) → sources_from listed links i p fs ≡ Some made → ss ≡ made
  same_sources past_log p [] [] has tell made e = let none : List Source = [] in let g : none ≡ made = cc in g
  same_sources past_log p [] (x ∷ ss) has tell made e = absurd has
  same_sources past_log p (f ∷ fs) [] has tell made e = absurd has
  same_sources past_log p (f ∷ fs) (x ∷ ss) has tell made e =
      let m = first_there (λ (source : Source) (sources : List Source). source ∷ sources) (source_of listed links i p f) (sources_from listed links i (suc p) fs) made e in
      let first = source_same past_log f fs x ss p m.0 has (tell zero x refl) m.2 in
      let rest = same_sources past_log (suc p) fs ss (later x has) (λ k y a. tell (suc k) y a) m.1 m.3 in
      ap₂ (λ (y : Source) (ys : List Source). y ∷ ys) first rest ∙ sym m.4
    where
      later : (y : Source) → HasSources (fact_at v.terms f ∷ map (fact_at v.terms) fs) (y ∷ ss) past_log → HasSources (map (fact_at v.terms) fs) ss past_log
      later fresh_rule h = h.1
      later (conclusion q k) h = h.2
