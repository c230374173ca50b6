-- What holds of a system under values holds of the renamed system under the raised values, and the other way round.
use Rattle.std.proofs.Common.{◌≡◌, ◌<◌, ◌+◌, ℕ, suc, List, [], ◌∷◌, ◌++◌, map, length, Option, Some, None, IfSome, option_map, refl, sym, ap, ap₂, ◌∙◌}
use mathlib.Core.Path.{fun_ext}
use Rattle.sp_spec.specs.Lists.{Member, Every, AtPosition, AtPlace}
use Rattle.sp_spec.specs.Term.{Names, Variable, Term, var, Ground, valued, MadeOf}
use Rattle.sp_spec.specs.Equal.{IsNormal}
use Rattle.sp_spec.specs.Rule.{Facts, facts_at, FactsMadeOf}
use Rattle.sp_spec.specs.Guarded.{Guarded}
use Rattle.sp_spec.specs.Change.{changed, free_change}
use Rattle.sp_spec.specs.Log.{Log, How, Source, conclusion, by_chain, step, send, learn, log_trace}
use Rattle.sp_spec.specs.Theory.{Theory, signature_of}
use Rattle.sp_spec.specs.Unifier.{Pair}
use Rattle.sp_spec_system.specs.System.{Way, anyhow, public_name, own_name, constructed, chain_begun, chain_done, Happening, rule_step, sending, learning, Event, Link}
use Rattle.sp_spec_system.specs.Solutions.{Valuation, assignment, Begins, IsWayOf, HappensAt, HappensIn, LinkHolds, FormulaHolds, AreUnequal, IsBefore, IsLast, AreAll}
use Rattle.sp_spec_system.specs.Numbered.{InFormula, InWay, InHappening, InEvent}
use Rattle.sp_spec_system.specs.Equating.{way_changed, happening_changed, event_changed, pair_changed, link_changed, order_changed}
use Rattle.sp_spec.proofs.Lists.{every_weaken, every_member, member_map, member_mapped, map_each, map-map}
use Rattle.sp_spec.proofs.Values.{valued-valued}
use Rattle.sp_law_system.proofs.Changing.{Reads, changed_same, settled_same}
use Rattle.sp_law_system.proofs.Facts.{valued_same, facts_same, facts_at-facts_at}
use Rattle.sp_law_equal.proofs.Made.{each_weaken, facts_weaken}
use Rattle.sp_law_system.proofs.Solutions.{Under, TimeUnder}
use Rattle.sp_law_system.proofs.With.{TermsUnder, BothUnder, LinkUnder}
use Rattle.sp_spec_system.specs.Together.{raised_variable}
use Rattle.sp_law_sources.specs.Laws.{IsRaised}

-- what holds of each element once it is mapped is what holds of it
pub every_mapped : {A B : Type 0} (M P : A → Type 0) (Q : B → Type 0) (f : A → B) → ((x : A) → M x → Q (f x) ≡ P x) → (xs : List A) → Every M xs → Every Q (map f xs) ≡ Every P xs
every_mapped M P Q f h [] m = refl
every_mapped M P Q f h (x ∷ xs) m = ap₂ (λ (X Y : Type 0). X × Y) (h x m.0) (every_mapped M P Q f h xs m.1)

-- as much is passed
begins_mapped : {A B : Type 0} (f : A → B) (xs : List A) → Begins (map f xs) ≡ Begins xs
begins_mapped f [] = refl
begins_mapped f (x ∷ xs) = refl

module _ (N : Names) (n limit : ℕ) (v w : Valuation) (r : IsRaised n limit v w) where
  abbrev pub terms_raised : Variable → Term Variable
  terms_raised x = var (raised_variable n x)

  abbrev pub times_raised : ℕ → ℕ
  times_raised i = n + i

  read_term : (t : Term Variable) → MadeOf N (Under limit) t → valued w.terms (valued terms_raised t) ≡ valued v.terms t
  read_term t b =
      valued-valued terms_raised w.terms t ∙ valued_same N (λ x. w.terms (raised_variable n x)) v.terms t (each_weaken N (Under limit) _ r.terms t b)

  read_terms : (ts : List (Term Variable)) → Every (MadeOf N (Under limit)) ts → map (valued w.terms) (map (valued terms_raised) ts) ≡ map (valued v.terms) ts
  read_terms ts b =
      map-map (valued terms_raised) (valued w.terms) ts
      ∙ map_each (λ t. valued w.terms (valued terms_raised t)) (valued v.terms) ts (every_weaken (MadeOf N (Under limit)) _ read_term ts b)

  read_facts : (facts : Facts Variable) → FactsMadeOf N (Under limit) facts → facts_at w.terms (facts_at terms_raised facts) ≡ facts_at v.terms facts
  read_facts facts b =
      facts_at-facts_at terms_raised w.terms facts
      ∙ facts_same N (λ x. w.terms (raised_variable n x)) v.terms facts (facts_weaken N (Under limit) _ r.terms facts b)

  read_way : (way : Way) → InWay N (Under limit) (TimeUnder limit) way → (how : How) → IsWayOf w (way_changed terms_raised times_raised way) how ≡ IsWayOf v way how
  read_way anyhow b how = refl
  read_way public_name b how = refl
  read_way own_name b how = refl
  read_way constructed b how = refl
  read_way (chain_begun i k ts) b how =
      ap₂ (λ (q : ℕ) (xs : List Ground). (others : List Ground) × (how ≡ by_chain q k (xs ++ others)) × Begins (map (valued terms_raised) ts)) (r.times i b.0) (read_terms ts b.1)
      ∙ ap (λ (X : Type 0). (others : List Ground) × (how ≡ by_chain (v.times i) k (map (valued v.terms) ts ++ others)) × X) (begins_mapped (valued terms_raised) ts)
  read_way (chain_done i k ts) b how = ap₂ (λ (q : ℕ) (xs : List Ground). how ≡ by_chain q k xs) (r.times i b.0) (read_terms ts b.1)

  module _ (log : Log) where
    read_happening : (p : ℕ) (h : Happening) → InHappening N (Under limit) (TimeUnder limit) h
        → HappensAt log p w (happening_changed terms_raised times_raised h) ≡ HappensAt log p v h
    read_happening p (rule_step rule facts) b =
        ap (λ (f : Facts ⊥). (sources : List Source) × AtPosition log p (step rule f sources)) (read_facts facts b)
    read_happening p (sending m) b = ap (λ (g : Ground). AtPosition log p (send g)) (read_term m b)
    read_happening p (learning m way) b =
        ap₂ (λ (g : Ground) (X : How → Type 0). (how : How) × AtPosition log p (learn g how) × X how) (read_term m b.0) (fun_ext (read_way way b.1))

    pub read_event : (e : Event) → InEvent N (Under limit) (TimeUnder limit) e → HappensIn log w (event_changed terms_raised times_raised e) ≡ HappensIn log v e
    read_event e b =
        ap (λ (p : ℕ). HappensAt log p w (happening_changed terms_raised times_raised e.happening)) (r.times e.time b.0)
        ∙ read_happening (v.times e.time) e.happening b.1

    pub read_link : (l : Link) → LinkUnder limit l → LinkHolds log w (link_changed times_raised l) ≡ LinkHolds log v l
    read_link l b =
        ap₂ (λ (p q : ℕ). (rule : List ℕ) × (facts : Facts ⊥) × (sources : List Source) × AtPosition log q (step rule facts sources)
        × AtPlace sources l.premise (conclusion p l.conclusion)) (r.times l.from b.0) (r.times l.to b.1)

    pub read_order : (p : ℕ × ℕ) → BothUnder limit p → IsBefore log w (order_changed times_raised p) ≡ IsBefore log v p
    read_order p b = ap₂ (λ (x y : ℕ). (x < y) × (y < length log)) (r.times p.0 b.0) (r.times p.1 b.1)

    pub read_last : (o : Option ℕ) → IfSome o (TimeUnder limit) → IsLast log w (option_map times_raised o) ≡ IsLast log v o
    read_last None b = refl
    read_last (Some i) b = ap (λ (q : ℕ). suc q ≡ length log) (r.times i b)

    -- each position is that of an event: so it is of both or of none
    module _ (es : List Event) (b : Every (InEvent N (Under limit) (TimeUnder limit)) es) where
      event_time : (e : Event) → Member e es → w.times (n + e.time) ≡ v.times e.time
      event_time e m = r.times e.time (every_member (InEvent N (Under limit) (TimeUnder limit)) es e m b).0

      pub raised_all : AreAll log v es → AreAll log w (map (event_changed terms_raised times_raised) es)
      raised_all h p l =
          let a = h p l in
          (event_changed terms_raised times_raised a.0, member_map (event_changed terms_raised times_raised) a.0 es a.1, event_time a.0 a.1 ∙ a.2)

      pub all_raised : AreAll log w (map (event_changed terms_raised times_raised) es) → AreAll log v es
      all_raised h p l =
          let a = h p l in
          let q = member_mapped (event_changed terms_raised times_raised) a.0 es a.1 in
          (q.0, q.1, sym (event_time q.0 q.1) ∙ ap (λ (e : Event). w.times e.time) q.2 ∙ a.2)

    module _ (theory : Theory) where
      pub read_unequal : (p : Pair) → TermsUnder N limit p → AreUnequal theory w (pair_changed terms_raised p) ≡ AreUnequal theory v p
      read_unequal p b =
          ap₂ (λ (x y : Ground). (x ≡ y → ⊥) × IsNormal (signature_of theory).equations x × IsNormal (signature_of theory).equations y)
          (read_term p.0 b.0) (read_term p.1 b.1)

      pub read_formula : (f : Guarded) → InFormula N (Under limit) (TimeUnder limit) f
          → FormulaHolds theory log w (changed (free_change terms_raised times_raised) f) ≡ FormulaHolds theory log v f
      read_formula f b =
          let c = free_change terms_raised times_raised in
          let reads : Reads (Under limit) (TimeUnder limit) c (assignment w) (assignment v) = record {
            variables = λ x k. sym (r.terms x k);
            moments = λ i k. sym (r.times i k);
            terms = λ k. refl;
            times = λ k. refl;
          } in
          ap₂ (λ (X Y : Type 0). X × Y)
          (changed_same N (Under limit) (TimeUnder limit) (signature_of theory) (log_trace log) c (assignment w) (assignment v) reads f b)
          (settled_same N (Under limit) (TimeUnder limit) (signature_of theory) (length log) c (assignment w) (assignment v) reads f b)
