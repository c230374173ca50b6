-- Where two events are to be one, only the second is left out: the others stand there as before, and the first is among them.
use Rattle.std.proofs.Common.{◌≡◌, ◌⊎◌, ℕ, Bool, true, false, if◌then◌else◌, List, [], ◌∷◌, Option, Some, None, option_map, refl, sym, ◌∙◌, ap, subst, inl, inr, nat_eq}
use Rattle.sp_spec.specs.Lists.{Member}
use Rattle.sp_spec_system.specs.System.{Way, Event}
use Rattle.sp_spec_system.specs.Solutions.{Valuation}
use Rattle.sp_spec_system.specs.MakingOne.{MergingEvents, merging_behind, merging_with, merging_from, merging_events, happening_by, learnt_by_at}
use Rattle.sp_spec.proofs.Lists.{member_map}
use Rattle.sp_spec.proofs.Options.{mapped}
use Rattle.sp_law_system.proofs.With.{AreFoundIn}

-- each of these events is among the others, or is the second
abbrev pub IsKeptBut : List Event → MergingEvents → Type 0
IsKeptBut es r = (x : Event) → Member x es → Member x r.others ⊎ (x ≡ r.second)

module _ (are_one : Event → Event → Bool) where
  with_kept : (e : Event) (es : List Event) (r : MergingEvents) → merging_with are_one e es ≡ Some r → IsKeptBut es r × (r.first ≡ e)
  with_kept e [] r h = absurd cc
  with_kept e (d ∷ es) r h = at (are_one e d) h (λ q l. with_kept e es q l)
    where
      here : MergingEvents
      here = record { first = e; second = d; others = es }

      there : IsKeptBut (d ∷ es) here
      there x (inl m) = inr (sym m)
      there x (inr m) = inl m

      behind : (q : MergingEvents) → IsKeptBut es q → IsKeptBut (d ∷ es) (merging_behind d q)
      behind q k x (inl m) = inl (inl m)
      behind q k x (inr m) = or (k x m)
        where
          or : Member x q.others ⊎ (x ≡ q.second) → Member x (d ∷ q.others) ⊎ (x ≡ q.second)
          or (inl l) = inl (inr l)
          or (inr l) = inr l

      at : (b : Bool) → (if b then Some here else option_map (merging_behind d) (merging_with are_one e es)) ≡ Some r
          → ((q : MergingEvents) → merging_with are_one e es ≡ Some q → IsKeptBut es q × (q.first ≡ e)) → IsKeptBut (d ∷ es) r × (r.first ≡ e)
      at true l later = let g : here ≡ r = cc in subst (λ (x : MergingEvents). IsKeptBut (d ∷ es) x × (x.first ≡ e)) g (there, refl)
      at false l later =
          let q = mapped (merging_behind d) (merging_with are_one e es) r l in
          let k = later q.0 q.1 in
          subst (λ (x : MergingEvents). IsKeptBut (d ∷ es) x × (x.first ≡ e)) (sym q.2) (behind q.0 k.0, k.1)

  pub merging_kept : (es : List Event) (r : MergingEvents) → merging_events are_one es ≡ Some r → IsKeptBut es r × Member r.first r.others
  merging_kept [] r h = absurd cc
  merging_kept (e ∷ es) r h = at (merging_with are_one e es) refl h (λ q l. merging_kept es q l)
    where
      front : (q s : MergingEvents) → s.others ≡ e ∷ q.others → s.second ≡ q.second → IsKeptBut es q → IsKeptBut (e ∷ es) s
      front q s o t k x (inl m) = inl (subst (Member x) (sym o) (inl m))
      front q s o t k x (inr m) = or (k x m)
        where
          or : Member x q.others ⊎ (x ≡ q.second) → Member x s.others ⊎ (x ≡ s.second)
          or (inl l) = inl (subst (Member x) (sym o) (inr l))
          or (inr l) = inr (l ∙ sym t)

      at : (o : Option MergingEvents) → merging_with are_one e es ≡ o → merging_from e o (merging_events are_one es) ≡ Some r
          → ((q : MergingEvents) → merging_events are_one es ≡ Some q → IsKeptBut es q × Member q.first q.others) → IsKeptBut (e ∷ es) r × Member r.first r.others
      at (Some q) s l later =
          let made : MergingEvents = record { first = q.first; second = q.second; others = e ∷ q.others } in
          let g : made ≡ r = cc in
          let k = with_kept e es q s in
          subst (λ (x : MergingEvents). IsKeptBut (e ∷ es) x × Member x.first x.others) g (front q made refl refl k.0, inl (sym k.1))
      at None s l later =
          let q = mapped (merging_behind e) (merging_events are_one es) r l in
          let k = later q.0 q.1 in
          subst (λ (x : MergingEvents). IsKeptBut (e ∷ es) x × Member x.first x.others) (sym q.2) (front q.0 (merging_behind e q.0) refl refl k.0, inr k.1)

-- another way of learning changes no time
pub learnt_found : (v : Valuation) (i : ℕ) (way : Way) (es : List Event) → AreFoundIn v es (learnt_by_at i way es)
learnt_found v i way es e m =
    let one : Event → Event = λ (d : Event). if nat_eq d.time i then record { time = d.time; happening = happening_by way d.happening } else d in
    (one e, member_map one e es m, ap v.times (same (nat_eq e.time i)))
  where
    same : (b : Bool) → (if b then record { time = e.time; happening = happening_by way e.happening } else e).time ≡ e.time
    same true = refl
    same false = refl

-- so each event has one at its position, where the first and the second have one position
pub merging_found : (v : Valuation) (are_one : Event → Event → Bool) (es : List Event) (r : MergingEvents) → merging_events are_one es ≡ Some r
    → v.times r.first.time ≡ v.times r.second.time → (i : ℕ) (way : Way) → AreFoundIn v es (learnt_by_at i way r.others)
merging_found v are_one es r h one i way e m = at (k.0 e m)
  where
    k : IsKeptBut es r × Member r.first r.others
    k = merging_kept are_one es r h

    at : Member e r.others ⊎ (e ≡ r.second) → (d : Event) × Member d (learnt_by_at i way r.others) × (v.times d.time ≡ v.times e.time)
    at (inl l) = learnt_found v i way r.others e l
    at (inr l) =
        let d = learnt_found v i way r.others r.first k.1 in
        (d.0, d.1, d.2 ∙ one ∙ ap (λ (x : Event). v.times x.time) (sym l))
