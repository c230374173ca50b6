-- Where the order has no cycle, the listing of events never gets stuck.
use Rattle.std.proofs.Common.{◌≡◌, ℕ, zero, suc, Bool, true, false, ◌||◌, if◌then◌else◌, List, [], ◌∷◌, ◌++◌, length, Option, Some, option_map, option_and_then, refl, sym, ap, ◌∙◌, true≢false, arith}
use Rattle.sp_spec.specs.Lists.{Every}
use Rattle.sp_spec_system.specs.System.{Event}
use Rattle.sp_spec_system.specs.Order.{is_before, is_cyclic}
use Rattle.sp_spec_solved.specs.Listing.{some_before, passed, first_free, one_by_one}
use Rattle.sp_law_candidate.proofs.Listed.{taken, length_middle}
use Rattle.sp_law_system.proofs.ShortPaths.{before_before, not_before_itself}

-- none of them is before the event
abbrev NoneBefore : List (ℕ × ℕ) → Event → List Event → Type 0
NoneBefore order e es = Every (λ (f : Event). is_before order f.time e.time ≡ false) es

record IsLeast (order : List (ℕ × ℕ)) (es : List Event) : Type 0 where
  least : Event
  front : List Event
  back : List Event
  there : es ≡ front ++ least ∷ back
  none : NoneBefore order least es

module _ (order : List (ℕ × ℕ)) (acyclic : is_cyclic order ≡ false) where
  -- what is before an earlier event was before the least one too
  earlier : (e m : Event) (es : List Event) → is_before order e.time m.time ≡ true → NoneBefore order m es → NoneBefore order e es
  earlier e m [] b h = tt
  earlier e m (f ∷ es) b h = (at (is_before order f.time e.time) refl, earlier e m es b h.1)
    where
      at : (c : Bool) → is_before order f.time e.time ≡ c → c ≡ false
      at false s = refl
      at true s = absurd (true≢false (sym (before_before order f.time e.time m.time s b) ∙ h.0))

  least_of : (e : Event) (es : List Event) → IsLeast order (e ∷ es)
  least_of e [] = record { least = e; front = []; back = []; there = refl; none = (not_before_itself order acyclic e.time, tt) }
  least_of e (f ∷ es) = at (least_of f es)
    where
      by_test : (r : IsLeast order (f ∷ es)) (b : Bool) → is_before order e.time r.least.time ≡ b → IsLeast order (e ∷ f ∷ es)
      by_test r true s = record { least = e; front = []; back = f ∷ es; there = refl; none = (not_before_itself order acyclic e.time, earlier e r.least (f ∷ es) s r.none) }
      by_test r false s = record { least = r.least; front = e ∷ r.front; back = r.back; there = ap (λ (xs : List Event). e ∷ xs) r.there; none = (s, r.none) }

      at : IsLeast order (f ∷ es) → IsLeast order (e ∷ f ∷ es)
      at r = by_test r (is_before order e.time r.least.time) refl

  none_is_before : (e : Event) (es : List Event) → NoneBefore order e es → some_before order es e.time ≡ false
  none_is_before e [] h = refl
  none_is_before e (f ∷ es) h = ap (λ (b : Bool). b || some_before order es e.time) h.0 ∙ none_is_before e es h.1

  -- a free event is found, if one is there
  found_free : (left front : List Event) (e : Event) (back : List Event) → some_before order left e.time ≡ false
      → (d : Event) × (others : List Event) × (first_free order left (front ++ e ∷ back) ≡ Some (d, others))
  found_free left [] e back h = (e, back, ap (λ (b : Bool). if b then option_map (passed e) (first_free order left back) else Some (e, back)) h)
  found_free left (f ∷ front) e back h = at (some_before order left f.time) (found_free left front e back h)
    where
      at : (b : Bool) → (d : Event) × (others : List Event) × (first_free order left (front ++ e ∷ back) ≡ Some (d, others))
          → (d : Event) × (others : List Event) × ((if b then option_map (passed f) (first_free order left (front ++ e ∷ back)) else Some (f, front ++ e ∷ back)) ≡ Some (d, others))
      at true r = (r.0, f ∷ r.1, ap (option_map (passed f)) r.2)
      at false r = (f, front ++ e ∷ back, refl)

  first_found : (e : Event) (es : List Event) → (d : Event) × (others : List Event) × (first_free order (e ∷ es) (e ∷ es) ≡ Some (d, others))
  first_found e es =
      let r = least_of e es in
      let f = found_free (e ∷ es) r.front r.least r.back (none_is_before r.least (e ∷ es) r.none) in
      (f.0, f.1, ap (first_free order (e ∷ es)) r.there ∙ f.2)

  pub all_are_listed : (n : ℕ) (left : List Event) → length left ≡ n → (listed : List Event) × (one_by_one n order left ≡ Some listed)
  all_are_listed zero left h = ([], refl)
  all_are_listed (suc n) [] h = absurd (omega arith)
  all_are_listed (suc n) (e ∷ es) h =
      let r = first_found e es in
      let t = taken order (e ∷ es) (e ∷ es) r.0 r.1 r.2 in
      let count : length r.1 ≡ n = ap length t.are ∙ (let m = length_middle t.front r.0 t.back in let w = ap length t.were in omega arith) in
      let rest = all_are_listed n r.1 count in (
        r.0 ∷ rest.0,
        ap (λ (o : Option (Event × List Event)). option_and_then (λ (p : Event × List Event). option_map (λ (xs : List Event). p.0 ∷ xs) (one_by_one n order p.1)) o) r.2
            ∙ ap (option_map (λ (xs : List Event). r.0 ∷ xs)) rest.1,
      )
