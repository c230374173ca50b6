-- The first free event in memory is that of the list.
use Rattle.std.proofs.Common.{◌≡◌, ◌<◌, ℕ, zero, suc, Bool, true, false, if◌then◌else◌, List, [], ◌∷◌, ◌++◌, length, take, drop, get_or, Option, Some, None, option_map, refl, sym, ap, ap₂, ◌∙◌, ◌+◌, add-one, arith}
use denote.Ref.{Bor}
use Rattle.sp_spec_system.specs.System as spec
use Rattle.sp_system.specs.SystemView.{event_of}
use Rattle.sp_system.specs.declared.event.Event.{Event}
use Rattle.sp_spec_solved.specs.Listing.{some_before, passed, first_free}
use Rattle.sp_solved.specs.ListingView.{events_of, free_place}

some_suc : (o : Option ℕ) (k : ℕ) → option_map (λ (j : ℕ). suc j) o ≡ Some k → (j : ℕ) × (o ≡ Some j) × (k ≡ suc j)
some_suc None k e = absurd cc
some_suc (Some j) k e = (j, refl, sym (let g : suc j ≡ k = cc in g))

pub free_below : (order : List (ℕ × ℕ)) (left es : List spec.Event) (k : ℕ) → free_place order left es ≡ Some k → k < length es
free_below order left [] k e = absurd cc
free_below order left (d ∷ es) k e = at (some_before order left d.time) e (λ j l. free_below order left es j l)
  where
    at : (b : Bool) → (if b then option_map (λ (j : ℕ). suc j) (free_place order left es) else Some zero) ≡ Some k
        → ((j : ℕ) → free_place order left es ≡ Some j → j < length es) → k < suc (length es)
    at true l later = let r = some_suc (free_place order left es) k l in let h = later r.0 r.1 in let s = r.2 in omega arith
    at false l later = let z : zero ≡ k = cc in omega arith

-- at that place stands the event that is taken, and around it the others
pub free_taken : (order : List (ℕ × ℕ)) (left : List spec.Event) (es : List (Bor Event)) (k : ℕ) (d : Bor Event) → free_place order left (events_of es) ≡ Some k
    → first_free order left (events_of es) ≡ Some (event_of (get_or es k d).now, events_of (take k es ++ drop (suc k) es))
free_taken order left [] k d e = absurd cc
free_taken order left (x ∷ es) k d e = at (some_before order left (event_of x.now).time) e (λ j l. free_taken order left es j d l)
  where
    at : (b : Bool) → (if b then option_map (λ (j : ℕ). suc j) (free_place order left (events_of es)) else Some zero) ≡ Some k
        → ((j : ℕ) → free_place order left (events_of es) ≡ Some j → first_free order left (events_of es) ≡ Some (event_of (get_or es j d).now, events_of (take j es ++ drop (suc j) es)))
        → (if b then option_map (passed (event_of x.now)) (first_free order left (events_of es)) else Some (event_of x.now, events_of es))
        ≡ Some (event_of (get_or (x ∷ es) k d).now, events_of (take k (x ∷ es) ++ drop (suc k) (x ∷ es)))
    at true l later =
        let r = some_suc (free_place order left (events_of es)) k l in
        ap (option_map (passed (event_of x.now))) (later r.0 r.1)
        ∙ ap (λ (j : ℕ). Some (event_of (get_or (x ∷ es) j d).now, events_of (take j (x ∷ es) ++ drop (suc j) (x ∷ es)))) (sym r.2)
    at false l later =
        let z : zero ≡ k = cc in
        ap (λ (j : ℕ). Some (event_of (get_or (x ∷ es) j d).now, events_of (take j (x ∷ es) ++ drop (suc j) (x ∷ es)))) z

pub none_free : (order : List (ℕ × ℕ)) (left es : List spec.Event) → free_place order left es ≡ None → first_free order left es ≡ None
none_free order left [] e = refl
none_free order left (d ∷ es) e = at (some_before order left d.time) e (λ l. none_free order left es l)
  where
    none_suc : (o : Option ℕ) → option_map (λ (j : ℕ). suc j) o ≡ None → o ≡ None
    none_suc None k = refl
    none_suc (Some j) k = absurd cc

    at : (b : Bool) → (if b then option_map (λ (j : ℕ). suc j) (free_place order left es) else Some zero) ≡ None → (free_place order left es ≡ None → first_free order left es ≡ None)
        → (if b then option_map (passed d) (first_free order left es) else Some (d, es)) ≡ None
    at true l later = ap (option_map (passed d)) (later (none_suc (free_place order left es) l))
    at false l later = absurd cc

pub taken_there : (order : List (ℕ × ℕ)) (left : List spec.Event) (es : List (Bor Event)) (k : ℕ) (x : Bor Event) (rest : List (Bor Event)) → free_place order left (events_of es) ≡ Some k
    → x ≡ get_or es k x → rest ≡ take k es ++ drop (k + 1) es → first_free order left (events_of es) ≡ Some (event_of x.now, events_of rest)
taken_there order left es k x rest e is are =
    free_taken order left es k x e
    ∙ ap₂ (λ (y : Bor Event) (ys : List (Bor Event)). Some (event_of y.now, events_of ys)) (sym is) (ap (λ (n : ℕ). take k es ++ drop n es) (sym (add-one k)) ∙ sym are)
