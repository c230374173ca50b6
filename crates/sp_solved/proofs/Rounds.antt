-- Rounds in which events are taken.
use Rattle.std.proofs.Common.{◌≡◌, ◌<◌, ◌+◌, ◌-◌, ℕ, List, [], ◌∷◌, ◌++◌, Option, Some, None, option_map, option_and_then, sym, ap, ◌∙◌}
use Rattle.std.proofs.lemmas.List.{map-append}
use denote.Ref.{Bor}
use Rattle.sp_spec_system.specs.System as spec
use Rattle.sp_system.specs.SystemView.{event_of}
use Rattle.sp_system.specs.declared.event.Event.{Event}
use Rattle.sp_spec_solved.specs.Listing.{first_free, one_by_one}
use Rattle.sp_solved.specs.ListingView.{events_of}
use Rattle.sp_spec.proofs.Options.{behind}
use Rattle.sp_solved.proofs.Firsts.{regrouped}
use Rattle.sp_system.proofs.TurnsLeft.{one_less}

abbrev in_round : (List spec.Event → Option (List spec.Event)) → Option (spec.Event × List spec.Event) → Option (List spec.Event)
in_round later o = option_and_then (λ (p : spec.Event × List spec.Event). option_map (λ (es : List spec.Event). p.0 ∷ es) (later p.1)) o

pub stuck : (order : List (ℕ × ℕ)) (total i : ℕ) (left listed : List spec.Event) (target : Option (List spec.Event)) → i < total → first_free order left left ≡ None
    → behind listed (one_by_one (total - i) order left) ≡ target → None ≡ target
stuck order total i left listed target h e inv =
    sym
    (ap (λ (n : ℕ). behind listed (one_by_one n order left)) (one_less total i h)
    ∙ ap (λ (o : Option (spec.Event × List spec.Event)). behind listed (in_round (one_by_one (total - (i + 1)) order) o)) e)
    ∙ inv

pub one_linear_source : (order : List (ℕ × ℕ)) (total i : ℕ) (left others : List spec.Event) (listed now : List (Bor Event)) (e : Bor Event) (target : Option (List spec.Event)) → i < total
    → first_free order left left ≡ Some (event_of e.now, others) → now ≡ listed ++ e ∷ []
    → behind (events_of listed) (one_by_one (total - i) order left) ≡ target → behind (events_of now) (one_by_one (total - (i + 1)) order others) ≡ target
one_linear_source order total i left others listed now e target h taken put inv =
    ap (λ (es : List (Bor Event)). behind (events_of es) (one_by_one (total - (i + 1)) order others)) put
    ∙ ap (λ (es : List spec.Event). behind es (one_by_one (total - (i + 1)) order others)) (map-append (λ (d : Bor Event). event_of d.now) listed (e ∷ []))
    ∙ regrouped (events_of listed) (event_of e.now) (one_by_one (total - (i + 1)) order others)
    ∙ ap (λ (o : Option (spec.Event × List spec.Event)). behind (events_of listed) (in_round (one_by_one (total - (i + 1)) order) o)) (sym taken)
    ∙ ap (λ (n : ℕ). behind (events_of listed) (one_by_one n order left)) (sym (one_less total i h))
    ∙ inv
