-- The first of all matches, and one turn of loops over slots in memory.
use Rattle.std.proofs.Common.{◌≡◌, ◌≤◌, ◌<◌, ◌+◌, drop, slice_index_or, ℕ, ap₂, List, [], ◌∷◌, ◌++◌, length, map, Option, Some, None, option_and_then, refl, sym, ap, ◌∙◌, append_assoc}
use Rattle.sp_spec.specs.Term.{Variable}
use Rattle.sp_spec.specs.Guarded.{Place, Time, Guarded}
use Rattle.sp_fact.specs.declared.fact.Action as memory_action
use Rattle.sp_system.specs.SystemView.{event_of}
use Rattle.sp_system.specs.declared.event.Event as memory_event
use Rattle.sp_formula.specs.declared.place.Place as memory_place
use Rattle.sp_formula.specs.FormulaView.{moment_of, atom_of}
use Rattle.sp_formula.specs.PlaceView.{placed_action}
use Rattle.sp_spec.specs.Rule.{Action}
use Rattle.sp_spec_system.specs.System.{Event, happening_actions}
use Rattle.std.proofs.lemmas.List.{drop_more, drop_all, map-append}
use Rattle.sp_rows_formula.specs.declared.slots.Slots as memory
use Rattle.sp_rows_formula.specs.SlotsView.{slots_of}
use Rattle.sp_formula.specs.declared.formula.Atom as memory_atom
use Rattle.sp_formula.specs.declared.formula.Atom.TheVariants.{Acts}
use Rattle.sp_formula.specs.declared.formula.Moment.{Moment}
use Rattle.sp_spec_formula.specs.Instantiate.{first_match}
use Rattle.sp_spec_system.specs.Picked.{first_some}
use Rattle.sp_spec_system.proofs.Picked.{first_some_append}
use Rattle.std.specs.Option.{option_or}
use Rattle.sp_rows_formula.specs.MatchesView.{with_match, matches_at, matches}
use Rattle.sp_spec_formula.specs.Instances.{Slots, matched_action}

-- ---- the first of all matches

some_at : (pick : Slots → Option Guarded) (s : Slots) (a : Action Place) (i : Time) (p : ℕ) (bs : List (Action Variable))
    → first_some (λ b. option_and_then pick (matched_action s a i b p)) bs ≡ first_some pick (matches_at s a i p bs)
some_at pick s a i p [] = refl
some_at pick s a i p (b ∷ bs) = ap (option_or (option_and_then pick (matched_action s a i b p))) (some_at pick s a i p bs) ∙ at (matched_action s a i b p)
  where
    at : (o : Option Slots) → option_or (option_and_then pick o) (first_some pick (matches_at s a i p bs)) ≡ first_some pick (with_match o (matches_at s a i p bs))
    at None = refl
    at (Some r) = refl

pub some_match : (pick : Slots → Option Guarded) (s : Slots) (a : Action Place) (i : Time) (events : List Event)
    → first_some (λ (e : Event). first_some (λ b. option_and_then pick (matched_action s a i b e.time)) (happening_actions e.happening)) events ≡ first_some pick (matches s a i events)
some_match pick s a i [] = refl
some_match pick s a i (e ∷ events) =
    ap₂ option_or (some_at pick s a i e.time (happening_actions e.happening)) (some_match pick s a i events)
    ∙ sym (first_some_append pick (matches_at s a i e.time (happening_actions e.happening)) (matches s a i events))

-- one turn of the loop over events in memory: those of the next one come after those that were found
pub event_turn : (s : Slots) (a : Action Place) (i : Time) (items : List memory_event.Event) (k : ℕ) (e : memory_event.Event) (found more grown : List memory.Slots) (all : List Slots)
    → k < length items → e ≡ slice_index_or items k e → map slots_of more ≡ matches_at s a i e.time (happening_actions (event_of e).happening) → grown ≡ found ++ more
    → map slots_of found ++ matches s a i (map event_of (drop k items)) ≡ all
    → map slots_of grown ++ matches s a i (map event_of (drop (k + 1) items)) ≡ all
event_turn s a i items k e found more grown all h is m g before =
    let rest = matches s a i (map event_of (drop (k + 1) items)) in
    let next : matches s a i (map event_of (drop k items)) ≡ map slots_of more ++ rest =
    ap (λ (es : List memory_event.Event). matches s a i (map event_of es)) (drop_more items k e h)
    ∙ ap (λ (d : memory_event.Event). matches s a i (event_of d ∷ map event_of (drop (k + 1) items))) (sym is)
    ∙ ap (λ (found_here : List Slots). found_here ++ rest) (sym m) in
    ap (λ (xs : List memory.Slots). map slots_of xs ++ rest) g
    ∙ ap (λ (xs : List Slots). xs ++ rest) (map-append slots_of found more)
    ∙ append_assoc (map slots_of found) (map slots_of more) rest
    ∙ ap (λ (xs : List Slots). map slots_of found ++ xs) (sym next)
    ∙ before

-- where an action of the guard stands next, in memory, and all its matches have been found
pub acts_there : (events : List Event) (finish : Slots → Option Guarded) (items : List memory_atom.Atom) (i : ℕ) (a : memory_atom.Atom) (x : memory_action.Action memory_place.Place) (m : Moment) (s : Slots) (found all : List memory.Slots)
    → i < length items → a ≡ slice_index_or items i a → a ≡ Acts x m → map slots_of found ≡ matches s (placed_action x) (moment_of m) events → all ≡ found
    → first_match events finish (map atom_of (drop i items)) s ≡ first_some (first_match events finish (map atom_of (drop (i + 1) items))) (map slots_of all)
acts_there events finish items i a x m s found all h is e f d =
    let pick : Slots → Option Guarded = first_match events finish (map atom_of (drop (i + 1) items)) in
    ap (λ (xs : List memory_atom.Atom). first_match events finish (map atom_of xs) s) (drop_more items i a h)
    ∙ ap (λ (b : memory_atom.Atom). first_match events finish (atom_of b ∷ map atom_of (drop (i + 1) items)) s) (sym is ∙ e)
    ∙ some_match pick s (placed_action x) (moment_of m) events ∙ ap (first_some pick) (sym f) ∙ ap (λ (xs : List memory.Slots). first_some pick (map slots_of xs)) (sym d)

-- the first of those that are left is the next one, or there is none
pub some_here : (pick : Slots → Option Guarded) (items : List memory.Slots) (i : ℕ) (x : memory.Slots) (f : Guarded) → i < length items → x ≡ slice_index_or items i x → pick (slots_of x) ≡ Some f
    → first_some pick (map slots_of (drop i items)) ≡ Some f
some_here pick items i x f h is e =
    ap (λ (xs : List memory.Slots). first_some pick (map slots_of xs)) (drop_more items i x h)
    ∙ ap (λ (y : memory.Slots). option_or (pick (slots_of y)) (first_some pick (map slots_of (drop (i + 1) items)))) (sym is)
    ∙ ap (λ (o : Option Guarded). option_or o (first_some pick (map slots_of (drop (i + 1) items)))) e

pub some_end : (pick : Slots → Option Guarded) (items : List memory.Slots) (i : ℕ) → length items ≤ i → first_some pick (map slots_of (drop i items)) ≡ None
some_end pick items i h = ap (λ (xs : List memory.Slots). first_some pick (map slots_of xs)) (drop_all i items h)
