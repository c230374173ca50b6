-- The log that a solved system suggests: its events one after the other, each behind those that the order puts before it, with names for
-- the variables that are left. Source: CSF 2012, "Constraint solving" (extracting an attack from a solved system).
use Rattle.std.specs.Prelude.{ℕ, suc, ◌==◌, Bool, true, false, not, ◌&&◌, ◌||◌, if◌then◌else◌, List, [], ◌∷◌, map, Option, Some, None, option_map, option_and_then, unwrap_or}
use Rattle.sp_spec.specs.Term.{Variable, Term, var, constant, Values, valued}
use Rattle.sp_spec.specs.Rule.{Fact, facts_at}
use Rattle.sp_spec.specs.Guarded.{Guarded, holds, acts, free_time}
use Rattle.sp_spec.specs.Log.{Entry, step, send, learn, How, Source, fresh_rule, conclusion, is_fr}
use Rattle.sp_spec.specs.Log as log
use Rattle.sp_spec_system.specs.System.{Way, anyhow, public_name, own_name, constructed, chain_begun, chain_done, Happening, rule_step, sending, learning, Event, Link, System, happening_premises}
use Rattle.sp_spec_system.specs.Order.{is_cyclic}
use Rattle.sp_spec_solved.specs.Listing.{in_order}
use Rattle.sp_spec_solved.specs.Naming.{if_fresh, values_of}

-- ---- which systems suggest one

abbrev pub has_event : List Event → ℕ → Bool
has_event [] i = false
has_event (e ∷ es) i = (e.time == i) || has_event es i

-- a formula that says that an action happens says so of the time of an event
abbrev pub has_place : List Event → Guarded → Bool
has_place events (holds (acts a (free_time i))) = has_event events i
has_place events f = true

abbrev pub have_places : List Event → List Guarded → Bool
have_places events [] = true
have_places events (f ∷ fs) = has_place events f && have_places events fs

-- the first link to a premise
abbrev pub first_link : List Link → ℕ → ℕ → Option Link
first_link [] i p = None
first_link (l ∷ ls) i p = if (l.to == i) && (l.premise == p) then Some l else first_link ls i p

abbrev pub is_from_event : List Event → Option Link → Bool
is_from_event events None = false
is_from_event events (Some l) = has_event events l.from

-- the premise is an Fr, or the first link to it is from the time of an event
abbrev pub is_sourced : List Event → List Link → ℕ → ℕ → Fact Variable → Bool
is_sourced events links i p f = is_fr f || is_from_event events (first_link links i p)

-- so it is with those of the premises from a place on
abbrev pub are_sourced : List Event → List Link → ℕ → ℕ → List (Fact Variable) → Bool
are_sourced events links i p [] = true
are_sourced events links i p (f ∷ fs) = is_sourced events links i p f && are_sourced events links i (suc p) fs

-- and with all premises of these events
abbrev pub all_sourced : List Event → List Link → List Event → Bool
all_sourced events links [] = true
all_sourced events links (e ∷ es) = are_sourced events links e.time 0 (happening_premises e.happening) && all_sourced events links es

-- a public name, or a variable for which one may stand
abbrev pub may_be_public : Term Variable → Bool
may_be_public (var x) = if_fresh x.sort false true
may_be_public (constant c) = true
may_be_public t = false

-- it is settled how the message is learnt: a chain has all of its messages, and what is learnt anyhow is a public name or becomes one
abbrev pub is_settled_way : Term Variable → Way → Bool
is_settled_way m anyhow = may_be_public m
is_settled_way m (chain_begun i k ts) = false
is_settled_way m way = true

abbrev pub is_settled : Happening → Bool
is_settled (learning m way) = is_settled_way m way
is_settled h = true

abbrev pub are_settled : List Event → Bool
are_settled [] = true
are_settled (e ∷ es) = is_settled e.happening && are_settled es

-- each learning is settled, each action has an event, each premise a source, and the order no cycle
abbrev pub is_ready : System → Bool
is_ready s = are_settled s.events && (have_places s.events s.formulas && (all_sourced s.events s.links s.events && not (is_cyclic s.order)))

-- ---- the log

-- the place of an event in the list, by its time
abbrev pub place_of : ℕ → List Event → Option ℕ
place_of i [] = None
place_of i (e ∷ es) = if e.time == i then Some 0 else option_map suc (place_of i es)

-- the source that a link says: a conclusion of an event of the list
abbrev pub given_by : List Event → Link → Option Source
given_by listed l = option_map (λ q. conclusion q l.conclusion) (place_of l.from listed)

abbrev pub linked_source : List Event → List Link → ℕ → ℕ → Option Source
linked_source listed links i p = option_and_then (given_by listed) (first_link links i p)

-- each Fr is from the fresh rule, and each other premise from where its link says
abbrev pub source_of : List Event → List Link → ℕ → ℕ → Fact Variable → Option Source
source_of listed links i p f = if is_fr f then Some fresh_rule else linked_source listed links i p

-- those of the premises from a place on; none if one of them has none
abbrev pub sources_from : List Event → List Link → ℕ → ℕ → List (Fact Variable) → Option (List Source)
sources_from listed links i p [] = Some []
sources_from listed links i p (f ∷ fs) =
    option_and_then (λ source. option_map (λ sources. source ∷ sources) (sources_from listed links i (suc p) fs)) (source_of listed links i p f)

-- the position that the event at a time has in a log of the list, 0 where the list has none
abbrev pub position_of : List Event → ℕ → ℕ
position_of listed i = unwrap_or (place_of i listed) 0

-- what is learnt anyhow is learnt as a public name: as the one that it is, or that its variable is given
abbrev pub how_at : List Event → Values → Way → How
how_at listed v anyhow = log.public_name
how_at listed v public_name = log.public_name
how_at listed v own_name = log.own_name
how_at listed v constructed = log.constructed
how_at listed v (chain_begun i k ts) = log.by_chain (position_of listed i) k (map (valued v) ts)
how_at listed v (chain_done i k ts) = log.by_chain (position_of listed i) k (map (valued v) ts)

-- the entry of what happens, under these values, with these sources of its premises
abbrev pub entry_at : List Event → Values → Happening → List Source → Entry
entry_at listed v (rule_step r facts) sources = step r (facts_at v facts) sources
entry_at listed v (sending m) sources = send (valued v m)
entry_at listed v (learning m way) sources = learn (valued v m) (how_at listed v way)

abbrev pub event_sources : List Event → List Link → Event → Option (List Source)
event_sources listed links e = sources_from listed links e.time 0 (happening_premises e.happening)

-- an entry for each of these events of the list
abbrev pub entries_of : List Event → List Link → Values → List Event → Option (List Entry)
entries_of listed links v [] = Some []
entries_of listed links v (e ∷ es) =
    option_and_then (λ sources. option_map (λ entries. entry_at listed v e.happening sources ∷ entries) (entries_of listed links v es)) (event_sources listed links e)

abbrev pub logged : List (List ℕ) → List Link → List Event → Option (List Entry)
logged constants links events = entries_of events links (values_of constants events) events

-- the oldest first; the names are those of the theory's constants
abbrev pub candidate : List (List ℕ) → System → Option (List Entry)
candidate constants s = if is_ready s then option_and_then (logged constants s.links) (in_order s.order s.events) else None
