-- The moves at events: those of a kind, those of several kinds one after the other, and which are instances.
use Rattle.std.proofs.Common.{◌≡◌, ℕ, ◌+◌, ◌<◌, List, [], ◌∷◌, ◌++◌, length, map, drop, get_or, Option, Some, None, refl, sym, ap, ap₂, ◌∙◌}
use Rattle.std.specs.Prelude.{is_some, flat_map}
use Rattle.std.specs.Option.{option_or}
use Rattle.std.proofs.lemmas.List.{append-nil}
use Rattle.std.proofs.lemmas.List.Folds.{find-append}
use Rattle.sp_spec.specs.Term.{Variable}
use Rattle.sp_spec.specs.Rule.{Fact}
use Rattle.sp_spec.proofs.Lists.{next_item}
use Rattle.sp_spec_system.specs.System.{System, Event}
use Rattle.sp_spec_system.specs.Move.{Move, premise, Context}
use Rattle.sp_spec_system.specs.Picked.{first_some}
use Rattle.sp_system.specs.SystemView.{event_of}
use Rattle.sp_system.specs.declared.event.Event as memory
use Rattle.sp_spec_graph.specs.Premise.{open_premise, premise_cases}
use Rattle.sp_spec_proof.specs.Cases.{simple_case}
use Rattle.sp_spec_proof.specs.Choice.{is_instance, first_instance}
use Rattle.sp_step.specs.declared.events.EventKind.{EventKind}
use Rattle.sp_step.specs.Events.{moves_of, first_of, kinds_at, at_events}
use Rattle.sp_step.proofs.Choosing.{is_some_map}

pub is_open : (context : Context) (s : System) (i p : ℕ) → is_instance context s (premise i p) ≡ is_some (open_premise s i p)
is_open context s i p = is_some_map (map (simple_case context.rules)) (premise_cases context.rules.forms s i p (open_premise s i p)) ∙ each (open_premise s i p)
  where
    each : (o : Option (Fact Variable)) → is_some (premise_cases context.rules.forms s i p o) ≡ is_some o
    each None = refl
    each (Some f) = refl

-- ---- one after the other

pub first_of_kinds : (context : Context) (s : System) (e : Event) (kinds : List EventKind) → first_some (first_of context s e) kinds ≡ first_instance context s (kinds_at kinds e)
first_of_kinds context s e [] = refl
first_of_kinds context s e (kind ∷ kinds) =
    ap (option_or (first_of context s e kind)) (first_of_kinds context s e kinds) ∙ sym (find-append (is_instance context s) (moves_of kind e) (kinds_at kinds e))

pub next_event : (context : Context) (s : System) (moves : Event → List Move) (all : List memory.Event) (k : ℕ) (e : memory.Event) → k < length all → e ≡ get_or all k e
    → first_instance context s (flat_map moves (map event_of (drop k all)))
    ≡ option_or (first_instance context s (moves (event_of e))) (first_instance context s (flat_map moves (map event_of (drop (k + 1) all))))
next_event context s moves all k e below is =
    ap (λ (es : List memory.Event). first_instance context s (flat_map moves (map event_of es))) (next_item all k e below is)
    ∙ find-append (is_instance context s) (moves (event_of e)) (flat_map moves (map event_of (drop (k + 1) all)))

-- ---- of one kind alone

pub at_one : (kind : EventKind) (es : List Event) → at_events (kind ∷ []) es ≡ flat_map (moves_of kind) es
at_one kind [] = refl
at_one kind (e ∷ es) = ap₂ (λ (here later : List Move). here ++ later) (append-nil (moves_of kind e)) (at_one kind es)
