-- Where a time doesn't occur in a system no event has it.
use Rattle.std.proofs.Common.{◌≡◌, ℕ, Bool, true, false, ◌||◌, ◌==◌, if◌then◌else◌, List, [], ◌∷◌, Option, Some, None, refl, sym, ◌∙◌}
use Rattle.std.proofs.lemmas.Bool.{or_parts}
use Rattle.sp_spec_system.specs.System.{Event, System}
use Rattle.sp_spec_system.specs.MakingOne.{event_at}
use Rattle.sp_spec_system.specs.Occurring.{has_time}
use Rattle.sp_moves.specs.Times.{happening_has, events_have}
use Rattle.sp_moves.proofs.Occurring.{each_part}

no_event : (i : ℕ) (es : List Event) → events_have i es ≡ false → event_at i es ≡ None
no_event i [] e = refl
no_event i (x ∷ es) e = at (x.time == i) (happening_has i x.happening) e (no_event i es)
  where
    at : (b d : Bool) → ((b || d) || events_have i es) ≡ false → (events_have i es ≡ false → event_at i es ≡ None) → (let r : Option Event = if b then Some x else event_at i es in r) ≡ None
    at true d h later = absurd cc
    at false true h later = absurd cc
    at false false h later = later h

pub no_time : (i : ℕ) (s : System) → has_time i s ≡ false → event_at i s.events ≡ None
no_time i s e = no_event i s.events (or_parts (events_have i s.events) _ (sym (each_part i s) ∙ e)).0
