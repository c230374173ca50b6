-- The trace of a log, the newest first, made from the oldest entry on.
use Rattle.std.proofs.Common.{◌≡◌, List, [], ◌∷◌, ◌++◌, map, refl, sym, ap, ap₂, ◌∙◌}
use Rattle.sp_spec.specs.Rule.{Action, sends}
use Rattle.sp_spec.specs.Execution.{Trace, with_entry}
use Rattle.sp_spec.specs.Log.{Entry, step, send, learn, Log, entry_actions, log_trace, visible_trace}
use Rattle.sp_spec.specs.Lists.{newest_first}
use Rattle.sp_spec.proofs.Lists.{newest_append}

log_trace_joined : (xs ys : Log) → log_trace (xs ++ ys) ≡ log_trace xs ++ log_trace ys
log_trace_joined [] ys = refl
log_trace_joined (x ∷ xs) ys = ap (λ (zs : Trace). entry_actions x ∷ zs) (log_trace_joined xs ys)

pub whole_newest : (es : List Entry) → newest_first (map entry_actions es) ≡ log_trace (newest_first es)
whole_newest [] = refl
whole_newest (e ∷ es) = ap (λ (zs : Trace). zs ++ entry_actions e ∷ []) (whole_newest es) ∙ sym (log_trace_joined (newest_first es) (e ∷ []))

-- what is shown of entries, the oldest first
abbrev pub shown_in : List Entry → Trace
shown_in [] = []
shown_in (e ∷ es) = visible_trace (e ∷ []) ++ shown_in es

entry_joined : (xs : List (Action ⊥)) (ys zs : Trace) → with_entry xs (ys ++ zs) ≡ with_entry xs ys ++ zs
entry_joined [] ys zs = refl
entry_joined (x ∷ xs) ys zs = refl

visible_joined : (xs ys : Log) → visible_trace (xs ++ ys) ≡ visible_trace xs ++ visible_trace ys
visible_joined [] ys = refl
visible_joined (step r facts sources ∷ xs) ys =
    ap (with_entry facts.actions) (visible_joined xs ys) ∙ entry_joined facts.actions (visible_trace xs) (visible_trace ys)
visible_joined (send m ∷ xs) ys = ap (λ (zs : Trace). (sends m ∷ []) ∷ zs) (visible_joined xs ys)
visible_joined (learn m how ∷ xs) ys = visible_joined xs ys

one_newest : (xs : List (Action ⊥)) → newest_first (with_entry xs []) ≡ with_entry xs []
one_newest [] = refl
one_newest (x ∷ xs) = refl

shown_newest : (e : Entry) → newest_first (visible_trace (e ∷ [])) ≡ visible_trace (e ∷ [])
shown_newest (step r facts sources) = one_newest facts.actions
shown_newest (send m) = refl
shown_newest (learn m how) = refl

pub visible_newest : (es : List Entry) → newest_first (shown_in es) ≡ visible_trace (newest_first es)
visible_newest [] = refl
visible_newest (e ∷ es) =
    newest_append (visible_trace (e ∷ [])) (shown_in es)
    ∙ ap₂ (λ (xs ys : Trace). xs ++ ys) (visible_newest es) (shown_newest e)
    ∙ sym (visible_joined (newest_first es) (e ∷ []))
