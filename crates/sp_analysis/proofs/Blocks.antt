-- The block of an execution is written.
use Rattle.std.proofs.Common.{◌≡◌, ℕ, List, ◌++◌, Some, subst, codes, sym, ap, ap₂, ◌∙◌, append_assoc}
use Rattle.sp_spec.specs.Rule.{Action}
use Rattle.sp_spec.specs.Execution.{Step}
use Rattle.sp_spec.specs.Log.{Log, visible_trace}
use Rattle.sp_spec.specs.Lists.{Every, newest_first}
use Rattle.sp_spec_printed.specs.Printed.{trace_block}
use Rattle.sp_spec.proofs.Lists.{newest_twice}
use Rattle.sp_show.specs.Numbers.{StepHasNames, numbered_names}
use Rattle.sp_law_printed_log.proofs.CandidateNames.{every_newest}
use Rattle.sp_law_printed_log.specs.Block.{oldest_first, steps_text, block_by}

-- what stands the newest first, turned round
turned : {A : Type 0} (xs ys : List A) → newest_first xs ≡ ys → xs ≡ oldest_first ys
turned xs ys e = sym (newest_twice xs) ∙ ap newest_first e

pub block_written : (steps_of : Log → List Step) (log : Log) (steps : List Step) (entries : List (List (Action ⊥))) (first second all block : List ℕ) → newest_first steps ≡ steps_of log
    → newest_first entries ≡ visible_trace log → first ≡ codes "execution:\n" → second ≡ first ++ steps_text steps → block ≡ trace_block entries → all ≡ second ++ block
    → all ≡ block_by steps_of (Some log)
block_written steps_of log steps entries first second all block steps_are entries_are first_is second_is block_is all_is =
    all_is ∙ ap₂ (λ (a b : List ℕ). a ++ b) (second_is ∙ ap (λ (a : List ℕ). a ++ steps_text steps) first_is) block_is
    ∙ append_assoc (codes "execution:\n") (steps_text steps) (trace_block entries)
    ∙ ap₂ (λ (ss : List Step) (es : List (List (Action ⊥))). codes "execution:\n" ++ (steps_text ss ++ trace_block es)) (turned steps (steps_of log) steps_are)
    (turned entries (visible_trace log) entries_are)

-- ---- numbers

pub steps_numbered : (steps_of : Log → List Step) (log : Log) (steps : List Step) → newest_first steps ≡ steps_of log → Every (StepHasNames numbered_names) steps
    → Every (StepHasNames numbered_names) (steps_of log)
steps_numbered steps_of log steps e h = subst (Every (StepHasNames numbered_names)) e (every_newest (StepHasNames numbered_names) steps h)
