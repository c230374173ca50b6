-- A tree's first log, whether it is finished and its number of steps are told by its nodes.
use Rattle.std.proofs.Common.{◌≡◌, ℕ, ◌+◌, Bool, true, false, ◌&&◌, List, Option, None, refl, arith}
use Rattle.sp_spec.specs.Log.{Log}
use Rattle.sp_spec_proof.specs.Tree.{first_log, steps, steps_in}
use Rattle.sp_spec_proof.proofs.Logs.{log_last, log_regroup}
use Rattle.sp_spec_nodes.specs.Preorder.{AreTrees}
use Rattle.sp_spec_nodes.proofs.Gathered.{gather}
use Rattle.sp_search.specs.Finished.{finished, all_finished}
use Rattle.sp_search.specs.Kept.{Kept, Keeps, shown, shown_all, log_in, log_among}
use Rattle.sp_search.specs.Kinds.{Kind, case_count, kept}
use Rattle.sp_search.specs.Told.{log_at, leaves_none, step_at}
use Rattle.sp_search.proofs.Gathering.{kept_gathers}

-- ---- logs

abbrev pub first_log_of : List Kind → Option Log
first_log_of = gather first_log None log_at

pub log_told : (ns : List Kind) → AreTrees case_count 1 ns → log_in (kept ns) ≡ first_log_of ns
log_told = kept_gathers first_log None (λ o. refl) log_last log_regroup log_in log_among log_at (λ s m depth. refl) (λ log. refl) (λ m names ts. refl) refl (λ name t ts. refl)

-- ---- leaves

abbrev pub none_of : List Kind → Bool
none_of = gather ◌&&◌ true leaves_none

and_last : (a : Bool) → (a && true) ≡ a
and_last true = refl
and_last false = refl

and_regroup : (a b c : Bool) → ((a && b) && c) ≡ (a && (b && c))
and_regroup true b c = refl
and_regroup false b c = refl

pub finished_told : (ns : List Kind) → AreTrees case_count 1 ns → finished (shown (kept ns)) ≡ none_of ns
finished_told =
    kept_gathers ◌&&◌ true (λ a. refl) and_last and_regroup (λ (t : Kept). finished (shown t)) (λ (ts : Keeps). all_finished (shown_all ts)) leaves_none
    (λ s m depth. refl) (λ log. refl) (λ m names ts. refl) refl (λ name t ts. refl)

-- ---- steps

abbrev pub steps_of : List Kind → ℕ
steps_of = gather ◌+◌ 0 step_at

pub steps_told : (ns : List Kind) → AreTrees case_count 1 ns → steps (shown (kept ns)) ≡ steps_of ns
steps_told =
    kept_gathers ◌+◌ 0 (λ a. omega arith) (λ a. omega arith) (λ a b c. omega arith) (λ (t : Kept). steps (shown t)) (λ (ts : Keeps). steps_in (shown_all ts)) step_at
    (λ s m depth. refl) (λ log. refl) (λ m names ts. refl) refl (λ name t ts. refl)
