-- The shapes that the hypothesis has.
use Rattle.std.proofs.Common.{◌≡◌, true, false, [], ◌∷◌, refl}
use Rattle.sp_spec.specs.Term.{Msg}
use Rattle.sp_spec.specs.Rule.{Action}
use Rattle.sp_spec.specs.Guarded.{Place, bound_time, message, time, acts, before, last, truth, falsity, holds, fails, all_of, one_of, some, every, no_more, and_then}
use Rattle.sp_law_induction.specs.Hypothesis.{hypothesis, is_safety}

module _ (a b : Action Place) where
  -- All x #i. A(x)@i ==> Ex #j. B(x)@j & j < i
  response : hypothesis (every (message Msg ∷ time ∷ []) (acts a (bound_time 0) ∷ []) (some (time ∷ []) (acts b (bound_time 0) ∷ []) (holds (before (bound_time 0) (bound_time 1)))))
      ≡ every (message Msg ∷ time ∷ []) (acts a (bound_time 0) ∷ []) (one_of (and_then (holds (last (bound_time 0))) (and_then (
      some (time ∷ []) (acts b (bound_time 0) ∷ []) (all_of (and_then (holds (before (bound_time 0) (bound_time 1))) (and_then (fails (last (bound_time 0))) no_more)))
      ) no_more)))
  response = refl

  -- All #i #j. A@i & B@j ==> i < j | F: the first binder's time stands first, and the list stays flat
  two_times : hypothesis (every (time ∷ time ∷ []) (acts a (bound_time 1) ∷ acts b (bound_time 0) ∷ []) (one_of (and_then (holds (before (bound_time 1) (bound_time 0))) (and_then falsity no_more))))
      ≡ every (time ∷ time ∷ []) (acts a (bound_time 1) ∷ acts b (bound_time 0) ∷ [])
      (one_of (and_then (holds (last (bound_time 1))) (and_then (holds (last (bound_time 0))) (and_then (holds (before (bound_time 1) (bound_time 0))) (and_then falsity no_more)))))
  two_times = refl

  -- a negated action has no times of its own, and stays
  negated_action : hypothesis (every [] (acts a (bound_time 0) ∷ []) falsity) ≡ every [] (acts a (bound_time 0) ∷ []) falsity
  negated_action = refl

  -- a body that is false, or true, stays as a part
  never : hypothesis (every (time ∷ []) (acts a (bound_time 0) ∷ []) falsity)
      ≡ every (time ∷ []) (acts a (bound_time 0) ∷ []) (one_of (and_then (holds (last (bound_time 0))) (and_then falsity no_more)))
  never = refl

  once : hypothesis (some (time ∷ []) (acts a (bound_time 0) ∷ []) truth) ≡ some (time ∷ []) (acts a (bound_time 0) ∷ []) (all_of (and_then truth (and_then (fails (last (bound_time 0))) no_more)))
  once = refl

  safe : is_safety (every (time ∷ []) (acts a (bound_time 0) ∷ []) falsity) ≡ true
  safe = refl

  unsafe : is_safety (every (time ∷ []) (acts a (bound_time 0) ∷ []) (some (time ∷ []) (acts b (bound_time 0) ∷ []) truth)) ≡ false
  unsafe = refl
