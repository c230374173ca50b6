-- The steps by which the adversary learns and sends have the names of the log's messages.
use Rattle.std.proofs.Common.{ℕ, zero, suc, ◌+◌, Bool, true, false, if◌then◌else◌, List, [], ◌∷◌, take, drop, Option, Some, None, slice_get, unwrap_or}
use Rattle.sp_spec.specs.Lists.{Every}
use Rattle.sp_spec.proofs.Lists.{every_append}
use Rattle.sp_spec.specs.Term.{Names, AllMadeOf, var, constant, name, app, none, more, Ground, Grounds}
use Rattle.sp_spec.specs.Execution.{Step, make_fresh, take_out}
use Rattle.sp_spec.specs.Log.{How, public_name, own_name, constructed, by_chain, step, send, learn, Log}
use Rattle.sp_destruct.specs.Links.{link}
use Rattle.sp_law_log_steps.specs.Found.{fresh_steps}
use Rattle.sp_law_log_execution.specs.Executed.{Level, Linking, in_front, args_between, sides_below, raised, raising, if_there, messages_at, steps_by, link_steps, chain_steps, messages_learnt, is_taken, making, from_out, learning}
use Rattle.sp_law_printed_log.specs.Shown.{no_variable, HasNames, StepHasNames, HowHasNames, LogHasNames}

module _ (N : Names) where
  abbrev AreNamed : List Ground → Type 0
  AreNamed ms = Every (HasNames N) ms

  abbrev HaveStepNames : List Step → Type 0
  HaveStepNames steps = Every (StepHasNames N) steps

  -- ---- lists of messages

  first_named : (n : ℕ) (ms : List Ground) → AreNamed ms → AreNamed (take n ms)
  first_named zero [] each = tt
  first_named zero (m ∷ ms) each = tt
  first_named (suc n) [] each = tt
  first_named (suc n) (m ∷ ms) each = (each.0, first_named n ms each.1)

  others_named : (n : ℕ) (ms : List Ground) → AreNamed ms → AreNamed (drop n ms)
  others_named zero [] each = each
  others_named zero (m ∷ ms) each = each
  others_named (suc n) [] each = tt
  others_named (suc n) (m ∷ ms) each = others_named n ms each.1

  there_named : (learnt : List Ground) → AreNamed learnt → (k : ℕ) → AreNamed (if_there (slice_get learnt k))
  there_named [] each zero = tt
  there_named [] each (suc k) = tt
  there_named (m ∷ ms) each zero = (each.0, tt)
  there_named (m ∷ ms) each (suc k) = there_named ms each.1 k

  at_named : (learnt : List Ground) → AreNamed learnt → (places : List ℕ) → AreNamed (messages_at learnt places)
  at_named learnt each [] = tt
  at_named learnt each (k ∷ ks) =
      every_append (HasNames N) (if_there (slice_get learnt k)) (messages_at learnt ks) (there_named learnt each k) (at_named learnt each ks)

  in_front_named : (ms : List Ground) (ts : Grounds) → AreNamed ms → AllMadeOf N no_variable ts → AllMadeOf N no_variable (in_front ms ts)
  in_front_named [] ts each h = h
  in_front_named (m ∷ ms) ts each h = (each.0, in_front_named ms ts each.1 h)

  -- ---- up a way

  args_named : (l : Level) (ms : List Ground) (t : Ground) → AreNamed ms → HasNames N t → AllMadeOf N no_variable (args_between l ms t)
  args_named l ms t each h =
      let back = take l.back (drop l.front ms) in
      in_front_named (take l.front ms) (more t (in_front back none)) (first_named l.front ms each)
      (h, in_front_named back none (first_named l.back (drop l.front ms) (others_named l.front ms each)) tt)

  raised_named : (levels : List Level) (ms : List Ground) (t : Ground) → AreNamed ms → HasNames N t → HasNames N (raised levels ms t)
  raised_named [] ms t each h = h
  raised_named (l ∷ levels) ms t each h =
      args_named l ms (raised levels (sides_below l ms) t) each (raised_named levels (sides_below l ms) t (others_named (l.front + l.back) ms each) h)

  raising_named : (levels : List Level) (ms : List Ground) (t : Ground) → AreNamed ms → HasNames N t → HaveStepNames (raising levels ms t)
  raising_named [] ms t each h = tt
  raising_named (l ∷ levels) ms t each h =
      let below = others_named (l.front + l.back) ms each in (
        args_named l ms (raised levels (sides_below l ms) t) each (raised_named levels (sides_below l ms) t below h),
        raising_named levels (sides_below l ms) t below h,
      )

  -- ---- along a chain

  module _ (by : Linking) (learnt : List Ground) (each : AreNamed learnt) where
    by_named : (t : Ground) → HasNames N t → (o : Option (ℕ × List ℕ)) → HaveStepNames (steps_by by learnt t o)
    by_named t h None = tt
    by_named t h (Some found) =
        raising_named (unwrap_or (slice_get by.ways found.0) []) (messages_at learnt found.1) t (at_named learnt each found.1) h

    chain_named : (t : Ground) (chain : List Ground) → HasNames N t → AreNamed chain → HaveStepNames (chain_steps by learnt t chain)
    chain_named t [] h c = tt
    chain_named t (u ∷ chain) h c =
        every_append (StepHasNames N) (chain_steps by learnt u chain) (link_steps by learnt t u) (chain_named u chain c.0 c.1)
        (by_named t h (link by.destructions learnt t u))

  -- ---- what is learnt

  learnt_named : (log : Log) → LogHasNames N log → AreNamed (messages_learnt log)
  learnt_named [] h = tt
  learnt_named (step r facts sources ∷ past) h = learnt_named past h.1
  learnt_named (send m ∷ past) h = learnt_named past h.1
  learnt_named (learn m how ∷ past) h = every_append (HasNames N) (messages_learnt past) (m ∷ []) (learnt_named past h.1) (h.0.0, tt)

  taking_named : (t : Ground) → HasNames N t → (taken : Bool) → HaveStepNames (if taken then [] else take_out t ∷ [])
  taking_named t h true = tt
  taking_named t h false = (h, tt)

  out_named : (by : Linking) (past : Log) → LogHasNames N past → (p k : ℕ) (chain : List Ground) → AreNamed chain
      → HaveStepNames (from_out by past p k chain)
  out_named by past h p k [] c = tt
  out_named by past h p k (t ∷ chain) c =
      let first : List Step = if is_taken past p k then [] else take_out t ∷ [] in
      every_append (StepHasNames N) (chain_steps by (messages_learnt past) t chain) first
      (chain_named by (messages_learnt past) (learnt_named past h) t chain c.0 c.1) (taking_named t c.0 (is_taken past p k))

  making_named : (m : Ground) → HasNames N m → HaveStepNames (making m)
  making_named (var x) h = tt
  making_named (constant c) h = tt
  making_named (name n) h = tt
  making_named (app f ts) h = (h, tt)

  pub learning_named : (by : Linking) (past : Log) → LogHasNames N past → (m : Ground) (how : How) → HasNames N m → HowHasNames N how
      → HaveStepNames (learning by past m how)
  learning_named by past each m public_name h w = (h, tt)
  learning_named by past each m own_name h w = (h, (h, tt))
  learning_named by past each m constructed h w = making_named m h
  learning_named by past each m (by_chain p k chain) h w = out_named by past each p k chain w

  -- ---- what is made

  pub fresh_made_named : (ts : List Ground) → AreNamed ts → HaveStepNames (fresh_steps ts)
  fresh_made_named [] h = tt
  fresh_made_named (t ∷ ts) h = every_append (StepHasNames N) (fresh_steps ts) (make_fresh t ∷ []) (fresh_made_named ts h.1) (h.0, tt)
