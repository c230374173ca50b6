-- Learnt before its chain's step: a message of a chain was learnt before what the chain begins with was put out. Source: CSF 2012, "Normal message
-- deduction" (messages are taken out of what is put out only where they aren't known before).
use Rattle.std.specs.Prelude.{ℕ, Bool, false, ◌&&◌, ◌||◌, List, [], ◌∷◌}
use Rattle.sp_spec.specs.Term.{Variable, Term}
use Rattle.sp_spec_system.specs.System.{Way, chain_begun, chain_done, Happening, rule_step, sending, learning, Event, System}
use Rattle.sp_spec_system.specs.Order.{is_before}
use Rattle.sp_spec_know.specs.Learning.{is_learning_of}

-- the message is learnt before that time
abbrev pub is_learnt_before : List (ℕ × ℕ) → ℕ → Term Variable → List Event → Bool
is_learnt_before order i t [] = false
is_learnt_before order i t (e ∷ es) = is_learning_of t e.happening && is_before order e.time i || is_learnt_before order i t es

abbrev pub is_one_learnt_before : System → ℕ → List (Term Variable) → Bool
is_one_learnt_before s i [] = false
is_one_learnt_before s i (t ∷ ts) = is_learnt_before s.order i t s.events || is_one_learnt_before s i ts

abbrev pub is_early_way : System → Way → Bool
is_early_way s (chain_begun i k ts) = is_one_learnt_before s i ts
is_early_way s (chain_done i k ts) = is_one_learnt_before s i ts
is_early_way s way = false

abbrev pub is_early : System → Happening → Bool
is_early s (learning m way) = is_early_way s way
is_early s (sending m) = false
is_early s (rule_step r facts) = false

abbrev pub have_early : System → List Event → Bool
have_early s [] = false
have_early s (e ∷ es) = is_early s e.happening || have_early s es

abbrev pub has_early : System → Bool
has_early s = have_early s s.events
