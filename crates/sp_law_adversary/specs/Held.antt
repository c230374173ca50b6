-- Chains that a log holds, and logs that go on by learning alone.
use Rattle.std.specs.Prelude.{◌≡◌, ◌<◌, ℕ, List, ◌++◌}
use Rattle.sp_spec.specs.Lists.{Every, AtPlace, AtPosition}
use Rattle.sp_spec.specs.Term.{Ground}
use Rattle.sp_spec.specs.Signature.{Signature}
use Rattle.sp_spec.specs.Rule.{Facts, out_of}
use Rattle.sp_spec.specs.Theory.{Theory}
use Rattle.sp_spec.specs.Log.{Source, How, own_name, Entry, step, learn, Log, LearntAt, StartsChain, IsLog}

-- the message was learnt at no position before that one
abbrev pub NotBefore : Log → ℕ → Ground → Type 0
NotBefore log p t = (q : ℕ) → q < p → LearntAt log q t → ⊥

-- A chain from an Out conclusion of a step to a message, where no message of it was learnt before that step. All that a message
-- needs to be learnt by this chain, but for its not being of a kind that is learnt otherwise.
pub record HeldChain (signature : Signature) (log : Log) (p k : ℕ) (chain : List Ground) (m : Ground) : Type 0 where
  pub called : List ℕ
  pub facts : Facts ⊥
  pub sources : List Source
  pub there : AtPosition log p (step called facts sources)
  pub first : Ground
  pub out : AtPlace facts.conclusions k (out_of first)
  pub chained : StartsChain signature log chain first m
  pub not_before : Every (NotBefore log p) chain

-- no fresh name is used for it
abbrev pub UsesNone : How → Type 0
UsesNone own_name = ⊥
UsesNone how = Unit {0}

-- an entry of learning that uses none
abbrev pub IsLearn : Entry → Type 0
IsLearn (learn m how) = UsesNone how
IsLearn e = ⊥

-- the second is a log, and is the first with entries of learning after it, none of which uses a fresh name
pub record Grows (theory : Theory) (log later : Log) : Type 0 where
  pub new : List Entry
  pub is : later ≡ new ++ log
  pub learns : Every IsLearn new
  pub is_log : IsLog theory later
