-- The log of an execution: as its steps are done one after the other, each fact of the state keeps the source that the log has for it, and the adversary
-- learns in normal form what it gets. Source: CSF 2012, "Normal message deduction" (each trace has a dependency graph with normal deductions).
use Rattle.std.specs.Prelude.{ℕ, zero, suc, if◌then◌else◌, List, [], ◌∷◌, ◌++◌, length, map, Option, Some, None, option_map, option_and_then, Result, Ok, Err}
use Rattle.sp_spec.specs.Signature.{Signature}
use Rattle.sp_spec.specs.Rule.{Fact, Facts, Rule}
use Rattle.sp_spec.specs.Theory.{Theory, signature_of}
use Rattle.sp_spec.specs.Execution.{Step, make_fresh, use_rule, take_out, put_in, know_public, make_own, apply_symbol, Cause}
use Rattle.sp_spec.specs.Log.{Source, fresh_rule, conclusion, Log}
use Rattle.sp_law_equal.specs.Normal.{normal_facts}
use Rattle.sp_law_run.specs.Taken.{same_fact}
use Rattle.sp_law_adversary.specs.Learning.{logged}
use Rattle.sp_exec.specs.Next.{Instance, instance_of}

-- a fact of the state in normal form, with its source; what is made or known has none in the log
pub record Given : Type 0 where
  pub fact : Fact ⊥
  pub source : Source

-- the facts of the state, and the log so far
pub record Followed : Type 0 where
  pub facts : List Given
  pub log : Log

abbrev pub at_start : Followed
at_start = record { facts = []; log = [] }

-- what is taken, and what is left: a persistent fact stays
pub record Taking : Type 0 where
  pub sources : List Source
  pub left : List Given

-- the fact from the first place where it stands
abbrev pub take_one : Fact ⊥ → List Given → Option Taking
take_one f [] = None
take_one f (g ∷ gs) =
    if same_fact f g.fact then Some (record { sources = g.source ∷ []; left = if f.persistent then g ∷ gs else gs })
    else option_map (λ (t : Taking). record { sources = t.sources; left = g ∷ t.left }) (take_one f gs)

-- the facts, one after the other
abbrev pub take_all : List (Fact ⊥) → List Given → Option Taking
take_all [] state = Some (record { sources = []; left = state })
take_all (f ∷ fs) state =
    option_and_then
    (λ (one : Taking). option_map (λ (others : Taking). record { sources = one.sources ++ others.sources; left = others.left }) (take_all fs one.left))
    (take_one f state)

-- the conclusions of the entry at that position, from that place on
abbrev pub concluded : ℕ → ℕ → List (Fact ⊥) → List Given
concluded p k [] = []
concluded p k (f ∷ fs) = record { fact = f; source = conclusion p k } ∷ concluded p (suc k) fs

abbrev pub without_source : List (Fact ⊥) → List Given
without_source facts = map (λ (f : Fact ⊥). record { fact = f; source = fresh_rule }) facts

-- what a step adds to the state: what a rule or a sending concludes has its entry as its source
abbrev pub added : Step → ℕ → List (Fact ⊥) → List Given
added (use_rule r given) p facts = concluded p zero facts
added (put_in t) p facts = concluded p zero facts
added (make_fresh t) p facts = without_source facts
added (take_out t) p facts = without_source facts
added (know_public t) p facts = without_source facts
added (make_own t) p facts = without_source facts
added (apply_symbol f ts) p facts = without_source facts

abbrev pub with_facts : Signature → Step → Facts ⊥ → Followed → Option Followed
with_facts signature s facts before =
    option_map
    (λ (t : Taking). record { facts = t.left ++ added s (length before.log) facts.conclusions; log = logged signature s facts t.sources before.log })
    (take_all facts.premises before.facts)

abbrev pub with_instance : Signature → Step → Followed → Result Instance Cause → Option Followed
with_instance signature s before (Err cause) = None
with_instance signature s before (Ok i) = with_facts signature s (normal_facts signature.equations i.facts) before

-- behind one more step, if there is such an instance and its premises are there: of an execution this is so of each step
abbrev pub followed_by : Signature → List Rule → Step → Followed → Option Followed
followed_by signature rules s before = with_instance signature s before (instance_of signature rules s)

-- behind the steps, the newest of which comes first
abbrev pub followed : Signature → List Rule → List Step → Option Followed
followed signature rules [] = Some at_start
followed signature rules (s ∷ past) = option_and_then (followed_by signature rules s) (followed signature rules past)

-- The log of an execution. (Of steps that are none the sorts of terms and the newness of names are not asked, so that nothing is said of their log.)
abbrev pub log_of : Theory → List Step → Option Log
log_of theory steps = option_map (λ (f : Followed). f.log) (followed (signature_of theory) theory.rules steps)
