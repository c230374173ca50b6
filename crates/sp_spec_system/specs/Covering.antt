-- Cases that cover a system: no solution is lost. Source: CSF 2012, "Constraint solving" (soundness and completeness of its rules).
use Rattle.std.specs.Prelude.{◌≡◌, ◌<◌, ℕ, List}
use Rattle.sp_spec.specs.Term.{Variable}
use Rattle.sp_spec_system.specs.Solutions.{Valuation, Solves}
use Rattle.sp_spec.specs.Lists.{Every}
use Rattle.sp_spec.specs.Theory.{Theory}
use Rattle.sp_spec.specs.Log.{Log, IsLog}
use Rattle.sp_spec_system.specs.System.{System}

-- the valuations agree on the numbers below the limit
pub record Agrees (limit : ℕ) (v w : Valuation) : Type 0 where
  pub terms : (x : Variable) → x.number < limit → w.terms x ≡ v.terms x
  pub times : (i : ℕ) → i < limit → w.times i ≡ v.times i

-- None of the systems is solved by the log with values that agree with these below the limit. (The last step of covering is
-- classical: not all of them are unsolved.)
abbrev pub NoneSolved : Theory → Log → Valuation → ℕ → List System → Type 0
NoneSolved theory log v limit cases = Every (λ (c : System). (w : Valuation) → Agrees limit v w → Solves theory log w c → ⊥) cases

-- Each solution of the system gives a solution of one of the cases, with the same log and values that agree on the variables kept.
pub record Covers (theory : Theory) (s : System) (cases : List System) : Type 0 where
  pub covers : (log : Log) → IsLog theory log → (v : Valuation) → Solves theory log v s → NoneSolved theory log v s.next cases → ⊥
