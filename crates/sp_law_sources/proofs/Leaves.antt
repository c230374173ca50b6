-- Lists of open leaves that cover a system.
use Rattle.std.proofs.Common.{◌≤◌, ℕ, List, [], ◌∷◌, ◌++◌}
use Rattle.sp_spec.specs.Log.{Log, IsLog}
use Rattle.sp_spec.specs.Theory.{Theory}
use Rattle.sp_spec_system.specs.System.{System}
use Rattle.sp_spec_system.specs.Solutions.{Valuation, Solves}
use Rattle.sp_spec_system.specs.Covering.{Agrees, NoneSolved, Covers}
use Rattle.sp_spec.proofs.Lists.{every_append, every_parts, every_weaken}
use Rattle.sp_law_system.proofs.Solutions.{agrees_itself, agrees_then}
use Rattle.sp_law_sources.specs.Laws.{LeavesCover}

-- no solution of a system at this limit
abbrev pub IsUnsolved : Theory → Log → Valuation → ℕ → System → Type 0
IsUnsolved theory log v n t = (w : Valuation) → Agrees n v w → Solves theory log w t → ⊥

-- cases that cover it
pub unsolved_by : (theory : Theory) (log : Log) → IsLog theory log → (v : Valuation) (n : ℕ) (c : System) (cs : List System) → n ≤ c.next → Covers theory c cs
    → NoneSolved theory log v n cs → IsUnsolved theory log v n c
unsolved_by theory log is v n c cs le covers none w a h =
    covers.covers log is w h
    (every_weaken (IsUnsolved theory log v n) (IsUnsolved theory log w c.next) (λ t k x b own. k x (agrees_then n c.next v w x le a b) own) cs none)

begin : (theory : Theory) (s : System) → Covers theory s (s ∷ [])
begin theory s = record { covers = λ log is v h none. none.0 v (agrees_itself s.next v) h }

replace : (theory : Theory) (s c : System) (front cs back : List System) → s.next ≤ c.next → Covers theory c cs
    → Covers theory s (front ++ c ∷ back) → Covers theory s (front ++ (cs ++ back))
replace theory s c front cs back le own all = record {
  covers = λ log is v h none.
      let outer = every_parts (IsUnsolved theory log v s.next) front (cs ++ back) none in
      let inner = every_parts (IsUnsolved theory log v s.next) cs back outer.1 in
      all.covers log is v h (every_append (IsUnsolved theory log v s.next) front (c ∷ back) outer.0 (unsolved_by theory log is v s.next c cs le own inner.0, inner.1));
}

leave_out : (theory : Theory) (s c : System) (front back : List System) → ((log : Log) → IsLog theory log → (v : Valuation) → Solves theory log v c → ⊥) → Covers theory s (front ++ c ∷ back) → Covers theory s (front ++ back)
leave_out theory s c front back unsolved all = record {
  covers = λ log is v h none.
      let parts = every_parts (IsUnsolved theory log v s.next) front back none in
      all.covers log is v h (every_append (IsUnsolved theory log v s.next) front (c ∷ back) parts.0 ((λ w a k. unsolved log is w k), parts.1));
}

pub leaves_cover_lem : LeavesCover
leaves_cover_lem = record { begun = begin; replaced = replace; left_out = leave_out }
