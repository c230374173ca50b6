-- When an entry of the source table is right: its cases lose no solution of the system that it begins from, and are numbered. Source: Schmidt's thesis,
-- chapter 3 (precomputed case distinctions); Tamarin manual, "Precomputation".
use Rattle.std.specs.Prelude.{◌≡◌, ℕ, ◌≤◌, false, List, None}
use Rattle.sp_spec.specs.Lists.{Every}
use Rattle.sp_spec.specs.Term.{Names, Variable}
use Rattle.sp_spec.specs.Guarded.{Guarded}
use Rattle.sp_spec.specs.Theory.{Theory}
use Rattle.sp_spec.specs.Log.{Log, IsLog}
use Rattle.sp_spec_system.specs.System.{System}
use Rattle.sp_spec_system.specs.Solutions.{Valuation, FormulaHolds, Solves}
use Rattle.sp_spec_system.specs.Numbered.{InFormula, HappenOnce, IsNumbered}
use Rattle.sp_spec_system.specs.Covering.{Covers}
use Rattle.sp_spec_system.specs.Head.{head_next, start_of}
use Rattle.sp_spec_system.specs.Move.{Case, systems_in, TableEntry}

-- no variable and no time of a system stands in the formula, and such names alone
abbrev pub StandsAlone : Names → Guarded → Type 0
StandsAlone N f = InFormula N (λ (x : Variable). ⊥) (λ (i : ℕ). ⊥) f

-- a case that begins from that next number
pub record IsCaseFrom (N : Names) (n : ℕ) (c : Case) : Type 0 where
  pub numbered : IsNumbered N c.system
  pub once : HappenOnce c.system.events
  pub next : n ≤ c.system.next

-- The entry begins where it is to, with these formulas taken, and is right there.
pub record IsEntry (theory : Theory) (N : Names) (taken : List Guarded) (e : TableEntry) : Type 0 where
  pub start : e.start ≡ start_of taken e.head
  pub cases : Every (IsCaseFrom N (head_next e.head)) e.cases
  pub covers : Covers theory e.start (systems_in e.cases)

abbrev pub IsTable : Theory → Names → List Guarded → List TableEntry → Type 0
IsTable theory N taken table = Every (IsEntry theory N taken) table

-- Nothing is said of the last time, and more may happen. (So is the system that an entry begins from. A case that is so loses nothing where it is joined to a
-- system, which goes on to say of the last time what it said, and is as closed as it was.)
pub record IsOpenEnded (s : System) : Type 0 where
  pub last : s.last ≡ None
  pub closed : s.closed ≡ false

-- The formulas that are taken are true in each solution of the system. (They are lemmas that hold over each log that the system asks for.)
pub record AreTaken (theory : Theory) (taken : List Guarded) (s : System) : Type 0 where
  pub hold : (log : Log) → IsLog theory log → (v : Valuation) → Solves theory log v s → Every (FormulaHolds theory log v) taken
