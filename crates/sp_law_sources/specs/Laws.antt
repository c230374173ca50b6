-- What the source table owes. Source: Meier's thesis and Schmidt's thesis, chapter 3 (precomputed case distinctions); CSF 2012, "Constraint solving"
-- (soundness and completeness of its rules).
use Rattle.std.specs.Prelude.{ℕ, List, [], ◌∷◌, ◌++◌, Some, false, ◌+◌, ◌<◌, ◌≤◌, ◌≡◌, ◌↔◌}
use Rattle.sp_spec.specs.Lists.{Member, Every}
use Rattle.sp_spec.specs.Term.{Variable, Term}
use Rattle.sp_spec.specs.Signature.{Symbol, IsValuation}
use Rattle.sp_spec.specs.Equal.{IsNormal}
use Rattle.sp_spec.specs.Guarded.{Guarded}
use Rattle.sp_spec.specs.Theory.{Theory, signature_of}
use Rattle.sp_spec.specs.Log.{Log, IsLog}
use Rattle.sp_law_equal.specs.RightTheory.{HasNormalInstances}
use Rattle.sp_spec_system.specs.System.{Way, learning, Event, System, with_closed}
use Rattle.sp_spec_system.specs.Solutions.{Valuation, FormulaHolds, Solves}
use Rattle.sp_spec_system.specs.Numbered.{names_in, IsNumbered}
use Rattle.sp_spec_system.specs.Covering.{Agrees, NoneSolved, Covers}
use Rattle.sp_spec_system.specs.Head.{Head, start_of}
use Rattle.sp_spec_system.specs.Together.{raised_variable, renamed_from, together, joined_at}
use Rattle.sp_spec_system.specs.Move.{Context, TableEntry, Case, systems_in}
use Rattle.sp_spec_know.specs.Source.{head_of, joined_cases, source_cases}
use Rattle.sp_law_system.specs.Proofs.{IsWellMade, IsKept}
use Rattle.sp_spec_sources.specs.Entries.{StandsAlone, IsEntry, IsTable, IsOpenEnded, AreTaken}
use Rattle.sp_law_sources.specs.Raised.{extended}

-- At the raised numbers the second valuation has what the first has below the limit.
pub record IsRaised (n limit : ℕ) (v w : Valuation) : Type 0 where
  pub terms : (x : Variable) → x.number < limit → w.terms (raised_variable n x) ≡ v.terms x
  pub times : (i : ℕ) → i < limit → w.times (n + i) ≡ v.times i

-- each value is of its variable's sort, over the signature, and normal
pub record AreValues (theory : Theory) (v : Valuation) : Type 0 where
  pub sorts : IsValuation (signature_of theory) v.terms
  pub normal : (x : Variable) → IsNormal (signature_of theory).equations (v.terms x)

-- A numbered system is solved exactly where the renamed one is, by the values raised as its numbers are.
pub record RenamingKeepsSolutions : Type 0 where
  pub each : (names : List (List ℕ)) (theory : Theory) (log : Log) (n : ℕ) (s : System) → IsNumbered (names_in names) s → (v w : Valuation) → AreValues theory v → AreValues theory w
      → IsRaised n s.next v w → Solves theory log v s ↔ Solves theory log w (renamed_from n s)

-- And such values there are for any two valuations: they agree with the one below the number from which the other's are raised.
pub record ValuesAreRaised : Type 0 where
  pub agrees : (n : ℕ) (v w : Valuation) → Agrees n v (extended n v w)
  pub raised : (n limit : ℕ) (v w : Valuation) → IsRaised n limit w (extended n v w)
  pub values : (theory : Theory) (n : ℕ) (v w : Valuation) → AreValues theory v → AreValues theory w → AreValues theory (extended n v w)

-- Two systems together are solved where each is. Where they are solved, so is the first, but that more may happen than it says; and so is the second, if it
-- says nothing of the last time and isn't closed, as no system is that an entry begins from.
pub record TogetherIsBoth : Type 0 where
  pub both : (theory : Theory) (log : Log) (v : Valuation) (s t : System) → Solves theory log v s → Solves theory log v t → Solves theory log v (together s t)
  pub first : (theory : Theory) (log : Log) (v : Valuation) (s t : System) → Solves theory log v (together s t) → Solves theory log v (with_closed s false)
  pub second : (theory : Theory) (log : Log) (v : Valuation) (s t : System) → IsOpenEnded t → Solves theory log v (together s t) → Solves theory log v t
  pub start : (taken : List Guarded) (h : Head) → IsOpenEnded (start_of taken h)
  pub renamed : (n : ℕ) (c : System) → IsOpenEnded c → IsOpenEnded (renamed_from n c)

-- Where an event learns a message of which the entry is, in whatever way, the entry's cases joined to the system at the event's time lose no solution of the
-- system over a log over which the formulas that the entry takes are true. (They stand alone: if they are true under some values, they are under all.) So they
-- cover the system where these formulas are true in each of its solutions.
pub record EntriesCover : Type 0 where
  pub over : (names : List (List ℕ)) (theory : Theory) → HasNormalInstances theory → (taken : List Guarded) → Every (StandsAlone (names_in names)) taken
      → (e : TableEntry) → IsEntry theory (names_in names) taken e → (s : System) → IsNumbered (names_in names) s
      → (d : Event) → Member d s.events → (m : Term Variable) (way : Way) → d.happening ≡ learning m way → head_of m ≡ Some e.head
      → (log : Log) → IsLog theory log → (v : Valuation) → Solves theory log v s → (u : Valuation) → Every (FormulaHolds theory log u) taken
      → NoneSolved theory log v s.next (systems_in (joined_cases s d.time e.cases)) → ⊥
  pub covers : (names : List (List ℕ)) (theory : Theory) → HasNormalInstances theory → (taken : List Guarded) → Every (StandsAlone (names_in names)) taken
      → (e : TableEntry) → IsEntry theory (names_in names) taken e → (s : System) → IsNumbered (names_in names) s → AreTaken theory taken s
      → (d : Event) → Member d s.events → (m : Term Variable) (way : Way) → d.happening ≡ learning m way → head_of m ≡ Some e.head
      → Covers theory s (systems_in (joined_cases s d.time e.cases))

-- What a case gives that is joined to a system fulfils what the two fulfil, and takes no numbers back.
pub record JoinedIsWellMade : Type 0 where
  pub each : (context : Context) (s c t : System) (i : ℕ) → IsWellMade context s → IsWellMade context c → i < s.next → 0 < c.next → joined_at s c i ≡ Some t
      → IsKept context s t

-- The move that uses a table with right entries keeps what systems fulfil, and loses no solution.
pub record UsesCover : Type 0 where
  pub kept : (context : Context) (theory : Theory) (taken : List Guarded) (table : List TableEntry) → IsTable theory (names_in context.public_names) taken table
      → (symbols : List Symbol) (s : System) (i : ℕ) (cs : List Case) → source_cases table symbols s i ≡ Some cs → IsWellMade context s → Every (IsKept context s) (systems_in cs)
  pub over : (context : Context) (theory : Theory) → HasNormalInstances theory → (taken : List Guarded) → Every (StandsAlone (names_in context.public_names)) taken
      → (table : List TableEntry) → IsTable theory (names_in context.public_names) taken table
      → (symbols : List Symbol) (s : System) (i : ℕ) (cs : List Case) → source_cases table symbols s i ≡ Some cs → IsWellMade context s
      → (log : Log) → IsLog theory log → (v : Valuation) → Solves theory log v s → (u : Valuation) → Every (FormulaHolds theory log u) taken
      → NoneSolved theory log v s.next (systems_in cs) → ⊥
  pub covers : (context : Context) (theory : Theory) → HasNormalInstances theory → (taken : List Guarded) → Every (StandsAlone (names_in context.public_names)) taken
      → (table : List TableEntry) → IsTable theory (names_in context.public_names) taken table
      → (symbols : List Symbol) (s : System) (i : ℕ) (cs : List Case) → source_cases table symbols s i ≡ Some cs → IsWellMade context s → AreTaken theory taken s
      → Covers theory s (systems_in cs)

-- A list of open leaves that covers a system goes on to do so where one of them is replaced by cases that cover it, and where one without solutions is
-- left out. It may begin with the system itself.
pub record LeavesCover : Type 0 where
  pub begun : (theory : Theory) (s : System) → Covers theory s (s ∷ [])
  pub replaced : (theory : Theory) (s c : System) (front cs back : List System) → s.next ≤ c.next → Covers theory c cs
      → Covers theory s (front ++ c ∷ back) → Covers theory s (front ++ (cs ++ back))
  pub left_out : (theory : Theory) (s c : System) (front back : List System) → ((log : Log) → IsLog theory log → (v : Valuation) → Solves theory log v c → ⊥)
      → Covers theory s (front ++ c ∷ back) → Covers theory s (front ++ back)
