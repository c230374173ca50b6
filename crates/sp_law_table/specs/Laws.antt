-- What is owed where a source table is made. Source: Meier's thesis and Schmidt's thesis, chapter 3 (precomputed case distinctions); CSF 2012, "Constraint
-- solving" (soundness and completeness of its rules).
use Rattle.std.specs.Prelude.{◌≡◌, ℕ, List, Some, true, false}
use Rattle.sp_spec.specs.Lists.{Member, Every}
use Rattle.sp_spec.specs.Guarded.{Guarded}
use Rattle.sp_spec.specs.Signature.{Symbol}
use Rattle.sp_spec.specs.Destruction.{is_public}
use Rattle.sp_spec.specs.Log.{Log, IsLog}
use Rattle.sp_spec.specs.Theory.{Theory}
use Rattle.sp_spec_system.specs.System.{System, formulas_alone}
use Rattle.sp_spec_system.specs.Solutions.{Valuation, FormulaHolds, Solves}
use Rattle.sp_spec_system.specs.Numbered.{names_in, IsNumbered}
use Rattle.sp_spec_system.specs.Covering.{NoneSolved, Covers}
use Rattle.sp_spec_system.specs.Head.{Head, start_of}
use Rattle.sp_spec_system.specs.Rules.{rules_of}
use Rattle.sp_spec_system.specs.Move.{TableEntry, Context, Case, systems_in, formulas_from}
use Rattle.sp_spec_know.specs.Source.{entry_of}
use Rattle.sp_law_system.specs.Rules.{SuitsProofs, RulesAreNumbered}
use Rattle.sp_law_system.specs.Proofs.{IsWellMade, IsKept}
use Rattle.sp_law_cover.specs.Contexts.{TableCovers, IsContextOf}
use Rattle.sp_spec_sources.specs.Heads.{heads}
use Rattle.sp_spec_sources.specs.Entries.{StandsAlone, IsEntry, IsTable, AreTaken}
use Rattle.sp_spec_table.specs.Made.{entry_cases, from_nothing, table_of, with_table, simple_source_cases}

-- The context has the theory's rules, and the public names that stand in them.
pub record HasRulesOf (theory : Theory) (context : Context) : Type 0 where
  pub rules : context.rules ≡ rules_of theory
  pub numbered : RulesAreNumbered (names_in context.public_names) theory.rules

-- The system that an entry begins from is well made. Each entry that is made is right, and so is the table, whatever the context's proof begins from.
pub record TablesAreRight : Type 0 where
  pub starts : (context : Context) (taken : List Guarded) → Every (StandsAlone (names_in context.public_names)) taken → (h : Head) → IsWellMade context (start_of taken h)
  pub entries : (theory : Theory) → SuitsProofs theory → (context : Context) → IsContextOf theory context
      → (taken : List Guarded) → Every (StandsAlone (names_in context.public_names)) taken → (h : Head) (cs : List Case) → entry_cases context taken h ≡ Some cs
      → IsEntry theory (names_in context.public_names) taken (record { head = h; start = start_of taken h; cases = cs })
  pub table : (theory : Theory) → SuitsProofs theory → (context : Context) → HasRulesOf theory context
      → (taken : List Guarded) → Every (StandsAlone (names_in context.public_names)) taken → IsTable theory (names_in context.public_names) taken (table_of context taken)

-- So a context may have the table that is made for it, where formulas are taken that its proof begins from; and the table that a context has is right.
pub record TablesSuit : Type 0 where
  pub made : (theory : Theory) → SuitsProofs theory → (context : Context) → HasRulesOf theory context
      → (taken : List Guarded) → Every (λ (f : Guarded). Member f (formulas_from context.root)) taken → Every (StandsAlone (names_in context.public_names)) taken
      → TableCovers theory (with_table context (table_of context taken))
  pub right : (theory : Theory) (context : Context) (t : TableCovers theory context) → IsTable theory (names_in context.public_names) t.taken context.table

-- The move that uses a table with right entries, with its cases simplified, keeps what systems fulfil, and loses no solution over a log over which the
-- formulas that are taken are true; so it covers a system in each of whose solutions they are.
pub record SourcesCover : Type 0 where
  pub kept : (theory : Theory) → SuitsProofs theory → (context : Context) → IsContextOf theory context
      → (taken : List Guarded) (table : List TableEntry) → IsTable theory (names_in context.public_names) taken table
      → (s : System) (i : ℕ) (cs : List Case) → simple_source_cases context.rules table s i ≡ Some cs → IsWellMade context s → Every (IsKept context s) (systems_in cs)
  pub over : (theory : Theory) → SuitsProofs theory → (context : Context) → IsContextOf theory context
      → (taken : List Guarded) → Every (StandsAlone (names_in context.public_names)) taken → (table : List TableEntry) → IsTable theory (names_in context.public_names) taken table
      → (s : System) (i : ℕ) (cs : List Case) → simple_source_cases context.rules table s i ≡ Some cs → IsWellMade context s
      → (log : Log) → IsLog theory log → (v : Valuation) → Solves theory log v s → (u : Valuation) → Every (FormulaHolds theory log u) taken
      → NoneSolved theory log v s.next (systems_in cs) → ⊥
  pub covers : (theory : Theory) → SuitsProofs theory → (context : Context) → IsContextOf theory context
      → (taken : List Guarded) → Every (StandsAlone (names_in context.public_names)) taken → (table : List TableEntry) → IsTable theory (names_in context.public_names) taken table
      → (s : System) (i : ℕ) (cs : List Case) → simple_source_cases context.rules table s i ≡ Some cs → IsWellMade context s → AreTaken theory taken s
      → Covers theory s (systems_in cs)

-- no symbol without arguments is both private and public
abbrev pub AreUnambiguous : List Symbol → Type 0
AreUnambiguous symbols = (f : List ℕ) → Member (record { name = f; arity = 0; private = true }) symbols → is_public symbols f 0 ≡ false

-- The table that is made has an entry of each message of the signature that is to have one, namely its own.
pub record EntriesAreMade : Type 0 where
  pub each : (context : Context) → AreUnambiguous context.rules.signature.symbols → (taken : List Guarded) (h : Head) → Member h (heads context.rules.signature.symbols)
      → (cs : List Case) × (entry_cases (from_nothing context) taken h ≡ Some cs)
      × (entry_of (table_of context taken) h ≡ Some (record { head = h; start = start_of taken h; cases = cs }))

-- The formulas with which a proof may begin stand alone, and they are true where the system is solved in which it begins: so such formulas may be taken.
pub record RootsMayBeTaken : Type 0 where
  pub alone : (names : List (List ℕ)) (fs : List Guarded) → IsNumbered (names_in names) (formulas_alone fs) → Every (StandsAlone (names_in names)) fs
  pub hold : (theory : Theory) (log : Log) (u : Valuation) (fs : List Guarded) → Solves theory log u (formulas_alone fs) → Every (FormulaHolds theory log u) fs
