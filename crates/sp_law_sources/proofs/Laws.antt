-- The laws of the source table, put together.
use Rattle.std.proofs.Common.{◌≡◌, ℕ, List, Some, sym, subst}
use Rattle.sp_spec.specs.Lists.{Every}
use Rattle.sp_spec.specs.Guarded.{Guarded}
use Rattle.sp_spec.specs.Signature.{Symbol}
use Rattle.sp_spec.specs.Log.{Log, IsLog}
use Rattle.sp_spec.specs.Theory.{Theory}
use Rattle.sp_spec_system.specs.Solutions.{Valuation, FormulaHolds, Solves}
use Rattle.sp_law_equal.specs.RightTheory.{HasNormalInstances}
use Rattle.sp_spec_system.specs.System.{System}
use Rattle.sp_spec_system.specs.Numbered.{names_in}
use Rattle.sp_spec_system.specs.Covering.{NoneSolved}
use Rattle.sp_spec_system.specs.Head.{head_next}
use Rattle.sp_spec_system.specs.Move.{Context, TableEntry, Case, systems_in}
use Rattle.sp_spec_know.specs.Source.{joined_cases, source_cases}
use Rattle.sp_law_system.specs.Proofs.{IsWellMade, IsKept}
use Rattle.sp_law_system.proofs.Unifier.{unifier_is_right}
use Rattle.sp_law_formula.proofs.Merged.{IfThere}
use Rattle.sp_law_know.proofs.KnowWanted.{asked_under}
use Rattle.sp_spec.proofs.Lists.{every_weaken}
use Rattle.sp_spec_sources.specs.Entries.{StandsAlone, IsEntry, IsTable}
use Rattle.sp_law_sources.specs.Laws.{RenamingKeepsSolutions, ValuesAreRaised, EntriesCover, JoinedIsWellMade, UsesCover}
use Rattle.sp_law_sources.proofs.Renaming.{renamed_solves, solves_renamed}
use Rattle.sp_law_sources.proofs.Extended.{extended_agrees, extended_raised, extended_values}
use Rattle.sp_law_sources.proofs.Joined.{LaterOnce, joined_right}
use Rattle.sp_law_sources.proofs.Uses.{head_some, entry_covers, cases_later, used}

pub renaming_keeps_solutions_lem : RenamingKeepsSolutions
renaming_keeps_solutions_lem = record {
  each = λ names theory log n s k v w a b r. (renamed_solves (names_in names) theory log n s k v w r b, solves_renamed (names_in names) theory log n s k v w r a);
}

pub values_are_raised_lem : ValuesAreRaised
values_are_raised_lem = record {
  agrees = extended_agrees;
  raised = λ n limit v w. extended_raised n v w limit;
  values = λ theory n v w a b. extended_values n v w theory a b;
}

pub entries_cover_lem : EntriesCover
entries_cover_lem = record {
  over = λ names theory good taken alone e entry s n. entry_covers (names_in names) unifier_is_right theory good taken alone e entry s n;
  covers = λ names theory good taken alone e entry s n are d stands m way learns of. record {
    covers = λ log is v h none.
        entry_covers (names_in names) unifier_is_right theory good taken alone e entry s n d stands m way learns of log is v h v (are.hold log is v h) none;
  };
}

later_kept : (context : Context) (s t : System) → LaterOnce (names_in context.public_names) s.next t → IsKept context s t
later_kept context s t h = record { well_made = record { numbered = h.0.0; once = h.1 }; next = h.0.1 }

pub joined_is_well_made_lem : JoinedIsWellMade
joined_is_well_made_lem = record {
  each = λ context s c t i a b under some e.
      later_kept context s t
      (subst (IfThere (LaterOnce (names_in context.public_names) s.next)) e
      (joined_right (names_in context.public_names) unifier_is_right s a.numbered i under a.once c b.numbered b.once some));
}

use_kept : (context : Context) (theory : Theory) (taken : List Guarded) (table : List TableEntry) → IsTable theory (names_in context.public_names) taken table
    → (symbols : List Symbol) (s : System) (i : ℕ) (cs : List Case) → source_cases table symbols s i ≡ Some cs → IsWellMade context s → Every (IsKept context s) (systems_in cs)
use_kept context theory taken table right symbols s i cs e made =
    let N = names_in context.public_names in
    let r = used symbols table (IsEntry theory N taken) right s i cs e in
    let under = (asked_under symbols s i r.message r.asked made.numbered).0 in
    subst (λ (x : List Case). Every (IsKept context s) (systems_in x)) (sym r.cases)
    (every_weaken (LaterOnce N s.next) (IsKept context s) (later_kept context s) (systems_in (joined_cases s i r.entry.cases))
    (cases_later N unifier_is_right s made.numbered i under made.once (head_next r.entry.head) (head_some r.entry.head) r.entry.cases r.right.cases))

use_covers : (context : Context) (theory : Theory) → HasNormalInstances theory → (taken : List Guarded) → Every (StandsAlone (names_in context.public_names)) taken
    → (table : List TableEntry) → IsTable theory (names_in context.public_names) taken table
    → (symbols : List Symbol) (s : System) (i : ℕ) (cs : List Case) → source_cases table symbols s i ≡ Some cs → IsWellMade context s
    → (log : Log) → IsLog theory log → (v : Valuation) → Solves theory log v s → (u : Valuation) → Every (FormulaHolds theory log u) taken
    → NoneSolved theory log v s.next (systems_in cs) → ⊥
use_covers context theory good taken alone table right symbols s i cs e made log is v h u are none =
    let N = names_in context.public_names in
    let r = used symbols table (IsEntry theory N taken) right s i cs e in
    let here = subst (λ (x : List Case). NoneSolved theory log v s.next (systems_in x)) r.cases none in
    let there = subst (λ (j : ℕ). NoneSolved theory log v s.next (systems_in (joined_cases s j r.entry.cases))) (sym r.asked.at_time) here in
    entry_covers N unifier_is_right theory good taken alone r.entry r.right s made.numbered r.asked.event r.asked.stands r.message _ r.asked.learns r.head log is v h u are there

pub uses_cover_lem : UsesCover
uses_cover_lem = record {
  kept = use_kept;
  over = use_covers;
  covers = λ context theory good taken alone table right symbols s i cs e made are. record {
    covers = λ log is v h none. use_covers context theory good taken alone table right symbols s i cs e made log is v h v (are.hold log is v h) none;
  };
}
