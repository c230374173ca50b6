-- The entries that are made are right, and the move that uses them loses no solution.
use Rattle.std.proofs.Common.{◌≡◌, ◌≤◌, ℕ, List, [], ◌∷◌, map, Option, Some, None, refl, sym, subst, le_refl, le_trans}
use Rattle.sp_spec.specs.Lists.{Every}
use Rattle.sp_spec.specs.Term.{Names}
use Rattle.sp_spec.specs.Guarded.{Guarded}
use Rattle.sp_spec.specs.Log.{Log, IsLog}
use Rattle.sp_spec.specs.Theory.{Theory}
use Rattle.sp_spec.proofs.Lists.{every_append, every_map, every_weaken}
use Rattle.sp_spec.proofs.Options.{mapped}
use Rattle.sp_spec_system.specs.System.{System}
use Rattle.sp_spec_system.specs.Solutions.{Valuation, FormulaHolds, Solves}
use Rattle.sp_spec_system.specs.Numbered.{names_in}
use Rattle.sp_spec_system.specs.Covering.{NoneSolved}
use Rattle.sp_spec_system.specs.Head.{Head, head_next, start_of}
use Rattle.sp_spec_system.specs.Move.{unproved, solved, know, induction, finish, TableEntry, Context, Case, systems_in}
use Rattle.sp_spec_know.specs.Source.{source_cases}
use Rattle.sp_spec_proof.specs.Rows.{simplified}
use Rattle.sp_spec_proof.specs.Cases.{simple_case, cases}
use Rattle.sp_law_system.specs.Rules.{SuitsProofs}
use Rattle.sp_law_system.specs.Proofs.{IsWellMade, IsKept}
use Rattle.sp_law_cover.specs.Contexts.{TableCovers, IsContextOf}
use Rattle.sp_law_cover.specs.Contexts as contexts
use Rattle.sp_law_cover.proofs.Covering.{nothing_is_lost_lem, moves_are_covered}
use Rattle.sp_law_cover.proofs.Simplifying.{simplified_follows}
use Rattle.sp_spec_sources.specs.Heads.{heads}
use Rattle.sp_spec_sources.specs.Entries.{StandsAlone, IsCaseFrom, IsEntry, IsTable}
use Rattle.sp_law_sources.proofs.Leaves.{unsolved_by}
use Rattle.sp_law_sources.proofs.Laws.{uses_cover_lem}
use Rattle.sp_spec_table.specs.Made.{leaves_by, open_cases, entry_cases, entry_if, table_from, from_nothing, table_of, with_table, simple_source_cases}
use Rattle.sp_law_table.specs.Laws.{HasRulesOf, TablesAreRight, TablesSuit, SourcesCover}
use Rattle.sp_law_table.proofs.Starts.{start_made}
use Rattle.sp_law_table.proofs.Grown.{Follow, kept_cases, all_follow, open_follow}

module _ (theory : Theory) (suits : SuitsProofs theory) (context : Context) (is_of : IsContextOf theory context) where
  abbrev N : Names
  N = names_in context.public_names

  module _ (taken : List Guarded) (alone : Every (StandsAlone N) taken) where
    entry_right : (l : Head) (cs : List Case) → entry_cases context taken l ≡ Some cs → IsEntry theory N taken (record { head = l; start = start_of taken l; cases = cs })
    entry_right l cs e =
        let moves = moves_are_covered theory suits in
        let start = start_of taken l in
        let made : IsWellMade context start = start_made context taken alone l in
        let r = mapped (λ ds. open_cases context.rules (leaves_by context 64 ds)) (cases context start (know 0)) cs e in
        let not_open : know 0 ≡ unproved → ⊥ = λ g. cc in
        let not_end : know 0 ≡ solved → ⊥ = λ g. cc in
        let not_induction : know 0 ≡ induction → ⊥ = λ g. cc in
        let not_finish : know 0 ≡ finish → ⊥ = λ g. cc in
        let first = kept_cases theory moves context is_of (head_next l) start (le_refl (head_next l)) r.0 (moves.kept context is_of start (know 0) r.0 r.1 made) in
        let covers = moves.covers context is_of start (know 0) r.0 r.1 not_open not_end not_induction not_finish made in
        let grown = all_follow theory moves context is_of (head_next l) 64 r.0 first in
        let left = open_follow theory moves context is_of (head_next l) (nothing_is_lost_lem.contradictions theory suits) (leaves_by context 64 r.0) grown.cases in
        subst (λ (x : List Case). IsEntry theory N taken (record { head = l; start = start_of taken l; cases = x })) (sym r.2) (record {
          start = refl;
          cases = left.cases;
          covers = record { covers = λ log is v h none. covers.covers log is v h (grown.none log is v (left.none log is v none)) };
        })

    one_right : (l : Head) (o : Option (List Case)) → entry_cases context taken l ≡ o → IsTable theory N taken (entry_if taken l o)
    one_right l None e = tt
    one_right l (Some cs) e = (entry_right l cs e, tt)

    all_right : (ls : List Head) → IsTable theory N taken (table_from context taken ls)
    all_right [] = tt
    all_right (l ∷ ls) = every_append (IsEntry theory N taken) (entry_if taken l (entry_cases context taken l)) (table_from context taken ls) (one_right l (entry_cases context taken l) refl) (all_right ls)

  -- each case simplified
  simple_follow : (n : ℕ) (cs : List Case) → Every (IsCaseFrom N n) cs → Follow theory (moves_are_covered theory suits) context is_of n cs (map (simple_case context.rules) cs)
  simple_follow n [] k = record { cases = tt; none = λ log is v none. tt }
  simple_follow n (c ∷ cs) k =
      let f = simplified_follows theory (nothing_is_lost_lem.rows theory suits) context is_of 10000 c.system (record { numbered = k.0.numbered; once = k.0.once }) in
      let rest = simple_follow n cs k.1 in
      record {
        cases = (record { numbered = f.0.well_made.numbered; once = f.0.well_made.once; next = le_trans k.0.next f.0.next }, rest.cases);
        none = λ log is v none.
            (unsolved_by theory log is v n c.system (simplified context.rules c.system ∷ []) k.0.next f.1 (none.0, tt), rest.none log is v none.1);
      }

  case_kept : (s : System) (cs : List Case) → Every (IsCaseFrom N s.next) cs → Every (IsKept context s) (systems_in cs)
  case_kept s cs k = every_map (IsCaseFrom N s.next) (IsKept context s) (λ (c : Case). c.system) (λ c h. record { well_made = record { numbered = h.numbered; once = h.once }; next = h.next }) cs k

  module _ (taken : List Guarded) (table : List TableEntry) (right : IsTable theory N taken table) (s : System) (i : ℕ) (cs : List Case) (e : simple_source_cases context.rules table s i ≡ Some cs) (made : IsWellMade context s) where
    simple_kept : Every (IsKept context s) (systems_in cs)
    simple_kept =
        let r = mapped (map (simple_case context.rules)) (source_cases table context.rules.signature.symbols s i) cs e in
        let raw = kept_cases theory (moves_are_covered theory suits) context is_of s.next s (le_refl s.next) r.0 (uses_cover_lem.kept context theory taken table right context.rules.signature.symbols s i r.0 r.1 made) in
        subst (λ (x : List Case). Every (IsKept context s) (systems_in x)) (sym r.2) (case_kept s (map (simple_case context.rules) r.0) (simple_follow s.next r.0 raw).cases)

    simple_covers : Every (StandsAlone N) taken → (log : Log) → IsLog theory log → (v : Valuation) → Solves theory log v s → (u : Valuation) → Every (FormulaHolds theory log u) taken
        → NoneSolved theory log v s.next (systems_in cs) → ⊥
    simple_covers alone log is v h u are none =
        let r = mapped (map (simple_case context.rules)) (source_cases table context.rules.signature.symbols s i) cs e in
        let raw = kept_cases theory (moves_are_covered theory suits) context is_of s.next s (le_refl s.next) r.0 (uses_cover_lem.kept context theory taken table right context.rules.signature.symbols s i r.0 r.1 made) in
        let here = subst (λ (x : List Case). NoneSolved theory log v s.next (systems_in x)) r.2 none in
        uses_cover_lem.over context theory suits.instances taken alone table right context.rules.signature.symbols s i r.0 r.1 made log is v h u are ((simple_follow s.next r.0 raw).none log is v here)

-- A context that begins from nothing, and has no table yet, owes nothing but its rules.
nothing_owed : (theory : Theory) (context : Context) → HasRulesOf theory context → IsContextOf theory (from_nothing context)
nothing_owed theory context h = record {
  rules = h.rules;
  numbered = h.numbered;
  induction = record { kept = λ r e i k. absurd cc; covers = λ r e i k. absurd cc };
  asked = λ r e. absurd cc;
  ends = record { ends = λ r e. absurd cc };
  table = record { taken = []; begun = tt; alone = tt; entries = tt };
}

table_right : (theory : Theory) → SuitsProofs theory → (context : Context) → HasRulesOf theory context → (taken : List Guarded) → Every (StandsAlone (names_in context.public_names)) taken
    → IsTable theory (names_in context.public_names) taken (table_of context taken)
table_right theory suits context h taken alone =
    all_right theory suits (from_nothing context) (nothing_owed theory context h) taken alone (heads context.rules.signature.symbols)

-- A right entry is one that a context owes, and the other way round.
module _ (theory : Theory) (context : Context) (taken : List Guarded) (e : TableEntry) where
  as_asked : IsEntry theory (names_in context.public_names) taken e → contexts.IsEntry theory context taken e
  as_asked h = record {
    start = h.start;
    kept = every_map (IsCaseFrom (names_in context.public_names) (head_next e.head)) (IsKept context e.start) (λ (c : Case). c.system)
        (λ c k. record { well_made = record { numbered = k.numbered; once = k.once }; next = subst (λ (t : System). t.next ≤ c.system.next) (sym h.start) k.next }) e.cases h.cases;
    covers = h.covers;
  }

  as_right : contexts.IsEntry theory context taken e → IsEntry theory (names_in context.public_names) taken e
  as_right h = record { start = h.start; cases = each e.cases h.kept; covers = h.covers }
    where
      each : (cs : List Case) → Every (IsKept context e.start) (systems_in cs) → Every (IsCaseFrom (names_in context.public_names) (head_next e.head)) cs
      each [] k = tt
      each (c ∷ cs) k = (
        record { numbered = k.0.well_made.numbered; once = k.0.well_made.once; next = subst (λ (t : System). t.next ≤ c.system.next) h.start k.0.next },
        each cs k.1,
      )

pub tables_are_right_lem : TablesAreRight
tables_are_right_lem = record {
  starts = start_made;
  entries = entry_right;
  table = table_right;
}

pub tables_suit_lem : TablesSuit
tables_suit_lem = record {
  made = λ theory suits context rules taken begun alone.
      let suited = with_table context (table_of context taken) in
      record {
        taken = taken;
        begun = begun;
        alone = alone;
        entries = every_weaken _ _ (as_asked theory suited taken) suited.table (table_right theory suits context rules taken alone);
      };
  right = λ theory context t. every_weaken _ _ (as_right theory context t.taken) context.table t.entries;
}

pub sources_cover_lem : SourcesCover
sources_cover_lem = record {
  kept = simple_kept;
  over = λ theory suits context is_of taken alone table right s i cs e made. simple_covers theory suits context is_of taken table right s i cs e made alone;
  covers = λ theory suits context is_of taken alone table right s i cs e made are. record {
    covers = λ log is v h none. simple_covers theory suits context is_of taken table right s i cs e made alone log is v h v (are.hold log is v h) none;
  };
}
