-- The source table, made beforehand: the cases of how a message is learnt, of which some are gone on with where a chain has to be followed. Source:
-- Schmidt's thesis, chapter 3 (precomputed case distinctions); Tamarin manual, "Precomputation". The bound on moves, the names and the order are this
-- project's own.
use Rattle.std.specs.Prelude.{ℕ, zero, suc, List, [], ◌∷◌, ◌++◌, map, ◌==◌, if◌then◌else◌, Option, Some, None, option_map, option_and_then, codes}
use Rattle.sp_spec.specs.Guarded.{Guarded}
use Rattle.sp_spec_system.specs.System.{System}
use Rattle.sp_spec_system.specs.Head.{Head, start_of}
use Rattle.sp_spec_system.specs.Move.{Move, know, chain, TableEntry, Context, Case}
use Rattle.sp_spec_system.specs.Rules.{Rules}
use Rattle.sp_spec_know.specs.Source.{source_cases}
use Rattle.sp_spec_proof.specs.Rows.{is_contradictory}
use Rattle.sp_spec_proof.specs.Cases.{simple_case, cases}
use Rattle.sp_spec_proof.specs.Choice.{Ranked, choice}
use Rattle.sp_spec_sources.specs.Heads.{heads}

abbrev pub only_chain : Move → Option Move
only_chain (chain i) = Some (chain i)
only_chain move = None

-- the chosen move, if it is on a chain that ends in no message variable: such moves have this rank
abbrev pub chosen_chain : Option Ranked → Option Move
chosen_chain None = None
chosen_chain (Some r) = if r.rank == 6 then only_chain r.move else None

-- the names on a leaf's path, joined by '_'
abbrev pub named_behind : List ℕ → Case → Case
named_behind name c = record { name = name ++ (codes "_" ++ c.name); system = c.system }

-- what a leaf is replaced by
abbrev pub leaf_cases : Context → Case → Option (List Case)
leaf_cases context c = option_map (map (named_behind c.name)) (option_and_then (cases context c.system) (chosen_chain (choice context c.system)))

abbrev pub first_replaced : Case → List Case → Option (List Case) → Option (List Case) → Option (List Case)
first_replaced c cs (Some ds) later = Some (ds ++ cs)
first_replaced c cs None later = option_map (λ ds. c ∷ ds) later

-- the first leaf with such a move is replaced; none if there is no such leaf
abbrev pub leaves_once : Context → List Case → Option (List Case)
leaves_once context [] = None
leaves_once context (c ∷ cs) = first_replaced c cs (leaf_cases context c) (leaves_once context cs)

abbrev pub leaves_on : (List Case → List Case) → List Case → Option (List Case) → List Case
leaves_on again cs None = cs
leaves_on again cs (Some ds) = again ds

-- as often as the budget says and as there is such a leaf
unfoldable pub leaves_by : Context → ℕ → List Case → List Case
leaves_by context zero cs = cs
leaves_by context (suc n) cs = leaves_on (leaves_by context n) cs (leaves_once context cs)

-- without those that are contradictory
abbrev pub open_cases : Rules → List Case → List Case
open_cases rules [] = []
open_cases rules (c ∷ cs) = if is_contradictory rules c.system then open_cases rules cs else c ∷ open_cases rules cs

-- The cases of an entry: it is asked how the message is learnt, at most 64 leaves are replaced, and those that are left open are the cases.
abbrev pub entry_cases : Context → List Guarded → Head → Option (List Case)
entry_cases context taken h = option_map (λ cs. open_cases context.rules (leaves_by context 64 cs)) (cases context (start_of taken h) (know 0))

abbrev pub entry_if : List Guarded → Head → Option (List Case) → List TableEntry
entry_if taken h None = []
entry_if taken h (Some cs) = record { head = h; start = start_of taken h; cases = cs } ∷ []

abbrev pub table_from : Context → List Guarded → List Head → List TableEntry
table_from context taken [] = []
table_from context taken (h ∷ hs) = entry_if taken h (entry_cases context taken h) ++ table_from context taken hs

-- a context in which a proof begins from nothing: the search ends nowhere, and no table is there yet
abbrev pub from_nothing : Context → Context
from_nothing context = record context { root = None; table = [] }

-- The table of a context with the lemmas that are taken.
abbrev pub table_of : Context → List Guarded → List TableEntry
table_of context taken = table_from (from_nothing context) taken (heads context.rules.signature.symbols)

abbrev pub with_table : Context → List TableEntry → Context
with_table context table = record context { table = table }

-- the cases of the move that uses a table, each simplified
abbrev pub simple_source_cases : Rules → List TableEntry → System → ℕ → Option (List Case)
simple_source_cases rules table s i = option_map (map (simple_case rules)) (source_cases table rules.signature.symbols s i)
