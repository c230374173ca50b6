-- The move on a message that is learnt anyhow, by the source table: instead of asking anew how it is learnt, the entry's cases are joined to the system. Source:
-- Schmidt's thesis, chapter 3 (precomputed case distinctions); Tamarin manual, "Precomputation".
use Rattle.std.specs.Prelude.{ℕ, Bool, true, false, ◌==◌, ◌&&◌, if◌then◌else◌, List, [], ◌∷◌, ◌++◌, Option, Some, None, option_map, option_and_then}
use Rattle.std.specs.Str.{bytes_eq}
use Rattle.sp_spec.specs.Term.{Sort, Msg, Fresh, Pub, Variable, Term, var, constant, name, app, count}
use Rattle.sp_spec.specs.Signature.{Symbol}
use Rattle.sp_spec_system.specs.System.{System}
use Rattle.sp_spec_system.specs.Head.{Head, fresh_head, symbol_head}
use Rattle.sp_spec_system.specs.Together.{joined_at}
use Rattle.sp_spec_system.specs.Cases.{case_if}
use Rattle.sp_spec_system.specs.Move.{Case, TableEntry}
use Rattle.sp_spec_know.specs.Know.{wanted_at}

abbrev pub same_head : Head → Head → Bool
same_head fresh_head fresh_head = true
same_head fresh_head (symbol_head g k) = false
same_head (symbol_head f n) fresh_head = false
same_head (symbol_head f n) (symbol_head g k) = bytes_eq f g && (n == k)

-- what a message is of: variables of the other sorts and names have no entry
abbrev pub sort_head : Sort → Option Head
sort_head Fresh = Some fresh_head
sort_head Msg = None
sort_head Pub = None

abbrev pub head_of : Term Variable → Option Head
head_of (var x) = sort_head x.sort
head_of (constant c) = None
head_of (name n) = None
head_of (app f ts) = Some (symbol_head f (count ts))

-- the first entry of what the message is of
abbrev pub entry_of : List TableEntry → Head → Option TableEntry
entry_of [] h = None
entry_of (e ∷ table) h = if same_head e.head h then Some e else entry_of table h

-- each case that can be joined to the system at that time, by its name
abbrev pub joined_cases : System → ℕ → List Case → List Case
joined_cases s i [] = []
joined_cases s i (c ∷ cs) = case_if c.name (joined_at s c.system i) ++ joined_cases s i cs

-- none where no such message is learnt at the time, or the table has no entry for it
abbrev pub source_cases : List TableEntry → List Symbol → System → ℕ → Option (List Case)
source_cases table symbols s i =
    option_map (λ (e : TableEntry). joined_cases s i e.cases) (option_and_then (entry_of table) (option_and_then head_of (wanted_at symbols s i)))
