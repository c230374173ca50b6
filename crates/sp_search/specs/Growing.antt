-- How trees in memory are grown, by the systems and moves that they hold.
use Rattle.std.specs.Prelude.{ℕ, ◌+◌, Bool, true, false, List, [], ◌∷◌, Option, Some, None, is_some, if◌then◌else◌}
use Rattle.sp_spec.specs.Log.{Log}
use Rattle.sp_spec_system.specs.System.{System}
use Rattle.sp_spec_system.specs.Move.{Move, solved, Context, Case, end_log}
use Rattle.sp_spec_proof.specs.Cases.{cases}
use Rattle.sp_spec_proof.specs.Tree.{is_solved}
use Rattle.sp_spec_proof.specs.Choice.{Ranked, choice, class_of}
use Rattle.sp_spec_proof.specs.Growth.{least, has_class}
use Rattle.sp_search.specs.Kept.{Kept, leaf, ended, inner, Keeps, nothing, also, log_in}

-- the least class of the open leaves
abbrev mutual
  pub least_kept : Kept → Option ℕ
  least_kept (leaf s chosen depth) = class_of chosen depth
  least_kept (ended log) = None
  least_kept (inner move branches) = least_in branches

  pub least_in : Keeps → Option ℕ
  least_in nothing = None
  least_in (also name tree branches) = least (least_kept tree) (least_in branches)

-- an open leaf with its choice
abbrev pub open_leaf : Context → ℕ → System → Kept
open_leaf context depth s = leaf s (choice context s) depth

abbrev pub leaves_at : Context → ℕ → List Case → Keeps
leaves_at context depth [] = nothing
leaves_at context depth (c ∷ cs) = also c.name (open_leaf context depth c.system) (leaves_at context depth cs)

abbrev pub cases_or_none : Option (List Case) → List Case
cases_or_none None = []
cases_or_none (Some cs) = cs

-- the leaf with which the search ends keeps its log
abbrev pub ended_with : Option Log → Kept
ended_with None = inner solved nothing
ended_with (Some log) = ended log

-- a leaf replaced by its move
abbrev pub replaced : Context → System → Move → ℕ → Kept
replaced context s move depth =
    if is_solved move then ended_with (end_log context s) else inner move (leaves_at context (depth + 1) (cases_or_none (cases context s move)))

-- what stands for a leaf, and whether it has been replaced by now: never where no move is chosen
abbrev pub opened : Context → System → Option Ranked → ℕ → Bool → Kept × Bool
opened context s chosen depth false = (leaf s chosen depth, false)
opened context s None depth true = (leaf s None depth, false)
opened context s (Some r) depth true = (replaced context s r.move depth, true)

abbrev pub within : Move → Keeps × Bool → Kept × Bool
within move r = (inner move r.0, r.1)

abbrev pub behind : List ℕ → Kept → Keeps × Bool → Keeps × Bool
behind name tree r = (also name tree r.0, r.1)

abbrev pub next : List ℕ → Kept × Bool → (Bool → Keeps × Bool) → Keeps × Bool
next name r later = behind name r.0 (later r.1)

abbrev pub unless : Bool → Kept → Kept × Bool → Kept × Bool
unless true tree r = (tree, true)
unless false tree r = r

-- the first leaf of a class is replaced by its move, unless one has been replaced before
abbrev mutual
  pub grow : Context → ℕ → Bool → Kept → Kept × Bool
  grow context k done (leaf s chosen depth) = unless done (leaf s chosen depth) (opened context s chosen depth (has_class (class_of chosen depth) k))
  grow context k done (ended log) = unless done (ended log) (ended log, false)
  grow context k done (inner move branches) = unless done (inner move branches) (within move (grow_in context k false branches))

  pub grow_in : Context → ℕ → Bool → Keeps → Keeps × Bool
  grow_in context k done nothing = (nothing, done)
  grow_in context k done (also name tree branches) = next name (grow context k done tree) (λ now. grow_in context k now branches)

-- one turn; none once there is a log
abbrev pub turn_at : Context → Kept → Option ℕ → Kept × Bool
turn_at context tree None = (tree, false)
turn_at context tree (Some k) = grow context k false tree

abbrev pub turn : Context → Kept → Kept × Bool
turn context tree = if is_some (log_in tree) then (tree, false) else turn_at context tree (least_kept tree)
