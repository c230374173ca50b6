-- Why a move is no instance.
use Rattle.std.specs.Prelude.{◌≡◌, Bool, if◌then◌else◌, ℕ, List, Option, Some, None, is_some}
use Rattle.sp_spec.specs.Signature.{Symbol}
use Rattle.sp_spec_system.specs.System.{System}
use Rattle.sp_spec_proof.specs.Rows.{has_place, is_contradictory}
use Rattle.sp_spec_system.specs.Move.{Move, simplify, contradiction, unproved, solved, or, action, premise, know, chain, induction, compare, top, same, more_events, finish, Context, end_log}
use Rattle.sp_spec_formula.specs.Induction.{root_induction}
use Rattle.sp_spec_proof.specs.Finish.{is_decided}
use Rattle.sp_moves_formula.specs.WhyNot.{why_not_formula}
use Rattle.sp_moves.specs.Clause.{Clause, another_crate, condition}
use Rattle.sp_moves_graph.specs.WhyNot.{why_not_graph}
use Rattle.sp_moves_know.specs.WhyNot.{why_not_learning}
use Rattle.sp_moves_decide.specs.WhyNot.{why_not_decide}

-- a move that names nothing has its condition alone
abbrev pub unless : Bool → Option Clause
unless b = if b then None else Some condition

abbrev pub why_not : Context → System → Move → Option Clause
why_not context s simplify = unless (has_place context.rules s)
why_not context s contradiction = unless (is_contradictory context.rules s)
why_not context s unproved = None
why_not context s solved = unless (is_some (end_log context s))
why_not context s (or k) = why_not_formula s (or k)
why_not context s (action k) = why_not_formula s (action k)
why_not context s (premise i p) = why_not_graph s (premise i p)
why_not context s (know i) = why_not_learning context.rules.signature.symbols s (know i)
why_not context s (chain i) = why_not_learning context.rules.signature.symbols s (chain i)
why_not context s induction = unless (is_some (root_induction context.root s))
why_not context s (compare i j) = why_not_decide context.public_names s (compare i j)
why_not context s (top k) = why_not_decide context.public_names s (top k)
why_not context s (same a b) = why_not_decide context.public_names s (same a b)
why_not context s more_events = why_not_decide context.public_names s more_events
why_not context s finish = unless (is_decided context s)
-- `source` has no cases as yet
why_not context s move = Some condition

-- the clause that fails of a move that has no cases, over these symbols and public names
abbrev pub where_none : List Symbol → List (List ℕ) → System → Move → Option Clause
where_none symbols constants s (or k) = why_not_formula s (or k)
where_none symbols constants s (action k) = why_not_formula s (action k)
where_none symbols constants s (premise i p) = why_not_graph s (premise i p)
where_none symbols constants s (know i) = why_not_learning symbols s (know i)
where_none symbols constants s (chain i) = why_not_learning symbols s (chain i)
where_none symbols constants s (compare i j) = why_not_decide constants s (compare i j)
where_none symbols constants s (top k) = why_not_decide constants s (top k)
where_none symbols constants s (same a b) = why_not_decide constants s (same a b)
where_none symbols constants s more_events = why_not_decide constants s more_events
where_none symbols constants s move = Some condition

-- each move is one of those that are asked about
pub record IsAsked (why : Option Clause) : Type 0 where
  pub asked : why ≡ Some another_crate → ⊥
