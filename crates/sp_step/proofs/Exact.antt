-- A move has cases exactly where no clause of its condition fails.
use Rattle.std.proofs.Common.{◌≡◌, ℕ, Bool, true, false, ◌&&◌, ◌||◌, if◌then◌else◌, List, [], ◌∷◌, map, Option, Some, None, option_map, is_none, is_some, slice_get, refl, sym, ap, ◌∙◌}
use Rattle.sp_spec.specs.Term.{Variable, Msg}
use Rattle.sp_spec.specs.Rule.{Action, Fact}
use Rattle.sp_spec.specs.Guarded.{Guarded, truth, falsity, holds, fails, all_of, one_of, some, every, acts, same, same_time, before, last, free_time, bound_time}
use Rattle.sp_spec.specs.Log.{is_fr, is_in}
use Rattle.sp_spec_system.specs.System.{Happening, rule_step, sending, learning, Event, System}
use Rattle.sp_spec_proof.specs.Rows.{has_place, is_contradictory}
use Rattle.sp_spec_system.specs.Formulas.{freed_action}
use Rattle.sp_spec_system.specs.Rules.{Rules}
use Rattle.sp_spec_system.specs.MakingOne.{event_at}
use Rattle.sp_spec_system.specs.Move.{Side, Move, simplify, contradiction, unproved, solved, or, action, premise, know, chain, induction, source, compare, top, same, more_events, finish, Context, Case, end_log}
use Rattle.sp_spec_formula.specs.Induction.{root_induction}
use Rattle.sp_spec_graph.specs.Premise.{is_linked}
use Rattle.sp_spec_proof.specs.Finish.{is_decided}
use Rattle.sp_spec_proof.specs.Cases.{raw_cases, simple_case, cases}
use Rattle.sp_moves_formula.specs.WhyNot.{why_no_disjunction, why_not_freed, why_no_action}
use Rattle.sp_moves.specs.Clause.{Clause, another_crate, condition, absent, other_kind, HasCases}
use Rattle.sp_moves_formula.proofs.Exact as formula
use Rattle.sp_spec_system.specs.Occurring.{has_time}
use Rattle.sp_moves_graph.specs.WhyNot.{why_not_open, why_not_at, why_not_of}
use Rattle.sp_moves_graph.proofs.Exact as graph
use Rattle.sp_moves_know.specs.WhyNot.{why_not_known, why_not_chained}
use Rattle.sp_moves_know.proofs.Exact as learning
use Rattle.sp_spec_formula.specs.Top.{of_number, has_variable}
use Rattle.sp_spec_formula.specs.Sides.{stands_there, is_undecided}
use Rattle.sp_spec_graph.specs.Compare.{are_comparable}
use Rattle.sp_moves_decide.specs.WhyNot.{has_name_variable, stands_somewhere, why_not_sides}
use Rattle.sp_moves_decide.proofs.Exact as deciding
use Rattle.sp_step.specs.WhyNot.{unless, why_not, where_none, IsAsked}
use Rattle.sp_moves_know.proofs.Exact.{known_asked, chained_asked}

by_test : (b : Bool) (cs : List Case) → is_none (unless b) ≡ is_some (let r : Option (List Case) = if b then Some cs else None in r)
by_test true cs = refl
by_test false cs = refl

where_there : (o : Option (List Case)) → is_none (unless (is_some o)) ≡ is_some o
where_there None = refl
where_there (Some cs) = refl

raw : (context : Context) (s : System) (m : Move) → is_none (why_not context s m) ≡ is_some (raw_cases context s m)
raw context s simplify = by_test (has_place context.rules s) (record { name = []; system = s } ∷ [])
raw context s contradiction = by_test (is_contradictory context.rules s) []
raw context s unproved = refl
raw context s solved = by_test (is_some (end_log context s)) []
raw context s (or k) = (formula.exactly context.rules.forms s (or k)).exact
raw context s (action k) = (formula.exactly context.rules.forms s (action k)).exact
raw context s (premise i p) = (graph.exactly context.rules.forms s (premise i p)).exact
raw context s (know i) = (learning.exactly context.rules s (know i)).exact
raw context s (chain i) = (learning.exactly context.rules s (chain i)).exact
raw context s induction = where_there (root_induction context.root s)
raw context s (compare i j) = (deciding.exactly context.rules context.public_names s (compare i j)).exact
raw context s (top k) = (deciding.exactly context.rules context.public_names s (top k)).exact
raw context s (same a b) = (deciding.exactly context.rules context.public_names s (same a b)).exact
raw context s more_events = (deciding.exactly context.rules context.public_names s more_events).exact
raw context s finish = by_test (is_decided context s) []
raw context s (source i) = refl

simpler : (rules : Rules) (o : Option (List Case)) → is_some o ≡ is_some (option_map (map (simple_case rules)) o)
simpler rules None = refl
simpler rules (Some cs) = refl

pub exactly : (context : Context) (s : System) (m : Move) → HasCases (why_not context s m) (cases context s m)
exactly context s m = record { exact = raw context s m ∙ simpler context.rules (raw_cases context s m) }

by_failing : (b : Bool) → is_none (unless b) ≡ false → Some condition ≡ unless b
by_failing true e = absurd cc
by_failing false e = refl

fails_there : (context : Context) (s : System) (m : Move) → is_none (why_not context s m) ≡ false → where_none context.rules.signature.symbols context.public_names s m ≡ why_not context s m
fails_there context s simplify e = by_failing (has_place context.rules s) e
fails_there context s contradiction e = by_failing (is_contradictory context.rules s) e
fails_there context s unproved e = absurd cc
fails_there context s solved e = by_failing (is_some (end_log context s)) e
fails_there context s induction e = by_failing (is_some (root_induction context.root s)) e
fails_there context s finish e = by_failing (is_decided context s) e
fails_there context s move e = refl

-- what fails where there are no cases
pub none_there : (context : Context) (s : System) (m : Move) → None ≡ cases context s m → where_none context.rules.signature.symbols context.public_names s m ≡ why_not context s m
none_there context s m e = fails_there context s m ((exactly context s m).exact ∙ ap is_some (sym e))

never : (b : Bool) (c : Clause) → (c ≡ another_crate → ⊥) → (let r : Option Clause = if b then Some c else None in r) ≡ Some another_crate → ⊥
never true c n e = n cc
never false c n e = absurd cc

condition_differs : condition ≡ another_crate → ⊥
condition_differs e = absurd cc

freed_asked : (o : Option (Action Variable)) → why_not_freed o ≡ Some another_crate → ⊥
freed_asked None e = absurd cc
freed_asked (Some a) e = absurd cc

unless_asked : (b : Bool) → unless b ≡ Some another_crate → ⊥
unless_asked true e = absurd cc
unless_asked false e = absurd cc

disjunction_asked : (o : Option Guarded) → why_no_disjunction o ≡ Some another_crate → ⊥
disjunction_asked None e = absurd cc
disjunction_asked (Some truth) e = absurd cc
disjunction_asked (Some falsity) e = absurd cc
disjunction_asked (Some (holds a)) e = absurd cc
disjunction_asked (Some (fails a)) e = absurd cc
disjunction_asked (Some (all_of fs)) e = absurd cc
disjunction_asked (Some (one_of fs)) e = absurd cc
disjunction_asked (Some (some bs guard f)) e = absurd cc
disjunction_asked (Some (every bs guard f)) e = absurd cc

action_asked : (o : Option Guarded) → why_no_action o ≡ Some another_crate → ⊥
action_asked None e = absurd cc
action_asked (Some truth) e = absurd cc
action_asked (Some falsity) e = absurd cc
action_asked (Some (holds (acts a (free_time i)))) e = freed_asked (freed_action a) e
action_asked (Some (holds (acts a (bound_time k)))) e = absurd cc
action_asked (Some (holds (same t u))) e = absurd cc
action_asked (Some (holds (same_time i j))) e = absurd cc
action_asked (Some (holds (before i j))) e = absurd cc
action_asked (Some (holds (last i))) e = absurd cc
action_asked (Some (fails a)) e = absurd cc
action_asked (Some (all_of fs)) e = absurd cc
action_asked (Some (one_of fs)) e = absurd cc
action_asked (Some (some bs guard f)) e = absurd cc
action_asked (Some (every bs guard f)) e = absurd cc

-- what a move asks of a time, if the time is there
time_asked : (why : Option Clause) (b : Bool) → (why ≡ Some another_crate → ⊥) → (let r : Option Clause = if b then why else Some absent in r) ≡ Some another_crate → ⊥
time_asked why true h e = h e
time_asked why false h e = absurd cc

open_asked : (s : System) (i p : ℕ) (o : Option (Fact Variable)) → why_not_open s i p o ≡ Some another_crate → ⊥
open_asked s i p None e = absurd cc
open_asked s i p (Some f) e = never (is_linked s.links i p || (is_fr f || is_in f)) condition condition_differs e

happening_asked : (s : System) (i p : ℕ) (h : Happening) → why_not_at s i p h ≡ Some another_crate → ⊥
happening_asked s i p (rule_step r facts) e = open_asked s i p (slice_get facts.premises p) e
happening_asked s i p (sending m) e = absurd cc
happening_asked s i p (learning m way) e = absurd cc

event_asked : (s : System) (i p : ℕ) (o : Option Event) → why_not_of s i p o ≡ Some another_crate → ⊥
event_asked s i p None e = absurd cc
event_asked s i p (Some event) e = happening_asked s i p event.happening e

sort_asked : (message named : Bool) → (let r : Option Clause = if message then None else (if named then Some other_kind else Some absent) in r) ≡ Some another_crate → ⊥
sort_asked true named e = absurd cc
sort_asked false true e = absurd cc
sort_asked false false e = absurd cc

stand_asked : (stand undecided : Bool) → (let r : Option Clause = if stand then (if undecided then None else Some condition) else Some other_kind in r) ≡ Some another_crate → ⊥
stand_asked true undecided e = unless_asked undecided e
stand_asked false undecided e = absurd cc

sides_asked : (constants : List (List ℕ)) (s : System) (a b : Side) → why_not_sides constants s a b ≡ Some another_crate → ⊥
sides_asked constants s a b e = stand_asked (stands_there constants s a && stands_there constants s b) (is_undecided constants s a b) e

pub each_is_asked : (context : Context) (s : System) (m : Move) → IsAsked (why_not context s m)
each_is_asked context s simplify = record { asked = unless_asked (has_place context.rules s) }
each_is_asked context s contradiction = record { asked = unless_asked (is_contradictory context.rules s) }
each_is_asked context s unproved = record { asked = λ e. absurd cc }
each_is_asked context s solved = record { asked = unless_asked (is_some (end_log context s)) }
each_is_asked context s (or k) = record { asked = disjunction_asked (slice_get s.formulas k) }
each_is_asked context s (action k) = record { asked = action_asked (slice_get s.formulas k) }
each_is_asked context s (premise i p) = record { asked = time_asked (why_not_of s i p (event_at i s.events)) (has_time i s) (event_asked s i p (event_at i s.events)) }
each_is_asked context s (know i) =
    let symbols = context.rules.signature.symbols in
    record { asked = time_asked (why_not_known symbols (event_at i s.events)) (has_time i s) (known_asked symbols (event_at i s.events)) }
each_is_asked context s (chain i) = record { asked = time_asked (why_not_chained (event_at i s.events)) (has_time i s) (chained_asked (event_at i s.events)) }
each_is_asked context s induction = record { asked = unless_asked (is_some (root_induction context.root s)) }
each_is_asked context s (compare i j) = record { asked = time_asked (unless (are_comparable s i j)) (has_time i s && has_time j s) (unless_asked (are_comparable s i j)) }
each_is_asked context s (top k) = record { asked = sort_asked (has_variable s (of_number Msg k)) (has_name_variable s k) }
each_is_asked context s (same a b) =
    let cs = context.public_names in
    record { asked = time_asked (why_not_sides cs s a b) (stands_somewhere cs s a && stands_somewhere cs s b) (sides_asked cs s a b) }
each_is_asked context s more_events = record { asked = never s.closed condition condition_differs }
each_is_asked context s finish = record { asked = unless_asked (is_decided context s) }
each_is_asked context s (source i) = record { asked = λ e. absurd cc }
