-- The kinds of moves, one after the other: the first that answers tells the choice. And the moves at formulas, one after the other.
use Rattle.std.proofs.Common.{◌≡◌, ℕ, ◌+◌, ◌<◌, Bool, true, false, List, [], ◌∷◌, ◌++◌, length, map, drop, get_or, Option, Some, None, refl, sym, ap, ◌∙◌, add-one, slice_get, suc, option_and_then, true≢false}
use Rattle.std.specs.Prelude.{is_some, not, option_map, if◌then◌else◌, ◌&&◌, ◌||◌}
use Rattle.std.specs.Option.{option_or}
use Rattle.std.specs.List.{list_any}
use Rattle.std.proofs.lemmas.Option.{slice_get-map, slice_get-get_or}
use Rattle.sp_spec.specs.Guarded.{Guarded}
use Rattle.sp_spec.proofs.Lists.{next_item}
use Rattle.sp_spec_system.specs.System.{System}
use Rattle.sp_spec_system.specs.Picked.{first_some}
use Rattle.sp_spec_system.proofs.Picked.{first_some_append}
use Rattle.sp_spec_system.specs.Rules.{Rules}
use Rattle.sp_formula.specs.FormulaView.{formula_of}
use Rattle.sp_formula.specs.declared.formula.Formula.{Formula}
use Rattle.sp_spec_system.specs.Move.{Move, simplify, contradiction, solved, or, action, more_events, finish, Context, Case, end_log}
use Rattle.sp_spec_proof.specs.Cases.{simple_case}
use Rattle.sp_spec_proof.specs.Rows.{rows, by_rows, failing_row, is_contradictory, fails_somewhere}
use Rattle.sp_spec_proof.proofs.Contradictions.{one_holds}
use Rattle.sp_spec_proof.specs.Choice.{Ranked, with_rank, is_instance, first_instance, picked, choice}
use Rattle.sp_spec_proof.specs.Kinds.{Picker, of_rank, only, event_pickers, deciding_pickers, pickers_by, first_pickers, last_picker, are_consecutive}
use Rattle.sp_spec_proof.specs.Kinds.{places_from, at_each_formula}
use Rattle.sp_spec_proof.specs.Finish.{has_instance}
use Rattle.sp_spec_proof.proofs.Progress.{none_left}
use Rattle.sp_spec_formula.specs.Action.{solving_action}
use Rattle.sp_spec_formula.specs.Or.{disjunction_at, or_cases}
use Rattle.sp_moves_formula.specs.Parts.{disjuncts, by_parts}
use Rattle.sp_moves_formula.proofs.Parts.{parts_at}
use Rattle.sp_step.specs.declared.choose.MoveKind.{MoveKind}
use Rattle.sp_step.specs.declared.choose.MoveKind.TheVariants as kind
use Rattle.sp_step.specs.declared.events.EventKind.TheVariants as event
use Rattle.sp_step.specs.declared.learning.LearningKind.TheVariants as learning
use Rattle.sp_step.specs.Choosing.{if_so, answer, by_kinds, last_of_all}

-- ---- the kinds

abbrev kinds : List (ℕ × MoveKind)
kinds =
    (1, kind.Contradiction)
    ∷ (2, kind.Simplify)
    ∷ (3, kind.Solved)
    ∷ (4, kind.Or)
    ∷ (5, kind.Action)
    ∷ []

-- those at events, one after the other, and as one
abbrev one_by_one : List (ℕ × MoveKind)
one_by_one =
    (6, kind.AtEvent (event.Learning learning.Chain))
    ∷ (7, kind.AtEvent event.Premise)
    ∷ (8, kind.AtEvent (event.Learning learning.Fresh))
    ∷ (9, kind.AtEvent (event.Learning learning.Application))
    ∷ (10, kind.AtEvent (event.Learning learning.VariableChain))
    ∷ []

abbrev consecutive : List (ℕ × MoveKind)
consecutive = (6, kind.AtAnyEvent) ∷ []

abbrev deciding : List (ℕ × MoveKind)
deciding =
    (11, kind.ToldComparison)
    ∷ (12, kind.Comparison)
    ∷ (13, kind.Same)
    ∷ (14, kind.MoreEvents)
    ∷ (15, kind.Top)
    ∷ []

-- the kinds before those at events
abbrev before_events : List Picker
before_events =
    of_rank 1 (only contradiction)
    ∷ of_rank 2 (only simplify)
    ∷ of_rank 3 (only solved)
    ∷ of_rank 4 (at_each_formula or)
    ∷ of_rank 5 (at_each_formula action)
    ∷ []

-- a place at which a row fails is a contradiction
fails_contradicts : (rules : Rules) (s : System) → fails_somewhere s ≡ true → is_contradictory rules s ≡ true
fails_contradicts rules s e = one_holds rules s failing_row e

abbrev first_if : Bool → Move → Option Move
first_if holds move = if holds then Some move else None

-- whether a move with these cases is an instance
abbrev counts : Rules → Option (List Case) → Bool
counts rules cs = is_some (option_map (map (simple_case rules)) cs)

by_tests : (rules : Rules) (contradictory applies fails ends : Bool) (case : Case) (later : Option Ranked) → (fails ≡ true → contradictory ≡ true)
    → option_or (option_map (with_rank 1) (if_so contradictory contradiction)) (option_or (option_map (with_rank 2) (if_so applies simplify)) (option_or (option_map (with_rank 3) (if_so ends solved)) later))
    ≡ option_or (option_map (with_rank 1) (first_if (counts rules (let r : Option (List Case) = if contradictory then Some [] else None in r)) contradiction))
    (option_or (option_map (with_rank 2) (first_if (counts rules (let r : Option (List Case) = if applies || fails then Some (case ∷ []) else None in r)) simplify))
    (option_or (option_map (with_rank 3) (first_if (counts rules (let r : Option (List Case) = if ends then Some [] else None in r)) solved)) later))
by_tests rules true applies fails ends case later h = refl
by_tests rules false true fails ends case later h = refl
by_tests rules false false true ends case later h = absurd (true≢false (sym (h refl)))
by_tests rules false false false true case later h = refl
by_tests rules false false false false case later h = refl

each_kind : (context : Context) (s : System) → first_some (answer context s) kinds ≡ first_some (picked context s) before_events
each_kind context s =
    by_tests context.rules (is_contradictory context.rules s) (is_some (by_rows context.rules rows s)) (fails_somewhere s) (is_some (end_log context s)) (record { name = []; system = s })
    (option_or (option_map (with_rank 4) (first_instance context s (at_each_formula or context s)))
    (option_or (option_map (with_rank 5) (first_instance context s (at_each_formula action context s))) None))
    (fails_contradicts context.rules s)

pub one_by_one_are : (context : Context) (s : System) → first_some (answer context s) one_by_one ≡ first_some (picked context s) (event_pickers false)
one_by_one_are context s = refl

pub consecutive_are : (context : Context) (s : System) → first_some (answer context s) consecutive ≡ first_some (picked context s) (event_pickers true)
consecutive_are context s = refl

by_closed : (rules : Rules) (closed : Bool) (cs : List Case) → if_so (not closed) more_events
    ≡ first_if (counts rules (let r : Option (List Case) = if closed then None else Some cs in r)) more_events
by_closed rules true cs = refl
by_closed rules false cs = refl

more_is : (context : Context) (s : System) → if_so (not s.closed) more_events ≡ first_instance context s (only more_events context s)
more_is context s = by_closed context.rules s.closed _

each_deciding : (context : Context) (s : System) → first_some (answer context s) deciding ≡ first_some (picked context s) deciding_pickers
each_deciding context s =
    ap (λ (o : Option Move). option_or (answer context s (11, kind.ToldComparison)) (option_or (answer context s (12, kind.Comparison))
    (option_or (answer context s (13, kind.Same)) (option_or (option_map (with_rank 14) o) (option_or (answer context s (15, kind.Top)) None))))) (more_is context s)

-- what the kinds at events answer
abbrev at_events : Context → System → Option Ranked
at_events context s = first_some (picked context s) (event_pickers (are_consecutive context.root))

answers_are : (context : Context) (s : System)
    → option_or (first_some (answer context s) kinds) (option_or (at_events context s) (first_some (answer context s) deciding)) ≡ by_kinds context s
unfolding by_kinds
answers_are context s =
    let all = event_pickers (are_consecutive context.root) in
    ap (λ (o : Option Ranked). option_or o (option_or (at_events context s) (first_some (answer context s) deciding))) (each_kind context s)
    ∙ ap (λ (o : Option Ranked). option_or (first_some (picked context s) before_events) (option_or (at_events context s) o)) (each_deciding context s)
    ∙ ap (option_or (first_some (picked context s) before_events)) (sym (first_some_append (picked context s) all deciding_pickers))
    ∙ sym (first_some_append (picked context s) before_events (all ++ deciding_pickers))

-- the first of the three that answers tells what is chosen
pub answered_first : (context : Context) (s : System) (r : Ranked) → Some r ≡ first_some (answer context s) kinds → Some r ≡ by_kinds context s
answered_first context s r is = ap (λ (o : Option Ranked). option_or o (option_or (at_events context s) (first_some (answer context s) deciding))) is ∙ answers_are context s

behind_first : (context : Context) (s : System) → None ≡ first_some (answer context s) kinds
    → option_or (at_events context s) (first_some (answer context s) deciding) ≡ by_kinds context s
behind_first context s none = ap (λ (o : Option Ranked). option_or o (option_or (at_events context s) (first_some (answer context s) deciding))) none ∙ answers_are context s

pub answered_at_events : (context : Context) (s : System) (r : Ranked) → None ≡ first_some (answer context s) kinds → Some r ≡ at_events context s → Some r ≡ by_kinds context s
answered_at_events context s r none is = ap (λ (o : Option Ranked). option_or o (first_some (answer context s) deciding)) is ∙ behind_first context s none

pub answered_behind : (context : Context) (s : System) → None ≡ first_some (answer context s) kinds → None ≡ at_events context s
    → first_some (answer context s) deciding ≡ by_kinds context s
answered_behind context s none no_event = ap (λ (o : Option Ranked). option_or o (first_some (answer context s) deciding)) no_event ∙ behind_first context s none

-- ---- the end of the search comes behind them

-- no kind has an instance where none answers
none_has : (context : Context) (s : System) → by_kinds context s ≡ None → list_any (has_instance context s) (pickers_by false) ≡ false
unfolding by_kinds
none_has context s none = sym (none_left context s (are_consecutive context.root)) ∙ ap is_some none

by_end : (rules : Rules) (closed begun left : Bool) → begun ≡ true → left ≡ false
    → option_map (with_rank 16) (if_so closed finish)
    ≡ option_or (option_map (with_rank 16) (first_if (counts rules (let r : Option (List Case) = if closed && (begun && not left) then Some [] else None in r)) finish)) None
by_end rules true true false b l = refl
by_end rules true true true b l = absurd (true≢false l)
by_end rules true false left b l = absurd (true≢false (sym b))
by_end rules false begun left b l = refl

last_is : (context : Context) (s : System) → is_some context.root ≡ true → by_kinds context s ≡ None → last_of_all s ≡ first_some (picked context s) (last_picker ∷ [])
last_is context s begun none = by_end context.rules s.closed (is_some context.root) (list_any (has_instance context s) (pickers_by false)) begun (none_has context s none)

pub is_some_map : {A B : Type 0} (f : A → B) (o : Option A) → is_some (option_map f o) ≡ is_some o
is_some_map f None = refl
is_some_map f (Some a) = refl

turned : (b c : Bool) → c ≡ not b → b ≡ not c
turned true c e = sym (ap not e)
turned false c e = sym (ap not e)

pub none_has_instance : {X : Type 0} (context : Context) (s : System) (f : X → Ranked) (o : Option X) (b : Bool) → is_some o ≡ not b → option_map f o ≡ by_kinds context s
    → b ≡ not (list_any (has_instance context s) (pickers_by false))
unfolding by_kinds
none_has_instance context s f o b some is =
    turned b (list_any (has_instance context s) (pickers_by false))
    (sym (none_left context s (are_consecutive context.root)) ∙ ap is_some (sym is) ∙ is_some_map f o ∙ some)

-- ---- induction comes before them

-- the choice, in three steps
in_three : (context : Context) (s : System) → choice context s
    ≡ option_or (first_some (picked context s) (first_pickers context.root)) (option_or (by_kinds context s) (first_some (picked context s) (last_picker ∷ [])))
unfolding choice by_kinds
in_three context s =
    first_some_append (picked context s) (first_pickers context.root) (pickers_by (are_consecutive context.root) ++ last_picker ∷ [])
    ∙ ap (option_or (first_some (picked context s) (first_pickers context.root))) (first_some_append (picked context s) (pickers_by (are_consecutive context.root)) (last_picker ∷ []))

pub chosen_first : (context : Context) (s : System) (r : Ranked) → Some r ≡ first_some (picked context s) (first_pickers context.root) → Some r ≡ choice context s
chosen_first context s r first =
    ap (λ (o : Option Ranked). option_or o (option_or (by_kinds context s) (first_some (picked context s) (last_picker ∷ [])))) first ∙ sym (in_three context s)

pub chosen_by_kinds : (context : Context) (s : System) (r : Ranked) → None ≡ first_some (picked context s) (first_pickers context.root) → Some r ≡ by_kinds context s
    → Some r ≡ choice context s
chosen_by_kinds context s r none is =
    ap (λ (o : Option Ranked). option_or o (first_some (picked context s) (last_picker ∷ []))) is
    ∙ ap (λ (o : Option Ranked). option_or o (option_or (by_kinds context s) (first_some (picked context s) (last_picker ∷ [])))) none ∙ sym (in_three context s)

pub chosen_last : (context : Context) (s : System) → is_some context.root ≡ true → None ≡ first_some (picked context s) (first_pickers context.root) → None ≡ by_kinds context s
    → last_of_all s ≡ choice context s
chosen_last context s begun none no_kind =
    last_is context s begun (sym no_kind)
    ∙ ap (λ (o : Option Ranked). option_or o (first_some (picked context s) (last_picker ∷ []))) no_kind
    ∙ ap (λ (o : Option Ranked). option_or o (option_or (by_kinds context s) (first_some (picked context s) (last_picker ∷ [])))) none ∙ sym (in_three context s)

-- ---- a move at each place

pub next_place : {X A : Type 0} (context : Context) (s : System) (move : ℕ → Move) (view : X → A) (all : List X) (k : ℕ) (x : X) (b : Bool) → k < length all → x ≡ get_or all k x
    → is_instance context s (move k) ≡ b
    → first_instance context s (map move (places_from k (map view (drop k all))))
    ≡ (if b then Some (move k) else first_instance context s (map move (places_from (k + 1) (map view (drop (k + 1) all)))))
next_place {X = X} context s move view all k x b below is here =
    let rest : ℕ → Option Move = λ n. first_instance context s (map move (places_from n (map view (drop (k + 1) all)))) in
    ap (λ (xs : List X). first_instance context s (map move (places_from k (map view xs)))) (next_item all k x below is)
    ∙ ap (λ (t : Bool). if t then Some (move k) else rest (suc k)) here
    ∙ ap (λ (n : ℕ). if b then Some (move k) else rest n) (sym (add-one k))

at_place : (all : List Formula) (k : ℕ) (f : Formula) → k < length all → f ≡ get_or all k f → slice_get (map formula_of all) k ≡ Some (formula_of f)
at_place all k f below is = slice_get-map formula_of all k ∙ ap (option_map formula_of) (slice_get-get_or all k f below) ∙ ap (λ (x : Formula). Some (formula_of x)) (sym is)

pub action_here : (context : Context) (s : System) (all : List Formula) (k : ℕ) (f : Formula) (b : Bool) → s.formulas ≡ map formula_of all → k < length all → f ≡ get_or all k f
    → b ≡ is_some (solving_action context.rules.forms s (Some (formula_of f))) → is_instance context s (action k) ≡ b
action_here context s all k f b whole below is e =
    is_some_map (map (simple_case context.rules)) (solving_action context.rules.forms s (slice_get s.formulas k))
    ∙ ap (λ (o : Option Guarded). is_some (solving_action context.rules.forms s o)) (ap (λ (fs : List Guarded). slice_get fs k) whole ∙ at_place all k f below is) ∙ sym e

pub part_here : (context : Context) (s : System) (all : List Formula) (k : ℕ) (f : Formula) (b : Bool) → s.formulas ≡ map formula_of all → k < length all → f ≡ get_or all k f
    → b ≡ is_some (disjuncts (formula_of f)) → is_instance context s (or k) ≡ b
part_here context s all k f b whole below is e =
    let there : slice_get s.formulas k ≡ Some (formula_of f) = ap (λ (fs : List Guarded). slice_get fs k) whole ∙ at_place all k f below is in
    is_some_map (map (simple_case context.rules)) (or_cases s (disjunction_at k s.formulas)) ∙ ap is_some (parts_at s k)
    ∙ is_some_map (by_parts s k 1) (option_and_then disjuncts (slice_get s.formulas k))
    ∙ ap (λ (o : Option Guarded). is_some (option_and_then disjuncts o)) there ∙ sym e
