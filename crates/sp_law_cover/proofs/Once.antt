-- No two events of a system have one time: so it is after each row, and in each case of each move.
use Rattle.std.proofs.Common.{◌≡◌, Bool, true, false, if◌then◌else◌, List, [], ◌∷◌, Some, None, is_some, sym, subst}
use Rattle.sp_spec.specs.Lists.{Every}
use Rattle.sp_spec.specs.Destruction.{destructions}
use Rattle.sp_spec.specs.Term.{Names}
use Rattle.sp_spec_system.specs.System.{System}
use Rattle.sp_spec_system.specs.Rules.{Rules}
use Rattle.sp_spec_system.specs.Numbered.{HappenOnce, IsNumbered}
use Rattle.sp_spec_system.specs.Move.{Move, simplify, contradiction, unproved, solved, or, action, premise, know, chain, induction, compare, top, same, more_events, finish, Context, Case, end_log, systems_in}
use Rattle.sp_spec_proof.specs.Rows.{Row, row_split, row_open, row_equate, row_unequal, row_order, row_last, row_action_stands, row_disjunction, row_send_input, row_send_learnt, row_learn_once, row_linear_once, row_fresh_once, row_settle_learn, row_fresh_first, row_instantiate, by_row, has_place, is_contradictory}
use Rattle.sp_spec_proof.specs.Finish.{is_decided}
use Rattle.sp_spec_proof.specs.Cases.{raw_cases}
use Rattle.sp_spec_formula.proofs.Roots.{only_at_root}
use Rattle.sp_law_formula.proofs.OnceRows.{split_once, open_existential_once, equate_once, unequal_once, in_order_once, sets_last_once, action_stands_once, disjunction_once, instantiate_once, or_once, action_once}
use Rattle.sp_law_cover.proofs.SolvedAction.{at_place}
use Rattle.sp_law_graph.proofs.Once.{IsOnce, linear_once_once, fresh_once_once, premise_once}
use Rattle.sp_law_know.proofs.Once.{learn_once_once, fresh_first_once, send_input_once, send_learnt_once, settle_learn_once, know_once, chain_once}
use Rattle.sp_law_progress.proofs.Compare.{compare_once}
use Rattle.sp_law_progress.proofs.Top.{top_once}
use Rattle.sp_law_progress.proofs.Same.{same_once}
use Rattle.sp_law_progress.proofs.More.{more_once}

pub row_once : {N : Names} (rules : Rules) (row : Row) (s t : System) → by_row rules row s ≡ Some t → IsNumbered N s → HappenOnce s.events → HappenOnce t.events
row_once rules row_split s t e n h = split_once s t e h
row_once rules row_open s t e n h = open_existential_once s t e h
row_once rules row_equate s t e n h = equate_once s t e h
row_once rules row_unequal s t e n h = unequal_once s t e h
row_once rules row_order s t e n h = in_order_once s t e h
row_once rules row_last s t e n h = sets_last_once s t e h
row_once rules row_action_stands s t e n h = action_stands_once s t e h
row_once rules row_disjunction s t e n h = disjunction_once s t e h
row_once rules row_send_input s t e n h = send_input_once s t e n h
row_once rules row_send_learnt s t e n h = send_learnt_once s t e n h
row_once rules row_learn_once s t e n h = learn_once_once s t e h
row_once rules row_linear_once s t e n h = linear_once_once s t e h
row_once rules row_fresh_once s t e n h = fresh_once_once s t e h
row_once rules row_settle_learn s t e n h = settle_learn_once rules.signature.symbols s t e n h
row_once rules row_fresh_first s t e n h = fresh_first_once s t e h
row_once rules row_instantiate s t e n h = instantiate_once s t e h

-- what holds of the systems of no cases
pub if_none : (P : System → Type 0) (cs : List Case) (b : Bool) → (if b then Some [] else None) ≡ Some cs → Every P (systems_in cs)
if_none P cs true k = let none : List Case = [] in let g : none ≡ cs = cc in subst (λ (x : List Case). Every P (systems_in x)) g tt
if_none P cs false k = absurd cc

-- before the cases are simplified
pub raw_once : {N : Names} (context : Context) (s : System) (move : Move) (cs : List Case) → raw_cases context s move ≡ Some cs → IsNumbered N s → HappenOnce s.events
    → Every IsOnce (systems_in cs)
raw_once context s simplify cs e n h = at (has_place context.rules s) e
  where
    at : (b : Bool) → (if b then Some (record { name = []; system = s } ∷ []) else None) ≡ Some cs → Every IsOnce (systems_in cs)
    at true k = let one : Case = record { name = []; system = s } in let g : one ∷ [] ≡ cs = cc in subst (λ (x : List Case). Every IsOnce (systems_in x)) g (h, tt)
    at false k = absurd cc
raw_once context s contradiction cs e n h = if_none IsOnce cs (is_contradictory context.rules s) e
raw_once context s unproved cs e n h = if_none IsOnce cs true e
raw_once context s solved cs e n h = if_none IsOnce cs (is_some (end_log context s)) e
raw_once context s (or k) cs e n h = or_once s k cs e h
raw_once context s (action k) cs e n h =
    let p = at_place context.rules.forms s k cs e in
    let r = p.2 in
    subst (λ (x : List Case). Every IsOnce (systems_in x)) (sym r.cases) (action_once s r.time h context.rules.forms r.terms)
raw_once context s (premise i p) cs e n h = premise_once context.rules.forms s n h i p cs e
raw_once context s (know i) cs e n h = know_once context.rules s n h i cs e
raw_once context s (chain i) cs e n h = chain_once (destructions context.rules.signature) s n h i cs e
raw_once context s induction cs e n h =
    let at = only_at_root context.root s cs e in
    subst (λ (x : List Case). Every IsOnce (systems_in x)) (sym at.cases) (tt, (tt, tt))
raw_once context s (compare i j) cs e n h = compare_once s i j cs e h
raw_once context s (top k) cs e n h = top_once context.rules.signature.symbols s k cs e h
raw_once context s (same a b) cs e n h = same_once context.public_names s a b cs e h
raw_once context s more_events cs e n h = more_once context.rules.forms s cs e n h
raw_once context s finish cs e n h = if_none IsOnce cs (is_decided context s) e
raw_once context s move cs e n h = absurd cc
