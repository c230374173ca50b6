-- Each row covers, a contradiction has no solution, and so simplification covers.
use Rattle.std.proofs.Common.{◌≡◌, ◌≤◌, ℕ, zero, suc, Bool, true, false, ◌||◌, if◌then◌else◌, List, [], ◌∷◌, ◌++◌, Option, Some, None, refl, sym, ap, subst, ◌∙◌, inl, inr, ⊎_elim, le_refl, le_trans}
use Rattle.std.specs.List.{list_any}
use Rattle.std.proofs.lemmas.Bool.{or_cases}
use Rattle.std.proofs.lemmas.List.{append_assoc}
use Rattle.sp_spec.specs.Term.{Names}
use Rattle.sp_spec.specs.Theory.{Theory, signature_of}
use Rattle.sp_spec.specs.Log.{Log, IsLog}
use Rattle.sp_law_equal.specs.NormalForms.{HaveNormalForms}
use Rattle.sp_spec_system.specs.System.{System}
use Rattle.sp_spec_system.specs.Rules.{Rules, rules_of}
use Rattle.sp_spec_system.specs.Solutions.{Valuation, Solves}
use Rattle.sp_spec_system.specs.Numbered.{names_in, IsNumbered}
use Rattle.sp_spec_system.specs.Covering.{Agrees, NoneSolved, Covers}
use Rattle.sp_law_system.specs.Laws.{UnifierIsRight}
use Rattle.sp_law_system.proofs.Solutions.{agrees_then}
use Rattle.sp_spec_proof.specs.Rows.{Row, row_split, row_open, row_equate, row_unequal, row_order, row_last, row_action_stands, row_disjunction, row_send_input, row_send_learnt, row_learn_once, row_linear_once, row_fresh_once, row_settle_learn, row_fresh_first, row_instantiate, rows, by_row, first_of, by_rows, fails_somewhere, Contradiction, false_formula, equal_unequal_pair, refuted_literal, cyclic_order, source_used_twice, learnt_too_early, reducible_term, failing_row, time_after_last, refuted_last, last_in_closed, contradictions, by_contradiction, is_contradictory, goes_on, simplified_by}
use Rattle.sp_spec_formula.specs.Last.{fails_to_last}
use Rattle.sp_spec_graph.specs.SourceTwice.{takes_fr_twice, used_twice}
use Rattle.sp_spec_graph.specs.ReducibleEvent.{has_reducible}
use Rattle.sp_spec_system.specs.Picked.{some_two}
use Rattle.sp_spec_formula.specs.Equate.{fails_to_equate}
use Rattle.sp_spec_graph.specs.LinearOnce.{fails_to_link}
use Rattle.sp_spec_graph.specs.FreshOnce.{fails_to_merge}
use Rattle.sp_spec_know.specs.LearnOnce.{learn_once, fails_to_learn}
use Rattle.sp_spec_know.specs.SettleLearn.{settle_learn}
use Rattle.sp_spec.specs.Lists.{Member}
use Rattle.sp_spec_system.specs.Move.{Context}
use Rattle.sp_law_system.specs.Rules.{SuitsProofs}
use Rattle.sp_law_system.specs.Proofs.{IsWellMade, IsKept}
use Rattle.sp_law_cover.specs.Admitted.{HasNoSolution}
use Rattle.sp_law_cover.specs.Contexts.{IsContextOf}
use Rattle.sp_law_cover.specs.Laws.{IsTurn, ContradictionsHold, RowsCover}
use Rattle.sp_law_cover.proofs.Once.{row_once}
use Rattle.sp_law_formula.proofs.OneCase.{covers_by_itself}
use Rattle.sp_law_formula.proofs.ActionStands.{action_stands_covers, action_stands_numbered}
use Rattle.sp_law_formula.proofs.Unequal.{unequal_covers, unequal_row_numbered, equal_pair_contradicts}
use Rattle.sp_law_formula.proofs.Split.{split_covers, split_numbered, some_falsity_contradicts}
use Rattle.sp_law_formula.proofs.InOrder.{in_order_covers, in_order_numbered, cyclic_contradicts, some_refuted_contradicts}
use Rattle.sp_law_formula.proofs.Equate.{equate_covers, equate_numbered, some_fails_contradicts}
use Rattle.sp_law_formula.proofs.Last.{sets_last_covers, sets_last_numbered, some_last_fails_contradicts, later_contradicts, some_last_refuted_contradicts, unlast_contradicts}
use Rattle.sp_law_formula.proofs.Disjunction.{disjunction_covers, disjunction_numbered}
use Rattle.sp_law_graph.proofs.LinearOnce.{linear_once_covers, linear_once_numbered, links_contradict}
use Rattle.sp_law_graph.proofs.SourceTwice.{used_twice_contradicts, fr_twice_contradicts}
use Rattle.sp_law_formula.proofs.Taken.{instantiate_numbered}
use Rattle.sp_law_formula.proofs.Instantiate.{instantiate_covers}
use Rattle.sp_law_graph.proofs.FreshOnce.{merge_contradicts, fresh_once_covers, fresh_once_numbered}
use Rattle.sp_law_know.proofs.FreshFirst.{fresh_first_covers, fresh_first_numbered}
use Rattle.sp_law_know.proofs.SendInput.{send_input_covers, send_input_numbered}
use Rattle.sp_law_know.proofs.SendLearnt.{send_learnt_covers, send_learnt_numbered}
use Rattle.sp_law_know.proofs.LearnOnce.{learn_once_covers, learn_once_numbered, learning_contradicts}
use Rattle.sp_law_know.proofs.SettleLearn.{settle_learn_covers, settle_learn_numbered}
use Rattle.sp_law_know.proofs.LearntEarly.{early_contradicts}
use Rattle.sp_law_graph.proofs.ReducibleEvent.{reducible_contradicts}
use Rattle.sp_law_formula.proofs.Open.{EqualTruth, open_existential_covers}
use Rattle.sp_law_formula.proofs.OpenNumbers.{open_existential_numbered}

either : (a b : Bool) → (a ≡ true → ⊥) → (b ≡ true → ⊥) → (a || b) ≡ true → ⊥
either a b first second k = ⊎_elim first second (or_cases a b k)

-- one case after another
pub covers_then : (theory : Theory) (s t : System) (cs : List System) → s.next ≤ t.next → Covers theory s (t ∷ []) → Covers theory t cs → Covers theory s cs
covers_then theory s t cs le a b = record {
  covers = λ log is v h none. a.covers log is v h ((λ w ag k. b.covers log is w k (moved log v w ag cs none)), tt);
}
  where
    moved : (log : Log) (v w : Valuation) → Agrees s.next v w → (cs : List System) → NoneSolved theory log v s.next cs → NoneSolved theory log w t.next cs
    moved log v w ag [] none = tt
    moved log v w ag (c ∷ cs) none = ((λ x b k. none.0 x (agrees_then s.next t.next v w x le ag b) k), moved log v w ag cs none.1)

pub covers_itself : (theory : Theory) (s : System) → Covers theory s (s ∷ [])
covers_itself theory s = covers_by_itself theory s s (λ log is v h. h)

module _ (N : Names) (right : UnifierIsRight) (theory : Theory) (suits : SuitsProofs theory) (equal_truth : EqualTruth) where
  abbrev good : HaveNormalForms (signature_of theory).equations
  good = suits.instances.forms.normal_forms

  -- what settles a learn in the rules of the theory does so by its symbols
  settled_by : (rules : Rules) → rules ≡ rules_of theory → (s t : System) → settle_learn rules.signature.symbols s ≡ Some t → settle_learn (signature_of theory).symbols s ≡ Some t
  settled_by rules of s t e = subst (λ (x : Rules). settle_learn x.signature.symbols s ≡ Some t) of e

  row_numbered : (rules : Rules) → rules ≡ rules_of theory → (row : Row) (s t : System) → by_row rules row s ≡ Some t → IsNumbered N s → IsNumbered N t × (s.next ≤ t.next)
  row_numbered rules of row_split s t e n = split_numbered s t e n
  row_numbered rules of row_open s t e n = open_existential_numbered s t e n
  row_numbered rules of row_equate s t e n = equate_numbered N right s t e n
  row_numbered rules of row_unequal s t e n = unequal_row_numbered s t e n
  row_numbered rules of row_order s t e n = in_order_numbered s t e n
  row_numbered rules of row_last s t e n = sets_last_numbered N right s t e n
  row_numbered rules of row_action_stands s t e n = action_stands_numbered s t e n
  row_numbered rules of row_disjunction s t e n = disjunction_numbered s t e n
  row_numbered rules of row_send_input s t e n = send_input_numbered s t e n
  row_numbered rules of row_send_learnt s t e n = send_learnt_numbered s t e n
  row_numbered rules of row_learn_once s t e n = learn_once_numbered N right theory s t e n
  row_numbered rules of row_linear_once s t e n = linear_once_numbered N right theory s t e n
  row_numbered rules of row_fresh_once s t e n = fresh_once_numbered N right theory s t e n
  row_numbered rules of row_settle_learn s t e n = settle_learn_numbered theory s t (settled_by rules of s t e) n
  row_numbered rules of row_fresh_first s t e n = fresh_first_numbered s t e n
  row_numbered rules of row_instantiate s t e n = instantiate_numbered s t e n

  -- where fresh comes first, no two events learn one message
  row_covers : (rules : Rules) → rules ≡ rules_of theory → (row : Row) (s t : System) → by_row rules row s ≡ Some t → IsNumbered N s → (row ≡ row_fresh_first → learn_once s ≡ None) → Covers theory s (t ∷ [])
  row_covers rules of row_split s t e n once = split_covers theory s t e
  row_covers rules of row_open s t e n once = open_existential_covers N theory good suits.instances.forms.keeps equal_truth s t e n
  row_covers rules of row_equate s t e n once = equate_covers N right theory good s t e n
  row_covers rules of row_unequal s t e n once = unequal_covers theory s t e
  row_covers rules of row_order s t e n once = in_order_covers theory s t e
  row_covers rules of row_last s t e n once = sets_last_covers N right theory s t e n
  row_covers rules of row_action_stands s t e n once = action_stands_covers theory s t e
  row_covers rules of row_disjunction s t e n once = disjunction_covers theory s t e
  row_covers rules of row_send_input s t e n once = send_input_covers s t e n theory suits.reserved
  row_covers rules of row_send_learnt s t e n once = send_learnt_covers s t e n theory
  row_covers rules of row_learn_once s t e n once = learn_once_covers N right theory s t e n
  row_covers rules of row_linear_once s t e n once = linear_once_covers N right theory s t e n
  row_covers rules of row_fresh_once s t e n once = fresh_once_covers N right theory s t e n
  row_covers rules of row_settle_learn s t e n once = settle_learn_covers theory s t (settled_by rules of s t e) n
  row_covers rules of row_fresh_first s t e n once = fresh_first_covers N right theory suits.instances suits.shown suits.bound suits.fresh s t e (once refl) n
  row_covers rules of row_instantiate s t e n once = instantiate_covers theory suits.instances s t e n

  -- where a unification or a merge fails that a row is to make
  fails_nowhere : (rules : Rules) → rules ≡ rules_of theory → (s : System) → IsNumbered N s → (log : Log) → IsLog theory log → (v : Valuation) → Solves theory log v s → fails_somewhere s ≡ true → ⊥
  fails_nowhere rules of s n log is v h e =
      either (fails_to_equate s s.formulas) _ (λ k. some_fails_contradicts N right theory good s n log v h s.formulas n.formulas k h.formulas)
      (λ a. either (fails_to_last s s.formulas) _ (λ k. some_last_fails_contradicts N right theory s n log v h s.formulas n.formulas k h.formulas)
      (λ b. either (fails_to_learn s) _ (λ k. learning_contradicts N right theory s k n log is v h)
      (λ c. either (fails_to_link s) (fails_to_merge s) (λ k. links_contradict N right theory s n log is v h k)
      (λ k. merge_contradicts N right theory s k n log is v h) c) b) a) e

  -- each contradiction
  contradicts : (rules : Rules) → rules ≡ rules_of theory → (s : System) → IsNumbered N s → (log : Log) → IsLog theory log → (v : Valuation) → Solves theory log v s
      → (c : Contradiction) → by_contradiction rules s c ≡ true → ⊥
  contradicts rules of s n log is v h false_formula k = some_falsity_contradicts theory log v s.formulas k h.formulas
  contradicts rules of s n log is v h equal_unequal_pair k = equal_pair_contradicts theory v s.unequal k h.unequal
  contradicts rules of s n log is v h refuted_literal k = some_refuted_contradicts log v s.order h.order theory s.formulas k h.formulas
  contradicts rules of s n log is v h cyclic_order k = cyclic_contradicts log v s.order h.order k
  contradicts rules of s n log is v h source_used_twice k =
      either (some_two (used_twice s.events) s.links) (takes_fr_twice s.events) (λ l. used_twice_contradicts theory log is v s l h) (λ l. fr_twice_contradicts theory log is v s.events l h.events) k
  contradicts rules of s n log is v h learnt_too_early k = early_contradicts theory log is v s h k
  contradicts rules of s n log is v h reducible_term k =
      reducible_contradicts theory good log is v (λ x. (h.sorts x).0) s.events (subst (λ (x : Rules). has_reducible x.signature.equations s.events ≡ true) of k) h.events
  contradicts rules of s n log is v h failing_row k = fails_nowhere rules of s n log is v h k
  contradicts rules of s n log is v h time_after_last k = later_contradicts log v s.last h.last s.order h.order k
  contradicts rules of s n log is v h refuted_last k = some_last_refuted_contradicts log v theory s.last h.last s.formulas k h.formulas
  contradicts rules of s n log is v h last_in_closed k = unlast_contradicts log v theory s h k

  pub no_solution : (rules : Rules) → rules ≡ rules_of theory → (s : System) → is_contradictory rules s ≡ true → IsNumbered N s → HasNoSolution theory s
  no_solution rules of s e n log is v h = none (by_contradiction rules s) (contradicts rules of s n log is v h) contradictions e
    where
      none : {A : Type 0} (test : A → Bool) → ((x : A) → test x ≡ true → ⊥) → (xs : List A) → list_any test xs ≡ true → ⊥
      none test each [] e = cc
      none test each (x ∷ xs) e = either (test x) (list_any test xs) (each x) (λ k. none test each xs k) e

-- ---- rows in their turn

-- a row of the one kind stands in the list before all of the other
abbrev stands_before : (Row → Bool) → (Row → Bool) → List Row → Bool
stands_before first second [] = false
stands_before first second (x ∷ xs) = if second x then false else first x || stands_before first second xs

-- so it does however the list is divided at one of the other
before_it : (first second : Row → Bool) (y : Row) → second y ≡ true → (earlier later : List Row) → stands_before first second (earlier ++ y ∷ later) ≡ true
    → (x : Row) × Member x earlier × (first x ≡ true)
before_it first second y is [] later e = at (second y) is e
  where
    at : (b : Bool) → b ≡ true → (if b then false else first y || stands_before first second later) ≡ true → (x : Row) × Member x [] × (first x ≡ true)
    at true k l = absurd cc
    at false k l = absurd cc
before_it first second y is (z ∷ earlier) later e = at (second z) e (λ k. before_it first second y is earlier later k)
  where
    at : (b : Bool) → (if b then false else first z || stands_before first second (earlier ++ y ∷ later)) ≡ true
        → (stands_before first second (earlier ++ y ∷ later) ≡ true → (x : Row) × Member x earlier × (first x ≡ true)) → (x : Row) × Member x (z ∷ earlier) × (first x ≡ true)
    at true l again = absurd cc
    at false l again =
        ⊎_elim (λ k. (z, inl refl, k)) (λ k. let r = again k in (r.0, inr r.1, r.2)) (or_cases (first z) (stands_before first second (earlier ++ y ∷ later)) l)

abbrev is_learn_once : Row → Bool
is_learn_once row_learn_once = true
is_learn_once row = false

abbrev is_fresh_first : Row → Bool
is_fresh_first row_fresh_first = true
is_fresh_first row = false

it_is_learn_once : (row : Row) → is_learn_once row ≡ true → row ≡ row_learn_once
it_is_learn_once row_learn_once e = refl
it_is_learn_once row e = absurd cc

-- each of the rows that give nothing
gives_nothing : (rules : Rules) (s : System) (earlier : List Row) → by_rows rules earlier s ≡ None → (row : Row) → Member row earlier → by_row rules row s ≡ None
gives_nothing rules s [] e row m = absurd m
gives_nothing rules s (r ∷ earlier) e row m = at (by_row rules r s) refl e m (λ k l. gives_nothing rules s earlier k row l)
  where
    at : (o : Option System) → by_row rules r s ≡ o → first_of o (by_rows rules earlier s) ≡ None → Member row (r ∷ earlier)
        → (by_rows rules earlier s ≡ None → Member row earlier → by_row rules row s ≡ None) → by_row rules row s ≡ None
    at (Some t) h k place later = absurd cc
    at None h k (inl same) later = subst (λ (x : Row). by_row rules x s ≡ None) same h
    at None h k (inr place) later = later k place

-- when fresh comes first, learn once gives nothing
learnt_once_by_then : (rules : Rules) (s : System) (row : Row) (t : System) → IsTurn rules s row t → row ≡ row_fresh_first → learn_once s ≡ None
learnt_once_by_then rules s row t turn is =
    let place : rows ≡ turn.earlier ++ row_fresh_first ∷ turn.later = subst (λ (x : Row). rows ≡ turn.earlier ++ x ∷ turn.later) is turn.place in
    let found = before_it is_learn_once is_fresh_first row_fresh_first refl turn.earlier turn.later (subst (λ (xs : List Row). stands_before is_learn_once is_fresh_first xs ≡ true) place refl) in
    gives_nothing rules s turn.earlier turn.nothing row_learn_once (subst (λ (x : Row). Member x turn.earlier) (it_is_learn_once found.0 found.2) found.1)

module _ (right : UnifierIsRight) (theory : Theory) (suits : SuitsProofs theory) (equal_truth : EqualTruth) where
  pub rows_cover : RowsCover theory
  rows_cover = record {
    kept = λ context is_of row s t turn made.
        let r = row_numbered (names_in context.public_names) right theory suits equal_truth context.rules is_of.rules row s t turn.gives made.numbered in
        record { well_made = record { numbered = r.0; once = row_once context.rules row s t turn.gives made.numbered made.once }; next = r.1 };
    covers = λ context is_of row s t turn made.
        row_covers (names_in context.public_names) right theory suits equal_truth context.rules is_of.rules row s t turn.gives made.numbered (learnt_once_by_then context.rules s row t turn);
  }

  pub contradictions_hold : ContradictionsHold theory
  contradictions_hold = record {
    no_solution = λ context is_of s e made.
        no_solution (names_in context.public_names) right theory suits equal_truth context.rules is_of.rules s e made.numbered;
  }

-- rows that give nothing, and one more
nothing_more : (rules : Rules) (earlier : List Row) (row : Row) (s : System) → by_rows rules earlier s ≡ None → by_row rules row s ≡ None → by_rows rules (earlier ++ row ∷ []) s ≡ None
nothing_more rules [] row s e k = ap (λ (o : Option System). first_of o None) k
nothing_more rules (r ∷ earlier) row s e k = at (by_row rules r s) refl e (λ l. nothing_more rules earlier row s l k)
  where
    at : (o : Option System) → by_row rules r s ≡ o → first_of o (by_rows rules earlier s) ≡ None → (by_rows rules earlier s ≡ None → by_rows rules (earlier ++ row ∷ []) s ≡ None)
        → first_of o (by_rows rules (earlier ++ row ∷ []) s) ≡ None
    at (Some t) h l later = absurd cc
    at None h l later = later l

-- the turn of the first row that applies, with the rows that have been tried by then
turn_from : (rules : Rules) (s t : System) → is_contradictory rules s ≡ false → (earlier list : List Row) → rows ≡ earlier ++ list → by_rows rules earlier s ≡ None → by_rows rules list s ≡ Some t → (row : Row) × IsTurn rules s row t
turn_from rules s t quiet earlier [] place nothing e = absurd cc
turn_from rules s t quiet earlier (row ∷ list) place nothing e =
    at (by_row rules row s) refl e (λ k l. turn_from rules s t quiet (earlier ++ row ∷ []) list (place ∙ sym (append_assoc earlier (row ∷ []) list)) (nothing_more rules earlier row s nothing k) l)
  where
    at : (o : Option System) → by_row rules row s ≡ o → first_of o (by_rows rules list s) ≡ Some t → (by_row rules row s ≡ None → by_rows rules list s ≡ Some t → (r : Row) × IsTurn rules s r t) → (r : Row) × IsTurn rules s r t
    at (Some u) h k later =
        let g : u ≡ t = cc in
        (row, record { quiet = quiet; earlier = earlier; later = list; place = place; nothing = nothing; gives = h ∙ ap (λ (x : System). Some x) g })
    at None h k later = later h k

module _ (theory : Theory) (covering : RowsCover theory) (context : Context) (is_of : IsContextOf theory context) where
  abbrev Follows : System → System → Type 0
  Follows s t = IsKept context s t × Covers theory s (t ∷ [])

  stays : (s : System) → IsWellMade context s → Follows s s
  stays s made = (record { well_made = made; next = le_refl s.next }, covers_itself theory s)

  pub simplified_follows : (fuel : ℕ) (s : System) → IsWellMade context s → Follows s (simplified_by context.rules fuel s)
  unfolding simplified_by
  simplified_follows zero s made = stays s made
  simplified_follows (suc fuel) s made = at (is_contradictory context.rules s) (by_rows context.rules rows s) refl refl (λ t k. simplified_follows fuel t k)
    where
      at : (b : Bool) (o : Option System) → is_contradictory context.rules s ≡ b → by_rows context.rules rows s ≡ o → ((t : System) → IsWellMade context t → Follows t (simplified_by context.rules fuel t)) → Follows s (goes_on b o (simplified_by context.rules fuel) s)
      at true o quiet h later = stays s made
      at false None quiet h later = stays s made
      at false (Some t) quiet h later =
          let turn = turn_from context.rules s t quiet [] rows refl refl h in
          let kept = covering.kept context is_of turn.0 s t turn.1 made in
          let g = later t kept.well_made in (
            record { well_made = g.0.well_made; next = le_trans kept.next g.0.next },
            covers_then theory s t (simplified_by context.rules fuel t ∷ []) kept.next (covering.covers context is_of turn.0 s t turn.1 made) g.1,
          )
