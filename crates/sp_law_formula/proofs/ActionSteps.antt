-- The cases of an action one by one: their systems without names, those at an event, and a new step by a form.
use Rattle.std.proofs.Common.{◌≡◌, ◌<◌, ◌+◌, ℕ, suc, List, [], ◌∷◌, ◌++◌, Option, Some, None, option_map, option_and_then, refl, sym, ap, ◌∙◌, subst, inl, inr, arith, codes, decimal}
use Rattle.sp_spec.specs.Lists.{Member, Every, AtPosition}
use Rattle.sp_spec.specs.Term.{Names, Variable, var, Values, AllMadeOf}
use Rattle.sp_spec.specs.Signature.{IsValue, IsValuation}
use Rattle.sp_spec.specs.Equal.{IsNormal}
use Rattle.sp_spec.specs.Rule.{Action, Facts, action_at, facts_at, FactsMadeOf}
use Rattle.sp_spec.specs.Theory.{Theory, signature_of}
use Rattle.sp_spec.specs.Log.{Log, step, Source}
use Rattle.sp_spec.specs.Substitution.{Binding, bound_to}
use Rattle.sp_spec.specs.Unifier.{mgu}
use Rattle.sp_spec_system.specs.System.{rule_step, System, Event, with_events, with_next}
use Rattle.sp_spec_system.specs.Solutions.{Valuation, HappensIn, Solves}
use Rattle.sp_spec_system.specs.Numbered.{InEvent, IsNumbered}
use Rattle.sp_spec_system.specs.Covering.{Agrees, NoneSolved}
use Rattle.sp_law_system.specs.Laws.{UnifierIsRight}
use Rattle.sp_spec_system.specs.Equating.{action_pair, unifier_of, system_changed}
use Rattle.sp_spec.proofs.Lists.{every_append, every_parts}
use Rattle.sp_law_system.proofs.Facts.{facts_same, facts_at-facts_at}
use Rattle.sp_law_equal.proofs.Made.{facts_valued, facts_weaken}
use Rattle.sp_law_system.proofs.Merging.{Paired, action_paired}
use Rattle.sp_law_system.proofs.Solutions.{Under, TimeUnder, agree_solves, change_solves}
use Rattle.sp_spec_system.specs.Move.{Case, systems_in}
use Rattle.sp_spec_system.specs.Cases.{where_same, case_if, renamed, system_if, numbered, named}
use Rattle.sp_spec_formula.specs.Action.{at_event, with_step, by_actions}
use Rattle.sp_law_formula.proofs.Entries.{beside, beside_agrees, beside_new, each_beside}
use Rattle.sp_spec_forms.specs.Numbering.{Form}
use Rattle.sp_law_system.specs.Rules.{IsNumberedForm}
use Rattle.sp_law_system.proofs.With.{events_solve, found_behind, next_solves, events_numbered, next_numbered}

-- the systems of named cases are those that were named
numbered_systems : (name : List ℕ) (k : ℕ) (ss : List System) → systems_in (numbered name k ss) ≡ ss
numbered_systems name k [] = refl
numbered_systems name k (s ∷ ss) = ap (λ (xs : List System). s ∷ xs) (numbered_systems name (suc k) ss)

pub named_systems : (name : List ℕ) (ss : List System) → systems_in (named name ss) ≡ ss
named_systems name [] = refl
named_systems name (s ∷ []) = refl
named_systems name (s ∷ t ∷ ss) = numbered_systems name 1 (s ∷ t ∷ ss)

pub systems_append : (xs ys : List Case) → systems_in (xs ++ ys) ≡ systems_in xs ++ systems_in ys
systems_append [] ys = refl
systems_append (x ∷ xs) ys = ap (λ (r : List System). x.system ∷ r) (systems_append xs ys)

pub case_systems : (name : List ℕ) (o : Option System) → systems_in (case_if name o) ≡ system_if o
case_systems name None = refl
case_systems name (Some s) = refl

-- the cases at an event, without their names
pub at_event_systems : (s : System) (a : Action Variable) (n : ℕ) (bs : List (Action Variable)) → systems_in (at_event s a n bs) ≡ by_actions s a bs
at_event_systems s a n [] = refl
at_event_systems s a n (b ∷ bs) =
    systems_append (case_if (codes "at_" ++ decimal n) (where_same s a b)) (at_event s a (suc n) bs)
    ∙ ap (λ (xs : List System). xs ++ systems_in (at_event s a (suc n) bs)) (case_systems (codes "at_" ++ decimal n) (where_same s a b))
    ∙ ap (λ (xs : List System). system_if (where_same s a b) ++ xs) (at_event_systems s a (suc n) bs)

module _ (N : Names) (right : UnifierIsRight) (theory : Theory) (log : Log) where
  -- the values of an instance of one action of a list solve the case for it
  pub by_actions_solved : (s : System) (base : ℕ) (v w : Valuation) → Agrees base v w → IsNumbered N s → Solves theory log w s → (a : Action Variable) (bs : List (Action Variable))
      → AllMadeOf N (Under s.next) a.args → Every (λ (b : Action Variable). AllMadeOf N (Under s.next) b.args) bs
      → (b : Action Variable) → Member b bs → action_at w.terms a ≡ action_at w.terms b → NoneSolved theory log v base (by_actions s a bs) → ⊥
  by_actions_solved s base v w ag n h a [] ia ib b m e none = m
  by_actions_solved s base v w ag n h a (c ∷ bs) ia ib b (inr m) e none =
      by_actions_solved s base v w ag n h a bs ia ib.1 b m e (every_parts _ (system_if (where_same s a c)) (by_actions s a bs) none).1
  by_actions_solved s base v w ag n h a (c ∷ bs) ia ib b (inl m) e none =
      let same : action_at w.terms a ≡ action_at w.terms c = e ∙ ap (action_at w.terms) (sym m) in
      let p = action_paired w.terms s.next a c ia ib.0 same in
      at p (unifier_of (action_pair a c)) refl (every_parts _ (system_if (where_same s a c)) (by_actions s a bs) none).0
    where
      at : Paired N w.terms s.next (action_pair a c) → (o : Option (List Binding)) → unifier_of (action_pair a c) ≡ o
          → NoneSolved theory log v base (system_if (option_map (λ bs. system_changed (bound_to bs) (λ i. i) s) o)) → ⊥
      at p None k l = right.none p.pairs (sym (ap (option_and_then mgu) p.there) ∙ k) w.terms (λ x. (h.sorts x).0) p.same
      at p (Some bindings) k l =
          let there : mgu p.pairs ≡ Some bindings = sym (ap (option_and_then mgu) p.there) ∙ k in
          let fixes = right.fixes p.pairs bindings there w.terms (λ x. (h.sorts x).0) p.same in
          l.0 w ag (change_solves N theory log w bindings fixes (λ i. i) (λ i. refl) s n h)

-- a form's facts with new variables have the values that were given to these
pub renamed_value : (N : Names) (next : ℕ) (form : Form) → IsNumberedForm N form → (v : Valuation) (w : Values) → facts_at (beside next v w).terms (renamed next form.facts) ≡ facts_at w form.facts
renamed_value N next form form_under v w =
    facts_at-facts_at (λ x. var (record { sort = x.sort; number = next + x.number })) (beside next v w).terms form.facts
    ∙ facts_same N _ w form.facts (facts_weaken N _ _ (λ x k. beside_new next v w x) form.facts form_under)

-- a new step by a form of a rule
module _ (N : Names) (theory : Theory) (s : System) (name : List ℕ) (form : Form) (i : ℕ) (i_under : i < s.next) (form_under : IsNumberedForm N form) where
  renamed_under : FactsMadeOf N (Under (s.next + form.count)) (renamed s.next form.facts)
  renamed_under = facts_valued N (λ x. x.number < form.count) (Under (s.next + form.count)) _ (λ x h. omega (arith, h)) form.facts form_under

  pub step_numbered : IsNumbered N s → IsNumbered N (with_step s i name form)
  step_numbered n =
      let next = s.next + form.count in
      let event : Event = record { time = i; happening = rule_step name (renamed s.next form.facts) } in
      let m = next_numbered s n next (omega arith) in
      let time : i < next = omega (arith, i_under) in
      events_numbered (with_next s next) m (s.events ++ event ∷ []) (every_append (InEvent N (Under next) (TimeUnder next)) s.events (event ∷ []) m.events ((time, renamed_under), tt))

  module _ (log : Log) (v : Valuation) (h : Solves theory log v s) (n : IsNumbered N s) (w : Values) (sorts : IsValuation (signature_of theory) w) (are_normal : (x : Variable) → IsNormal (signature_of theory).equations (w x))
      (sources : List Source) (there : AtPosition log (v.times i) (step name (facts_at w form.facts) sources)) where
    pub step_solved : Solves theory log (beside s.next v w) (with_step s i name form)
    step_solved =
        let a = beside_agrees s.next v w in
        let old = agree_solves theory log s v (beside s.next v w) n a
        (each_beside s.next v w (λ sort t. IsNormal (signature_of theory).equations t) h.normal are_normal) (each_beside s.next v w (IsValue (signature_of theory)) h.sorts sorts) h in
        let here : AtPosition log ((beside s.next v w).times i) (step name (facts_at (beside s.next v w).terms (renamed s.next form.facts)) sources) =
        subst (λ (f : Facts ⊥). AtPosition log ((beside s.next v w).times i) (step name f sources)) (sym (renamed_value N s.next form form_under v w))
        (subst (λ (p : ℕ). AtPosition log p (step name (facts_at w form.facts) sources)) (sym (a.times i i_under)) there) in
        let event : Event = record { time = i; happening = rule_step name (renamed s.next form.facts) } in
        let events = every_append (HappensIn log (beside s.next v w)) s.events (event ∷ []) old.events ((sources, here), tt) in
        next_solves theory log (beside s.next v w) (with_events s (s.events ++ event ∷ [])) (events_solve theory log (beside s.next v w) s old (s.events ++ event ∷ []) (found_behind (beside s.next v w) s.events (event ∷ [])) events) (s.next + form.count)
