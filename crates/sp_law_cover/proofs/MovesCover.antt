-- Each move covers, with its cases simplified.
use Rattle.std.proofs.Common.{◌≡◌, ◌≤◌, ◌<◌, ◌+◌, ℕ, Bool, true, false, if◌then◌else◌, List, [], ◌∷◌, map, Option, Some, None, option_map, is_some, refl, sym, subst, arith, le_refl, le_trans, slice_get, ◌++◌, length}
use Rattle.sp_spec.specs.Lists.{Every}
use Rattle.sp_spec.specs.Term.{Names, fresh_name, Variable, AllMadeOf}
use Rattle.sp_spec.specs.Rule.{Action}
use Rattle.sp_spec.specs.Signature.{Equation}
use Rattle.sp_spec.specs.Destruction.{destructions}
use Rattle.sp_spec.specs.Equal.{AreNormal}
use Rattle.sp_spec.specs.Theory.{Theory, signature_of}
use Rattle.sp_spec.specs.Truth.{Acts}
use Rattle.sp_spec.specs.Guarded.{Place, Guarded, action_in}
use Rattle.sp_spec.specs.Log.{Log, IsLog, log_trace}
use Rattle.sp_spec.specs.Substitution.{Binding, bound_to}
use Rattle.sp_law_equal.specs.NormalForms.{HaveNormalForms}
use Rattle.sp_spec_system.specs.System.{Event, System, happening_actions}
use Rattle.sp_spec_system.specs.Solutions.{Valuation, assignment, FormulaHolds, Solves}
use Rattle.sp_spec_system.specs.Numbered.{names_in, InEvent, InFormula, IsNumbered, HappenOnce}
use Rattle.sp_spec_system.specs.Covering.{NoneSolved, Covers}
use Rattle.sp_law_system.specs.Laws.{UnifierIsRight}
use Rattle.sp_spec_system.specs.Equating.{action_pair, unifier_of, system_changed}
use Rattle.sp_spec.proofs.Lists.{every_append, every_parts, every_weaken, every_member, every_at}
use Rattle.sp_law_equal.proofs.Made.{each_weaken_all}
use Rattle.sp_law_log.proofs.Entries.{past_is_log}
use Rattle.sp_law_system.proofs.Numbers.{happening_made}
use Rattle.sp_law_system.proofs.Merging.{action_under}
use Rattle.sp_law_system.proofs.Solutions.{Under, TimeUnder, agrees_then, change_numbered}
use Rattle.sp_spec_system.specs.Formulas.{freed_action}
use Rattle.sp_spec_system.specs.MakingOne.{event_at}
use Rattle.sp_spec_proof.specs.Rows.{has_place, is_contradictory, simplified}
use Rattle.sp_spec_system.specs.Move.{Move, simplify, contradiction, unproved, solved, or, action, premise, know, chain, induction, compare, top, same, more_events, finish, root_system, Context, Case, end_log, systems_in}
use Rattle.sp_spec_system.specs.Cases.{where_same, renamed, system_if, named}
use Rattle.sp_spec_formula.specs.Action.{with_step, by_actions, by_each, at_each, action_cases, solving_action, by_forms, by_adversary}
use Rattle.sp_spec_graph.specs.Premise.{open_premise, premise_cases}
use Rattle.sp_spec_know.specs.Know.{know_cases}
use Rattle.sp_spec_know.specs.Chain.{chain_cases}
use Rattle.sp_spec_formula.specs.Top.{top_cases}
use Rattle.sp_spec_graph.specs.More.{more_cases}
use Rattle.sp_spec_proof.specs.Finish.{is_decided}
use Rattle.sp_spec_formula.specs.Induction.{root_induction, induction_cases}
use Rattle.sp_spec_formula.proofs.Roots.{IsAtRoot, only_at_root}
use Rattle.sp_spec_proof.specs.Cases.{raw_cases, simple_case, cases}
use Rattle.sp_law_system.specs.Rules.{SuitsProofs, RulesAreNumbered, IsNumberedForm, FormsAreNumbered, FormsAreWhole}
use Rattle.sp_law_system.specs.Proofs.{IsWellMade, IsKept, IsPast}
use Rattle.sp_law_cover.specs.Admitted.{Admits, CoversBelow}
use Rattle.sp_law_cover.specs.Contexts.{IsContextOf}
use Rattle.sp_law_cover.specs.Laws.{MovesCover}
use Rattle.sp_law_formula.proofs.Freed.{freed_action_in}
use Rattle.sp_spec.proofs.Options.{mapped, if_some}
use Rattle.sp_law_formula.proofs.Merged.{unifier_within, Later}
use Rattle.sp_law_formula.proofs.Open.{EqualTruth}
use Rattle.sp_law_formula.proofs.Or.{or_covers, or_numbered}
use Rattle.sp_law_formula.proofs.AtEach.{at_each_numbered, at_each_solved}
use Rattle.sp_law_formula.proofs.ByAdversary.{adversary_numbered}
use Rattle.sp_law_formula.proofs.ActionSteps.{named_systems, systems_append, at_event_systems, step_numbered}
use Rattle.sp_law_formula.proofs.Action.{event_found, at_event_solved, new_event_solved}
use Rattle.sp_law_graph.proofs.Premise.{premise_numbered, premise_covers}
use Rattle.sp_law_graph.proofs.Once.{IsOnce}
use Rattle.sp_law_progress.proofs.Compare.{compare_numbered, compare_covers}
use Rattle.sp_law_progress.proofs.Top.{top_numbered, top_covers}
use Rattle.sp_law_progress.proofs.Same.{same_numbered, same_covers}
use Rattle.sp_law_progress.proofs.More.{more_numbered, more_covers}
use Rattle.sp_law_know.proofs.Know.{know_numbered, know_covers}
use Rattle.sp_law_know.proofs.Chain.{chain_numbered, chain_covers}
use Rattle.sp_law_cover.proofs.SolvedAction.{SolvesAction, at_place}
use Rattle.sp_law_cover.proofs.Once.{if_none, raw_once}
use Rattle.sp_law_cover.proofs.Finish.{nothing_is_sought}
use Rattle.sp_law_cover.proofs.Simplifying.{no_solution, rows_cover, simplified_follows, covers_itself}
use Rattle.sp_spec_forms.specs.Numbering.{Form}
use Rattle.sp_spec_forms.specs.Forms.{RuleForms, forms_of}
use Rattle.sp_spec_system.specs.Rules.{Rules, rules_of}
use Rattle.sp_law_forms.proofs.Whole.{forms_whole, forms_numbered}

module _ (N : Names) (right : UnifierIsRight) where
  by_actions_numbered : (base : ℕ) (s : System) → base ≤ s.next → IsNumbered N s → (a : Action Variable) (bs : List (Action Variable)) → AllMadeOf N (Under s.next) a.args
      → Every (λ (b : Action Variable). AllMadeOf N (Under s.next) b.args) bs → Every (Later N base) (by_actions s a bs)
  by_actions_numbered base s le n a [] ia ib = tt
  by_actions_numbered base s le n a (b ∷ bs) ia ib =
      every_append (Later N base) (system_if (where_same s a b)) (by_actions s a bs) (at (unifier_of (action_pair a b)) refl) (by_actions_numbered base s le n a bs ia ib.1)
    where
      at : (o : Option (List Binding)) → unifier_of (action_pair a b) ≡ o → Every (Later N base) (system_if (option_map (λ bindings. system_changed (bound_to bindings) (λ i. i) s) o))
      at None e = tt
      at (Some bindings) e =
          ((change_numbered N s.next bindings (unifier_within N right s.next (action_pair a b) bindings e (action_under N s.next a b ia ib.0)) (λ i. i) (λ i h. h) s refl n, le), tt)

-- a log is what it was by now, and what covers over all logs does so over admitted ones
goes_below : (theory : Theory) (context : Context) (s : System) (cs : List System) → Covers theory s cs → CoversBelow theory context s cs
goes_below theory context s cs c = record { below = λ log is admitted v h none. c.covers log is v h (each log admitted v cs none) }
  where
    each : (log : Log) → Admits theory context log → (v : Valuation) (cs : List System)
        → Every (λ (c : System). (past : Log) → IsPast past log → Admits theory context past → (w : Valuation) → Solves theory past w c → ⊥) cs → NoneSolved theory log v s.next cs
    each log admitted v [] none = tt
    each log admitted v (c ∷ cs) none = ((λ w agrees h. none.0 log ([], refl) admitted w h), each log admitted v cs none.1)

-- what holds of the systems of cases
pub every_system : (P : System → Type 0) (cs : List Case) → Every P (systems_in cs) → Every (λ (c : Case). P c.system) cs
every_system P [] h = tt
every_system P (c ∷ cs) h = (h.0, every_system P cs h.1)

module _ (context : Context) (right : UnifierIsRight) (theory : Theory) (suits : SuitsProofs theory) (rules_numbered : RulesAreNumbered (names_in context.public_names) theory.rules) (equal_truth : EqualTruth) where
  abbrev names : Names
  names = names_in context.public_names

  abbrev es : List Equation
  es = (signature_of theory).equations

  abbrev good : HaveNormalForms es
  good = suits.instances.forms.normal_forms

  abbrev whole : FormsAreWhole theory
  whole = forms_whole theory suits.instances

  abbrev each_numbered : FormsAreNumbered names (map (forms_of es) theory.rules)
  each_numbered = forms_numbered names theory suits.instances.forms rules_numbered

  forms_numbered_by : (name : List ℕ) (forms : List Form) → Every (IsNumberedForm names) forms → (s : System) → IsNumbered names s → (i : ℕ) → i < s.next → (a : Action Variable) → AllMadeOf names (Under s.next) a.args
      → Every (Later names s.next) (by_forms name forms s i a)
  forms_numbered_by name [] k s n i iu a au = tt
  forms_numbered_by name (form ∷ forms) k s n i iu a au =
      let cs = by_actions (with_step s i name form) a (renamed s.next form.facts).actions in
      let num = step_numbered names theory s name form i iu k.0 n in
      let own = (every_parts _ s.events (_ ∷ []) num.events).1.0.1.actions in
      let wide : AllMadeOf names (Under (with_step s i name form).next) a.args = each_weaken_all names (Under s.next) (Under (s.next + form.count)) (λ x h. omega (arith, h)) a.args au in
      every_append (Later names s.next) cs (by_forms name forms s i a)
      (by_actions_numbered names right s.next (with_step s i name form) (omega arith) num a (renamed s.next form.facts).actions wide own) (forms_numbered_by name forms k.1 s n i iu a au)

  by_each_numbered : (rules : List RuleForms) → FormsAreNumbered names rules → (s : System) → IsNumbered names s → (i : ℕ) → i < s.next → (a : Action Variable) → AllMadeOf names (Under s.next) a.args
      → Every (Later names s.next) (systems_in (by_each rules s i a))
  by_each_numbered [] k s n i iu a au = tt
  by_each_numbered (rule ∷ rules) k s n i iu a au =
      let own = by_forms rule.name rule.forms s i a in
      subst (Every (Later names s.next)) (sym (systems_append (named rule.name own) (by_each rules s i a)))
      (every_append (Later names s.next) (systems_in (named rule.name own)) (systems_in (by_each rules s i a))
      (subst (Every (Later names s.next)) (sym (named_systems rule.name own)) (forms_numbered_by rule.name rule.forms k.0 s n i iu a au)) (by_each_numbered rules k.1 s n i iu a au))

  abbrev forms : List RuleForms
  forms = map (forms_of es) theory.rules

  -- the parts of the action that is solved
  action_in_system : (s : System) (n : IsNumbered names s) (k : ℕ) (f : Guarded) (cs : List Case) → slice_get s.formulas k ≡ Some f → (r : SolvesAction forms s f cs) → (r.time < s.next) × AllMadeOf names (Under s.next) r.terms.args
  action_in_system s n k f cs e r =
      let i = subst (InFormula names (Under s.next) (TimeUnder s.next)) r.is_action (every_at _ s.formulas k f e n.formulas) in
      (i.1, freed_action_in names (Under s.next) r.atom r.terms r.freed i.0)

  cases_numbered : (s : System) → IsNumbered names s → (i : ℕ) → i < s.next → (a : Action Variable) → AllMadeOf names (Under s.next) a.args → (o : Option Event) → event_at i s.events ≡ o
      → Every (Later names s.next) (systems_in (action_cases forms s i a o))
  cases_numbered s n i iu a au None e = at s.closed
    where
      at : (b : Bool) → Every (Later names s.next) (systems_in (if b then at_each s i s.events else by_each forms s i a ++ by_adversary s i a.symbol a.args))
      at true = at_each_numbered right s n i iu s.events n.events
      at false =
          let steps = by_each forms s i a in
          let adversary = by_adversary s i a.symbol a.args in
          subst (Every (Later names s.next)) (sym (systems_append steps adversary))
          (every_append (Later names s.next) (systems_in steps) (systems_in adversary) (by_each_numbered forms each_numbered s n i iu a au) (adversary_numbered names s n i iu a.symbol a.args au))
  cases_numbered s n i iu a au (Some d) e =
      let found = event_found i s.events d e in
      let inside = (every_member (InEvent names (Under s.next) (TimeUnder s.next)) s.events d found.0 n.events).1 in
      subst (Every (Later names s.next)) (sym (at_event_systems s a 0 (happening_actions d.happening)))
      (by_actions_numbered names right s.next s (le_refl s.next) n a (happening_actions d.happening) au (happening_made names (Under s.next) (TimeUnder s.next) d.happening inside).actions)

  action_numbered : (s : System) → IsNumbered names s → (k : ℕ) (cs : List Case) → solving_action forms s (slice_get s.formulas k) ≡ Some cs → Every (Later names s.next) (systems_in cs)
  action_numbered s n k cs e =
      let p = at_place forms s k cs e in
      let r = p.2 in
      let i = action_in_system s n k p.0 cs p.1 r in
      subst (λ (x : List Case). Every (Later names s.next) (systems_in x)) (sym r.cases) (cases_numbered s n r.time i.0 r.terms i.1 (event_at r.time s.events) refl)

  action_covers : (s : System) → IsNumbered names s → (k : ℕ) (cs : List Case) → solving_action forms s (slice_get s.formulas k) ≡ Some cs → Covers theory s (systems_in cs)
  action_covers s n k cs e =
      let p = at_place forms s k cs e in
      let r = p.2 in
      let i = action_in_system s n k p.0 cs p.1 r in
      record {
        covers = λ log is v h none.
            let f = subst (FormulaHolds theory log v) r.is_action (every_at _ s.formulas k p.0 p.1 h.formulas) in
            f.0 (λ y. acting s n r.atom r.terms r.freed r.time i.0 i.1 log is v h f.1.1 f.1.0.0 y (event_at r.time s.events) refl (subst (λ (x : List Case). NoneSolved theory log v s.next (systems_in x)) r.cases none));
      }
    where
      acting : (s : System) (n : IsNumbered names s) (f : Action Place) (a : Action Variable) (freed : freed_action f ≡ Some a) (i : ℕ) (i_under : i < s.next) (a_under : AllMadeOf names (Under s.next) a.args)
          (log : Log) (is : IsLog theory log) (v : Valuation) (h : Solves theory log v s) → v.times i < length log
          → AreNormal (signature_of theory).equations (action_in (assignment v) f).args → Acts (signature_of theory).equations (log_trace log) (v.times i) (action_in (assignment v) f)
          → (o : Option Event) → event_at i s.events ≡ o → NoneSolved theory log v s.next (systems_in (action_cases forms s i a o)) → ⊥
      acting s n f a freed i iu au log is v h there normal_f y None e none = at s.closed refl none
        where
          at : (b : Bool) → s.closed ≡ b → NoneSolved theory log v s.next (systems_in (if b then at_each s i s.events else by_each forms s i a ++ by_adversary s i a.symbol a.args)) → ⊥
          at true k none = at_each_solved right s n i iu theory log v h k there none
          at false k none = new_event_solved names right theory good each_numbered whole s n f a freed i iu au log is v h y.2 y.0 y.1 y.3 normal_f y.4 none
      acting s n f a freed i iu au log is v h there normal_f y (Some d) e none =
          let found = event_found i s.events d e in
          at_event_solved names right theory good each_numbered whole s n f a freed i iu au log is v h d found.0 found.1 y.2 (v.times i) refl y.0 y.1 y.3 normal_f y.4
          (subst (NoneSolved theory log v s.next) (at_event_systems s a 0 (happening_actions d.happening)) none)

  by_rules : context.rules ≡ rules_of theory → (s : System) (k : ℕ) (cs : List Case) → solving_action context.rules.forms s (slice_get s.formulas k) ≡ Some cs
      → solving_action forms s (slice_get s.formulas k) ≡ Some cs
  by_rules r s k cs e = subst (λ (rules : Rules). solving_action rules.forms s (slice_get s.formulas k) ≡ Some cs) r e

  by_premise_rules : context.rules ≡ rules_of theory → (s : System) (i p : ℕ) (cs : List Case) → premise_cases context.rules.forms s i p (open_premise s i p) ≡ Some cs
      → premise_cases forms s i p (open_premise s i p) ≡ Some cs
  by_premise_rules r s i p cs e = subst (λ (rules : Rules). premise_cases rules.forms s i p (open_premise s i p) ≡ Some cs) r e

  by_know_rules : context.rules ≡ rules_of theory → (s : System) (i : ℕ) (cs : List Case) → know_cases context.rules s i ≡ Some cs
      → know_cases (rules_of theory) s i ≡ Some cs
  by_know_rules r s i cs e = subst (λ (rules : Rules). know_cases rules s i ≡ Some cs) r e

  by_chain_rules : context.rules ≡ rules_of theory → (s : System) (i : ℕ) (cs : List Case)
      → chain_cases (destructions context.rules.signature) s i ≡ Some cs → chain_cases (destructions (signature_of theory)) s i ≡ Some cs
  by_chain_rules r s i cs e = subst (λ (rules : Rules). chain_cases (destructions rules.signature) s i ≡ Some cs) r e

  by_top_rules : context.rules ≡ rules_of theory → (s : System) (k : ℕ) (cs : List Case) → top_cases context.rules.signature.symbols s k ≡ Some cs
      → top_cases (signature_of theory).symbols s k ≡ Some cs
  by_top_rules r s k cs e = subst (λ (rules : Rules). top_cases rules.signature.symbols s k ≡ Some cs) r e

  by_more_rules : context.rules ≡ rules_of theory → (s : System) (cs : List Case) → more_cases context.rules.forms s ≡ Some cs → more_cases forms s ≡ Some cs
  by_more_rules r s cs e = subst (λ (rules : Rules). more_cases rules.forms s ≡ Some cs) r e

  -- before the cases are simplified
  raw_numbered : context.rules ≡ rules_of theory → (s : System) (move : Move) (cs : List Case) → raw_cases context s move ≡ Some cs → IsNumbered names s
      → (root_induction context.root s ≡ Some cs → Every (Later names s.next) (systems_in cs)) → Every (Later names s.next) (systems_in cs)
  raw_numbered r s simplify cs e n at_root = at (has_place context.rules s) e
    where
      at : (b : Bool) → (if b then Some (record { name = []; system = s } ∷ []) else None) ≡ Some cs → Every (Later names s.next) (systems_in cs)
      at true k = let one : Case = record { name = []; system = s } in let g : one ∷ [] ≡ cs = cc in subst (λ (x : List Case). Every (Later names s.next) (systems_in x)) g ((n, le_refl s.next), tt)
      at false k = absurd cc
  raw_numbered r s contradiction cs e n at_root = if_none (Later names s.next) cs (is_contradictory context.rules s) e
  raw_numbered r s unproved cs e n at_root = if_none (Later names s.next) cs true e
  raw_numbered r s solved cs e n at_root = if_none (Later names s.next) cs (is_some (end_log context s)) e
  raw_numbered r s (or k) cs e n at_root = or_numbered s n k cs e
  raw_numbered r s (action k) cs e n at_root = action_numbered s n k cs (by_rules r s k cs e)
  raw_numbered r s (premise i p) cs e n at_root = premise_numbered names right theory good each_numbered whole s n i p cs (by_premise_rules r s i p cs e)
  raw_numbered r s (know i) cs e n at_root = know_numbered names theory good each_numbered whole s n i cs (by_know_rules r s i cs e)
  raw_numbered r s (chain i) cs e n at_root = chain_numbered names right theory suits.instances s n i cs (by_chain_rules r s i cs e)
  raw_numbered r s induction cs e n at_root = at_root e
  raw_numbered r s (compare i j) cs e n at_root = compare_numbered s i j cs e n
  raw_numbered r s (top k) cs e n at_root = top_numbered context.rules.signature.symbols s k cs e n
  raw_numbered r s (same a b) cs e n at_root = same_numbered context.public_names s a b cs e n
  raw_numbered r s more_events cs e n at_root = more_numbered forms s cs (by_more_rules r s cs e) n each_numbered
  raw_numbered r s finish cs e n at_root = if_none (Later names s.next) cs (is_decided context s) e
  raw_numbered r s move cs e n at_root = absurd cc

  raw_covers : context.rules ≡ rules_of theory → (s : System) (move : Move) (cs : List Case) → raw_cases context s move ≡ Some cs
      → (move ≡ unproved → ⊥) → (move ≡ solved → ⊥) → (move ≡ induction → ⊥) → (move ≡ finish → ⊥) → IsNumbered names s → ((k : ℕ) → names (fresh_name k) → ⊥) → Covers theory s (systems_in cs)
  raw_covers r s simplify cs e not_open not_end not_begun not_last n no_names = at (has_place context.rules s) e
    where
      at : (b : Bool) → (if b then Some (record { name = []; system = s } ∷ []) else None) ≡ Some cs → Covers theory s (systems_in cs)
      at true k = let one : Case = record { name = []; system = s } in let g : one ∷ [] ≡ cs = cc in subst (λ (x : List Case). Covers theory s (systems_in x)) g (covers_itself theory s)
      at false k = absurd cc
  raw_covers r s contradiction cs e not_open not_end not_begun not_last n no_names = at (is_contradictory context.rules s) refl e
    where
      at : (b : Bool) → is_contradictory context.rules s ≡ b → (if b then Some [] else None) ≡ Some cs → Covers theory s (systems_in cs)
      at true c k = record { covers = λ log is v h none. no_solution names right theory suits equal_truth context.rules r s c n log is v h }
      at false c k = absurd cc
  raw_covers r s unproved cs e not_open not_end not_begun not_last n no_names = absurd (not_open refl)
  raw_covers r s solved cs e not_open not_end not_begun not_last n no_names = absurd (not_end refl)
  raw_covers r s (or k) cs e not_open not_end not_begun not_last n no_names = or_covers theory s k cs e
  raw_covers r s (action k) cs e not_open not_end not_begun not_last n no_names = action_covers s n k cs (by_rules r s k cs e)
  raw_covers r s (premise i p) cs e not_open not_end not_begun not_last n no_names = premise_covers names right theory good each_numbered whole s n i p cs (by_premise_rules r s i p cs e)
  raw_covers r s (know i) cs e not_open not_end not_begun not_last n no_names = know_covers names theory good each_numbered whole no_names s n i cs (by_know_rules r s i cs e)
  raw_covers r s (chain i) cs e not_open not_end not_begun not_last n no_names = chain_covers names right theory suits.instances s n i cs (by_chain_rules r s i cs e)
  raw_covers r s induction cs e not_open not_end not_begun not_last n no_names = absurd (not_begun refl)
  raw_covers r s (compare i j) cs e not_open not_end not_begun not_last n no_names = compare_covers s i j cs e theory
  raw_covers r s (top k) cs e not_open not_end not_begun not_last n no_names = top_covers theory s n k cs (by_top_rules r s k cs e)
  raw_covers r s (same a b) cs e not_open not_end not_begun not_last n no_names = same_covers context.public_names s a b cs e theory
  raw_covers r s more_events cs e not_open not_end not_begun not_last n no_names = more_covers names theory suits.instances each_numbered whole s n cs (by_more_rules r s cs e)
  raw_covers r s finish cs e not_open not_end not_begun not_last n no_names = absurd (not_last refl)
  raw_covers r s move cs e not_open not_end not_begun not_last n no_names = absurd cc

module _ (right : UnifierIsRight) (theory : Theory) (suits : SuitsProofs theory) (equal_truth : EqualTruth) where
  -- the cases, each simplified
  module _ (context : Context) (is_of : IsContextOf theory context) where
    abbrev N : Names
    N = names_in context.public_names

    simple_follows : (s : System) → IsNumbered N s → HappenOnce s.events → IsKept context s (simplified context.rules s) × Covers theory s (simplified context.rules s ∷ [])
    simple_follows s n o = simplified_follows theory (rows_cover right theory suits equal_truth) context is_of 10000 s (record { numbered = n; once = o })

    simple_kept : (s : System) (cs : List Case) → Every (Later N s.next) (systems_in cs) → Every IsOnce (systems_in cs) → Every (IsKept context s) (systems_in (map (simple_case context.rules) cs))
    simple_kept s [] h o = tt
    simple_kept s (c ∷ cs) h o =
        let f = simple_follows c.system h.0.0 o.0 in
        (record { well_made = f.0.well_made; next = le_trans h.0.1 f.0.next }, simple_kept s cs h.1 o.1)

    simple_solved : (log : Log) → IsLog theory log → (n : ℕ) (v : Valuation) (cs : List Case) → Every (Later N n) (systems_in cs) → Every IsOnce (systems_in cs)
        → NoneSolved theory log v n (systems_in (map (simple_case context.rules) cs)) → NoneSolved theory log v n (systems_in cs)
    simple_solved log is n v [] h o none = tt
    simple_solved log is n v (c ∷ cs) h o none =
        let f = simple_follows c.system h.0.0 o.0 in
        ((λ w a k. f.1.covers log is w k ((λ x b l. none.0 x (agrees_then n c.system.next v w x h.0.1 a b) l), tt)), simple_solved log is n v cs h.1 o.1 none.1)

    -- the cases of an induction fulfil what systems of a proof do
    at_root : (s : System) (cs : List Case) → root_induction context.root s ≡ Some cs → Every (Later N s.next) (systems_in cs)
    at_root s cs e = cases_later (only_at_root context.root s cs e)
      where
        cases_later : IsAtRoot context.root s cs → Every (Later N s.next) (systems_in cs)
        cases_later r =
            let kept = is_of.induction.kept r.root r.is_root r.parts r.has_parts in
            let later = every_weaken (IsKept context (root_system r.root)) (Later N (root_system r.root).next) (λ c h. (h.well_made.numbered, h.next)) (systems_in (induction_cases r.parts)) kept in
            subst (λ (t : System). Every (Later N t.next) (systems_in cs)) (sym r.begins)
            (subst (λ (x : List Case). Every (Later N (root_system r.root).next) (systems_in x)) (sym r.cases) later)

    raw_later : (s : System) (move : Move) (cs : List Case) → raw_cases context s move ≡ Some cs → IsWellMade context s → Every (Later N s.next) (systems_in cs)
    raw_later s move cs e made = raw_numbered context right theory suits is_of.numbered equal_truth is_of.rules s move cs e made.numbered (at_root s cs)

    move_kept : (s : System) (move : Move) (cs : List Case) → cases context s move ≡ Some cs → IsWellMade context s → Every (IsKept context s) (systems_in cs)
    move_kept s move cs e made =
        let r = mapped (map (simple_case context.rules)) (raw_cases context s move) cs e in
        subst (λ (x : List Case). Every (IsKept context s) (systems_in x)) (sym r.2)
        (simple_kept s r.0 (raw_later s move r.0 r.1 made) (raw_once context s move r.0 r.1 made.numbered made.once))

    move_covers : (s : System) (move : Move) (cs : List Case) → cases context s move ≡ Some cs → (move ≡ unproved → ⊥) → (move ≡ solved → ⊥) → (move ≡ induction → ⊥) → (move ≡ finish → ⊥) → IsWellMade context s
        → Covers theory s (systems_in cs)
    move_covers s move cs e not_open not_end not_begun not_last made =
        let r = mapped (map (simple_case context.rules)) (raw_cases context s move) cs e in
        let raw = raw_covers context right theory suits is_of.numbered equal_truth is_of.rules s move r.0 r.1 not_open not_end not_begun not_last made.numbered (λ k h. h) in
        let once = raw_once context s move r.0 r.1 made.numbered made.once in
        subst (λ (x : List Case). Covers theory s (systems_in x)) (sym r.2)
        (record { covers = λ log is v h none. raw.covers log is v h (simple_solved log is s.next v r.0 (raw_later s move r.0 r.1 made) once none) })

    -- ---- below

    -- an admitted log of the past doesn't solve the system
    abbrev IsUnsolvedBefore : Log → System → Type 0
    IsUnsolvedBefore log c = (past : Log) → IsPast past log → Admits theory context past → (w : Valuation) → Solves theory past w c → ⊥

    simple_unsolved : (log : Log) → IsLog theory log → (n : ℕ) (cs : List Case) → Every (Later N n) (systems_in cs) → Every IsOnce (systems_in cs)
        → Every (IsUnsolvedBefore log) (systems_in (map (simple_case context.rules) cs)) → Every (IsUnsolvedBefore log) (systems_in cs)
    simple_unsolved log is n [] h o none = tt
    simple_unsolved log is n (c ∷ cs) h o none =
        let f = simple_follows c.system h.0.0 o.0 in (
          λ past by_then admitted w k.
              f.1.covers past (past_is_log theory by_then.0 past (subst (IsLog theory) by_then.1 is)) w k
              ((λ x b l. none.0 past by_then admitted x l), tt),
          simple_unsolved log is n cs h.1 o.1 none.1,
        )

    -- induction goes over to what a log was before
    induction_below : (s : System) (cs : List Case) → cases context s induction ≡ Some cs → IsWellMade context s → CoversBelow theory context s (systems_in cs)
    induction_below s cs e made =
        let r = mapped (map (simple_case context.rules)) (raw_cases context s induction) cs e in
        let at = only_at_root context.root s r.0 r.1 in
        let raw = is_of.induction.covers at.root at.is_root at.parts at.has_parts in
        let here = subst (λ (t : System). CoversBelow theory context t (systems_in r.0)) (sym at.begins)
        (subst (λ (x : List Case). CoversBelow theory context (root_system at.root) (systems_in x)) (sym at.cases) raw) in
        let once = raw_once context s induction r.0 r.1 made.numbered made.once in
        subst (λ (x : List Case). CoversBelow theory context s (systems_in x)) (sym r.2)
        (record { below = λ log is admitted v h none. here.below log is admitted v h (simple_unsolved log is s.next r.0 (raw_later s induction r.0 r.1 made) once none) })

    -- where the search finds nothing, no admitted log solves the system
    finish_below : (s : System) (cs : List Case) → cases context s finish ≡ Some cs → IsWellMade context s → CoversBelow theory context s (systems_in cs)
    finish_below s cs e made =
        let r = mapped (map (simple_case context.rules)) (raw_cases context s finish) cs e in
        let ended = (if_some (is_decided context s) (Some []) r.0 r.1).0 in
        record { below = λ log is admitted v h none. nothing_is_sought theory suits context is_of s ended made log is admitted v h }

    covers_below : (s : System) (move : Move) (cs : List Case) → cases context s move ≡ Some cs → (move ≡ unproved → ⊥) → (move ≡ solved → ⊥) → IsWellMade context s
        → CoversBelow theory context s (systems_in cs)
    covers_below s induction cs e not_open not_end made = induction_below s cs e made
    covers_below s finish cs e not_open not_end made = finish_below s cs e made
    covers_below s move cs e not_open not_end made = goes_below theory context s (systems_in cs) (move_covers s move cs e not_open not_end (λ q. cc) (λ q. cc) made)

  pub moves_cover : MovesCover theory
  moves_cover = record { kept = move_kept; covers = move_covers; covers_below = covers_below }
