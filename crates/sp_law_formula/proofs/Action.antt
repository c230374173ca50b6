-- The move on an action covers: the entry at its time has the action, and it is the event's, or that of a form of some rule.
use Rattle.std.proofs.Common.{◌≡◌, ◌<◌, ◌+◌, ℕ, Bool, true, false, if◌then◌else◌, List, [], ◌∷◌, ◌++◌, map, Some, refl, sym, ap, ◌∙◌, subst, inl, inr, arith, nat_eq}
use Rattle.std.proofs.lemmas.Bool.{eqb-true}
use Rattle.sp_spec.specs.Lists.{Member, AtPosition}
use Rattle.sp_spec.specs.Term.{Names, Variable, AllMadeOf}
use Rattle.sp_spec.specs.Signature.{Equation}
use Rattle.sp_spec.specs.Equal.{AreNormal}
use Rattle.sp_spec.specs.Rule.{Action, Facts, Rule, sends, learns, action_at, facts_at, SameAction}
use Rattle.sp_spec.specs.Theory.{Theory, signature_of}
use Rattle.sp_spec.specs.Guarded.{Place, action_in}
use Rattle.sp_spec.specs.Log.{Log, Entry, Source, step, send, learn, IsLog, log_trace, entry_actions}
use Rattle.sp_law_equal.specs.NormalForms.{HaveNormalForms}
use Rattle.sp_spec_system.specs.System.{rule_step, Event, System, happening_actions}
use Rattle.sp_spec_system.specs.Solutions.{Valuation, assignment, HappensIn, Solves}
use Rattle.sp_spec_system.specs.Numbered.{InEvent, IsNumbered}
use Rattle.sp_spec_system.specs.Covering.{Agrees, NoneSolved}
use Rattle.sp_law_system.specs.Laws.{UnifierIsRight}
use Rattle.sp_spec.proofs.Lists.{every_parts, every_member, member_mapped, position_one, member_map}
use Rattle.sp_law_system.proofs.Facts.{action_same}
use Rattle.sp_law_equal.proofs.Made.{each_weaken_all}
use Rattle.sp_law_system.proofs.Numbers.{happening_made}
use Rattle.sp_law_system.proofs.Solutions.{Under, TimeUnder, agrees_itself}
use Rattle.sp_spec_system.specs.Formulas.{freed_action}
use Rattle.sp_spec_system.specs.MakingOne.{event_at}
use Rattle.sp_spec_system.specs.Move.{Case, systems_in}
use Rattle.sp_spec_system.specs.Cases.{renamed, named}
use Rattle.sp_spec_forms.specs.Numbering.{Form}
use Rattle.sp_spec_forms.specs.Forms.{RuleForms, forms, forms_of}
use Rattle.sp_spec_formula.specs.Action.{with_step, by_actions, by_each, by_adversary, by_forms}
use Rattle.sp_law_system.specs.Rules.{IsNumberedForm, FormsAreNumbered, FormsAreWhole}
use Rattle.sp_law_formula.proofs.ByAdversary.{send_covered, learn_covered}
use Rattle.sp_law_formula.proofs.Freed.{freed_action_value}
use Rattle.sp_law_formula.proofs.Learnt.{entry_normal}
use Rattle.sp_law_formula.proofs.Entries.{traced, happened, entry_is_step, step_action_normal, same_normal_action, IsFormStep, form_step, numbered_form, beside, beside_agrees}
use Rattle.sp_law_formula.proofs.ActionSteps.{named_systems, systems_append, by_actions_solved, renamed_value, step_numbered, step_solved}

pub event_found : (i : ℕ) (es : List Event) (e : Event) → event_at i es ≡ Some e → Member e es × (e.time ≡ i)
event_found i [] e h = absurd cc
event_found i (d ∷ es) e h = at (nat_eq d.time i) refl h (λ k. event_found i es e k)
  where
    at : (b : Bool) → nat_eq d.time i ≡ b → (if b then Some d else event_at i es) ≡ Some e → (event_at i es ≡ Some e → Member e es × (e.time ≡ i)) → Member e (d ∷ es) × (e.time ≡ i)
    at true k l later = let g : d ≡ e = cc in (inl g, ap (λ (x : Event). x.time) (sym g) ∙ eqb-true d.time i k)
    at false k l later = let r = later l in (inr r.0, r.1)

-- the cases of one form are among those of its rule
by_forms_part : (theory : Theory) (log : Log) (v : Valuation) (n : ℕ) (name : List ℕ) (forms : List Form) (s : System) (i : ℕ) (a : Action Variable) (form : Form) → Member form forms
    → NoneSolved theory log v n (by_forms name forms s i a) → NoneSolved theory log v n (by_actions (with_step s i name form) a (renamed s.next form.facts).actions)
by_forms_part theory log v n name [] s i a form m none = absurd m
by_forms_part theory log v n name (q ∷ forms) s i a form m none =
    at m (every_parts _ (by_actions (with_step s i name q) a (renamed s.next q.facts).actions) (by_forms name forms s i a) none) (λ k l. by_forms_part theory log v n name forms s i a form k l)
  where
    at : Member form (q ∷ forms) → NoneSolved theory log v n (by_actions (with_step s i name q) a (renamed s.next q.facts).actions) × NoneSolved theory log v n (by_forms name forms s i a)
        → (Member form forms → NoneSolved theory log v n (by_forms name forms s i a) → NoneSolved theory log v n (by_actions (with_step s i name form) a (renamed s.next form.facts).actions))
        → NoneSolved theory log v n (by_actions (with_step s i name form) a (renamed s.next form.facts).actions)
    at (inl g) parts later = subst (λ (x : Form). NoneSolved theory log v n (by_actions (with_step s i name x) a (renamed s.next x.facts).actions)) g parts.0
    at (inr k) parts later = later k parts.1

-- and those of the rule among those of all
by_each_part : (theory : Theory) (log : Log) (v : Valuation) (n : ℕ) (rules : List RuleForms) (s : System) (i : ℕ) (a : Action Variable) (rule : RuleForms) → Member rule rules
    → NoneSolved theory log v n (systems_in (by_each rules s i a)) → NoneSolved theory log v n (by_forms rule.name rule.forms s i a)
by_each_part theory log v n [] s i a rule m none = absurd m
by_each_part theory log v n (q ∷ rules) s i a rule m none =
    at m (every_parts _ (systems_in (named q.name (by_forms q.name q.forms s i a))) (systems_in (by_each rules s i a))
    (subst (NoneSolved theory log v n) (systems_append (named q.name (by_forms q.name q.forms s i a)) (by_each rules s i a)) none))
    (λ k l. by_each_part theory log v n rules s i a rule k l)
  where
    at : Member rule (q ∷ rules) → NoneSolved theory log v n (systems_in (named q.name (by_forms q.name q.forms s i a))) × NoneSolved theory log v n (systems_in (by_each rules s i a))
        → (Member rule rules → NoneSolved theory log v n (systems_in (by_each rules s i a)) → NoneSolved theory log v n (by_forms rule.name rule.forms s i a)) → NoneSolved theory log v n (by_forms rule.name rule.forms s i a)
    at (inl g) parts later =
        subst (λ (x : RuleForms). NoneSolved theory log v n (by_forms x.name x.forms s i a)) g (subst (NoneSolved theory log v n) (named_systems q.name (by_forms q.name q.forms s i a)) parts.0)
    at (inr k) parts later = later k parts.1

-- the cases of a form of a rule of the theory are among those of all
form_part : (theory : Theory) (log : Log) (v : Valuation) (n : ℕ) (es : List Equation) (rules : List Rule) (s : System) (i : ℕ) (a : Action Variable) (r : Rule) → Member r rules → (form : Form) → Member form (forms es r)
    → NoneSolved theory log v n (systems_in (by_each (map (forms_of es) rules) s i a)) → NoneSolved theory log v n (by_actions (with_step s i r.name form) a (renamed s.next form.facts).actions)
form_part theory log v n es rules s i a r m form k none =
    by_forms_part theory log v n r.name (forms es r) s i a form k (by_each_part theory log v n (map (forms_of es) rules) s i a (forms_of es r) (member_map (forms_of es) r rules m) none)

module _ (N : Names) (right : UnifierIsRight) (theory : Theory) (good : HaveNormalForms (signature_of theory).equations)
    (forms_numbered : FormsAreNumbered N (map (forms_of (signature_of theory).equations) theory.rules)) (forms_whole : FormsAreWhole theory) where
  module _ (s : System) (n : IsNumbered N s) (f : Action Place) (a : Action Variable) (freed : freed_action f ≡ Some a) (i : ℕ) (i_under : i < s.next) (a_under : AllMadeOf N (Under s.next) a.args)
      (log : Log) (is : IsLog theory log) (v : Valuation) (h : Solves theory log v s) where
    -- the action that the log shows
    is_shown : (shown : Action ⊥) → AreNormal (signature_of theory).equations shown.args → AreNormal (signature_of theory).equations (action_in (assignment v) f).args
        → SameAction (signature_of theory).equations (action_in (assignment v) f) shown → action_at v.terms a ≡ shown
    is_shown shown shown_normal normal_f same_f =
        sym (freed_action_value (assignment v) f a freed) ∙ same_normal_action (signature_of theory).equations good (action_in (assignment v) f) shown normal_f shown_normal same_f

    -- at the event's time
    pub at_event_solved : (e : Event) → Member e s.events → e.time ≡ i → (shown : Action ⊥) → (p : ℕ) → p ≡ v.times i → (actions : List (Action ⊥)) → AtPosition (log_trace log) p actions → Member shown actions
        → AreNormal (signature_of theory).equations (action_in (assignment v) f).args → SameAction (signature_of theory).equations (action_in (assignment v) f) shown
        → NoneSolved theory log v s.next (by_actions s a (happening_actions e.happening)) → ⊥
    at_event_solved e member time shown p is_p actions there m normal_f same_f none =
        let entry = traced log p actions there in
        let own_actions = happening_actions e.happening in
        let d = happened log (v.times e.time) v e.happening (every_member (HappensIn log v) s.events e member h.events) in
        let here : AtPosition log p d.0 = subst (λ (q : ℕ). AtPosition log q d.0) (ap v.times time ∙ sym is_p) d.1 in
        let one : entry.0 ≡ d.0 = position_one log p entry.0 d.0 entry.1 here in
        let b = member_mapped (action_at v.terms) shown own_actions (subst (Member shown) (entry.2 ∙ ap entry_actions one ∙ d.2) m) in
        let shown_normal = entry_normal theory log is p entry.0 entry.1 shown (subst (Member shown) entry.2 m) in
        let e2 : action_at v.terms a ≡ action_at v.terms b.0 = is_shown shown shown_normal normal_f same_f ∙ sym b.2 in
        let under = (every_member (InEvent N (Under s.next) (TimeUnder s.next)) s.events e member n.events).1 in
        let made = happening_made N (Under s.next) (TimeUnder s.next) e.happening under in
        by_actions_solved N right theory log s s.next v v (agrees_itself s.next v) n h a own_actions a_under made.actions b.0 b.1 e2 none

    -- by a new step with these values
    by_values_solved : (name : List ℕ) (form : Form) → IsNumberedForm N form → (value : Valuation) → Agrees s.next v value → Solves theory log value (with_step s i name form)
        → (shown : Action ⊥) → Member shown (facts_at value.terms (renamed s.next form.facts)).actions → AreNormal (signature_of theory).equations shown.args
        → AreNormal (signature_of theory).equations (action_in (assignment v) f).args → SameAction (signature_of theory).equations (action_in (assignment v) f) shown
        → NoneSolved theory log v s.next (by_actions (with_step s i name form) a (renamed s.next form.facts).actions) → ⊥
    by_values_solved name form form_under value ag solved shown m shown_normal normal_f same_f none =
        let num = step_numbered N theory s name form i i_under form_under n in
        let b = member_mapped (action_at value.terms) shown (renamed s.next form.facts).actions m in
        let a_same : action_at value.terms a ≡ action_at v.terms a = action_same N value.terms v.terms a (each_weaken_all N (Under s.next) _ ag.terms a.args a_under) in
        let e2 : action_at value.terms a ≡ action_at value.terms b.0 = a_same ∙ is_shown shown shown_normal normal_f same_f ∙ sym b.2 in
        let wide = each_weaken_all N (Under s.next) (Under (s.next + form.count)) (λ x l. omega (arith, l)) a.args a_under in
        let own_actions = (every_parts _ s.events (record { time = i; happening = rule_step name (renamed s.next form.facts) } ∷ []) num.events).1.0.1.actions in
        by_actions_solved N right theory log (with_step s i name form) s.next v value ag num solved a (renamed s.next form.facts).actions wide own_actions b.0 b.1 e2 none

    -- by a form of the entry's rule
    by_form_solved : (r : List ℕ) (facts : Facts ⊥) (sources : List Source) → AtPosition log (v.times i) (step r facts sources) → IsFormStep theory r facts
        → (shown : Action ⊥) → Member shown facts.actions → AreNormal (signature_of theory).equations shown.args
        → AreNormal (signature_of theory).equations (action_in (assignment v) f).args → SameAction (signature_of theory).equations (action_in (assignment v) f) shown
        → NoneSolved theory log v s.next (systems_in (by_each (map (forms_of (signature_of theory).equations) theory.rules) s i a)) → ⊥
    by_form_solved r facts sources k of shown m shown_normal normal_f same_f none =
        let es = (signature_of theory).equations in
        let form = of.form in
        let name = of.rule.name in
        let form_under = numbered_form N es theory.rules forms_numbered of.rule of.member form of.among in
        let here : AtPosition log (v.times i) (step name (facts_at of.values form.facts) sources) =
        subst (λ (g : Facts ⊥). AtPosition log (v.times i) (step name g sources)) of.is (subst (λ (q : List ℕ). AtPosition log (v.times i) (step q facts sources)) (sym of.named) k) in
        let value : Valuation = beside s.next v of.values in
        let facts_same : facts ≡ facts_at value.terms (renamed s.next form.facts) = of.is ∙ sym (renamed_value N s.next form form_under v of.values) in
        by_values_solved name form form_under value (beside_agrees s.next v of.values)
        (step_solved N theory s name form i i_under form_under log v h n of.values of.sorts of.normal sources here)
        shown (subst (λ (g : Facts ⊥). Member shown g.actions) facts_same m) shown_normal normal_f same_f
        (form_part theory log v s.next es theory.rules s i a of.rule of.member form of.among none)

    -- by a new event: a step, or what the adversary does
    pub new_event_solved : (shown : Action ⊥) → (actions : List (Action ⊥)) → AtPosition (log_trace log) (v.times i) actions → Member shown actions
        → AreNormal (signature_of theory).equations (action_in (assignment v) f).args → SameAction (signature_of theory).equations (action_in (assignment v) f) shown
        → NoneSolved theory log v s.next (systems_in (by_each (map (forms_of (signature_of theory).equations) theory.rules) s i a ++ by_adversary s i a.symbol a.args)) → ⊥
    new_event_solved shown actions there m normal_f same_f none =
        at entry.0 entry.1 (subst (Member shown) entry.2 m)
        (every_parts (λ (c : System). _) (systems_in own) (systems_in done) (subst (NoneSolved theory log v s.next) (systems_append own done) none))
      where
        own : List Case
        own = by_each (map (forms_of (signature_of theory).equations) theory.rules) s i a

        done : List Case
        done = by_adversary s i a.symbol a.args

        entry : (e : Entry) × AtPosition log (v.times i) e × (actions ≡ entry_actions e)
        entry = traced log (v.times i) actions there

        -- an entry of this one action
        alone : (b : Action ⊥) (e : Entry) → AtPosition log (v.times i) e → Member shown (entry_actions e) → b ≡ shown → action_at v.terms a ≡ b
        alone b e k l one = is_shown shown (entry_normal theory log is (v.times i) e k shown l) normal_f same_f ∙ sym one

        at : (e : Entry) → AtPosition log (v.times i) e → Member shown (entry_actions e) → NoneSolved theory log v s.next (systems_in own) × NoneSolved theory log v s.next (systems_in done) → ⊥
        at (send t) k (inl l) parts =
            let one = alone (sends t) (send t) k (inl l) l in
            send_covered theory log v s h i a.symbol a.args t (ap (λ (x : Action ⊥). x.symbol) one) (ap (λ (x : Action ⊥). x.args) one) k parts.1
        at (send t) k (inr l) parts = l
        at (learn t how) k (inl l) parts =
            let one = alone (learns t) (learn t how) k (inl l) l in
            learn_covered theory log v s h i a.symbol a.args t how (ap (λ (x : Action ⊥). x.symbol) one) (ap (λ (x : Action ⊥). x.args) one) k parts.1
        at (learn t how) k (inr l) parts = l
        at (step r facts sources) k l parts =
            let is_step = entry_is_step theory log is (v.times i) r facts sources k in
            by_form_solved r facts sources k (form_step theory good forms_whole r facts is_step) shown l (step_action_normal theory r facts is_step shown l) normal_f same_f parts.0
