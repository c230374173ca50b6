-- The move on a system that may have more events than it names: each position of the log is an event's, or what stands at one of them is a new event.
use Rattle.std.proofs.Common.{◌≡◌, ◌⊎◌, ◌<◌, ◌+◌, nat_eq, ℕ, suc, Bool, true, false, if◌then◌else◌, List, [], ◌∷◌, ◌++◌, map, length, Some, None, codes, refl, sym, ap, ◌∙◌, subst, inl, inr, arith, le_refl, ⊎_elim}
use Rattle.std.proofs.lemmas.Bool.{eqb-true, eqb-false}
use Rattle.std.proofs.Math.Arith.{lt_of_le-ne}
use Rattle.sp_spec.specs.Lists.{Every, Member, AtPosition}
use Rattle.sp_spec.specs.Term.{Names, Msg, Variable, none, more, Ground, Values}
use Rattle.sp_spec.specs.Signature.{Equation, Symbol, msg, AreOver, IsValue, IsValuation}
use Rattle.sp_spec.specs.Equal.{IsNormal, AreNormal}
use Rattle.sp_spec.specs.Rule.{Facts, sends, learns, facts_at}
use Rattle.sp_spec.specs.Theory.{Theory, signature_of}
use Rattle.sp_spec.specs.Guarded.{Guarded}
use Rattle.sp_spec.specs.Log.{Log, Entry, Source, step, send, learn, IsLog}
use Rattle.sp_spec.proofs.Lists.{every_append, every_parts, every_map, every_from, every_all, every_weaken, every_member, member_map, position_below}
use Rattle.sp_spec.proofs.Options.{some_same}
use Rattle.sp_law_equal.specs.RightTheory.{HasNormalInstances}
use Rattle.sp_law_equal.proofs.Made.{facts_valued}
use Rattle.sp_spec_forms.specs.Numbering.{Form}
use Rattle.sp_spec_forms.specs.Forms.{RuleForms, forms_of}
use Rattle.sp_spec_system.specs.System.{anyhow, Happening, rule_step, sending, learning, Event, System, with_formulas, with_next, with_closed}
use Rattle.sp_spec_system.specs.Solutions.{Valuation, HappensAt, HappensIn, FormulaHolds, AreAll, Solves}
use Rattle.sp_spec_system.specs.Numbered.{names_in, InFormula, InHappening, InEvent, HappenOnce, IsNumbered}
use Rattle.sp_spec_system.specs.Covering.{Agrees, NoneSolved, Covers}
use Rattle.sp_spec_system.specs.Cases.{renamed, named}
use Rattle.sp_spec_system.specs.Move.{Case, Context, systems_in}
use Rattle.sp_spec_formula.specs.Top.{of_number}
use Rattle.sp_spec_graph.specs.More.{apart_from, with_another, another_step, each_step, more_cases}
use Rattle.sp_law_system.specs.Rules.{IsNumberedForm, FormsAreNumbered, FormsAreWhole}
use Rattle.sp_law_system.specs.Proofs.{IsWellMade, IsKept}
use Rattle.sp_law_system.proofs.Solutions.{Under, TimeUnder, agrees_itself, agrees_then, agree_solves}
use Rattle.sp_law_system.proofs.With.{formulas_solve, next_solves, events_numbered, formulas_numbered, next_numbered}
use Rattle.sp_law_formula.proofs.ActionSteps.{named_systems, systems_append, renamed_value}
use Rattle.sp_law_formula.proofs.Entries.{happened, entry_is_step, form_step, numbered_form, beside, beside_agrees, each_beside}
use Rattle.sp_law_formula.proofs.Learnt.{entry_normal, entry_over}
use Rattle.sp_law_formula.proofs.Merged.{Later}
use Rattle.sp_law_formula.proofs.Once.{new_time_once}
use Rattle.sp_law_graph.proofs.Waiting.{timed, timed_agrees, timed_new, timed_solves}
use Rattle.sp_law_graph.proofs.Once.{IsOnce}
use Rattle.sp_law_know.proofs.Learning.{event_solved}
use Rattle.sp_law_progress.proofs.Kept.{each_kept}
use Rattle.sp_law_progress.proofs.NewValues.{new_value, argument_over, argument_normal, of_arguments, each_of_arguments}

-- ---- a new event, at a time apart from those of the events

module _ (s : System) where
  abbrev apart : List Guarded
  apart = s.formulas ++ map (apart_from s.next) s.events

  -- before it happens
  abbrev awaited : System
  awaited = with_next (with_formulas s apart) (suc s.next)

module _ {N : Names} (s : System) (n : IsNumbered N s) where
  apart_numbered : (limit : ℕ) → s.next < limit → IsNumbered N (with_formulas (with_next s limit) (apart s))
  apart_numbered limit new =
      let In : Guarded → Type 0 = InFormula N (Under limit) (TimeUnder limit) in
      let m = next_numbered s n limit (omega (arith, new)) in
      formulas_numbered (with_next s limit) m (apart s)
      (every_append In s.formulas (map (apart_from s.next) s.events) m.formulas
      (every_map (InEvent N (Under limit) (TimeUnder limit)) In (apart_from s.next) (λ e u. (new, u.0)) s.events m.events))

  another_numbered : (h : Happening) (c : ℕ) → InHappening N (Under (suc s.next + c)) (TimeUnder (suc s.next + c)) h → Later N s.next (with_another s h c)
  another_numbered h c inside =
      let limit = suc s.next + c in
      let new : s.next < limit = omega arith in
      let event : Event = record { time = s.next; happening = h } in
      let m = apart_numbered limit new in (
        events_numbered (with_formulas (with_next s limit) (apart s)) m (s.events ++ event ∷ [])
            (every_append (InEvent N (Under limit) (TimeUnder limit)) s.events (event ∷ []) m.events ((new, inside), tt)),
        omega arith,
      )

  another_once : (h : Happening) (c : ℕ) → HappenOnce s.events → IsOnce (with_another s h c)
  another_once h c once = new_time_once s n s.next (le_refl s.next) h once

  -- where no event is at that position of the log
  module _ (theory : Theory) (log : Log) (v : Valuation) (h : Solves theory log v s) (q : ℕ) (below : q < length log) (unnamed : (e : Event) → Member e s.events → v.times e.time ≡ q → ⊥) where
    abbrev at_new : Valuation
    at_new = timed s.next q v

    told_apart : (e : Event) → Member e s.events → FormulaHolds theory log at_new (apart_from s.next e)
    told_apart e m =
        let under = (every_member (InEvent N (Under s.next) (TimeUnder s.next)) s.events e m n.events).0 in
        let new : at_new.times s.next ≡ q = timed_new s.next q v in
        let old : at_new.times e.time ≡ v.times e.time = (timed_agrees s.next q v).times e.time under in
        let d = happened log (v.times e.time) v e.happening (every_member (HappensIn log v) s.events e m h.events) in
        let there : v.times e.time < length log = position_below log (v.times e.time) d.0 d.1 in (
          (λ one. one (λ is. unnamed e m (sym old ∙ sym is ∙ new))),
          (subst (λ (p : ℕ). p < length log) (sym new) below, subst (λ (p : ℕ). p < length log) (sym old) there),
        )

    awaited_solved : Solves theory log at_new (awaited s)
    awaited_solved =
        let Holds : Guarded → Type 0 = FormulaHolds theory log at_new in
        let old = timed_solves theory log s v q n h in
        let events = every_map (λ (e : Event). Holds (apart_from s.next e)) Holds (apart_from s.next) (λ e k. k) s.events (every_from _ s.events told_apart) in
        next_solves theory log at_new (with_formulas s (apart s))
        (formulas_solve theory log at_new s old (apart s) (every_append Holds s.formulas (map (apart_from s.next) s.events) old.formulas events)) (suc s.next)

    module _ (u : Values) (sorts : IsValuation (signature_of theory) u) (are_normal : (y : Variable) → IsNormal (signature_of theory).equations (u y)) where
      abbrev value : Valuation
      value = beside (suc s.next) at_new u

      value_agrees : Agrees s.next v value
      value_agrees = agrees_then s.next (suc s.next) v at_new value (omega arith) (timed_agrees s.next q v) (beside_agrees (suc s.next) at_new u)

      another_solved : (x : Happening) (c : ℕ) → HappensAt log q value x → Solves theory log value (with_another s x c)
      another_solved x c here =
          let new : s.next < suc s.next = omega arith in
          let reach = beside_agrees (suc s.next) at_new u in
          let first = awaited_solved in
          let old = agree_solves theory log (awaited s) at_new value (apart_numbered (suc s.next) new) reach
          (each_beside (suc s.next) at_new u (λ sort g. IsNormal (signature_of theory).equations g) first.normal are_normal)
          (each_beside (suc s.next) at_new u (IsValue (signature_of theory)) first.sorts sorts) first in
          let time : value.times s.next ≡ q = reach.times s.next new ∙ timed_new s.next q v in
          let base = next_solves theory log value (awaited s) old s.next in
          next_solves theory log value _ (event_solved (with_formulas s (apart s)) x theory log value base (subst (λ (p : ℕ). HappensAt log p value x) (sym time) here)) (suc s.next + c)

-- ---- the cases of the rules

abbrev step_system : System → RuleForms → Form → System
step_system s rule form = another_step s rule.name form

-- what holds of a step by each form of each rule holds of each case
each_step_every : (P : System → Type 0) (s : System) (rules : List RuleForms) → Every (λ (rule : RuleForms). Every (λ (form : Form). P (step_system s rule form)) rule.forms) rules → Every P (systems_in (each_step rules s))
each_step_every P s [] h = tt
each_step_every P s (rule ∷ rules) h =
    let own = map (another_step s rule.name) rule.forms in
    subst (Every P) (sym (systems_append (named rule.name own) (each_step rules s)))
    (every_append P (systems_in (named rule.name own)) (systems_in (each_step rules s))
    (subst (Every P) (sym (named_systems rule.name own)) (every_map (λ (form : Form). P (step_system s rule form)) P (another_step s rule.name) (λ form k. k) rule.forms h.0))
    (each_step_every P s rules h.1))

-- and what holds of each case holds of the step by one of them
each_step_part : (P : System → Type 0) (s : System) (rules : List RuleForms) → Every P (systems_in (each_step rules s)) → (rule : RuleForms) → Member rule rules → (form : Form)
    → Member form rule.forms → P (step_system s rule form)
each_step_part P s [] h rule m form k = absurd m
each_step_part P s (r ∷ rules) h rule m form k =
    at m (every_parts P (systems_in (named r.name own)) (systems_in (each_step rules s)) (subst (Every P) (systems_append (named r.name own) (each_step rules s)) h))
    (λ l i. each_step_part P s rules l rule i form k)
  where
    own : List System
    own = map (another_step s r.name) r.forms

    of_rule : (z : RuleForms) → Member form z.forms → Every P (systems_in (named z.name (map (another_step s z.name) z.forms))) → P (step_system s z form)
    of_rule z i l =
        every_member P (map (another_step s z.name) z.forms) (step_system s z form) (member_map (another_step s z.name) form z.forms i)
        (subst (Every P) (named_systems z.name (map (another_step s z.name) z.forms)) l)

    at : Member rule (r ∷ rules) → Every P (systems_in (named r.name own)) × Every P (systems_in (each_step rules s))
        → (Every P (systems_in (each_step rules s)) → Member rule rules → P (step_system s rule form)) → P (step_system s rule form)
    at (inl g) parts later = of_rule rule k (subst (λ (z : RuleForms). Every P (systems_in (named z.name (map (another_step s z.name) z.forms)))) g parts.0)
    at (inr i) parts later = later parts.1 i

-- ---- the move

-- what the adversary does
abbrev sent_or_learnt : System → List Case
sent_or_learnt s =
    record { name = codes "Send"; system = with_another s (sending (msg (suc s.next))) 1 }
    ∷ record { name = codes "Learn"; system = with_another s (learning (msg (suc s.next)) anyhow) 1 } ∷ []

-- its cases
abbrev opened : List RuleForms → System → List Case
opened rules s = record { name = codes "closed"; system = with_closed s true } ∷ (each_step rules s ++ sent_or_learnt s)

is_open : (rules : List RuleForms) (s : System) (cs : List Case) → more_cases rules s ≡ Some cs → cs ≡ opened rules s
is_open rules s cs e = at s.closed e
  where
    at : (b : Bool) → (if b then None else Some (opened rules s)) ≡ Some cs → cs ≡ opened rules s
    at true k = absurd cc
    at false k = some_same (opened rules s) cs k

module _ (rules : List RuleForms) (s : System) (cs : List Case) (e : more_cases rules s ≡ Some cs) where
  -- what holds of each kind of case holds of all
  each_more : (P : System → Type 0) → P (with_closed s true) → Every (λ (rule : RuleForms). Every (λ (form : Form). P (step_system s rule form)) rule.forms) rules
      → P (with_another s (sending (msg (suc s.next))) 1) → P (with_another s (learning (msg (suc s.next)) anyhow) 1) → Every P (systems_in cs)
  each_more P closed steps sent learnt =
      subst (λ (x : List Case). Every P (systems_in x)) (sym (is_open rules s cs e)) (
        closed,
        subst (Every P) (sym (systems_append (each_step rules s) (sent_or_learnt s)))
            (every_append P (systems_in (each_step rules s)) (systems_in (sent_or_learnt s)) (each_step_every P s rules steps) (sent, (learnt, tt))),
      )

  -- no two events of a case have one time
  pub more_once : {N : Names} → IsNumbered N s → HappenOnce s.events → Every IsOnce (systems_in cs)
  more_once n once =
      let each : (rule : RuleForms) → Every (λ (form : Form). IsOnce (step_system s rule form)) rule.forms =
      λ rule. every_all _ (λ form. another_once s n (rule_step rule.name (renamed (suc s.next) form.facts)) form.count once) rule.forms in
      each_more IsOnce once (every_all _ each rules) (another_once s n (sending (msg (suc s.next))) 1 once) (another_once s n (learning (msg (suc s.next)) anyhow) 1 once)

  -- its cases keep the numbers
  pub more_numbered : {N : Names} → IsNumbered N s → FormsAreNumbered N rules → Every (Later N s.next) (systems_in cs)
  more_numbered {N} n k =
      let stays : IsNumbered N (with_closed s true) =
      record { events = n.events; formulas = n.formulas; spent = n.spent; unequal = n.unequal; links = n.links; order = n.order; last = n.last } in
      let by_form : (rule : RuleForms) (form : Form) → IsNumberedForm N form → Later N s.next (step_system s rule form) =
      λ rule form under. another_numbered s n (rule_step rule.name (renamed (suc s.next) form.facts)) form.count
      (facts_valued N (λ x. x.number < form.count) (Under (suc s.next + form.count)) _ (λ x l. omega (arith, l)) form.facts under) in
      let message : suc s.next < suc s.next + 1 = omega arith in
      each_more (Later N s.next) (stays, le_refl s.next) (every_weaken _ _ (λ rule under. every_weaken (IsNumberedForm N) _ (by_form rule) rule.forms under) rules k)
      (another_numbered s n (sending (msg (suc s.next))) 1 message) (another_numbered s n (learning (msg (suc s.next)) anyhow) 1 (message, tt))

  -- The move keeps what systems of a proof fulfil.
  pub more_kept : (context : Context) → FormsAreNumbered (names_in context.public_names) rules → IsWellMade context s → Every (IsKept context s) (systems_in cs)
  more_kept context k made = each_kept context s (systems_in cs) (more_numbered made.numbered k) (more_once made.numbered made.once)

-- ---- it covers

-- an event is at the position
abbrev HasEvent : Valuation → List Event → ℕ → Type 0
HasEvent v es p = (e : Event) × Member e es × (v.times e.time ≡ p)

abbrev HasNone : Valuation → List Event → ℕ → Type 0
HasNone v es p = (e : Event) → Member e es → v.times e.time ≡ p → ⊥

event_or_none : (v : Valuation) (es : List Event) (p : ℕ) → HasEvent v es p ⊎ HasNone v es p
event_or_none v [] p = inr (λ e m l. m)
event_or_none v (d ∷ es) p = at (nat_eq (v.times d.time) p) refl (event_or_none v es p)
  where
    at : (b : Bool) → nat_eq (v.times d.time) p ≡ b → HasEvent v es p ⊎ HasNone v es p → HasEvent v (d ∷ es) p ⊎ HasNone v (d ∷ es) p
    at true k later = inl (d, inl refl, eqb-true (v.times d.time) p k)
    at false k (inl r) = inl (r.0, inr r.1, r.2)
    at false k (inr unnamed) =
        let other = eqb-false (v.times d.time) p k in
        inr (λ e m l. ⊎_elim (λ g. other (ap (λ (x : Event). v.times x.time) g ∙ l)) (λ i. unnamed e i l) m)

-- what holds at the position of each element holds of each position
each_position : {A : Type 0} (P : ℕ → Type 0) (xs : List A) → ((p : ℕ) (x : A) → AtPosition xs p x → P p) → (p : ℕ) → p < length xs → P p
each_position P [] h p l = absurd (omega (arith, l))
each_position P (x ∷ xs) h p l = at (nat_eq p (length xs)) refl (each_position P xs (λ q y k. h q y (inr k)) p)
  where
    at : (b : Bool) → nat_eq p (length xs) ≡ b → (p < length xs → P p) → P p
    at true k later = h p x (inl (eqb-true p (length xs) k, refl))
    at false k later = let other = eqb-false p (length xs) k in later (lt_of_le-ne (omega (arith, l)) other)

-- where nothing happens but its events
closed_solves : (theory : Theory) (log : Log) (v : Valuation) (s : System) → Solves theory log v s → AreAll log v s.events → Solves theory log v (with_closed s true)
closed_solves theory log v s h all = record { sorts = h.sorts; normal = h.normal; events = h.events; formulas = h.formulas; spent = h.spent; unequal = h.unequal; links = h.links; order = h.order; last = h.last; closed = λ c. all }

module _ (N : Names) (theory : Theory) (instances : HasNormalInstances theory) (forms_numbered : FormsAreNumbered N (map (forms_of (signature_of theory).equations) theory.rules)) (forms_whole : FormsAreWhole theory) where
  abbrev es : List Equation
  es = (signature_of theory).equations

  abbrev symbols : List Symbol
  symbols = (signature_of theory).symbols

  abbrev rules : List RuleForms
  rules = map (forms_of es) theory.rules

  module _ (s : System) (n : IsNumbered N s) (log : Log) (is : IsLog theory log) (v : Valuation) (h : Solves theory log v s) where
    abbrev NoneOf : System → Type 0
    NoneOf t = (w : Valuation) → Agrees s.next v w → Solves theory log w t → ⊥

    module _ (q : ℕ) (below : q < length log) (unnamed : HasNone v s.events q) where
      -- by a message that stands there
      by_message : (t : Ground) → AreNormal es (more t none) → AreOver symbols (more t none) → (x : Happening) → ((w : Valuation) → w.terms (of_number Msg (suc s.next)) ≡ t → HappensAt log q w x)
          → NoneOf (with_another s x 1) → ⊥
      by_message t normal over x happens none_solved =
          let ts = more t none in
          let u = of_arguments ts v.terms in
          let sorts = each_of_arguments (IsValue (signature_of theory)) ts v.terms (λ i. (tt, argument_over symbols ts over i)) h.sorts in
          let are_normal = each_of_arguments (λ z g. IsNormal es g) ts v.terms (argument_normal es ts normal) h.normal in
          let w = beside (suc s.next) (timed s.next q v) u in
          none_solved w (value_agrees s n theory log v h q below unnamed u sorts are_normal)
          (another_solved s n theory log v h q below unnamed u sorts are_normal x 1 (happens w (new_value (suc s.next) (timed s.next q v) u Msg 0 (suc s.next) (omega arith))))

      -- by a form of the entry's rule
      by_step : (r : List ℕ) (facts : Facts ⊥) (sources : List Source) → AtPosition log q (step r facts sources) → Every NoneOf (systems_in (each_step rules s)) → ⊥
      by_step r facts sources there none_solved =
          let of = form_step theory instances.forms.normal_forms forms_whole r facts (entry_is_step theory log is q r facts sources there) in
          let form = of.form in
          let name = of.rule.name in
          let form_under = numbered_form N es theory.rules forms_numbered of.rule of.member form of.among in
          let w = beside (suc s.next) (timed s.next q v) of.values in
          let same_facts : facts ≡ facts_at w.terms (renamed (suc s.next) form.facts) = of.is ∙ sym (renamed_value N (suc s.next) form form_under (timed s.next q v) of.values) in
          let here : AtPosition log q (step name (facts_at w.terms (renamed (suc s.next) form.facts)) sources) =
          subst (λ (g : Facts ⊥). AtPosition log q (step name g sources)) same_facts (subst (λ (o : List ℕ). AtPosition log q (step o facts sources)) (sym of.named) there) in
          each_step_part NoneOf s rules none_solved (forms_of es of.rule) (member_map (forms_of es) of.rule theory.rules of.member) form of.among w
          (value_agrees s n theory log v h q below unnamed of.values of.sorts of.normal)
          (another_solved s n theory log v h q below unnamed of.values of.sorts of.normal (rule_step name (renamed (suc s.next) form.facts)) form.count (sources, here))

      by_entry : (e : Entry) → AtPosition log q e → Every NoneOf (systems_in (each_step rules s)) → Every NoneOf (systems_in (sent_or_learnt s)) → ⊥
      by_entry (step r facts sources) there steps others = by_step r facts sources there steps
      by_entry (send t) there steps others =
          by_message t (entry_normal theory log is q (send t) there (sends t) (inl refl)) (entry_over theory instances log is q (send t) there (sends t) (inl refl)) (sending (msg (suc s.next)))
          (λ w e. subst (λ (g : Ground). AtPosition log q (send g)) (sym e) there) others.0
      by_entry (learn t how) there steps others =
          by_message t (entry_normal theory log is q (learn t how) there (learns t) (inl refl)) (entry_over theory instances log is q (learn t how) there (learns t) (inl refl)) (learning (msg (suc s.next)) anyhow)
          (λ w e. (how, subst (λ (g : Ground). AtPosition log q (learn g how)) (sym e) there, tt)) others.1.0

    -- each position is an event's
    all_named : Every NoneOf (systems_in (each_step rules s)) → Every NoneOf (systems_in (sent_or_learnt s)) → AreAll log v s.events
    all_named steps others = each_position (HasEvent v s.events) log (λ p d there. at p d there (event_or_none v s.events p))
      where
        at : (p : ℕ) (d : Entry) → AtPosition log p d → HasEvent v s.events p ⊎ HasNone v s.events p → HasEvent v s.events p
        at p d there (inl named_there) = named_there
        at p d there (inr unnamed) = absurd (by_entry p (position_below log p d there) unnamed d there steps others)

  -- It covers.
  pub more_covers : (s : System) → IsNumbered N s → (cs : List Case) → more_cases rules s ≡ Some cs → Covers theory s (systems_in cs)
  more_covers s n cs e = record {
    covers = λ log is v h none_solved.
        let given = subst (λ (x : List Case). NoneSolved theory log v s.next (systems_in x)) (is_open rules s cs e) none_solved in
        let steps = systems_in (each_step rules s) in
        let others = systems_in (sent_or_learnt s) in
        let parts = every_parts _ steps others (subst (NoneSolved theory log v s.next) (systems_append (each_step rules s) (sent_or_learnt s)) given.1) in
        given.0 v (agrees_itself s.next v) (closed_solves theory log v s h (all_named s n log is v h parts.0 parts.1));
  }
