-- Each row on formulas, and each case of the moves on disjunctions and actions, keeps that no two events have one time.
use Rattle.std.proofs.Common.{◌≡◌, ℕ, suc, Bool, true, false, if◌then◌else◌, nat_eq, List, [], ◌∷◌, ◌++◌, Option, Some, None, option_map, option_and_then, bytes_eq, codes, refl, sym, subst, inl, inr}
use Rattle.std.proofs.lemmas.Bool.{eqb-false}
use Rattle.sp_spec.specs.Lists.{Member, Every}
use Rattle.sp_spec.specs.Term.{Variable, Terms, none, more}
use Rattle.sp_spec.specs.Guarded.{Guardeds, no_more, and_then}
use Rattle.sp_spec.specs.Rule.{Action}
use Rattle.sp_spec.specs.Unifier.{mgu}
use Rattle.sp_spec.proofs.Lists.{every_append, every_all}
use Rattle.sp_spec.proofs.Options.{mapped, then_some}
use Rattle.sp_spec_forms.specs.Numbering.{Form}
use Rattle.sp_spec_forms.specs.Forms.{RuleForms}
use Rattle.sp_spec_system.specs.System.{Happening, rule_step, sending, learning, anyhow, Event, System, happening_actions}
use Rattle.sp_spec_system.specs.Numbered.{HappenOnce}
use Rattle.sp_spec_system.specs.Equating.{action_pair, unifier_of}
use Rattle.sp_spec_system.specs.Formulas.{Found, first_formula, spending}
use Rattle.sp_spec_system.specs.MakingOne.{event_at, made_one}
use Rattle.sp_spec_system.specs.Picked.{first_some}
use Rattle.sp_spec_system.specs.Cases.{where_same, system_if, renamed, named}
use Rattle.sp_spec_system.specs.Move.{Case, systems_in}
use Rattle.sp_spec_formula.specs.Split.{split_of, split}
use Rattle.sp_spec_formula.specs.Open.{existential_of, opened_at, open_existential}
use Rattle.sp_spec_formula.specs.Equate.{Equation, equal_terms, equal_times, equation_of, equated, equate}
use Rattle.sp_spec_formula.specs.Unequal.{inequality_of, unequal_at, unequal}
use Rattle.sp_spec_formula.specs.InOrder.{order_of, ordered_at, in_order}
use Rattle.sp_spec_formula.specs.Last.{Ending, is_last, before_last, ending_of, made_last, ended_by, sets_last}
use Rattle.sp_spec_formula.specs.ActionStands.{standing_of, action_stands}
use Rattle.sp_spec_formula.specs.Disjunction.{instead_of, disjunction}
use Rattle.sp_spec_formula.specs.Instantiate.{new_instance, with_formula, instantiate}
use Rattle.sp_spec_formula.specs.Or.{by_part, disjunction_at, or_cases}
use Rattle.sp_spec_formula.specs.Action.{with_step, by_actions, by_forms, by_each, done_there, by_adversary, at_each, action_cases}
use Rattle.sp_law_formula.proofs.ActionSteps.{named_systems, systems_append, at_event_systems}
use Rattle.sp_law_formula.proofs.AtEach.{at_each_every}
use Rattle.sp_law_formula.proofs.Once.{times_of, added_once, OnceIn, pairs_once, made_one_once}
use Rattle.sp_law_formula.proofs.Or.{or_found}

-- a row that picks something and does the same with whatever it is
row_once : {A : Type 0} (f : A → System) → ((x : A) → HappenOnce (f x).events) → (o : Option A) (t : System) → option_map f o ≡ Some t → HappenOnce t.events
row_once f h o t e = let r = mapped f o t e in subst (λ (u : System). HappenOnce u.events) (sym r.2) (h r.0)

-- so it is where nothing may come of what is picked
then_once : {A : Type 0} (f : A → Option System) → ((x : A) → OnceIn (f x)) → (o : Option A) (t : System) → option_and_then f o ≡ Some t → HappenOnce t.events
then_once f h o t e = let r = then_some f o t e in subst OnceIn r.2 (h r.0)

-- ---- rows that leave the events as they are

pub split_once : (s t : System) → split s ≡ Some t → HappenOnce s.events → HappenOnce t.events
split_once s t e h = row_once (λ r. spending s r r.picked) (λ r. h) (first_formula split_of s.formulas) t e

pub open_existential_once : (s t : System) → open_existential s ≡ Some t → HappenOnce s.events → HappenOnce t.events
open_existential_once s t e h = row_once (opened_at s) (λ r. h) (first_formula existential_of s.formulas) t e

pub unequal_once : (s t : System) → unequal s ≡ Some t → HappenOnce s.events → HappenOnce t.events
unequal_once s t e h = row_once (unequal_at s) (λ r. h) (first_formula inequality_of s.formulas) t e

pub in_order_once : (s t : System) → in_order s ≡ Some t → HappenOnce s.events → HappenOnce t.events
in_order_once s t e h = row_once (ordered_at s) (λ r. h) (first_formula (order_of s.order) s.formulas) t e

pub action_stands_once : (s t : System) → action_stands s ≡ Some t → HappenOnce s.events → HappenOnce t.events
action_stands_once s t e h = row_once (λ r. spending s r []) (λ r. h) (first_formula (standing_of s.events) s.formulas) t e

pub disjunction_once : (s t : System) → disjunction s ≡ Some t → HappenOnce s.events → HappenOnce t.events
disjunction_once s t e h = row_once (λ r. spending s r r.picked) (λ r. h) (first_formula (instead_of s) s.formulas) t e

pub instantiate_once : (s t : System) → instantiate s ≡ Some t → HappenOnce s.events → HappenOnce t.events
instantiate_once s t e h = row_once (with_formula s) (λ f. h) (first_some (new_instance s) s.formulas) t e

-- ---- rows that make terms or times one

pub equated_once : (s : System) (e : Equation) → HappenOnce s.events → OnceIn (equated s e)
equated_once s (equal_terms p) h = pairs_once s (mgu (p ∷ [])) h
equated_once s (equal_times i j) h = at (nat_eq i j)
  where
    at : (b : Bool) → OnceIn (if b then Some s else made_one s (i, j))
    at true = h
    at false = made_one_once s (i, j) h

pub equate_once : (s t : System) → equate s ≡ Some t → HappenOnce s.events → HappenOnce t.events
equate_once s t e h = then_once (λ r. equated (spending s r []) r.picked) (λ r. equated_once (spending s r []) r.picked h) (first_formula equation_of s.formulas) t e

pub sets_last_once : (s t : System) → sets_last s ≡ Some t → HappenOnce s.events → HappenOnce t.events
sets_last_once s t e h = then_once (λ r. ended_by s r r.picked) (λ r. at r r.picked) (first_formula (ending_of s.last) s.formulas) t e
  where
    made : (known : Option ℕ) (i : ℕ) (u : System) → HappenOnce u.events → OnceIn (made_last known i u)
    made None i u k = k
    made (Some j) i u k = equated_once u (equal_times i j) k

    at : (r : Found Ending) (e : Ending) → OnceIn (ended_by s r e)
    at r (is_last i) = made s.last i (spending s r []) h
    at r (before_last i j) = h

-- ---- the cases of the moves

abbrev pub OnceEach : List System → Type 0
OnceEach systems = Every (λ (c : System). HappenOnce c.events) systems

-- each part of a disjunction
parts_once : (s : System) (r : Found Guardeds) (k : ℕ) (fs : Guardeds) → HappenOnce s.events → OnceEach (systems_in (by_part s r k fs))
parts_once s r k no_more h = tt
parts_once s r k (and_then f fs) h = (h, parts_once s r (suc k) fs h)

pub or_once : (s : System) (k : ℕ) (cs : List Case) → or_cases s (disjunction_at k s.formulas) ≡ Some cs → HappenOnce s.events → OnceEach (systems_in cs)
or_once s k cs e h =
    let q = or_found s (disjunction_at k s.formulas) cs e in
    subst (λ (x : List Case). OnceEach (systems_in x)) q.2 (parts_once s q.0 1 q.0.picked h)

-- a system if it is there
pub if_once : (o : Option System) → OnceIn o → OnceEach (system_if o)
if_once None h = tt
if_once (Some t) h = (h, tt)

-- the actions that may be this one
by_actions_once : (s : System) (a : Action Variable) (bs : List (Action Variable)) → HappenOnce s.events → OnceEach (by_actions s a bs)
by_actions_once s a [] h = tt
by_actions_once s a (b ∷ bs) h =
    every_append _ (system_if (where_same s a b)) (by_actions s a bs) (if_once (where_same s a b) (pairs_once s (unifier_of (action_pair a b)) h)) (by_actions_once s a bs h)

-- where no event is at the time
none_there : (i : ℕ) (es : List Event) → event_at i es ≡ None → Member i (times_of es) → ⊥
none_there i [] e m = m
none_there i (d ∷ es) e m = at (nat_eq d.time i) refl e m (λ k l. none_there i es k l)
  where
    at : (b : Bool) → nat_eq d.time i ≡ b → (if b then Some d else event_at i es) ≡ None → Member i (times_of (d ∷ es)) → (event_at i es ≡ None → Member i (times_of es) → ⊥) → ⊥
    at true k l m later = cc
    at false k l (inl g) later = eqb-false d.time i k g
    at false k l (inr g) later = later l g

module _ (s : System) (i : ℕ) (h : HappenOnce s.events) where
  -- a new event is the only one at the time
  module _ (new : Member i (times_of s.events) → ⊥) where
    happens_once : (x : Happening) → HappenOnce (s.events ++ record { time = i; happening = x } ∷ [])
    happens_once x = added_once s.events (record { time = i; happening = x }) new h

    by_forms_once : (name : List ℕ) (forms : List Form) (a : Action Variable) → OnceEach (by_forms name forms s i a)
    by_forms_once name [] a = tt
    by_forms_once name (form ∷ forms) a =
        every_append _ (by_actions (with_step s i name form) a (renamed s.next form.facts).actions) (by_forms name forms s i a)
        (by_actions_once (with_step s i name form) a (renamed s.next form.facts).actions (happens_once (rule_step name (renamed s.next form.facts))))
        (by_forms_once name forms a)

    by_each_once : (rules : List RuleForms) (a : Action Variable) → OnceEach (systems_in (by_each rules s i a))
    by_each_once [] a = tt
    by_each_once (rule ∷ rules) a =
        let own = by_forms rule.name rule.forms s i a in
        subst OnceEach (sym (systems_append (named rule.name own) (by_each rules s i a)))
        (every_append _ (systems_in (named rule.name own)) (systems_in (by_each rules s i a))
        (subst OnceEach (sym (named_systems rule.name own)) (by_forms_once rule.name rule.forms a)) (by_each_once rules a))

    adversary_once : (symbol : List ℕ) (args : Terms Variable) → OnceEach (systems_in (by_adversary s i symbol args))
    adversary_once symbol none = tt
    adversary_once symbol (more m (more t ts)) = tt
    adversary_once symbol (more m none) = at (bytes_eq symbol (codes "K")) (bytes_eq symbol (codes "KU"))
      where
        at : (b c : Bool) → OnceEach (systems_in (
            if b then done_there (codes "Send") s i (sending m) ∷ []
            else if c then done_there (codes "Learn") s i (learning m anyhow) ∷ [] else []))
        at true c = (happens_once (sending m), tt)
        at false true = (happens_once (learning m anyhow), tt)
        at false false = tt

  pub at_each_once : OnceEach (systems_in (at_each s i s.events))
  at_each_once = at_each_every (λ (c : System). HappenOnce c.events) s i s.events (every_all _ (λ (e : Event). made_one_once s (i, e.time) h) s.events)

  pub action_once : (rules : List RuleForms) (a : Action Variable) → OnceEach (systems_in (action_cases rules s i a (event_at i s.events)))
  action_once rules a = at (event_at i s.events) refl
    where
      new : event_at i s.events ≡ None → (b : Bool) → OnceEach (systems_in (if b then at_each s i s.events else by_each rules s i a ++ by_adversary s i a.symbol a.args))
      new e true = at_each_once
      new e false =
          let steps = by_each rules s i a in
          let adversary = by_adversary s i a.symbol a.args in
          let none = none_there i s.events e in
          subst OnceEach (sym (systems_append steps adversary)) (every_append _ (systems_in steps) (systems_in adversary) (by_each_once none rules a) (adversary_once none a.symbol a.args))

      at : (o : Option Event) → event_at i s.events ≡ o → OnceEach (systems_in (action_cases rules s i a o))
      at (Some d) e = subst OnceEach (sym (at_event_systems s a 0 (happening_actions d.happening))) (by_actions_once s a (happening_actions d.happening) h)
      at None e = new e s.closed
