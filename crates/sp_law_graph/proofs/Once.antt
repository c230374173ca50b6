-- No two events have one time: the rows and the moves on graphs keep it. New events are at new numbers, and other changes leave the times as they are.
use Rattle.std.proofs.Common.{◌≡◌, ◌≤◌, ◌<◌, ℕ, suc, List, [], ◌∷◌, ◌++◌, Option, Some, None, option_and_then, refl, sym, subst, arith, le_refl, lt_of_lt_of_le}
use Rattle.sp_spec.specs.Lists.{Member, Every, Distinct}
use Rattle.sp_spec.specs.Term.{Names, Variable}
use Rattle.sp_spec.proofs.Lists.{every_append, every_map, every_weaken, every_member}
use Rattle.sp_spec.proofs.Options.{then_some}
use Rattle.sp_spec_system.specs.System.{Happening, rule_step, Event, System, with_pairs}
use Rattle.sp_spec_system.specs.Numbered.{InEvent, HappenOnce, IsNumbered}
use Rattle.sp_spec_system.specs.MakingOne.{made_one}
use Rattle.sp_spec_graph.specs.LinearOnce.{times_of_links, linear_once}
use Rattle.sp_spec_graph.specs.FreshOnce.{times_of_fresh, fresh_once}
use Rattle.sp_spec.specs.Rule.{Fact}
use Rattle.sp_spec_forms.specs.Numbering.{Form}
use Rattle.sp_spec_forms.specs.Forms.{RuleForms}
use Rattle.sp_spec_system.specs.Equating.{unifier_of, fact_pair}
use Rattle.sp_spec_system.specs.Cases.{case_if, renamed, system_if, where_same_fact, named}
use Rattle.sp_spec_system.specs.Move.{Case, systems_in}
use Rattle.sp_spec_graph.specs.Premise.{with_source, by_conclusions, source_forms, by_each_source, premise_cases, open_premise}
use Rattle.sp_law_formula.proofs.Once.{times_of, added_once, OnceIn, pairs_once, made_one_once}
use Rattle.sp_law_formula.proofs.ActionSteps.{named_systems, systems_append}
use Rattle.sp_law_system.proofs.Solutions.{Under, TimeUnder}

-- ---- times

-- the times are below the number
abbrev pub TimesBelow : ℕ → List Event → Type 0
TimesBelow n es = Every (λ (i : ℕ). i < n) (times_of es)

-- an event at the number is at a time of its own
pub at_new_time : (n : ℕ) (h : Happening) (es : List Event) → TimesBelow n es → HappenOnce es → HappenOnce (es ++ record { time = n; happening = h } ∷ [])
at_new_time n h es below once = added_once es (record { time = n; happening = h }) new once
  where
    new : Member n (times_of es) → ⊥
    new m = let under : n < n = every_member (λ (i : ℕ). i < n) (times_of es) n m below in absurd (omega (arith, under))

-- ---- systems

-- The times of its events are below its next number, and no two are one.
pub record IsTimed (s : System) : Type 0 where
  pub below : TimesBelow s.next s.events
  pub once : HappenOnce s.events

pub is_timed : {N : Names} (s : System) → IsNumbered N s → HappenOnce s.events → IsTimed s
is_timed {N} s n once = record {
  below = every_map (InEvent N (Under s.next) (TimeUnder s.next)) (λ (i : ℕ). i < s.next) (λ (e : Event). e.time) (λ e h. h.0) s.events n.events;
  once = once;
}

pub wider : (n k : ℕ) → n ≤ k → (es : List Event) → TimesBelow n es → TimesBelow k es
wider n k le es = every_weaken (λ (i : ℕ). i < n) (λ (i : ℕ). i < k) (λ i h. lt_of_lt_of_le h le) (times_of es)

-- another system with these times is such a one
pub same_timed : (s t : System) → times_of t.events ≡ times_of s.events → s.next ≤ t.next → IsTimed s → IsTimed t
same_timed s t same le h = record {
  below = subst (Every (λ (i : ℕ). i < t.next)) (sym same) (wider s.next t.next le s.events h.below);
  once = subst Distinct (sym same) h.once;
}

pub pairs_timed : (s : System) (pairs : List (ℕ × ℕ)) → IsTimed s → IsTimed (with_pairs s pairs)
pairs_timed s pairs = same_timed s (with_pairs s pairs) refl (le_refl s.next)

-- ---- rows

-- two times are made one
pub one_once : (s t : System) (p : Option (ℕ × ℕ)) → option_and_then (made_one s) p ≡ Some t → HappenOnce s.events → HappenOnce t.events
one_once s t p e once = let q = then_some (made_one s) p t e in subst OnceIn q.2 (made_one_once s q.0 once)

module _ (s t : System) where
  pub linear_once_once : linear_once s ≡ Some t → HappenOnce s.events → HappenOnce t.events
  linear_once_once = one_once s t (times_of_links s.events s.links)

  pub fresh_once_once : fresh_once s ≡ Some t → HappenOnce s.events → HappenOnce t.events
  fresh_once_once = one_once s t (times_of_fresh s.events)

-- ---- cases

abbrev pub IsOnce : System → Type 0
IsOnce s = HappenOnce s.events

-- it is so of each system that there is
pub system_once : (o : Option System) → OnceIn o → Every IsOnce (system_if o)
system_once None h = tt
system_once (Some s) h = (h, tt)

pub case_once : (label : List ℕ) (o : Option System) → OnceIn o → Every IsOnce (systems_in (case_if label o))
case_once label None h = tt
case_once label (Some s) h = (h, tt)

pub both_once : (xs ys : List Case) → Every IsOnce (systems_in xs) → Every IsOnce (systems_in ys) → Every IsOnce (systems_in (xs ++ ys))
both_once xs ys h k = subst (Every IsOnce) (sym (systems_append xs ys)) (every_append IsOnce (systems_in xs) (systems_in ys) h k)

pub named_once : (label : List ℕ) (ss : List System) → Every IsOnce ss → Every IsOnce (systems_in (named label ss))
named_once label ss h = subst (Every IsOnce) (sym (named_systems label ss)) h

-- ---- the move on a premise

module _ (s : System) (timed : IsTimed s) (i p : ℕ) (f : Fact Variable) where
  source_once : (rule : List ℕ) (form : Form) (k : ℕ) → IsOnce (with_source s i p rule form k)
  source_once rule form k = at_new_time s.next (rule_step rule (renamed (suc s.next) form.facts)) s.events timed.below timed.once

  conclusions_once : (rule : List ℕ) (form : Form) (k : ℕ) (gs : List (Fact Variable)) → Every IsOnce (by_conclusions s i p f rule form k gs)
  conclusions_once rule form k [] = tt
  conclusions_once rule form k (g ∷ gs) =
      every_append IsOnce (system_if (where_same_fact (with_source s i p rule form k) f g)) (by_conclusions s i p f rule form (suc k) gs)
      (system_once (where_same_fact (with_source s i p rule form k) f g) (pairs_once (with_source s i p rule form k) (unifier_of (fact_pair f g)) (source_once rule form k)))
      (conclusions_once rule form (suc k) gs)

  source_forms_once : (rule : List ℕ) (forms : List Form) → Every IsOnce (source_forms rule forms s i p f)
  source_forms_once rule [] = tt
  source_forms_once rule (form ∷ forms) =
      let conclusions = (renamed (suc s.next) form.facts).conclusions in
      every_append IsOnce (by_conclusions s i p f rule form 0 conclusions) (source_forms rule forms s i p f) (conclusions_once rule form 0 conclusions)
      (source_forms_once rule forms)

  each_source_once : (rules : List RuleForms) → Every IsOnce (systems_in (by_each_source rules s i p f))
  each_source_once [] = tt
  each_source_once (r ∷ rules) =
      let own = source_forms r.name r.forms s i p f in
      both_once (named r.name own) (by_each_source rules s i p f) (named_once r.name own (source_forms_once r.name r.forms)) (each_source_once rules)

pub premise_once : {N : Names} (rules : List RuleForms) (s : System) → IsNumbered N s → HappenOnce s.events → (i p : ℕ) (cs : List Case)
    → premise_cases rules s i p (open_premise s i p) ≡ Some cs → Every (λ (c : System). HappenOnce c.events) (systems_in cs)
premise_once rules s n once i p cs e = at (open_premise s i p) e
  where
    at : (o : Option (Fact Variable)) → premise_cases rules s i p o ≡ Some cs → Every IsOnce (systems_in cs)
    at None k = absurd cc
    at (Some f) k =
        let same : by_each_source rules s i p f ≡ cs = cc in
        subst (λ (x : List Case). Every IsOnce (systems_in x)) same (each_source_once s (is_timed s n once) i p f rules)
