-- The cases of an action in a closed system: its time is that of one of the events.
use Rattle.std.proofs.Common.{◌≡◌, ◌<◌, ℕ, true, List, [], ◌∷◌, ◌++◌, length, Option, Some, None, codes, decimal, sym, subst, inl, inr}
use Rattle.sp_spec.specs.Lists.{Member, Every}
use Rattle.sp_spec.specs.Term.{Names}
use Rattle.sp_spec.specs.Theory.{Theory}
use Rattle.sp_spec.specs.Log.{Log}
use Rattle.sp_spec.proofs.Lists.{every_append, every_parts, every_member, every_weaken}
use Rattle.sp_spec_system.specs.System.{Event, System}
use Rattle.sp_spec_system.specs.Solutions.{Valuation, Solves}
use Rattle.sp_spec_system.specs.Numbered.{InEvent, IsNumbered}
use Rattle.sp_spec_system.specs.Covering.{NoneSolved}
use Rattle.sp_spec_system.specs.Cases.{case_if, system_if}
use Rattle.sp_spec_system.specs.MakingOne.{made_one}
use Rattle.sp_spec_system.specs.Move.{Case, systems_in}
use Rattle.sp_spec_formula.specs.Action.{at_each}
use Rattle.sp_law_system.specs.Laws.{UnifierIsRight}
use Rattle.sp_law_system.proofs.Solutions.{Under, TimeUnder, agrees_itself}
use Rattle.sp_law_formula.proofs.ActionSteps.{systems_append, case_systems}
use Rattle.sp_law_formula.proofs.MadeOne.{made_one_holds, made_one_numbered}
use Rattle.sp_law_formula.proofs.Merged.{IfThere, SolvedBy, Later}

-- a case if there is a system
pub case_if_each : (P : System → Type 0) (name : List ℕ) (o : Option System) → IfThere P o → Every P (systems_in (case_if name o))
case_if_each P name None h = tt
case_if_each P name (Some t) h = (h, tt)

-- what holds of the system for each event holds of each case
pub at_each_every : (P : System → Type 0) (s : System) (i : ℕ) (es : List Event) → Every (λ (e : Event). IfThere P (made_one s (i, e.time))) es → Every P (systems_in (at_each s i es))
at_each_every P s i [] h = tt
at_each_every P s i (e ∷ es) h =
    let own = case_if (codes "event_" ++ decimal e.time) (made_one s (i, e.time)) in
    subst (Every P) (sym (systems_append own (at_each s i es)))
    (every_append P (systems_in own) (systems_in (at_each s i es)) (case_if_each P (codes "event_" ++ decimal e.time) (made_one s (i, e.time)) h.0) (at_each_every P s i es h.1))

-- and what holds of each case holds of the system for each event
at_each_part : (P : System → Type 0) (s : System) (i : ℕ) (es : List Event) → Every P (systems_in (at_each s i es)) → (e : Event) → Member e es → Every P (system_if (made_one s (i, e.time)))
at_each_part P s i [] h e m = absurd m
at_each_part P s i (d ∷ es) h e m = at m (every_parts P (systems_in own) (systems_in (at_each s i es)) (subst (Every P) (systems_append own (at_each s i es)) h)) (λ k l. at_each_part P s i es k e l)
  where
    own : List Case
    own = case_if (codes "event_" ++ decimal d.time) (made_one s (i, d.time))

    at : Member e (d ∷ es) → Every P (systems_in own) × Every P (systems_in (at_each s i es)) → (Every P (systems_in (at_each s i es)) → Member e es → Every P (system_if (made_one s (i, e.time))))
        → Every P (system_if (made_one s (i, e.time)))
    at (inl g) parts later =
        subst (λ (x : Event). Every P (system_if (made_one s (i, x.time)))) g
        (subst (Every P) (case_systems (codes "event_" ++ decimal d.time) (made_one s (i, d.time))) parts.0)
    at (inr m) parts later = later parts.1 m

module _ {N : Names} (right : UnifierIsRight) (s : System) (n : IsNumbered N s) (i : ℕ) (i_under : i < s.next) where
  pub at_each_numbered : (es : List Event) → Every (InEvent N (Under s.next) (TimeUnder s.next)) es → Every (Later N s.next) (systems_in (at_each s i es))
  at_each_numbered es under = at_each_every (Later N s.next) s i es (every_weaken _ _ (λ e u. made_one_numbered right s n (i, e.time) (i_under, u.0)) es under)

  -- The entry at the time is that of an event, and the case for it has the same solution.
  pub at_each_solved : (theory : Theory) (log : Log) (v : Valuation) → Solves theory log v s → s.closed ≡ true → v.times i < length log
      → NoneSolved theory log v s.next (systems_in (at_each s i s.events)) → ⊥
  at_each_solved theory log v h closed there none =
      let a = h.closed closed (v.times i) there in
      let under = (every_member (InEvent N (Under s.next) (TimeUnder s.next)) s.events a.0 a.1 n.events).0 in
      at (made_one s (i, a.0.time)) (made_one_holds right s n theory log v h (i, a.0.time) (i_under, under) (sym a.2)) (at_each_part _ s i s.events none a.0 a.1)
    where
      at : (o : Option System) → SolvedBy theory log v o → NoneSolved theory log v s.next (system_if o) → ⊥
      at None k none = k
      at (Some t) k none = none.0 v (agrees_itself s.next v) k
