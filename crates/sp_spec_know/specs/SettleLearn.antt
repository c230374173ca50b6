-- Settle a learn: of some messages it is known in which way they are learnt. Source: CSF 2012, "Normal message deduction" (pairs and public messages are
-- constructed, never taken out of what is put out).
use Rattle.std.specs.Prelude.{ℕ, zero, Bool, if◌then◌else◌, List, [], ◌∷◌, codes, Option, Some, None, option_map}
use Rattle.std.specs.Str.{bytes_eq}
use Rattle.sp_spec.specs.Term.{Sort, Msg, Fresh, Pub, Variable, Term, var, constant, name, app, none, more}
use Rattle.sp_spec.specs.Signature.{Symbol}
use Rattle.sp_spec.specs.Destruction.{is_public}
use Rattle.sp_spec_system.specs.System.{Way, anyhow, public_name, constructed, Happening, learning, Event, System, with_events}
use Rattle.sp_spec_system.specs.MakingOne.{learnt_by_at}
use Rattle.sp_spec_system.specs.Picked.{first_some}
use Rattle.sp_spec_know.specs.Learning.{learnt_before}

-- the way in which the message at a time is learnt, and the parts that are learnt before
pub record Settling : Type 0 where
  pub time : ℕ
  pub way : Way
  pub parts : List (Term Variable)

abbrev pub of_sort_pub : Sort → ℕ → Option Settling
of_sort_pub Pub i = Some (record { time = i; way = public_name; parts = [] })
of_sort_pub Msg i = None
of_sort_pub Fresh i = None

abbrev pub made_of : Bool → ℕ → List (Term Variable) → Option Settling
made_of b i parts = if b then Some (record { time = i; way = constructed; parts = parts }) else None

-- a public name, a public symbol without arguments, a pair
abbrev pub settling : List Symbol → ℕ → Term Variable → Option Settling
settling symbols i (var x) = of_sort_pub x.sort i
settling symbols i (constant c) = Some (record { time = i; way = public_name; parts = [] })
settling symbols i (name n) = None
settling symbols i (app f none) = made_of (is_public symbols f zero) i []
settling symbols i (app f (more t none)) = None
settling symbols i (app f (more t (more u none))) = made_of (bytes_eq f (codes "pair")) i (t ∷ u ∷ [])
settling symbols i (app f (more t (more u (more w ws)))) = None

abbrev pub settling_of : List Symbol → ℕ → Happening → Option Settling
settling_of symbols i (learning m anyhow) = settling symbols i m
settling_of symbols i h = None

abbrev pub settled_event : List Symbol → Event → Option Settling
settled_event symbols e = settling_of symbols e.time e.happening

-- the parts are learnt before that time, one after the other
abbrev pub each_learnt_before : ℕ → List (Term Variable) → System → System
each_learnt_before i [] s = s
each_learnt_before i (t ∷ ts) s = each_learnt_before i ts (learnt_before t i s)

abbrev pub with_settling : System → Settling → System
with_settling s x = each_learnt_before x.time x.parts (with_events s (learnt_by_at x.time x.way s.events))

abbrev pub settle_learn : List Symbol → System → Option System
settle_learn symbols s = option_map (with_settling s) (first_some (settled_event symbols) s.events)
