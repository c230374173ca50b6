-- The guarded form of a formula: a quantifier has as guard the actions and the equalities of messages that stand in its conjunction, and
-- negation stands at atoms alone. Source: CSF 2012, "Guarded trace properties"; Tamarin manual, "Property specification".
use Rattle.std.specs.Prelude.{ℕ, zero, suc, List, [], ◌∷◌, ◌++◌, if◌then◌else◌, Option, Some, None, option_map}
use Rattle.std.specs.Str.{bytes_eq}
use Rattle.sp_spec.specs.Term.{Msg, Term, var, constant, name, app, Terms, valued_where, valued_all_where}
use Rattle.sp_spec.specs.Rule.{Action}
use Rattle.sp_spec.specs.Formula.{Mark, bare, of_sort, of_time, Written, Formula}
use Rattle.sp_spec.specs.Formula as f
use Rattle.sp_spec.specs.Guarded.{Place, bound, Time, bound_time, Binder, message, time, Atom, acts, same, same_time, before, last, Guarded, Guardeds, truth, falsity, holds, fails, all_of, one_of, some, every, no_more, and_then, parts_of, guardeds_of}

-- What a name means: the innermost binder of that name, a message or a time, counted apart from the innermost outwards.
pub data Meant : Type 0 where
  a_message : Mark → ℕ → Meant
  a_time : ℕ → Meant

abbrev pub binder_meant : Mark → Meant
binder_meant of_time = a_time zero
binder_meant bare = a_message bare zero
binder_meant (of_sort sort) = a_message (of_sort sort) zero

abbrev pub past_binder : Mark → Meant → Meant
past_binder of_time (a_time k) = a_time (suc k)
past_binder of_time (a_message mark k) = a_message mark k
past_binder bare (a_message mark k) = a_message mark (suc k)
past_binder bare (a_time k) = a_time k
past_binder (of_sort sort) (a_message mark k) = a_message mark (suc k)
past_binder (of_sort sort) (a_time k) = a_time k

-- the binders, the innermost first
abbrev pub meant : List Written → List ℕ → Option Meant
meant [] x = None
meant (b ∷ bs) x = if bytes_eq b.name x then Some (binder_meant b.mark) else option_map (past_binder b.mark) (meant bs x)

-- a term's variable is a message, and a time stands for a time alone
abbrev pub message_place : Option Meant → Option (Term Place)
message_place (Some (a_message mark k)) = Some (var (bound k))
message_place (Some (a_time k)) = None
message_place None = None

abbrev pub time_place : Option Meant → Option Time
time_place (Some (a_time k)) = Some (bound_time k)
time_place (Some (a_message mark k)) = None
time_place None = None

abbrev pub placed_variable : List Written → Written → Option (Term Place)
placed_variable bs x = message_place (meant bs x.name)

abbrev pub placed_term : List Written → Term Written → Option (Term Place)
placed_term bs t = valued_where (placed_variable bs) t

abbrev pub placed_terms : List Written → Terms Written → Option (Terms Place)
placed_terms bs ts = valued_all_where (placed_variable bs) ts

abbrev pub placed_action : List Written → Action Written → Option (Action Place)
placed_action bs a = option_map (λ ts. record { symbol = a.symbol; args = ts }) (placed_terms bs a.args)

abbrev pub acts_at : Option (Action Place) → Option Time → Option Atom
acts_at (Some a) (Some i) = Some (acts a i)
acts_at (Some a) None = None
acts_at None i = None

abbrev pub before_at : Option Time → Option Time → Option Atom
before_at (Some i) (Some j) = Some (before i j)
before_at (Some i) None = None
before_at None j = None

abbrev pub same_at : Option (Term Place) → Option (Term Place) → Option Atom
same_at (Some t) (Some u) = Some (same t u)
same_at (Some t) None = None
same_at None u = None

-- the time that a term is, if it is a name that means one
abbrev pub term_time : List Written → Term Written → Option Time
term_time bs (var x) = time_place (meant bs x.name)
term_time bs (constant c) = None
term_time bs (name n) = None
term_time bs (app g ts) = None

-- two times, or else two messages
abbrev pub equality_at : List Written → Term Written → Term Written → Option Time → Option Time → Option Atom
equality_at bs t u (Some i) (Some j) = Some (same_time i j)
equality_at bs t u (Some i) None = None
equality_at bs t u None (Some j) = None
equality_at bs t u None None = same_at (placed_term bs t) (placed_term bs u)

abbrev pub binder_of : Mark → Binder
binder_of of_time = time
binder_of bare = message Msg
binder_of (of_sort sort) = message sort

-- conjunctions and disjunctions are flat
abbrev pub conjuncts : Guarded → List Guarded
conjuncts (all_of gs) = parts_of gs
conjuncts g = g ∷ []

abbrev pub disjuncts : Guarded → List Guarded
disjuncts (one_of gs) = parts_of gs
disjuncts g = g ∷ []

abbrev pub conjunction : Guarded → Guarded → Guarded
conjunction g h = all_of (guardeds_of (conjuncts g ++ conjuncts h))

abbrev pub disjunction : Guarded → Guarded → Guarded
disjunction g h = one_of (guardeds_of (disjuncts g ++ disjuncts h))

-- The negation. That of an action is every without binders, with the action as guard and falsity as body, and back again.
abbrev pub negated_atom : Atom → Guarded
negated_atom (acts a i) = every [] (acts a i ∷ []) falsity
negated_atom (same t u) = fails (same t u)
negated_atom (same_time i j) = fails (same_time i j)
negated_atom (before i j) = fails (before i j)
negated_atom (last i) = fails (last i)

abbrev mutual
  pub negate : Guarded → Guarded
  negate truth = falsity
  negate falsity = truth
  negate (holds a) = negated_atom a
  negate (fails a) = holds a
  negate (all_of gs) = one_of (negate_each gs)
  negate (one_of gs) = all_of (negate_each gs)
  negate (some bs guard g) = every bs guard (negate g)
  negate (every [] (acts a i ∷ []) falsity) = holds (acts a i)
  negate (every bs guard g) = some bs guard (negate g)

  pub negate_each : Guardeds → Guardeds
  negate_each no_more = no_more
  negate_each (and_then g gs) = and_then (negate g) (negate_each gs)

-- what guards, and what doesn't
abbrev pub guard_in : List Guarded → List Atom
guard_in [] = []
guard_in (holds (acts a i) ∷ gs) = acts a i ∷ guard_in gs
guard_in (holds (same t u) ∷ gs) = same t u ∷ guard_in gs
guard_in (g ∷ gs) = guard_in gs

abbrev pub rest_in : List Guarded → List Guarded
rest_in [] = []
rest_in (holds (acts a i) ∷ gs) = rest_in gs
rest_in (holds (same t u) ∷ gs) = rest_in gs
rest_in (g ∷ gs) = g ∷ rest_in gs

-- a conjunction of one part is that part, and one of none is true
abbrev pub body_of : List Guarded → Guarded
body_of [] = truth
body_of (g ∷ []) = g
body_of (g ∷ h ∷ gs) = all_of (guardeds_of (g ∷ h ∷ gs))

-- quantifiers that stand directly below one another are one
abbrev pub existential : Binder → Guarded → Guarded
existential b (some bs guard g) = some (b ∷ bs) guard g
existential b g = some (b ∷ []) (guard_in (conjuncts g)) (body_of (rest_in (conjuncts g)))

abbrev pub both_forms : (Guarded → Guarded → Guarded) → Option Guarded → Option Guarded → Option Guarded
both_forms join (Some g) (Some h) = Some (join g h)
both_forms join (Some g) None = None
both_forms join None h = None

-- The guarded form within the reach of these binders, the innermost first. None where a name has no binder, or a message stands for a
-- time or a time for a message. All x. f is read as not Ex x. not f.
abbrev pub guarded_form : List Written → Formula → Option Guarded
guarded_form bs f.truth = Some truth
guarded_form bs f.falsity = Some falsity
guarded_form bs (f.happens a i) = option_map holds (acts_at (placed_action bs a) (time_place (meant bs i.name)))
guarded_form bs (f.equals t u) = option_map holds (equality_at bs t u (term_time bs t) (term_time bs u))
guarded_form bs (f.precedes i j) = option_map holds (before_at (time_place (meant bs i.name)) (time_place (meant bs j.name)))
guarded_form bs (f.not_so g) = option_map negate (guarded_form bs g)
guarded_form bs (f.both g h) = both_forms conjunction (guarded_form bs g) (guarded_form bs h)
guarded_form bs (f.either g h) = both_forms disjunction (guarded_form bs g) (guarded_form bs h)
guarded_form bs (f.implies g h) = both_forms disjunction (option_map negate (guarded_form bs g)) (guarded_form bs h)
guarded_form bs (f.for_all x g) = option_map (λ (h : Guarded). negate (existential (binder_of x.mark) (negate h))) (guarded_form (x ∷ bs) g)
guarded_form bs (f.for_some x g) = option_map (existential (binder_of x.mark)) (guarded_form (x ∷ bs) g)
