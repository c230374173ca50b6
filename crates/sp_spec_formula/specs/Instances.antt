-- Instances of universal formulas: the variables that one binds get their values by actions of events that the actions of its guard match,
-- and by the equalities of its guard. Each value is of the variable's sort. Source: CSF 2012, "Constraint solving" (the rule on
-- universally quantified formulas); Schmidt's thesis, chapter 3.
use Rattle.std.specs.Prelude.{Option, ℕ, List, [], ◌∷◌, None, Bool, true, false, if◌then◌else◌, Some, zero, suc, option_map, ◌==◌, option_and_then, ◌&&◌}
use Rattle.std.specs.Str.{bytes_eq}
use Rattle.sp_spec.specs.Term.{Sort, Variable, Term, var, Terms, valued_where, valued_all_where}
use Rattle.sp_spec.specs.Guarded.{Binder, message, time, Place, free, bound, Time, free_time, bound_time, Atom, same, acts, pushed, Guarded}
use Rattle.sp_spec.specs.Same.{alike}
use Rattle.sp_spec.specs.Slots.{Slot, slot, filled_at, value_at}
use Rattle.sp_spec.specs.Matching.{matched_by, matched_all_by, has_sort_by, variable_has_sort}
use Rattle.sp_spec.specs.Rule.{Action}
use Rattle.sp_spec.specs.Change.{placed, Change, changed}

-- what a quantifier binds, the innermost first, with the values that it has by now
abbrev pub Message : Type 0
Message = Slot Sort (Term Variable)

pub record Slots : Type 0 where
  pub terms : List Message
  pub times : List (Option ℕ)

abbrev pub empty_slots : List Binder → Slots → Slots
empty_slots [] s = s
empty_slots (message sort ∷ bs) s = empty_slots bs (record { terms = slot sort None ∷ s.terms; times = s.times })
empty_slots (time ∷ bs) s = empty_slots bs (record { terms = s.terms; times = None ∷ s.times })

-- ---- values

-- whether a term may be the value of a variable of the sort
abbrev pub is_of_sort : Sort → Term Variable → Bool
is_of_sort sort t = has_sort_by variable_has_sort sort t

-- none where another value is there, or the term is of another sort, or nothing is bound at the place
abbrev pub put_term : List Message → ℕ → Term Variable → Option (List Message)
put_term s k t = filled_at alike is_of_sort false k t s

abbrev pub with_position : Option ℕ → ℕ → Option (Option ℕ)
with_position None i = Some (Some i)
with_position (Some j) i = if j == i then Some (Some j) else None

abbrev pub put_time : List (Option ℕ) → ℕ → ℕ → Option (List (Option ℕ))
put_time [] k i = None
put_time (x ∷ slots) zero i = option_map (λ (y : Option ℕ). y ∷ slots) (with_position x i)
put_time (x ∷ slots) (suc k) i = option_map (λ (ys : List (Option ℕ)). x ∷ ys) (put_time slots k i)

-- ---- matching: bound variables alone are replaced

abbrev pub matched_place : Place → Term Variable → List Message → Option (List Message)
matched_place (free x) t s = if alike (var x) t then Some s else None
matched_place (bound k) t s = put_term s k t

abbrev pub matched : List Message → Term Place → Term Variable → Option (List Message)
matched s t u = matched_by matched_place t u s

abbrev pub matched_all : List Message → Terms Place → Terms Variable → Option (List Message)
matched_all s ts us = matched_all_by matched_place ts us s

abbrev pub matched_time : List (Option ℕ) → Time → ℕ → Option (List (Option ℕ))
matched_time s (free_time j) i = if j == i then Some s else None
matched_time s (bound_time k) i = put_time s k i

abbrev pub both_slots : Option (List Message) → Option (List (Option ℕ)) → Option Slots
both_slots (Some terms) (Some times) = Some (record { terms = terms; times = times })
both_slots (Some terms) None = None
both_slots None times = None

-- the guard's action is that action at that time
abbrev pub matched_action : Slots → Action Place → Time → Action Variable → ℕ → Option Slots
matched_action s a t b i =
    if bytes_eq a.symbol b.symbol then both_slots (matched_all s.terms a.args b.args) (matched_time s.times t i) else None

-- ---- equalities

-- a term with the values put in; none where one is missing
abbrev pub place_value : List Message → Place → Option (Term Variable)
place_value s (free x) = Some (var x)
place_value s (bound k) = value_at s k

abbrev pub value_in : List Message → Term Place → Option (Term Variable)
value_in s t = valued_where (place_value s) t

abbrev pub values_in : List Message → Terms Place → Option (Terms Variable)
values_in s ts = valued_all_where (place_value s) ts

-- a bound variable, by its place
abbrev pub place_of_bound : Term Place → Option ℕ
place_of_bound (var (bound k)) = Some k
place_of_bound t = None

-- an equality gives a variable without value the value of its other side
abbrev pub given : List Message → Option ℕ → Option (Term Variable) → Option ℕ → Option (Term Variable) → Option (List Message)
given s (Some k) None l (Some u) = put_term s k u
given s k (Some t) (Some l) None = put_term s l t
given s k t l u = Some s

abbrev pub by_equalities : List Message → List Atom → Option (List Message)
by_equalities s [] = Some s
by_equalities s (same t u ∷ atoms) =
    option_and_then (λ r. by_equalities r atoms) (given s (place_of_bound t) (value_in s t) (place_of_bound u) (value_in s u))
by_equalities s (a ∷ atoms) = by_equalities s atoms

abbrev pub are_alike : Option (Term Variable) → Option (Term Variable) → Bool
are_alike (Some t) (Some u) = alike t u
are_alike (Some t) None = false
are_alike None u = false

-- each equality is one of terms that are the same; the actions have been matched
abbrev pub are_settled : List Message → List Atom → Bool
are_settled s [] = true
are_settled s (acts a i ∷ atoms) = are_settled s atoms
are_settled s (same t u ∷ atoms) = are_alike (value_in s t) (value_in s u) && are_settled s atoms
are_settled s (a ∷ atoms) = false

-- ---- the instance

abbrev pub all_terms : List Message → Option (List (Term Variable))
all_terms [] = Some []
all_terms (x ∷ slots) = option_and_then (λ t. option_map (λ (ts : List (Term Variable)). t ∷ ts) (all_terms slots)) x.value

abbrev pub all_times : List (Option ℕ) → Option (List ℕ)
all_times [] = Some []
all_times (x ∷ slots) = option_and_then (λ i. option_map (λ (js : List ℕ). i ∷ js) (all_times slots)) x

-- the values stand for what is bound, the innermost first
abbrev pub filled : {A : Type 0} → List A → (ℕ → A) → ℕ → A
filled [] f = f
filled (a ∷ rest) f = pushed a (filled rest f)

abbrev pub placed_each : List (Term Variable) → List (Term Place)
placed_each [] = []
placed_each (t ∷ ts) = placed t ∷ placed_each ts

abbrev pub free_each : List ℕ → List Time
free_each [] = []
free_each (i ∷ js) = free_time i ∷ free_each js

abbrev pub instance : List (Term Variable) → List ℕ → Change
instance ts js = record { terms = var; times = λ i. i; bound_terms = filled (placed_each ts) (λ k. var (bound k)); bound_times = filled (free_each js) bound_time }

-- the body with the values, once all are there
abbrev pub body_with : Guarded → Option (List (Term Variable)) → Option (List ℕ) → Option Guarded
body_with f (Some ts) (Some js) = Some (changed (instance ts js) f)
body_with f (Some ts) None = None
body_with f None times = None

-- once the actions have been matched
abbrev pub instance_by : List Atom → Guarded → Slots → Option Guarded
instance_by guard f s =
    option_and_then (λ (terms : List Message). if are_settled terms guard then body_with f (all_terms terms) (all_times s.times) else None) (by_equalities s.terms guard)
