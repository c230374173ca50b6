-- The terms of formulas that terms over places stand for.
use Rattle.std.specs.Prelude.{List, Bool, false}
use Rattle.sp_spec.specs.Term.{Sort, Term, Terms}
use Rattle.sp_spec.specs.Rule.{Action}
use Rattle.sp_spec.specs.Guarded as spec
use Rattle.sp_spec.specs.Matching.{variable_has_sort}
use Rattle.sp_term.specs.View.{variable_of, view_by, view_all_by}
use Rattle.sp_term.specs.declared.term.Term as memory_term
use Rattle.sp_fact.specs.View.{action_by}
use Rattle.sp_fact.specs.declared.fact.Action as memory_action
use Rattle.sp_formula.specs.declared.place.Place.{Place}
use Rattle.sp_formula.specs.declared.place.Place.TheVariants.{Bound, Free}

abbrev pub place_of : Place → spec.Place
place_of (Bound k) = spec.bound k
place_of (Free x) = spec.free (variable_of x)

-- what is bound is of no sort below that of all messages
abbrev pub place_has_sort : Sort → spec.Place → Bool
place_has_sort sort (spec.free x) = variable_has_sort sort x
place_has_sort sort (spec.bound k) = false

abbrev pub placed_term : memory_term.Term Place → Term spec.Place
placed_term t = view_by place_of t

abbrev pub placed_terms : List (memory_term.Term Place) → Terms spec.Place
placed_terms ts = view_all_by place_of ts

abbrev pub placed_action : memory_action.Action Place → Action spec.Place
placed_action a = action_by place_of a
