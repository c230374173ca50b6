-- Formulas on which there are no findings. Source: Tamarin manual, "Checking well-formedness".
use Rattle.std.specs.Prelude.{Bool, true, false, ◌&&◌, ◌||◌, not, if◌then◌else◌, List, [], ◌∷◌, ◌++◌, Option, Some, None}
use Rattle.sp_spec.specs.Term.{Msg, Fresh, Pub}
use Rattle.sp_spec.specs.Formula.{Mark, bare, of_sort, of_time, Written, Formula, truth, falsity, happens, equals, precedes, not_so, both, either, implies, for_all, for_some}
use Rattle.sp_spec.specs.Written.{in_term, in_terms}
use Rattle.sp_spec.specs.Findings.{is_wide}
use Rattle.sp_spec.specs.Guarded.{Guarded}
use Rattle.sp_law_guard.specs.GuardedForm.{Meant, a_message, a_time, meant, guarded_form}
use Rattle.sp_law_guard.specs.IsGuarded.{is_guarded}

-- A variable is marked with another sort than its binder; a bare name fits any.
abbrev pub same_mark : Mark → Mark → Bool
same_mark bare mark = true
same_mark (of_sort Msg) bare = true
same_mark (of_sort Msg) (of_sort Msg) = true
same_mark (of_sort Fresh) (of_sort Fresh) = true
same_mark (of_sort Pub) (of_sort Pub) = true
same_mark (of_sort sort) mark = false
same_mark of_time mark = false

abbrev pub is_time_mark : Mark → Bool
is_time_mark bare = true
is_time_mark of_time = true
is_time_mark (of_sort sort) = false

abbrev pub fits : Mark → Option Meant → Bool
fits mark None = true
fits mark (Some (a_message binder k)) = same_mark mark binder
fits mark (Some (a_time k)) = is_time_mark mark

abbrev pub each_fits : List Written → List Written → Bool
each_fits bs [] = true
each_fits bs (x ∷ xs) = fits x.mark (meant bs x.name) && each_fits bs xs

-- within the reach of these binders, the innermost first
abbrev pub marks_fit : List Written → Formula → Bool
marks_fit bs truth = true
marks_fit bs falsity = true
marks_fit bs (happens a i) = each_fits bs (in_terms a.args ++ (i ∷ []))
marks_fit bs (equals t u) = each_fits bs (in_term t ++ in_term u)
marks_fit bs (precedes i j) = each_fits bs (i ∷ j ∷ [])
marks_fit bs (not_so f) = marks_fit bs f
marks_fit bs (both f g) = marks_fit bs f && marks_fit bs g
marks_fit bs (either f g) = marks_fit bs f && marks_fit bs g
marks_fit bs (implies f g) = marks_fit bs f && marks_fit bs g
marks_fit bs (for_all x f) = marks_fit (x ∷ bs) f
marks_fit bs (for_some x f) = marks_fit (x ∷ bs) f

-- an action of more than sixteen arguments
abbrev pub has_wide : Formula → Bool
has_wide truth = false
has_wide falsity = false
has_wide (happens a i) = is_wide a.args
has_wide (equals t u) = false
has_wide (precedes i j) = false
has_wide (not_so f) = has_wide f
has_wide (both f g) = has_wide f || has_wide g
has_wide (either f g) = has_wide f || has_wide g
has_wide (implies f g) = has_wide f || has_wide g
has_wide (for_all x f) = has_wide f
has_wide (for_some x f) = has_wide f

abbrev pub if_right : Formula → Option Guarded → Option Guarded
if_right f None = None
if_right f (Some g) = if is_guarded g && (marks_fit [] f && not (has_wide f)) then Some g else None

-- the guarded form of a closed formula without findings
abbrev pub checked_form : Formula → Option Guarded
checked_form f = if_right f (guarded_form [] f)
