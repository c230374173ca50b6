-- What pairs of terms in memory, a `Found` and a `Step` stand for.
use Rattle.sp_spec.specs.Unifier.{Pair, Difference, no_difference, clash, binding}
use Rattle.sp_term.specs.View.{variable_of, view}
use Rattle.sp_term.specs.declared.term.Term.{Term}
use Rattle.sp_term.specs.declared.term.Variable.{Variable}
use Rattle.sp_unify.specs.declared.unify.Found.{Found}
use Rattle.sp_unify.specs.declared.unify.Found.TheVariants as found
use Rattle.sp_unify.specs.declared.unify.Step.{Step}
use Rattle.sp_unify.specs.declared.unify.Step.TheVariants as step

abbrev pub pair_view : Term Variable × Term Variable → Pair
pair_view p = (view p.0, view p.1)

abbrev pub found_of : Found → Difference
found_of found.Same = no_difference
found_of found.Clash = clash
found_of (found.Bind x t) = binding (variable_of x) (view t.now)

abbrev pub step_of : Step → Difference
step_of step.Done = no_difference
step_of step.Fails = clash
step_of (step.Binds x t) = binding (variable_of x) (view t)
