-- The formulas that formulas in memory stand for.
use Rattle.std.specs.Prelude.{map}
use Rattle.sp_spec.specs.Guarded as spec
use Rattle.sp_term.specs.View.{sort_of}
use Rattle.sp_formula.specs.PlaceView.{placed_term, placed_action}
use Rattle.sp_formula.specs.declared.formula.Moment.{Moment}
use Rattle.sp_formula.specs.declared.formula.Moment.TheVariants as moment
use Rattle.sp_formula.specs.declared.formula.Atom.{Atom}
use Rattle.sp_formula.specs.declared.formula.Atom.TheVariants.{Acts, Same, SameTime, Before, Last}
use Rattle.sp_formula.specs.declared.formula.Binder.{Binder}
use Rattle.sp_formula.specs.declared.formula.Binder.TheVariants.{Message, Time}
use Rattle.sp_formula.specs.declared.formula.Formula.{Formula, fold-Formula}
use Rattle.sp_formula.specs.declared.formula.Formula.TheOpen.{Formula-F}

abbrev pub moment_of : Moment → spec.Time
moment_of (moment.Bound k) = spec.bound_time k
moment_of (moment.Free i) = spec.free_time i

abbrev pub atom_of : Atom → spec.Atom
atom_of (Acts a i) = spec.acts (placed_action a) (moment_of i)
atom_of (Same t u) = spec.same (placed_term t) (placed_term u)
atom_of (SameTime i j) = spec.same_time (moment_of i) (moment_of j)
atom_of (Before i j) = spec.before (moment_of i) (moment_of j)
atom_of (Last i) = spec.last (moment_of i)

abbrev pub binder_of : Binder → spec.Binder
binder_of (Message sort) = spec.message (sort_of sort)
binder_of Time = spec.time

-- one level, with each formula inside already seen
abbrev pub formula_step : Formula-F spec.Guarded → spec.Guarded
formula_step Formula-F.Truth = spec.truth
formula_step Formula-F.Falsity = spec.falsity
formula_step (Formula-F.Holds a) = spec.holds (atom_of a)
formula_step (Formula-F.Fails a) = spec.fails (atom_of a)
formula_step (Formula-F.AllOf fs) = spec.all_of (spec.guardeds_of fs.items)
formula_step (Formula-F.OneOf fs) = spec.one_of (spec.guardeds_of fs.items)
formula_step (Formula-F.Exists bs guard f) = spec.some (map binder_of bs.items) (map atom_of guard.items) f.value
formula_step (Formula-F.ForAll bs guard f) = spec.every (map binder_of bs.items) (map atom_of guard.items) f.value

abbrev pub formula_of : Formula → spec.Guarded
formula_of = fold-Formula spec.Guarded formula_step
