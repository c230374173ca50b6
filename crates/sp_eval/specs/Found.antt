-- What is tested of the environments that may make a quantifier's guard true.
use Rattle.std.specs.Prelude.{Bool, ◌&&◌, ◌||◌, not, List}
use Rattle.sp_spec.specs.Execution.{Trace}
use Rattle.sp_spec.specs.Guarded.{Atom, Guarded}
use Rattle.sp_law_decide.specs.Deciding as deciding
use Rattle.sp_law_decide.specs.Deciding.{Environment, assignment_of, atoms_true, decided}

abbrev pub for_one : Trace → List Atom → Guarded → List Environment → Bool
for_one trace guard body envs = deciding.for_one (λ c. atoms_true trace (assignment_of c) guard && decided trace c body) envs

abbrev pub for_each : Trace → List Atom → Guarded → List Environment → Bool
for_each trace guard body envs = deciding.for_each (λ c. not (atoms_true trace (assignment_of c) guard) || decided trace c body) envs
