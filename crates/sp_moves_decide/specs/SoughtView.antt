-- What is looked for, that in memory stands for.
use Rattle.sp_term.specs.View.{name_of, variable_of}
use Rattle.sp_moves_decide.specs.Sought as spec
use Rattle.sp_moves_decide.specs.declared.occurring.Sought.{Sought}
use Rattle.sp_moves_decide.specs.declared.occurring.Sought.TheVariants.{Variable, PublicName}

abbrev pub sought_of : Sought → spec.Sought
sought_of (Variable x) = spec.variable (variable_of x)
sought_of (PublicName c) = spec.public_name (name_of c.now)
