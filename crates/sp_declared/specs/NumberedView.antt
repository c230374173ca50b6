-- What an equation with its number stands for.
use Rattle.sp_fact.specs.GroundView.{equation_of}
use Rattle.sp_spec_text.specs.Declared.{Numbered}
use Rattle.sp_declared.specs.declared.equations.NumberedEquation.{NumberedEquation}

abbrev pub numbered_of : NumberedEquation → Numbered
numbered_of e = (e.number, equation_of e.equation)
