-- What destructions in memory stand for. Source: Meier's thesis, chapter 3 (chains).
use Rattle.std.specs.Prelude.{List, [], Option, Some, None}
use Rattle.sp_spec.specs.Term as spec
use Rattle.sp_spec.specs.Term.{Terms}
use Rattle.sp_spec.specs.Signature.{Symbol}
use Rattle.sp_spec.specs.Destruction as spec_destruction
use Rattle.sp_spec.specs.Destruction.{Fork, along}
use Rattle.sp_term.specs.View.{view, view_all}
use Rattle.sp_destruct.specs.declared.destruction.Destruction.{Destruction}

abbrev pub destruction_of : Destruction → spec_destruction.Destruction
destruction_of d = record { pattern = view d.pattern; sides = view_all d.sides.items; result = view d.result }

-- those on the way down, if there is one, beside these
abbrev pub along_from : List Symbol → spec.Term spec.Variable → Terms spec.Variable → Option (List Fork) → List spec_destruction.Destruction
along_from symbols r sides None = []
along_from symbols r sides (Some forks) = along symbols r sides forks
