use Rattle.std.proofs.Common.{◌≡◌, drop, map}
use Rattle.sp_fact.specs.GroundView.{equation_of}
use Rattle.sp_read_parts.specs.Views as parts
use Rattle.sp_finding.specs.TermFindings as spec
use Rattle.sp_finding.proofs.terms.+destructors.Given as goal

abbrev pub invariant-have_destructor-loop-term : goal.invariant-have_destructor-loop-term
invariant-have_destructor-loop-term l =
    spec.have_destructor (map equation_of l.equations.items) (parts.terms l.terms.items)
    ≡ spec.have_destructor (map equation_of l.equations.items) (parts.terms (drop l.term-index l.term-items))
