use Rattle.std.proofs.Common.{◌≡◌, drop, map}
use Rattle.sp_term.specs.Bindings.{bindings}
use Rattle.sp_term.specs.View.{view}
use Rattle.sp_system.specs.Stays.{term_stays}
use Rattle.sp_formula.specs.Staying.{all_so}
use Rattle.sp_system.proofs.staying.terms_stay.Given as goal

abbrev pub invariant-loop-term : goal.invariant-loop-term
invariant-loop-term l = all_so (term_stays (bindings l.subst)) (map view l.terms.items) ≡ all_so (term_stays (bindings l.subst)) (map view (drop l.term-index l.term-items))
