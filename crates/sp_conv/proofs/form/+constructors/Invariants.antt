use Rattle.std.proofs.Common.{◌≡◌, drop, map}
use Rattle.sp_term.specs.View.{view_all}
use Rattle.sp_fact.specs.GroundView.{equation_of}
use Rattle.sp_conv.specs.Tests.{all_of_constructors}
use Rattle.sp_conv.proofs.form.+constructors.Given as goal

abbrev pub invariant-all_of_constructors-loop-term : goal.invariant-all_of_constructors-loop-term
invariant-all_of_constructors-loop-term l =
    all_of_constructors (map equation_of l.equations.items) (view_all l.terms.items) ≡ all_of_constructors (map equation_of l.equations.items) (view_all (drop l.term-index l.term-items))
