use Rattle.std.proofs.Common.{◌≡◌, ◌++◌, drop, map}
use Rattle.sp_fact.specs.GroundView.{equation_of}
use Rattle.sp_spec_text.specs.Declared.{their_equations}
use Rattle.sp_declared.specs.NumberedView.{numbered_of}
use Rattle.sp_wf_symbols.proofs.equations.without_numbers.Given as goal

abbrev pub invariant-loop-numbered : goal.invariant-loop-numbered
invariant-loop-numbered l =
    map equation_of l.made.items ++ their_equations (map numbered_of (drop l.numbered-index l.numbered-items))
    ≡ their_equations (map numbered_of l.equations.items)
