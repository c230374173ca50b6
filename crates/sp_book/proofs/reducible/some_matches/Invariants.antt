use Rattle.std.proofs.Common.{◌≡◌, map, drop}
use Rattle.std.specs.List.{list_any}
use Rattle.sp_term.specs.View.{view}
use Rattle.sp_fact.specs.GroundView.{equation_of}
use Rattle.sp_spec_forms.specs.Reducible.{is_matched}
use Rattle.sp_book.proofs.reducible.some_matches.Given as goal

abbrev pub invariant-loop-equation : goal.invariant-loop-equation
invariant-loop-equation l =
    list_any (is_matched (view l.term)) (map equation_of l.equations.items) ≡ list_any (is_matched (view l.term)) (map equation_of (drop l.equation-index l.equation-items))
