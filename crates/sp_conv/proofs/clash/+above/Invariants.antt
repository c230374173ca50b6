use Rattle.std.proofs.Common.{◌≡◌, ◌+◌, drop}
use Rattle.sp_term.specs.View.{view_all}
use Rattle.sp_spec_forms.specs.Shifted.{above_all}
use Rattle.sp_conv.proofs.clash.+above.Given as goal

abbrev pub invariant-above_all-loop-term : goal.invariant-above_all-loop-term
invariant-above_all-loop-term l = l.number + above_all (view_all (drop l.term-index l.term-items)) ≡ above_all (view_all l.terms.items)
