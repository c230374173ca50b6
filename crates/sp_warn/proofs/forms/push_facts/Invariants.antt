use Rattle.std.proofs.Common.{◌≡◌, ◌++◌, map, drop}
use Rattle.sp_read_parts.specs.Views as parts
use Rattle.sp_warn.specs.Forms as spec
use Rattle.sp_warn.specs.FormView.{form_of}
use Rattle.sp_warn.proofs.forms.push_facts.Given as goal

abbrev pub invariant-loop-fact : goal.invariant-loop-fact
invariant-loop-fact l =
    map form_of l.found.items ++ map spec.fact_form (parts.facts_of (drop l.fact-index l.fact-items))
    ≡ map form_of l.fn.found.items ++ map spec.fact_form (parts.facts_of l.facts.items)
