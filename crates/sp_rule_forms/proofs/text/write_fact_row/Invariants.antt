use Rattle.std.proofs.Common.{◌≡◌, ◌++◌, true, drop, map, string_bytes}
use Rattle.sp_fact.specs.View.{fact_of}
use Rattle.sp_rule_forms.specs.Text.{shown_fact}
use Rattle.sp_rule_forms.proofs.Runs.{run}
use Rattle.sp_rule_forms.proofs.text.write_fact_row.Given as goal

abbrev pub invariant-loop-fact : goal.invariant-loop-fact
invariant-loop-fact l =
    string_bytes l.out ++ run l.first (map shown_fact (map fact_of (drop l.fact-index l.fact-items))) ≡ string_bytes l.fn.out ++ run true (map shown_fact (map fact_of l.facts.items))
