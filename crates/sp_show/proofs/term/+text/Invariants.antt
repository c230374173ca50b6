use Rattle.std.proofs.Common.{◌≡◌, ◌++◌, true, drop, string_bytes}
use Rattle.sp_fact.specs.GroundView.{grounds_of}
use Rattle.sp_show.specs.Numbers.{HaveNames, numbered_names}
use Rattle.sp_show.specs.Runs.{terms_run}
use Rattle.sp_show.proofs.term.+text.Given as goal

abbrev pub invariant-write_row-loop-term : goal.invariant-write_row-loop-term
invariant-write_row-loop-term l =
    (string_bytes l.out ++ terms_run l.first l.in_pair (grounds_of (drop l.term-index l.term-items)) ≡ string_bytes l.fn.out ++ terms_run true l.in_pair (grounds_of l.terms.items))
    × (HaveNames numbered_names (grounds_of (drop l.term-index l.term-items)) → HaveNames numbered_names (grounds_of l.terms.items))
