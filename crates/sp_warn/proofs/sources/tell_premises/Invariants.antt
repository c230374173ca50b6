use Rattle.std.proofs.Common.{◌≡◌, drop}
use Rattle.sp_read_parts.specs.Views.{facts_of}
use Rattle.sp_warn.specs.FormView.{made_of}
use Rattle.sp_lines.specs.TextsView.{texts_of}
use Rattle.sp_warn.specs.Told.{lines_after}
use Rattle.sp_warn.specs.Warnings.{without_source}
use Rattle.sp_warn.proofs.sources.tell_premises.Given as goal

abbrev pub invariant-loop-fact : goal.invariant-loop-fact
invariant-loop-fact l =
    lines_after (texts_of l.lines) (without_source (made_of l.made) l.rule.name.now (facts_of (drop l.fact-index l.rule.facts.premises.items)))
    ≡ lines_after (texts_of l.fn.lines) (without_source (made_of l.made) l.rule.name.now (facts_of l.rule.facts.premises.items))
