use Rattle.std.proofs.Common.{option_map, sym, ◌∙◌}
use Rattle.sp_analysis.proofs.Outcomes.{lacks_lemma}
use Rattle.sp_analysis.proofs.replies.attempted.Goals as goal

pub returns-else-is_among : goal.returns-else-is_among
returns-else-is_among c = lacks_lemma (option_map (λ s. s.now) c.args.chosen) c.args.problem c.requires (sym c.is_among.ensures ∙ c.if-is_among.false)
