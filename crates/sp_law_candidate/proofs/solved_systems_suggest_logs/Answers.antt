use Rattle.sp_law_candidate.proofs.Ready.{suggests, suggests_alone}
use Rattle.sp_law_candidate.proofs.solved_systems_suggest_logs.Goals as goal

pub returns : goal.returns
returns c = record { suggest = suggests; no_others = suggests_alone }
