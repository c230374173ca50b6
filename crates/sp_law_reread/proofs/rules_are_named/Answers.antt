use Rattle.sp_law_reread.proofs.Named.{rules_named}
use Rattle.sp_law_reread.proofs.rules_are_named.Goals as goal

pub returns : goal.returns
returns c = record { named = rules_named }
