use Rattle.sp_law_log.proofs.Destructions.{destruction_place}
use Rattle.sp_law_log.proofs.destructions_sound.Goals as goal

pub returns : goal.returns
returns c = record { each = λ signature d m. destruction_place signature d m }
