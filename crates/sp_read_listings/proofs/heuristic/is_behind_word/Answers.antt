use Rattle.sp_read_listings.proofs.Beginnings.{behind_word_block, behind_word_bracket}
use Rattle.sp_read_listings.proofs.heuristic.is_behind_word.Goals as goal

pub returns-in-Some : goal.returns-in-Some
returns-in-Some c = behind_word_block c.in-Some.ensures.value

pub returns-in-Some-after : goal.returns-in-Some-after
returns-in-Some-after c = behind_word_bracket c.in-Some-after.ensures.value
