use Rattle.sp_read_listings.proofs.Beginnings.{dashed_at, dashed_no_word, dashed_no_quote}
use Rattle.sp_read_listings.proofs.heuristic.is_dashed.Goals as goal

pub returns-in_default-word : goal.returns-in_default-word
returns-in_default-word c = dashed_no_word c.in-Some.ensures.value c.in_default-word.ensures.value

pub returns-in-Some-after : goal.returns-in-Some-after
returns-in-Some-after c = dashed_at c.in-Some.ensures.value c.in-Some-word.ensures.value c.in-Some-after.ensures.value

pub returns-in-None : goal.returns-in-None
returns-in-None c = dashed_no_quote c.in-Some.ensures.value c.in-Some-word.ensures.value c.in-None.ensures.value
