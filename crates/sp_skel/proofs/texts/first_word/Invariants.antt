use Rattle.std.proofs.Common.{◌≡◌, take, drop}
use Rattle.sp_skel.specs.MoveTexts.{words, words_from}
use Rattle.sp_skel.proofs.Cut.{joined}
use Rattle.sp_skel.proofs.texts.first_word.Given as goal

abbrev pub invariant-loop-place : goal.invariant-loop-place
invariant-loop-place l = joined (take l.place l.text) (words_from l.quoted (drop l.place l.text)) ≡ words l.text
