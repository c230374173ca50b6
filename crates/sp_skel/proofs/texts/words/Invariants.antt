use Rattle.std.proofs.Common.{◌≡◌, ◌++◌, map, option_map}
use Rattle.sp_skel.specs.MoveTexts.{words, words_behind}
use Rattle.sp_skel.proofs.Cut.{left}
use Rattle.sp_skel.proofs.texts.words.Given as goal

abbrev pub invariant-loop-rest : goal.invariant-loop-rest
invariant-loop-rest l = map (λ w. w.now) l.words.items ++ words_behind (option_map (λ x. x.now) l.rest) ≡ words l.text

abbrev pub decreases-loop-rest : goal.decreases-loop-rest
decreases-loop-rest l = left (option_map (λ x. x.now) l.rest)
