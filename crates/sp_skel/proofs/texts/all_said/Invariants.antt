use Rattle.std.proofs.Common.{◌≡◌, ◌++◌, drop, map, option_map}
use Rattle.sp_step.specs.WordsView.{said_of}
use Rattle.sp_skel.specs.MoveTexts.{all_said}
use Rattle.sp_skel.proofs.texts.all_said.Given as goal

abbrev pub invariant-loop-word : goal.invariant-loop-word
invariant-loop-word l = option_map (λ xs. map said_of l.said.items ++ xs) (all_said (map (λ w. w.now) (drop l.word-index l.words))) ≡ all_said (map (λ w. w.now) l.words)
