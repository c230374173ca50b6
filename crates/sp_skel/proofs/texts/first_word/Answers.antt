use Rattle.std.proofs.Common.{false}
use Rattle.sp_skel.proofs.Cut.{begun}
use Rattle.sp_skel.proofs.texts.first_word.Goals as goal

pub loop-place-init : goal.loop-place-init
loop-place-init c = begun false c.args.text.now
