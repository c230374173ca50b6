use Rattle.std.proofs.Common.{ap₂, ◌∙◌}
use Rattle.sp_words.specs.Line.{with_words}
use Rattle.sp_words.proofs.Shapes.{required_is}
use Rattle.sp_words.proofs.arguments.spthy.Goals as goal

pub returns : goal.returns
returns c =
    let finds = c.in_ok-finds.ensures.shape c.in_ok-on_file.ensures.local ∙ ap₂ with_words c.in_ok-first_four.ensures c.in_ok-on_file.ensures.app in
    let draws = c.in_ok-draws.ensures.shape c.in_ok-drawing.ensures.local ∙ ap₂ with_words finds c.in_ok-drawing.ensures.app in
    let makes = c.in_ok-makes.ensures.shape c.in_ok-making.ensures.local ∙ ap₂ with_words draws c.in_ok-making.ensures.app in
    required_is c.in_ok-makes.makes c.subcommand_required.result c.subcommand_required.ensures makes
