use Rattle.std.proofs.Common.{◌≡◌, ap₂, ◌∙◌}
use Rattle.std.proofs.lemmas.Result.{IfOk-weaker}
use Rattle.clap.specs.Words.{app_of}
use Rattle.sp_words.specs.Line.{first_four, with_words}
use Rattle.sp_words.proofs.arguments.first_four.Goals as goal

pub returns : goal.returns
returns c =
    let proves = c.in_ok-proves.ensures.shape c.in_ok-proving.ensures.local ∙ ap₂ with_words c.new.ensures.app c.in_ok-proving.ensures.app in
    let checks = c.in_ok-checks.ensures.shape c.in_ok-on_file.ensures.local ∙ ap₂ with_words proves c.in_ok-on_file.ensures.app in
    let replays = c.in_ok-replays.ensures.shape c.in_ok-on_file-2.ensures.local ∙ ap₂ with_words checks c.in_ok-on_file-2.ensures.app in
    IfOk-weaker c.subcommand-4.result _ (λ shows. app_of shows ≡ first_four)
    (λ shows added. added.shape c.in_ok-on_file-3.ensures.local ∙ ap₂ with_words replays c.in_ok-on_file-3.ensures.app) c.subcommand-4.ensures
