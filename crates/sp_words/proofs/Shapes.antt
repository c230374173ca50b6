-- The command with its seven subcommands, of which one is required.
use Rattle.std.proofs.Common.{◌≡◌, true, ap, ◌∙◌}
use Rattle.clap.specs.Words.{App, app_of}
use Rattle.clap.specs.Simple.{app_of_fields}
use Rattle.clap.specs.declared.builder.command.Command.{Command}
use Rattle.clap.specs.declared.builder.command.Command.TheViews.{out-Command}
use Rattle.sp_words.specs.Line.{command_word, drawing, first_four, making, on_file, spthy, with_words}
use Rattle.sp_words.specs.declared.Command.TheVariants.{Wf}

abbrev pub all_seven : App
all_seven = with_words (with_words (with_words first_four (on_file (command_word Wf))) drawing) making

pub required_is : (old new : Command) → out-Command new ≡ record (out-Command old) { subcommand_required = true } → app_of old ≡ all_seven → app_of new ≡ spthy
unfolding spthy
required_is old new e is = ap app_of_fields e ∙ ap (λ (a : App). record a { top = record a.top { subcommand_required = true } }) is
