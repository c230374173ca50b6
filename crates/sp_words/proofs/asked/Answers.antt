use Rattle.std.proofs.Common.{ap, ◌∙◌, option_map}
use Rattle.clap.specs.Words.{found_of}
use Rattle.sp_words.specs.Line.{command_word, text_of}
use Rattle.sp_words.proofs.Asking.{asks_this, names_any, names_one, no_budget, no_lemma}
use Rattle.sp_words.proofs.asked.Goals as goal
use Rattle.sp_words.proofs.asked.Goals.{in_default-via-in-Graph+in_default, in_default-via-in_default}

pub returns-in_err-budget : goal.returns-in_err-budget
returns-in_err-budget c = rw c.from_residual-in_err-budget.ensures
    (no_budget (found_of c.args.values.now) c.args.word.now c.get_str.result c.get_str.ensures c.in_err-budget.ensures)

pub returns-in-Graph-None : goal.returns-in-Graph-None
returns-in-Graph-None c = no_lemma (found_of c.args.values.now) c.args.word.now c.get_str-lemma.result c.get_str-lemma.ensures c.in-Graph-None.is-1
    (c.in_ok-command.ensures ∙ ap command_word c.in-Graph-None.is-0)

pub returns-in_default : goal.returns-in_default
returns-in_default c = asks_this (found_of c.args.values.now) c.args.word.now c.in_ok-command.command (text_of c.in_ok-text.text)
    c.in_ok-budget.budget c.get_str.result c.get_str-lemma.result c.in_ok-command.ensures c.in_ok-text.ensures c.get_str.ensures
    c.in_ok-budget.ensures c.get_str-lemma.ensures
    (elim c.in_default.branch [
      | in_default-via-in-Graph+in_default w ↦ names_one c.in_ok-command.command c.get_str-lemma.result w.in_default.field-0-1 w.in_default.is-1
      | in_default-via-in_default w ↦ names_any c.in_ok-command.command (option_map (λ s. s.now) c.get_str-lemma.result) w.in_default.not-Graph-0
    ])
