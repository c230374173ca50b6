use Rattle.std.proofs.Common.{◌+◌, sym, ap, ◌∙◌, arith, drop, length}
use Rattle.std.proofs.lemmas.List.{drop_all}
use Rattle.std.proofs.lemmas.Str.Pattern.{split_once_first}
use Rattle.sp_graph.proofs.Words.{word_passed}
use Rattle.sp_graph.proofs.graph.behind_word.Goals as goal

pub returns-in-Some : goal.returns-in-Some
returns-in-Some c =
    let text = c.args.text.now in
    let parts = split_once_first 32 text c.split_once.result c.split_once.ensures.cases (omega arith) in
    let found = rw c.in-Some.is at parts in
    found.2 ∙ sym (word_passed text)

pub returns-in-None : goal.returns-in-None
returns-in-None c =
    let text = c.args.text.now in
    let parts = split_once_first 32 text c.split_once.result c.split_once.ensures.cases (omega arith) in
    let lacks = rw c.in-None.is at parts in
    sym (word_passed text ∙ ap (λ n. drop (n + 1) text) lacks ∙ drop_all (length text + 1) text (omega arith))
