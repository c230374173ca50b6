use Rattle.std.proofs.Common.{◌∷◌, ◌++◌, [], List, ℕ, ap, ◌∙◌}
use Rattle.std.proofs.lemmas.List.{map-append}
use Rattle.sp_declared.specs.View as declared
use Rattle.sp_warn.specs.Constants.{alike_before}
use Rattle.sp_warn.specs.Groups.{in_group}
use Rattle.sp_lines.specs.TextsView.{texts_of}
use Rattle.sp_warn.specs.Told.{lines_after}
use Rattle.sp_warn.proofs.Grouping.{in_its_group, grouped_more}
use Rattle.sp_warn.proofs.alike.tell_constant.Goals as goal

pub returns-clause-told : goal.returns-clause-told
returns-clause-told c before grouped =
    let old = texts_of c.args.lines.now in
    let text = c.args.constant.now in
    c.in_ok-tell_alike_to.ensures
    ∙ ap (λ (cs : List (List ℕ)). lines_after old (alike_before cs text))
    (c.take_group-group.ensures.group ∙ grouped c.in_ok-lower.lower ∙ ap (λ (k : List ℕ). in_group k before) c.in_ok-lower.ensures.ok)
    ∙ ap (lines_after old) (in_its_group text before)

pub returns-clause-grouped : goal.returns-clause-grouped
returns-clause-grouped c before grouped =
    let taken = c.take_group-group in
    let text = c.args.constant.now in
    let more = ap declared.texts_of c.in_ok-push.ensures.items ∙ map-append (λ t. t.now) taken.result.items (c.args.constant ∷ []) ∙ ap (λ (cs : List (List ℕ)). cs ++ text ∷ []) taken.ensures.group in
    grouped_more c.args.groups.now taken.new.groups c.insert.new.self text before c.in_ok-lower.lower c.push.new.self grouped c.in_ok-lower.ensures.ok taken.ensures.taken
    c.in_ok-insert.ensures.updates more
