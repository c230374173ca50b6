use Rattle.std.proofs.Common.{[], ◌∷◌, ◌++◌, map, sym, ap, ◌∙◌}
use Rattle.std.proofs.lemmas.List.{append-nil, map-append}
use Rattle.sp_spec.specs.Term.{Ground}
use Rattle.sp_spec.specs.Log.{learn}
use Rattle.sp_fact.specs.GroundView.{ground_of}
use Rattle.sp_log.specs.View.{source_of}
use Rattle.sp_learn.specs.View.{entry_of, how_of}
use Rattle.sp_learn.proofs.Used.{used_more}
use Rattle.sp_learn.proofs.check.broken_learn.Goals as goal

pub returns-clause-adds : goal.returns-clause-adds
returns-clause-adds c =
    let before = c.args.used.now in
    let learnt = map ground_of before.learnt.items in
    λ none'. used_more before (record { sources = before.sources; names = c.name_is_new.new.names; learnt = c.push.new.self })
    (map entry_of c.args.earlier.now) (learn (ground_of c.args.message.now) (how_of c.args.how.now)) c.requires.are_used
    (sym (append-nil (map source_of before.sources.items)))
    (c.in_ok-name_is_new.ensures.adds c.if-not-branch.false)
    (ap (map ground_of) c.in_ok-push.ensures.items ∙ map-append ground_of before.learnt.items (c.in_ok-clone.field-0 ∷ [])
    ∙ ap (λ (t : Ground). learnt ++ t ∷ []) c.in_ok-clone.ensures.cases)
