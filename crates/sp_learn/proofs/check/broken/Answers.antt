use Rattle.std.proofs.Common.{[], ◌∷◌, ◌++◌, map, sym, ap, subst}
use Rattle.std.proofs.lemmas.List.{append-nil}
use Rattle.sp_spec.specs.Log as spec
use Rattle.sp_fact.specs.GroundView.{ground_of}
use Rattle.sp_log.specs.View.{source_of}
use Rattle.sp_learn.specs.View.{IsUsed, entry_of}
use Rattle.sp_learn.proofs.Used.{used_more}
use Rattle.sp_learn.proofs.check.broken.Goals as goal

pub returns-else-not-is_one_of-clause-adds : goal.returns-else-not-is_one_of-clause-adds
returns-else-not-is_one_of-clause-adds c =
    let used = c.args.used.now in
    let earlier = map entry_of c.args.earlier.now in
    λ none'. subst (λ (e : spec.Entry). IsUsed used (earlier ++ e ∷ [])) (sym (ap entry_of c.in-Send.is))
    (used_more used used earlier (spec.send (ground_of c.in-Send.message)) c.requires.are_used
    (sym (append-nil (map source_of used.sources.items))) (sym (append-nil (map ground_of used.names.items)))
    (sym (append-nil (map ground_of used.learnt.items))))
