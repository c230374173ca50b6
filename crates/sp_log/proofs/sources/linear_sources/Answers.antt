use Rattle.std.proofs.Common.{◌++◌, ⊎_elim, inl, inr, length, sym, ap, ◌∙◌, map, List}
use Rattle.std.proofs.lemmas.List.{append-nil}
use Rattle.std.proofs.lemmas.Slice.Zip.{either_empty_from_Zip}
use Rattle.std.specs.Slice.Iter.{iter_rest}
use Rattle.sp_spec.specs.Log as spec
use Rattle.sp_fact.specs.GroundView.{ground_fact}
use Rattle.sp_log.specs.View.{source_of}
use Rattle.sp_log.proofs.Uneven.{no_sources}
use Rattle.sp_log.proofs.sources.linear_sources.Goals as goal

pub returns : goal.returns
returns c =
    let as' = iter_rest c.loop-premise.premise-iterator.a in
    let bs = iter_rest c.loop-premise.premise-iterator.b in
    let named = map source_of c.loop-premise.named.items in
    let ended =
    ⊎_elim (λ e. inl (ap (λ xs. length (map ground_fact xs)) e)) (λ e. inr (ap (λ xs. length (map source_of xs)) e))
    (either_empty_from_Zip c.loop-premise.premise-iterator c.next.new.self c.next.result c.in-None.is c.next.ensures.steps) in
    sym (append-nil named)
    ∙ ap (λ (xs : List spec.Source). named ++ xs) (sym (no_sources (map ground_fact as') (map source_of bs) ended))
    ∙ c.loop-premise.invariant
