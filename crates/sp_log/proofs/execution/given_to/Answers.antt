use Rattle.std.proofs.Common.{◌++◌, ⊎_elim, inl, inr, sym, ap, ◌∙◌, map, List, ℕ}
use Rattle.std.proofs.lemmas.List.{append-nil}
use Rattle.std.proofs.lemmas.Slice.Zip.{either_empty_from_Zip}
use Rattle.std.specs.Slice.Iter.{iter_rest}
use Rattle.sp_spec.specs.Term.{Ground}
use Rattle.sp_fact.specs.GroundView.{given_of, grounds_of}
use Rattle.sp_fact.specs.View.{declared_of}
use Rattle.sp_log.proofs.Uneven.{none_given}
use Rattle.sp_log.proofs.execution.given_to.Goals as goal

pub returns : goal.returns
returns c =
    let as' = iter_rest c.loop-declared.declared-iterator.a in
    let bs = iter_rest c.loop-declared.declared-iterator.b in
    let given = map given_of c.loop-declared.given.items in
    let ended =
    ⊎_elim (λ e. inl (ap (map declared_of) e)) (λ e. inr (ap grounds_of e))
    (either_empty_from_Zip c.loop-declared.declared-iterator c.next.new.self c.next.result c.in-None.is c.next.ensures.steps) in
    sym (append-nil given)
    ∙ ap (λ (xs : List (List ℕ × Ground)). given ++ xs) (sym (none_given (map declared_of as') (grounds_of bs) ended))
    ∙ c.loop-declared.invariant
