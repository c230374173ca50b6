use Rattle.std.proofs.Common.{◌≡◌, ℕ, ◌+◌, List, ◌∷◌, [], ◌++◌, map, sym, ap, ◌∙◌, arith}
use Rattle.std.proofs.lemmas.List.{map-append}
use Rattle.sp_spec.specs.Term.{Variable, Term}
use Rattle.sp_spec.specs.Signature.{msg}
use Rattle.sp_term.specs.View.{view}
use Rattle.sp_moves_decide.proofs.NewVariables.{one_more, new_list}
use Rattle.sp_moves_decide.proofs.top.new_variables.Goals as goal

pub loop-place-preserved : goal.loop-place-preserved
loop-place-preserved c =
    let e : c.in-Some.number ≡ c.args.first + c.loop-place.place = omega arith in
    ap (map view) c.in_ok-push.ensures.items ∙ map-append view c.loop-place.made.items (c.message.result ∷ [])
    ∙ ap (λ (t : Term Variable). map view c.loop-place.made.items ++ t ∷ []) c.message.ensures
    ∙ ap (λ (ts : List (Term Variable)). ts ++ msg c.in-Some.number ∷ []) c.loop-place.invariant
    ∙ ap (λ (k : ℕ). new_list c.loop-place.place c.args.first ++ msg k ∷ []) e
    ∙ sym (one_more c.loop-place.place c.args.first)
