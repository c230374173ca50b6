use Rattle.std.proofs.Common.{[], ◌∷◌, ◌++◌, map, ap, ◌∙◌}
use Rattle.std.proofs.lemmas.List.{map-append}
use Rattle.sp_term.specs.View.{view}
use Rattle.sp_variant.proofs.narrowing.with_last.Goals as goal

pub returns : goal.returns
returns c =
    ap (map view) c.in_ok-push.ensures.items
    ∙ map-append view c.in_ok-terms.terms.items (c.args.last ∷ [])
    ∙ ap (λ ts. ts ++ view c.args.last ∷ []) c.in_ok-terms.ensures.each
