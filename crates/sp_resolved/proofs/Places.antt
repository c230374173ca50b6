-- Where the proofs of lemmas stand, item by item.
use Rattle.std.proofs.Common.{◌≡◌, List, [], ◌∷◌, ◌++◌, refl, sym, ap, ap₂, ◌∙◌}
use Rattle.sp_spec_text.specs.Spans.{Span}
use Rattle.sp_written.specs.Views as view
use Rattle.sp_written.specs.declared.theory.Item.{Item}
use Rattle.sp_written.specs.declared.theory.Item.TheVariants as i

places_last : (xs : List Item) (x : Item) → view.spans (xs ++ x ∷ []) ≡ view.spans xs ++ view.spans (x ∷ [])
places_last [] x = refl
places_last (i.Builtins bs ∷ xs) x = places_last xs x
places_last (i.Functions fs ∷ xs) x = places_last xs x
places_last (i.Equations es ∷ xs) x = places_last xs x
places_last (i.Heuristic ws ∷ xs) x = places_last xs x
places_last (i.Block w ∷ xs) x = places_last xs x
places_last (i.Rule r ∷ xs) x = places_last xs x
places_last (i.Restriction r ∷ xs) x = places_last xs x
places_last (i.Lemma l ∷ xs) x = ap (λ (ss : List Span). view.span_of l.span ∷ ss) (places_last xs x)

pub places_then : (xs ys zs : List Item) (x y : Item) → zs ≡ xs ++ x ∷ [] → view.spans xs ≡ view.spans ys → view.spans (x ∷ []) ≡ view.spans (y ∷ []) → view.spans zs ≡ view.spans (ys ++ y ∷ [])
places_then xs ys zs x y is before one =
    ap view.spans is ∙ places_last xs x ∙ ap₂ (λ (ss us : List Span). ss ++ us) before one ∙ sym (places_last ys y)
