-- Names that are bound: which of them a binder stands before, and what becomes of formulas behind several binders.
use Rattle.std.proofs.Common.{◌≡◌, ℕ, Bool, true, false, ◌||◌, List, [], ◌∷◌, ◌++◌, map, append-nil, append_assoc, refl, sym, ap, ◌∙◌}
use Rattle.std.specs.Str.{bytes_eq}
use Rattle.sp_spec.specs.Lists.{is_listed, newest_first}
use Rattle.sp_spec.specs.Signature.{Symbol}
use Rattle.sp_spec.specs.Formula.{Written, Formula, for_all, for_some}
use Rattle.sp_spec.proofs.Lists.{newest_last}
use Rattle.sp_spec_text.specs.Shapes.{quantified}
use Rattle.sp_spec_text.specs.Formulas.{quantified_some}
use Rattle.sp_spec_text.specs.Declared.{resolved_formula}
use Rattle.sp_read_parts.specs.Formulas.{Joint, conjoint, disjoint, join, chain}
use Rattle.sp_resolved.specs.Names.{named}

-- ---- a name stands in a list whatever its order

listed_last : (x y : List ℕ) (xs : List (List ℕ)) → is_listed x (xs ++ y ∷ []) ≡ (bytes_eq y x || is_listed x xs)
listed_last x y [] = refl
listed_last x y (z ∷ xs) = ap (λ (b : Bool). bytes_eq z x || b) (listed_last x y xs) ∙ exchanged (bytes_eq z x) (bytes_eq y x) (is_listed x xs)
  where
    exchanged : (a b c : Bool) → (a || (b || c)) ≡ (b || (a || c))
    exchanged true true c = refl
    exchanged true false c = refl
    exchanged false true c = refl
    exchanged false false c = refl

pub listed_turned : (x : List ℕ) (xs : List (List ℕ)) → is_listed x (newest_first xs) ≡ is_listed x xs
listed_turned x [] = refl
listed_turned x (y ∷ xs) = listed_last x y (newest_first xs) ∙ ap (λ (b : Bool). bytes_eq y x || b) (listed_turned x xs)

-- ---- chains, and formulas behind binders

module _ (symbols : List Symbol) where
  join_resolved : (o : Joint) (bound : List (List ℕ)) (f g : Formula) → resolved_formula symbols bound (join o f g) ≡ join o (resolved_formula symbols bound f) (resolved_formula symbols bound g)
  join_resolved conjoint bound f g = refl
  join_resolved disjoint bound f g = refl

  pub chain_resolved : (o : Joint) (bound : List (List ℕ)) (f : Formula) (gs : List Formula)
      → resolved_formula symbols bound (chain o f gs) ≡ chain o (resolved_formula symbols bound f) (map (resolved_formula symbols bound) gs)
  chain_resolved o bound f [] = refl
  chain_resolved o bound f (g ∷ gs) =
      chain_resolved o bound (join o f g) gs ∙ ap (λ (h : Formula). chain o h (map (resolved_formula symbols bound) gs)) (join_resolved o bound f g)

  -- names before which more are bound
  next_bound : (bound : List (List ℕ)) (x : Written) (xs : List Written) → newest_first ((bound ++ named x ∷ []) ++ map named xs) ≡ newest_first (bound ++ map named (x ∷ xs))
  next_bound bound x xs = ap newest_first (append_assoc bound (named x ∷ []) (map named xs))

  pub all_resolved : (bound : List (List ℕ)) (xs : List Written) (f : Formula)
      → resolved_formula symbols (newest_first bound) (quantified xs f) ≡ quantified xs (resolved_formula symbols (newest_first (bound ++ map named xs)) f)
  all_resolved bound [] f = ap (λ (ns : List (List ℕ)). resolved_formula symbols (newest_first ns) f) (sym (append-nil bound))
  all_resolved bound (x ∷ xs) f =
      ap (λ (ns : List (List ℕ)). for_all x (resolved_formula symbols ns (quantified xs f))) (sym (newest_last bound (named x)))
      ∙ ap (for_all x) (all_resolved (bound ++ named x ∷ []) xs f
      ∙ ap (λ (ns : List (List ℕ)). quantified xs (resolved_formula symbols ns f)) (next_bound bound x xs))

  pub some_resolved : (bound : List (List ℕ)) (xs : List Written) (f : Formula)
      → resolved_formula symbols (newest_first bound) (quantified_some xs f) ≡ quantified_some xs (resolved_formula symbols (newest_first (bound ++ map named xs)) f)
  some_resolved bound [] f = ap (λ (ns : List (List ℕ)). resolved_formula symbols (newest_first ns) f) (sym (append-nil bound))
  some_resolved bound (x ∷ xs) f =
      ap (λ (ns : List (List ℕ)). for_some x (resolved_formula symbols ns (quantified_some xs f))) (sym (newest_last bound (named x)))
      ∙ ap (for_some x) (some_resolved (bound ++ named x ∷ []) xs f
      ∙ ap (λ (ns : List (List ℕ)). quantified_some xs (resolved_formula symbols ns f)) (next_bound bound x xs))
