-- What atoms give: of quantifiers in a row what stands in their reach gives, and of a chain each part.
use Rattle.std.proofs.Common.{◌≡◌, List, [], ◌∷◌, ◌++◌, map, append_assoc, refl, ap, ◌∙◌}
use mathlib.Core.List.{map-append}
use Rattle.sp_spec.specs.Lists.{newest_first}
use Rattle.sp_spec.proofs.Lists.{newest_append}
use Rattle.sp_spec.specs.Formula.{Written, Formula}
use Rattle.sp_spec_text.specs.Shapes.{quantified}
use Rattle.sp_spec_text.specs.Formulas.{quantified_some}
use Rattle.sp_read_parts.specs.Views.{variable}
use Rattle.sp_read_parts.specs.Formulas.{Joint, conjoint, disjoint, join}
use Rattle.sp_read_parts.specs.declared.written.WrittenVariable.{WrittenVariable}
use Rattle.sp_walk.specs.Atoms.{Atom, collected}
use Rattle.sp_walk.specs.View.{innermost_first}

pub regrouped : (xs bs : List Written) (x : Written) → (newest_first xs ++ x ∷ []) ++ bs ≡ newest_first xs ++ (x ∷ bs)
regrouped xs bs x = append_assoc (newest_first xs) (x ∷ []) bs

pub inside : (bs vs : List WrittenVariable) → innermost_first (bs ++ vs) ≡ newest_first (map variable vs) ++ innermost_first bs
inside bs vs = ap (λ (cs : List Written). newest_first cs) (map-append variable bs vs) ∙ newest_append (map variable bs) (map variable vs)

module _ {A : Type 0} (gives : List Written → Atom → List A) where
  in_all : (bs xs : List Written) (f : Formula) → collected gives (newest_first xs ++ bs) f ≡ collected gives bs (quantified xs f)
  in_all bs [] f = refl
  in_all bs (x ∷ xs) f = ap (λ (cs : List Written). collected gives cs f) (regrouped xs bs x) ∙ in_all (x ∷ bs) xs f

  in_some : (bs xs : List Written) (f : Formula) → collected gives (newest_first xs ++ bs) f ≡ collected gives bs (quantified_some xs f)
  in_some bs [] f = refl
  in_some bs (x ∷ xs) f = ap (λ (cs : List Written). collected gives cs f) (regrouped xs bs x) ∙ in_some (x ∷ bs) xs f

  pub behind_all : (bs vs : List WrittenVariable) (f : Formula) → collected gives (innermost_first (bs ++ vs)) f ≡ collected gives (innermost_first bs) (quantified (map variable vs) f)
  behind_all bs vs f = ap (λ (cs : List Written). collected gives cs f) (inside bs vs) ∙ in_all (innermost_first bs) (map variable vs) f

  pub behind_some : (bs vs : List WrittenVariable) (f : Formula) → collected gives (innermost_first (bs ++ vs)) f ≡ collected gives (innermost_first bs) (quantified_some (map variable vs) f)
  behind_some bs vs f = ap (λ (cs : List Written). collected gives cs f) (inside bs vs) ∙ in_some (innermost_first bs) (map variable vs) f

  pub joined : (bs : List Written) (o : Joint) (f g : Formula) → collected gives bs (join o f g) ≡ collected gives bs f ++ collected gives bs g
  joined bs conjoint f g = refl
  joined bs disjoint f g = refl
