-- What is said of formulas that are joined, by what is said of each.
use Rattle.std.proofs.Common.{◌≡◌, ◌&&◌, List, [], ◌∷◌, refl}
use Rattle.std.specs.Option.{option_or}
use Rattle.sp_spec.specs.Formula.{Written, Formula}
use Rattle.sp_read_parts.specs.Formulas.{Joint, conjoint, disjoint, join, chain}
use Rattle.sp_law_guard.specs.CheckedForm.{marks_fit}
use Rattle.sp_guard.specs.Unguarded.{QuantifierAbove, nothing_above, unguarded}

pub fit_joined : (bs : List Written) (o : Joint) (f g : Formula) → marks_fit bs (join o f g) ≡ marks_fit bs f && marks_fit bs g
fit_joined bs conjoint f g = refl
fit_joined bs disjoint f g = refl

pub unguarded_joined : (bs : List Written) (above : QuantifierAbove) (o : Joint) (f g : Formula)
    → unguarded bs above (join o f g) ≡ option_or (unguarded bs nothing_above f) (unguarded bs nothing_above g)
unguarded_joined bs above conjoint f g = refl
unguarded_joined bs above disjoint f g = refl

-- whatever stands above
pub any_above : (bs : List Written) (a b : QuantifierAbove) (o : Joint) (f g : Formula) (hs : List Formula) → unguarded bs a (chain o (join o f g) hs) ≡ unguarded bs b (chain o (join o f g) hs)
any_above bs a b conjoint f g [] = refl
any_above bs a b disjoint f g [] = refl
any_above bs a b o f g (h ∷ hs) = any_above bs a b o (join o f g) h hs
