-- The guarded form of several quantifiers in a row.
use Rattle.std.proofs.Common.{◌≡◌, refl, sym, ap, ◌∙◌, List, [], ◌∷◌, ◌++◌, map, Option, Some, None, option_map}
use Rattle.sp_spec.specs.Formula.{Written, Formula}
use Rattle.sp_spec.specs.Guarded.{Guarded}
use Rattle.sp_spec_text.specs.Shapes.{quantified}
use Rattle.sp_spec_text.specs.Formulas.{quantified_some}
use Rattle.sp_read_parts.specs.Views.{variable}
use Rattle.sp_read_parts.specs.declared.written.WrittenVariable.{WrittenVariable}
use Rattle.sp_law_guard.specs.GuardedForm.{guarded_form}
use Rattle.sp_walk.specs.View.{innermost_first}
use Rattle.sp_walk.proofs.Collected.{regrouped, inside}
use Rattle.sp_spec.specs.Lists.{newest_first}
use Rattle.sp_guard.specs.Bound.{for_all_form, for_some_form, each_bound}

map_same : (o : Option Guarded) (g : Guarded → Guarded) → ((x : Guarded) → g x ≡ x) → option_map g o ≡ o
map_same None g h = refl
map_same (Some x) g h = ap (λ (y : Guarded). Some y) (h x)

map_twice : (o : Option Guarded) (g h : Guarded → Guarded) → option_map g (option_map h o) ≡ option_map (λ x. g (h x)) o
map_twice None g h = refl
map_twice (Some x) g h = refl

all_in_row : (bs xs : List Written) (f : Formula) → option_map (each_bound for_all_form xs) (guarded_form (newest_first xs ++ bs) f) ≡ guarded_form bs (quantified xs f)
all_in_row bs [] f = map_same (guarded_form bs f) (λ g. g) (λ g. refl)
all_in_row bs (x ∷ xs) f =
    sym (map_twice (guarded_form ((newest_first xs ++ x ∷ []) ++ bs) f) (for_all_form x) (each_bound for_all_form xs))
    ∙ ap (λ (cs : List Written). option_map (for_all_form x) (option_map (each_bound for_all_form xs) (guarded_form cs f))) (regrouped xs bs x)
    ∙ ap (option_map (for_all_form x)) (all_in_row (x ∷ bs) xs f)

some_in_row : (bs xs : List Written) (f : Formula) → option_map (each_bound for_some_form xs) (guarded_form (newest_first xs ++ bs) f) ≡ guarded_form bs (quantified_some xs f)
some_in_row bs [] f = map_same (guarded_form bs f) (λ g. g) (λ g. refl)
some_in_row bs (x ∷ xs) f =
    sym (map_twice (guarded_form ((newest_first xs ++ x ∷ []) ++ bs) f) (for_some_form x) (each_bound for_some_form xs))
    ∙ ap (λ (cs : List Written). option_map (for_some_form x) (option_map (each_bound for_some_form xs) (guarded_form cs f))) (regrouped xs bs x)
    ∙ ap (option_map (for_some_form x)) (some_in_row (x ∷ bs) xs f)

pub all_within : (bs vs all : List WrittenVariable) (f : Formula) (o : Option Guarded) → all ≡ bs ++ vs → o ≡ guarded_form (innermost_first all) f
    → option_map (each_bound for_all_form (map variable vs)) o ≡ guarded_form (innermost_first bs) (quantified (map variable vs) f)
all_within bs vs all f o e h =
    ap (option_map (each_bound for_all_form (map variable vs))) (h ∙ ap (λ (cs : List WrittenVariable). guarded_form (innermost_first cs) f) e ∙ ap (λ (cs : List Written). guarded_form cs f) (inside bs vs))
    ∙ all_in_row (innermost_first bs) (map variable vs) f

pub some_within : (bs vs all : List WrittenVariable) (f : Formula) (o : Option Guarded) → all ≡ bs ++ vs → o ≡ guarded_form (innermost_first all) f
    → option_map (each_bound for_some_form (map variable vs)) o ≡ guarded_form (innermost_first bs) (quantified_some (map variable vs) f)
some_within bs vs all f o e h =
    ap (option_map (each_bound for_some_form (map variable vs))) (h ∙ ap (λ (cs : List WrittenVariable). guarded_form (innermost_first cs) f) e ∙ ap (λ (cs : List Written). guarded_form cs f) (inside bs vs))
    ∙ some_in_row (innermost_first bs) (map variable vs) f
