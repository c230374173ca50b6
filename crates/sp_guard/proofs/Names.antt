-- The binders of a quantifier and their names, in memory.
use Rattle.std.proofs.Common.{arith, ◌≡◌, ◌⊎◌, ◌≤◌, refl, sym, ap, ap₂, ◌∙◌, inl, inr, ℕ, List, [], ◌∷◌, ◌++◌, length, map, Option, None}
use Rattle.std.specs.Option.{option_or}
use Rattle.sp_spec.specs.Formula.{Written, Formula}
use Rattle.sp_spec.specs.Guarded.{Atom}
use Rattle.sp_spec_text.specs.Shapes.{quantified}
use Rattle.sp_spec_text.specs.Formulas.{quantified_some}
use Rattle.sp_read_parts.specs.Views.{variable}
use Rattle.sp_read_parts.specs.declared.written.WrittenVariable.{WrittenVariable}
use Rattle.sp_formula.specs.FormulaView.{binder_of}
use Rattle.sp_formula.specs.declared.formula.Binder.{Binder}
use Rattle.sp_formula.specs.declared.formula.Binder.TheVariants.{Message, Time}
use Rattle.sp_law_guard.specs.GuardedForm.{guarded_form}
use Rattle.sp_law_guard.specs.IsGuarded.{messages_in}
use Rattle.sp_guard.specs.View.{innermost_first}
use Rattle.sp_guard.specs.Unguarded.{QuantifierAbove, turned, unguarded}
use Rattle.sp_guard.specs.FirstNamed.{named_in, named_in_form, below_each}
use Rattle.sp_walk.proofs.Collected.{inside}
use Rattle.sp_guard.proofs.OneByOne.{some_one_by_one, all_one_by_one}

pub few_messages : (bs : List Binder) → messages_in (map binder_of bs) ≤ length bs
few_messages [] = omega arith
few_messages (Message sort ∷ bs) = omega (arith, few_messages bs)
few_messages (Time ∷ bs) = omega (arith, few_messages bs)

pub named_end : (n : ℕ) (guard : List Atom) (bs : List Binder) (xs : List WrittenVariable) → (bs ≡ []) ⊎ (xs ≡ []) → named_in n guard (map binder_of bs) (map variable xs) ≡ None
named_end n guard [] xs e = refl
named_end n guard (b ∷ bs) [] e = refl
named_end n guard (b ∷ bs) (x ∷ xs) (inl e) = absurd cc
named_end n guard (b ∷ bs) (x ∷ xs) (inr e) = absurd cc

-- The names of one All or Ex, and then those inside.
pub all_named : (bs vs all : List WrittenVariable) (above below : QuantifierAbove) (f shown : Formula) (first : Option (List ℕ)) → shown ≡ quantified (map variable vs) f
    → first ≡ named_in_form above.of_all (guarded_form (innermost_first bs) shown) (map variable vs)
    → all ≡ bs ++ vs → below ≡ turned (below_each (map variable vs) (turned above))
    → option_or first (unguarded (innermost_first all) below f) ≡ unguarded (innermost_first bs) above shown
all_named bs vs all above below f shown first written one e under =
    let cs = innermost_first bs in
    let inner = turned (below_each (map variable vs) (turned above)) in
    ap₂ (λ (o p : Option (List ℕ)). option_or o p) (one ∙ ap (λ (g : Formula). named_in_form above.of_all (guarded_form cs g) (map variable vs)) written)
    (ap (λ (a : QuantifierAbove). unguarded (innermost_first all) a f) under
    ∙ ap (λ (ds : List WrittenVariable). unguarded (innermost_first ds) inner f) e ∙ ap (λ (ds : List Written). unguarded ds inner f) (inside bs vs))
    ∙ sym (all_one_by_one cs above (map variable vs) f) ∙ ap (λ (g : Formula). unguarded cs above g) (sym written)

pub some_named : (bs vs all : List WrittenVariable) (above below : QuantifierAbove) (f shown : Formula) (first : Option (List ℕ)) → shown ≡ quantified_some (map variable vs) f
    → first ≡ named_in_form above.of_some (guarded_form (innermost_first bs) shown) (map variable vs)
    → all ≡ bs ++ vs → below ≡ below_each (map variable vs) above
    → option_or first (unguarded (innermost_first all) below f) ≡ unguarded (innermost_first bs) above shown
some_named bs vs all above below f shown first written one e under =
    let cs = innermost_first bs in
    let inner = below_each (map variable vs) above in
    ap₂ (λ (o p : Option (List ℕ)). option_or o p) (one ∙ ap (λ (g : Formula). named_in_form above.of_some (guarded_form cs g) (map variable vs)) written)
    (ap (λ (a : QuantifierAbove). unguarded (innermost_first all) a f) under
    ∙ ap (λ (ds : List WrittenVariable). unguarded (innermost_first ds) inner f) e ∙ ap (λ (ds : List Written). unguarded ds inner f) (inside bs vs))
    ∙ sym (some_one_by_one cs above (map variable vs) f) ∙ ap (λ (g : Formula). unguarded cs above g) (sym written)
