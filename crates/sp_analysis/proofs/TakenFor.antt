-- One lemma more is looked at whether it is taken.
use Rattle.std.proofs.Common.{◌≡◌, ◌+◌, ℕ, Bool, true, false, if◌then◌else◌, List, [], ◌∷◌, ◌++◌, map, drop, sym, ap, ◌∙◌, append_assoc}
use Rattle.sp_spec.specs.Guarded.{Guarded}
use Rattle.sp_formula.specs.FormulaView.{formula_of}
use Rattle.sp_spec_text.specs.Written.{Attribute}
use Rattle.sp_analysis.specs.Taken.{is_hidden, taken_for}
use Rattle.sp_analysis.specs.View.{taken_of}
use Rattle.sp_analysis.specs.declared.taken.Taken.{Taken}

module _ (attributes : List Attribute) (place : ℕ) (ts : List Taken) (t : Taken) (at : drop place ts ≡ t ∷ drop (place + 1) ts) where
  abbrev rest : List Guarded
  rest = taken_for attributes (map taken_of (drop (place + 1) ts))

  abbrev or_not : Bool → List Guarded
  or_not b = if b then rest else formula_of t.form ∷ rest

  -- what is taken of it and of those behind it
  those : (b : Bool) → is_hidden attributes (taken_of t) ≡ b → taken_for attributes (map taken_of (drop place ts)) ≡ or_not b
  those b e = ap (λ (us : List Taken). taken_for attributes (map taken_of us)) at ∙ ap or_not e

  pub one_hidden : (out all : List Guarded) → is_hidden attributes (taken_of t) ≡ true → out ++ taken_for attributes (map taken_of (drop place ts)) ≡ all → out ++ rest ≡ all
  one_hidden out all e so = sym (ap (λ (gs : List Guarded). out ++ gs) (those true e)) ∙ so

  pub one_taken : (out more all : List Guarded) (g : Guarded) → is_hidden attributes (taken_of t) ≡ false → g ≡ formula_of t.form → more ≡ out ++ g ∷ []
      → out ++ taken_for attributes (map taken_of (drop place ts)) ≡ all → more ++ rest ≡ all
  one_taken out more all g e is pushed so =
      ap (λ (gs : List Guarded). gs ++ rest) (pushed ∙ ap (λ (h : Guarded). out ++ h ∷ []) is)
      ∙ append_assoc out (formula_of t.form ∷ []) rest
      ∙ sym (ap (λ (gs : List Guarded). out ++ gs) (those false e)) ∙ so
