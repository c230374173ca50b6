-- What a formula in memory stands for.
use Rattle.std.specs.Prelude.{List, [], ◌∷◌, map}
use Rattle.std.specs.Global.{Box}
use Rattle.sp_spec.specs.Formula as f
use Rattle.sp_spec.specs.Formula.{Formula, both, either}
use Rattle.sp_spec_text.specs.Shapes.{quantified}
use Rattle.sp_spec_text.specs.Formulas.{quantified_some, equivalent}
use Rattle.sp_read_parts.specs.Views.{variable, term, action_of}
use Rattle.sp_read_parts.specs.declared.written.ReadFormula.{ReadFormula, fold-ReadFormula}
use Rattle.sp_read_parts.specs.declared.written.ReadFormula.TheOpen.{ReadFormula-F}

-- the signs that group to the left
pub data Joint : Type 0 where
  conjoint : Joint
  disjoint : Joint

abbrev pub join : Joint → Formula → Formula → Formula
join conjoint f g = both f g
join disjoint f g = either f g

-- a formula and those behind it, grouped to the left
abbrev pub chain : Joint → Formula → List Formula → Formula
chain o f [] = f
chain o f (g ∷ gs) = chain o (join o f g) gs

-- a chain of these formulas; there is at least one
abbrev pub linked : Joint → List Formula → Formula
linked o [] = f.truth
linked o (f ∷ fs) = chain o f fs

-- one level, with each formula inside already seen
abbrev pub formula_step : ReadFormula-F Formula → Formula
formula_step ReadFormula-F.True = f.truth
formula_step ReadFormula-F.False = f.falsity
formula_step (ReadFormula-F.Happens x t) = f.happens (action_of x) (variable t)
formula_step (ReadFormula-F.Equals a b) = f.equals (term a) (term b)
formula_step (ReadFormula-F.Precedes a b) = f.precedes (variable a) (variable b)
formula_step (ReadFormula-F.Not a) = f.not_so a.value
formula_step (ReadFormula-F.Both a b more) = chain conjoint (f.both a.value b.value) more.items
formula_step (ReadFormula-F.Either a b more) = chain disjoint (f.either a.value b.value) more.items
formula_step (ReadFormula-F.Implies a b) = f.implies a.value b.value
formula_step (ReadFormula-F.Equivalent a b) = equivalent a.value b.value
formula_step (ReadFormula-F.ForAll vs a) = quantified (map variable vs.items) a.value
formula_step (ReadFormula-F.ForSome vs a) = quantified_some (map variable vs.items) a.value

abbrev pub formula : ReadFormula → Formula
formula = fold-ReadFormula Formula formula_step
