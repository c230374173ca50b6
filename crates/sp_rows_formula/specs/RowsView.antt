-- The first formula of which something is picked, by its position.
use Rattle.std.specs.Prelude.{ℕ, suc, List, [], ◌∷◌, Option, Some, None, map, option_map}
use Rattle.std.specs.Global.{Vec}
use Rattle.sp_spec.specs.Guarded.{Guarded}
use Rattle.sp_spec.specs.Unifier.{Pair, mgu}
use Rattle.sp_spec_system.specs.System.{System, with_unequal}
use Rattle.sp_spec_formula.specs.Unequal.{kept_unequal}
use Rattle.sp_formula.specs.declared.formula.Formula.{Formula}
use Rattle.sp_formula.specs.FormulaView.{formula_of}

abbrev pub one_on : {A : Type 0} → ℕ × A → ℕ × A
one_on p = (suc p.0, p.1)

abbrev pub position_at : {A : Type 0} → Option A → Option (ℕ × A) → Option (ℕ × A)
position_at (Some a) later = Some (0, a)
position_at None later = option_map one_on later

-- the position of the first formula of which something is picked, and what is picked of it
abbrev pub position_of : {A : Type 0} → (Guarded → Option A) → List Guarded → Option (ℕ × A)
position_of pick [] = None
position_of pick (f ∷ fs) = position_at (pick f) (position_of pick fs)

-- a position, and what stands for what is picked there
abbrev pub picked_of : ℕ × Vec Formula → ℕ × List Guarded
picked_of p = (p.0, map formula_of p.1.items)

-- the pair is kept if it has a unifier
abbrev pub keeping : System → Pair → System
keeping s p = with_unequal s (kept_unequal s.unequal p (mgu (p ∷ [])))
