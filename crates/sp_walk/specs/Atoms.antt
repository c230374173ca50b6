-- The atoms of a formula, whatever joins them.
use Rattle.std.specs.Prelude.{Bool, false, ◌||◌, List, [], ◌∷◌, ◌++◌}
use Rattle.sp_spec.specs.Term.{Term}
use Rattle.sp_spec.specs.Rule.{Action}
use Rattle.sp_spec.specs.Formula as f
use Rattle.sp_spec.specs.Formula.{Written, Formula}

pub data Atom : Type 0 where
  happens : Action Written → Written → Atom
  equals : Term Written → Term Written → Atom
  precedes : Written → Written → Atom

-- one of them passes
abbrev pub any_atom : (Atom → Bool) → Formula → Bool
any_atom passes f.truth = false
any_atom passes f.falsity = false
any_atom passes (f.happens a i) = passes (happens a i)
any_atom passes (f.equals t u) = passes (equals t u)
any_atom passes (f.precedes i j) = passes (precedes i j)
any_atom passes (f.not_so g) = any_atom passes g
any_atom passes (f.both g h) = any_atom passes g || any_atom passes h
any_atom passes (f.either g h) = any_atom passes g || any_atom passes h
any_atom passes (f.implies g h) = any_atom passes g || any_atom passes h
any_atom passes (f.for_all x g) = any_atom passes g
any_atom passes (f.for_some x g) = any_atom passes g

-- what each gives, from left to right, within the reach of these binders, the innermost first
abbrev pub collected : {A : Type 0} → (List Written → Atom → List A) → List Written → Formula → List A
collected gives bs f.truth = []
collected gives bs f.falsity = []
collected gives bs (f.happens a i) = gives bs (happens a i)
collected gives bs (f.equals t u) = gives bs (equals t u)
collected gives bs (f.precedes i j) = gives bs (precedes i j)
collected gives bs (f.not_so g) = collected gives bs g
collected gives bs (f.both g h) = collected gives bs g ++ collected gives bs h
collected gives bs (f.either g h) = collected gives bs g ++ collected gives bs h
collected gives bs (f.implies g h) = collected gives bs g ++ collected gives bs h
collected gives bs (f.for_all x g) = collected gives (x ∷ bs) g
collected gives bs (f.for_some x g) = collected gives (x ∷ bs) g
