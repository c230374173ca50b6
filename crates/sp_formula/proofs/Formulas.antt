-- What a quantified formula in memory stands for, and what becomes of the parts of a formula under a change.
use Rattle.std.proofs.Common.{◌≡◌, List, [], ◌∷◌, map, refl, sym, ap, ap₂, ◌∙◌}
use Rattle.std.specs.Global.{Vec, Box}
use Rattle.sp_spec.specs.Guarded.{Binder, Atom, Guarded, some, every, all_of, one_of, and_then, guardeds_of}
use Rattle.sp_spec.specs.Change.{Change, under, atom_changed, changed, changed_each}
use Rattle.sp_formula.specs.FormulaView.{atom_of, binder_of, formula_step, formula_of}
use Rattle.sp_formula.specs.declared.formula.Atom as memory_atom
use Rattle.sp_formula.specs.declared.formula.Binder as memory_binder
use Rattle.sp_formula.specs.declared.formula.Formula.{Formula}
use Rattle.sp_formula.specs.declared.formula.Formula.TheVariants.{AllOf, rolls-AllOf, OneOf, rolls-OneOf, Exists, rolls-Exists, ForAll, rolls-ForAll}
use Rattle.sp_formula.specs.declared.formula.Formula.TheOpen.{Formula-F}
use Rattle.sp_formula.specs.declared.formula.Formula.TheFolds.{fold-roll-Formula}

pub all_shown : (fs : Vec Formula) → formula_of (AllOf fs) ≡ all_of (guardeds_of (map formula_of fs.items))
all_shown fs = ap formula_of (sym (rolls-AllOf fs)) ∙ fold-roll-Formula Guarded formula_step (Formula-F.AllOf fs)

pub one_shown : (fs : Vec Formula) → formula_of (OneOf fs) ≡ one_of (guardeds_of (map formula_of fs.items))
one_shown fs = ap formula_of (sym (rolls-OneOf fs)) ∙ fold-roll-Formula Guarded formula_step (Formula-F.OneOf fs)

pub some_shown : (bs : Vec memory_binder.Binder) (guard : Vec memory_atom.Atom) (f : Box Formula)
    → formula_of (Exists bs guard f) ≡ some (map binder_of bs.items) (map atom_of guard.items) (formula_of f.value)
some_shown bs guard f = ap formula_of (sym (rolls-Exists bs guard f)) ∙ fold-roll-Formula Guarded formula_step (Formula-F.Exists bs guard f)

pub every_shown : (bs : Vec memory_binder.Binder) (guard : Vec memory_atom.Atom) (f : Box Formula)
    → formula_of (ForAll bs guard f) ≡ every (map binder_of bs.items) (map atom_of guard.items) (formula_of f.value)
every_shown bs guard f = ap formula_of (sym (rolls-ForAll bs guard f)) ∙ fold-roll-Formula Guarded formula_step (Formula-F.ForAll bs guard f)

guardeds_of-changed : (c : Change) (fs : List Guarded) → guardeds_of (map (changed c) fs) ≡ changed_each c (guardeds_of fs)
guardeds_of-changed c [] = refl
guardeds_of-changed c (f ∷ fs) = ap (and_then (changed c f)) (guardeds_of-changed c fs)

module _ (c : Change) where
  pub each_changed : (fs made : List Guarded) → made ≡ map (changed c) fs → guardeds_of made ≡ changed_each c (guardeds_of fs)
  each_changed fs made e = ap guardeds_of e ∙ guardeds_of-changed c fs

  -- d is the change under the binders
  pub some_changed : (bs cs : List Binder) (guard atoms : List Atom) (f g : Guarded) (d : Change) → d ≡ under bs c → cs ≡ bs → atoms ≡ map (atom_changed d) guard → g ≡ changed d f
      → some cs atoms g ≡ changed c (some bs guard f)
  some_changed bs cs guard atoms f g d e same h k =
      ap (λ (xs : List Binder). some xs atoms g) same ∙ ap₂ (some bs) h k ∙ ap (λ (x : Change). some bs (map (atom_changed x) guard) (changed x f)) e

  pub every_changed : (bs cs : List Binder) (guard atoms : List Atom) (f g : Guarded) (d : Change) → d ≡ under bs c → cs ≡ bs → atoms ≡ map (atom_changed d) guard → g ≡ changed d f
      → every cs atoms g ≡ changed c (every bs guard f)
  every_changed bs cs guard atoms f g d e same h k =
      ap (λ (xs : List Binder). every xs atoms g) same ∙ ap₂ (every bs) h k ∙ ap (λ (x : Change). every bs (map (atom_changed x) guard) (changed x f)) e
