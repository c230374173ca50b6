-- The first formula of which something is picked, and spending it.
use Rattle.std.proofs.Common.{◌≡◌, List, [], ◌∷◌, ◌++◌, Option, Some, None, refl, sym, ap, subst}
use Rattle.sp_spec.specs.Term.{Names}
use Rattle.sp_spec.specs.Lists.{Every}
use Rattle.sp_spec.specs.Theory.{Theory}
use Rattle.sp_spec.specs.Guarded.{Guarded}
use Rattle.sp_spec.specs.Log.{Log}
use Rattle.sp_spec_system.specs.System.{System, with_formulas}
use Rattle.sp_spec_system.specs.Solutions.{Valuation, FormulaHolds, Solves}
use Rattle.sp_spec_system.specs.Numbered.{InFormula, IsNumbered}
use Rattle.sp_spec.proofs.Lists.{every_append, every_parts}
use Rattle.sp_law_system.proofs.Solutions.{Under, TimeUnder}
use Rattle.sp_spec_system.specs.Formulas.{Found, behind, found_at, first_formula, spending}
use Rattle.sp_spec.proofs.Options.{mapped}
use Rattle.sp_law_system.proofs.With.{formulas_solve, spent_solve, formulas_numbered, spent_numbered}

pub record IsFound {A : Type 0} (pick : Guarded → Option A) (fs : List Guarded) (r : Found A) : Type 0 where
  pub parts : fs ≡ r.front ++ r.formula ∷ r.back
  pub picks : pick r.formula ≡ Some r.picked

pub is_found : {A : Type 0} (pick : Guarded → Option A) (fs : List Guarded) (r : Found A) → first_formula pick fs ≡ Some r → IsFound pick fs r
is_found pick [] r e = absurd cc
is_found {A} pick (f ∷ fs) r e = at (pick f) refl e (λ q k. is_found pick fs q k)
  where
    at : (o : Option A) → pick f ≡ o → found_at f fs o (first_formula pick fs) ≡ Some r → ((q : Found A) → first_formula pick fs ≡ Some q → IsFound pick fs q) → IsFound pick (f ∷ fs) r
    at (Some a) h k later =
        let here : Found A = record { front = []; formula = f; picked = a; back = fs } in
        let g : here ≡ r = cc in
        subst (IsFound pick (f ∷ fs)) g (record { parts = refl; picks = h })
    at None h k later =
        let q = mapped (behind f) (first_formula pick fs) r k in
        let found = later q.0 q.1 in
        subst (IsFound pick (f ∷ fs)) (sym q.2) (record { parts = ap (λ (xs : List Guarded). f ∷ xs) found.parts; picks = found.picks })

-- what holds of all formulas holds of the found one, and of all others with new ones in its place
module _ {A : Type 0} (pick : Guarded → Option A) (fs : List Guarded) (r : Found A) (found : IsFound pick fs r) (P : Guarded → Type 0) where
  pub found_holds : Every P fs → P r.formula
  found_holds e = let k : Every P (r.front ++ r.formula ∷ r.back) = subst (Every P) found.parts e in (every_parts P r.front (r.formula ∷ r.back) k).1.0

  pub others_hold : (new : List Guarded) → Every P fs → Every P new → Every P (r.front ++ (new ++ r.back))
  others_hold new e h =
      let k : Every P (r.front ++ r.formula ∷ r.back) = subst (Every P) found.parts e in
      let parts = every_parts P r.front (r.formula ∷ r.back) k in
      every_append P r.front (new ++ r.back) parts.0 (every_append P new r.back h parts.1.1)

-- A solution of the system in which the new formulas hold too solves the system where they stand in the place of the found one.
pub spending_solves : {A : Type 0} (pick : Guarded → Option A) (theory : Theory) (log : Log) (v : Valuation) (s : System) (r : Found A) → IsFound pick s.formulas r → (new : List Guarded)
    → Every (FormulaHolds theory log v) new → Solves theory log v s → Solves theory log v (spending s r new)
spending_solves pick theory log v s r found new k h =
    let formulas = r.front ++ (new ++ r.back) in
    spent_solve theory log v (with_formulas s formulas)
    (formulas_solve theory log v s h formulas (others_hold pick s.formulas r found (FormulaHolds theory log v) new h.formulas k)) (s.spent ++ r.formula ∷ [])
    (every_append (FormulaHolds theory log v) s.spent (r.formula ∷ []) h.spent (found_holds pick s.formulas r found (FormulaHolds theory log v) h.formulas, tt))

pub spending_numbered : {N : Names} → {A : Type 0} (pick : Guarded → Option A) (s : System) (r : Found A) → IsFound pick s.formulas r → (new : List Guarded)
    → Every (InFormula N (Under s.next) (TimeUnder s.next)) new → IsNumbered N s → IsNumbered N (spending s r new)
spending_numbered {N} pick s r found new k h =
    let formulas = r.front ++ (new ++ r.back) in
    let In : Guarded → Type 0 = InFormula N (Under s.next) (TimeUnder s.next) in
    spent_numbered (with_formulas s formulas) (formulas_numbered s h formulas (others_hold pick s.formulas r found In new h.formulas k)) (s.spent ++ r.formula ∷ [])
    (every_append In s.spent (r.formula ∷ []) h.spent (found_holds pick s.formulas r found In h.formulas, tt))
