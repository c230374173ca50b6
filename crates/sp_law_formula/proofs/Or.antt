-- The move on a disjunction: some part is true, and its case has the same solution.
use Rattle.std.proofs.Common.{◌≡◌, ℕ, zero, suc, List, [], ◌∷◌, length, Option, Some, None, refl, sym, ap, subst, inl, inr, le_refl}
use Rattle.sp_spec.specs.Term.{Names}
use Rattle.sp_spec.specs.Lists.{Every}
use Rattle.sp_spec.specs.Theory.{Theory, signature_of}
use Rattle.sp_spec.specs.Guarded.{Guarded, one_of, Guardeds, no_more, and_then, SomeHolds}
use Rattle.sp_spec.specs.Log.{Log, log_trace}
use Rattle.sp_spec_system.specs.System.{System}
use Rattle.sp_spec_system.specs.Solutions.{Valuation, assignment, EachSettled, FormulaHolds, Solves}
use Rattle.sp_spec_system.specs.Numbered.{InFormula, InEach, IsNumbered}
use Rattle.sp_spec_system.specs.Covering.{NoneSolved, Covers}
use Rattle.sp_law_system.proofs.Solutions.{Under, TimeUnder, agrees_itself}
use Rattle.sp_spec_system.specs.Formulas.{Found, behind}
use Rattle.sp_spec_system.specs.Move.{Case, systems_in}
use Rattle.sp_spec_formula.specs.Or.{by_part, disjunction_at, or_cases}
use Rattle.sp_spec.proofs.Options.{mapped}
use Rattle.sp_law_formula.proofs.Merged.{Later}
use Rattle.sp_law_formula.proofs.Spending.{IsFound, found_holds, spending_solves, spending_numbered}

abbrev pub parts_if : Guarded → Option Guardeds
parts_if (one_of fs) = Some fs
parts_if f = None

disjunction_found : (k : ℕ) (fs : List Guarded) (r : Found Guardeds) → disjunction_at k fs ≡ Some r → IsFound parts_if fs r
disjunction_found k [] r e = absurd cc
disjunction_found zero (one_of ps ∷ fs) r e =
    let here : Found Guardeds = record { front = []; formula = one_of ps; picked = ps; back = fs } in
    let g : here ≡ r = cc in
    subst (IsFound parts_if (one_of ps ∷ fs)) g (record { parts = refl; picks = refl })
disjunction_found zero (f ∷ fs) r e = absurd cc
disjunction_found (suc k) (f ∷ fs) r e =
    let q = mapped (behind f) (disjunction_at k fs) r e in
    let found = disjunction_found k fs q.0 q.1 in
    subst (IsFound parts_if (f ∷ fs)) (sym q.2) (record { parts = ap (λ (xs : List Guarded). f ∷ xs) found.parts; picks = found.picks })

-- what is picked are the parts of the formula
picked_parts : (f : Guarded) (fs : Guardeds) → parts_if f ≡ Some fs → f ≡ one_of fs
picked_parts (one_of gs) fs e = let g : gs ≡ fs = cc in ap one_of g
picked_parts f fs e = absurd cc

module _ (s : System) (r : Found Guardeds) (found : IsFound parts_if s.formulas r) where
  some_part_solved : (theory : Theory) (log : Log) (v : Valuation) → Solves theory log v s → (k : ℕ) (fs : Guardeds) → SomeHolds (signature_of theory) (log_trace log) (assignment v) fs
      → EachSettled (signature_of theory) (length log) (assignment v) fs → NoneSolved theory log v s.next (systems_in (by_part s r k fs)) → ⊥
  some_part_solved theory log v h k no_more one settled none = one
  some_part_solved theory log v h k (and_then f fs) (inl true_part) settled none =
      none.0 v (agrees_itself s.next v) (spending_solves parts_if theory log v s r found (f ∷ []) ((true_part, settled.0), tt) h)
  some_part_solved theory log v h k (and_then f fs) (inr one) settled none = some_part_solved theory log v h (suc k) fs one settled.1 none.1

module _ (N : Names) (s : System) (r : Found Guardeds) (found : IsFound parts_if s.formulas r) where
  each_part_numbered : IsNumbered N s → (k : ℕ) (fs : Guardeds) → InEach N (Under s.next) (TimeUnder s.next) fs → Every (Later N s.next) (systems_in (by_part s r k fs))
  each_part_numbered n k no_more i = tt
  each_part_numbered n k (and_then f fs) i = ((spending_numbered parts_if s r found (f ∷ []) (i.0, tt) n, le_refl s.next), each_part_numbered n (suc k) fs i.1)

-- the disjunction whose parts are the cases
pub or_found : (s : System) (o : Option (Found Guardeds)) (cs : List Case) → or_cases s o ≡ Some cs → (r : Found Guardeds) × (o ≡ Some r) × (by_part s r 1 r.picked ≡ cs)
or_found s None cs e = absurd cc
or_found s (Some r) cs e = (r, refl, let g : by_part s r 1 r.picked ≡ cs = cc in g)

pub or_covers : (theory : Theory) (s : System) (k : ℕ) (cs : List Case) → or_cases s (disjunction_at k s.formulas) ≡ Some cs → Covers theory s (systems_in cs)
or_covers theory s k cs e =
    let q = or_found s (disjunction_at k s.formulas) cs e in
    let r = q.0 in
    let found = disjunction_found k s.formulas r q.1 in
    subst (λ (x : List Case). Covers theory s (systems_in x)) q.2 (record {
      covers = λ log is v h none.
          let true_one = subst (FormulaHolds theory log v) (picked_parts r.formula r.picked found.picks) (found_holds parts_if s.formulas r found (FormulaHolds theory log v) h.formulas) in
          true_one.0 (λ one. some_part_solved s r found theory log v h 1 r.picked one true_one.1 none);
    })

pub or_numbered : {N : Names} → (s : System) → IsNumbered N s → (k : ℕ) (cs : List Case) → or_cases s (disjunction_at k s.formulas) ≡ Some cs → Every (Later N s.next) (systems_in cs)
or_numbered {N} s n k cs e =
    let q = or_found s (disjunction_at k s.formulas) cs e in
    let r = q.0 in
    let found = disjunction_found k s.formulas r q.1 in
    let i = subst (InFormula N (Under s.next) (TimeUnder s.next)) (picked_parts r.formula r.picked found.picks) (found_holds parts_if s.formulas r found (InFormula N (Under s.next) (TimeUnder s.next)) n.formulas) in
    subst (λ (x : List Case). Every (Later N s.next) (systems_in x)) q.2 (each_part_numbered N s r found n 1 r.picked i)
