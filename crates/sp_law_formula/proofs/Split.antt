-- The row that splits conjunctions, and the contradiction of a false formula.
use Rattle.std.proofs.Common.{◌≡◌, ◌≤◌, ℕ, true, List, [], ◌∷◌, length, Some, sym, subst, ⊎_elim, le_refl}
use Rattle.std.proofs.lemmas.Bool.{or_cases}
use Rattle.sp_spec.specs.Lists.{Every}
use Rattle.sp_spec.specs.Term.{Names, Variable}
use Rattle.sp_spec.specs.Theory.{Theory, signature_of}
use Rattle.sp_spec.specs.Guarded.{Guarded, truth, falsity, all_of, Guardeds, no_more, and_then, EachHolds, parts_of}
use Rattle.sp_spec.specs.Log.{Log, log_trace}
use Rattle.sp_spec_system.specs.System.{System}
use Rattle.sp_spec_system.specs.Solutions.{Valuation, assignment, FormulaHolds, EachSettled, Solves}
use Rattle.sp_spec_system.specs.Numbered.{InFormula, InEach, IsNumbered}
use Rattle.sp_spec_system.specs.Covering.{Covers}
use Rattle.sp_law_system.proofs.Solutions.{Under, TimeUnder}
use Rattle.sp_spec_system.specs.Formulas.{first_formula, spending}
use Rattle.sp_spec_formula.specs.Split.{split_of, split, is_falsity, has_falsity}
use Rattle.sp_spec.proofs.Options.{mapped}
use Rattle.sp_law_formula.proofs.OneCase.{covers_by_itself}
use Rattle.sp_law_formula.proofs.Spending.{is_found, found_holds, spending_solves, spending_numbered}

-- the parts of a true conjunction are true
module _ (theory : Theory) (log : Log) (v : Valuation) where
  parts_hold : (fs : Guardeds) → EachHolds (signature_of theory) (log_trace log) (assignment v) fs → EachSettled (signature_of theory) (length log) (assignment v) fs → Every (FormulaHolds theory log v) (parts_of fs)
  parts_hold no_more h k = tt
  parts_hold (and_then f fs) h k = ((h.0, k.0), parts_hold fs h.1 k.1)

  split_holds : (f : Guarded) (gs : List Guarded) → split_of f ≡ Some gs → FormulaHolds theory log v f → Every (FormulaHolds theory log v) gs
  split_holds truth gs e h = let empty : List Guarded = [] in let g : empty ≡ gs = cc in subst (Every (FormulaHolds theory log v)) g tt
  split_holds (all_of fs) gs e h = let g : parts_of fs ≡ gs = cc in subst (Every (FormulaHolds theory log v)) g (parts_hold fs h.0 h.1)
  split_holds f gs e h = absurd cc

  falsity_contradicts : (f : Guarded) → is_falsity f ≡ true → FormulaHolds theory log v f → ⊥
  falsity_contradicts falsity e h = h.0
  falsity_contradicts f e h = absurd cc

  pub some_falsity_contradicts : (fs : List Guarded) → has_falsity fs ≡ true → Every (FormulaHolds theory log v) fs → ⊥
  some_falsity_contradicts [] e h = absurd cc
  some_falsity_contradicts (f ∷ fs) e h =
      ⊎_elim (λ k. falsity_contradicts f k h.0) (λ k. some_falsity_contradicts fs k h.1) (or_cases (is_falsity f) (has_falsity fs) e)

module _ (N : Names) (P : Variable → Type 0) (Q : ℕ → Type 0) where
  parts_in : (fs : Guardeds) → InEach N P Q fs → Every (InFormula N P Q) (parts_of fs)
  parts_in no_more h = tt
  parts_in (and_then f fs) h = (h.0, parts_in fs h.1)

  split_in : (f : Guarded) (gs : List Guarded) → split_of f ≡ Some gs → InFormula N P Q f → Every (InFormula N P Q) gs
  split_in truth gs e h = let empty : List Guarded = [] in let g : empty ≡ gs = cc in subst (Every (InFormula N P Q)) g tt
  split_in (all_of fs) gs e h = let g : parts_of fs ≡ gs = cc in subst (Every (InFormula N P Q)) g (parts_in fs h)
  split_in f gs e h = absurd cc

pub split_covers : (theory : Theory) (s t : System) → split s ≡ Some t → Covers theory s (t ∷ [])
split_covers theory s t e =
    let r = mapped (λ r. spending s r r.picked) (first_formula split_of s.formulas) t e in
    let found = is_found split_of s.formulas r.0 r.1 in
    covers_by_itself theory s t (λ log is v h.
    let parts = split_holds theory log v r.0.formula r.0.picked found.picks (found_holds split_of s.formulas r.0 found (FormulaHolds theory log v) h.formulas) in
    subst (Solves theory log v) (sym r.2) (spending_solves split_of theory log v s r.0 found r.0.picked parts h))

pub split_numbered : {N : Names} → (s t : System) → split s ≡ Some t → IsNumbered N s → IsNumbered N t × (s.next ≤ t.next)
split_numbered {N} s t e n =
    let r = mapped (λ r. spending s r r.picked) (first_formula split_of s.formulas) t e in
    let found = is_found split_of s.formulas r.0 r.1 in
    let parts = split_in N (Under s.next) (TimeUnder s.next) r.0.formula r.0.picked found.picks (found_holds split_of s.formulas r.0 found (InFormula N (Under s.next) (TimeUnder s.next)) n.formulas) in
    let P : System → Type 0 = λ u. IsNumbered N u × (s.next ≤ u.next) in
    subst P (sym r.2) (spending_numbered split_of s r.0 found r.0.picked parts n, le_refl s.next)
