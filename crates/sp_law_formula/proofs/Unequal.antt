-- The row on inequalities, and the contradiction of an equal pair that is kept unequal.
use Rattle.std.proofs.Common.{◌≡◌, ◌≤◌, ℕ, true, List, [], ◌∷◌, Option, Some, None, sym, ap, ◌∙◌, subst, ⊎_elim, le_refl}
use Rattle.std.proofs.lemmas.Bool.{or_cases}
use Rattle.sp_spec.specs.Lists.{Every}
use Rattle.sp_spec.specs.Term.{Names, Variable, Ground, valued, MadeOf}
use Rattle.sp_spec.specs.Equal.{Equal, end, IsNormal}
use Rattle.sp_spec.specs.Theory.{Theory, signature_of}
use Rattle.sp_spec.specs.Guarded.{acts, same, same_time, before, last, Guarded, truth, falsity, holds, fails, all_of, one_of, some, every, term_in}
use Rattle.sp_spec.specs.Log.{Log}
use Rattle.sp_spec.specs.Same.{alike}
use Rattle.sp_spec.specs.Substitution.{Binding}
use Rattle.sp_spec.specs.Unifier.{Pair, mgu}
use Rattle.sp_spec.proofs.Same.{alike_same}
use Rattle.sp_spec_system.specs.System.{System}
use Rattle.sp_spec_system.specs.Solutions.{Valuation, assignment, FormulaHolds, AreUnequal, Solves}
use Rattle.sp_spec_system.specs.Numbered.{InFormula, IsNumbered}
use Rattle.sp_spec_system.specs.Covering.{Covers}
use Rattle.sp_spec.proofs.Lists.{every_append}
use Rattle.sp_law_system.proofs.Solutions.{Under, TimeUnder}
use Rattle.sp_spec_system.specs.Formulas.{first_formula, spending}
use Rattle.sp_spec_formula.specs.Unequal.{inequality_of, kept_unequal, unequal_at, unequal, has_equal_pair}
use Rattle.sp_law_formula.proofs.Freed.{freed_value, freed_in, pair_parts}
use Rattle.sp_spec.proofs.Options.{mapped}
use Rattle.sp_law_formula.proofs.Spending.{is_found, found_holds, spending_solves, spending_numbered}
use Rattle.sp_law_system.proofs.With.{TermsUnder, unequal_solve, unequal_numbered}
use Rattle.sp_law_formula.proofs.OneCase.{covers_by_itself}

inequality_holds : (theory : Theory) (log : Log) (v : Valuation) (f : Guarded) (p : Pair) → inequality_of f ≡ Some p → FormulaHolds theory log v f → AreUnequal theory v p
inequality_holds theory log v (fails (same t u)) p e h =
    let parts = pair_parts t u p e in
    let a = freed_value (assignment v) t p.0 parts.0 in
    let b = freed_value (assignment v) u p.1 parts.1 in
    let es = (signature_of theory).equations in (
      (λ k. h.0 (λ none. none (subst (λ (x : Ground). Equal es (term_in (assignment v) t) x) (a ∙ k ∙ sym b) end))),
      subst (IsNormal es) a h.1.0.0,
      subst (IsNormal es) b h.1.1.0,
    )
inequality_holds theory log v (fails (acts a i)) p e h = absurd cc
inequality_holds theory log v (fails (same_time i j)) p e h = absurd cc
inequality_holds theory log v (fails (before i j)) p e h = absurd cc
inequality_holds theory log v (fails (last i)) p e h = absurd cc
inequality_holds theory log v truth p e h = absurd cc
inequality_holds theory log v falsity p e h = absurd cc
inequality_holds theory log v (holds a) p e h = absurd cc
inequality_holds theory log v (all_of fs) p e h = absurd cc
inequality_holds theory log v (one_of fs) p e h = absurd cc
inequality_holds theory log v (some bs guard f) p e h = absurd cc
inequality_holds theory log v (every bs guard f) p e h = absurd cc

inequality_in : (N : Names) → (P : Variable → Type 0) (Q : ℕ → Type 0) (f : Guarded) (p : Pair) → inequality_of f ≡ Some p → InFormula N P Q f → MadeOf N P p.0 × MadeOf N P p.1
inequality_in N P Q (fails (same t u)) p e h = let parts = pair_parts t u p e in (freed_in N P t p.0 parts.0 h.0, freed_in N P u p.1 parts.1 h.1)
inequality_in N P Q (fails (acts a i)) p e h = absurd cc
inequality_in N P Q (fails (same_time i j)) p e h = absurd cc
inequality_in N P Q (fails (before i j)) p e h = absurd cc
inequality_in N P Q (fails (last i)) p e h = absurd cc
inequality_in N P Q truth p e h = absurd cc
inequality_in N P Q falsity p e h = absurd cc
inequality_in N P Q (holds a) p e h = absurd cc
inequality_in N P Q (all_of fs) p e h = absurd cc
inequality_in N P Q (one_of fs) p e h = absurd cc
inequality_in N P Q (some bs guard f) p e h = absurd cc
inequality_in N P Q (every bs guard f) p e h = absurd cc

kept_each : (P : Pair → Type 0) (pairs : List Pair) (p : Pair) (o : Option (List Binding)) → Every P pairs → P p → Every P (kept_unequal pairs p o)
kept_each P pairs p None e h = e
kept_each P pairs p (Some bs) e h = every_append P pairs (p ∷ []) e (h, tt)

pub unequal_covers : (theory : Theory) (s t : System) → unequal s ≡ Some t → Covers theory s (t ∷ [])
unequal_covers theory s t e =
    let r = mapped (unequal_at s) (first_formula inequality_of s.formulas) t e in
    let found = is_found inequality_of s.formulas r.0 r.1 in
    covers_by_itself theory s t (λ log is v h.
    let u = spending_solves inequality_of theory log v s r.0 found [] tt h in
    let p = inequality_holds theory log v r.0.formula r.0.picked found.picks (found_holds inequality_of s.formulas r.0 found (FormulaHolds theory log v) h.formulas) in
    subst (Solves theory log v) (sym r.2)
    (unequal_solve theory log v (spending s r.0 []) u (kept_unequal s.unequal r.0.picked (mgu (r.0.picked ∷ []))) (kept_each (AreUnequal theory v) s.unequal r.0.picked (mgu (r.0.picked ∷ [])) h.unequal p)))

pub unequal_row_numbered : {N : Names} → (s t : System) → unequal s ≡ Some t → IsNumbered N s → IsNumbered N t × (s.next ≤ t.next)
unequal_row_numbered {N} s t e n =
    let r = mapped (unequal_at s) (first_formula inequality_of s.formulas) t e in
    let found = is_found inequality_of s.formulas r.0 r.1 in
    let u = spending_numbered inequality_of s r.0 found [] tt n in
    let p = inequality_in N (Under s.next) (TimeUnder s.next) r.0.formula r.0.picked found.picks (found_holds inequality_of s.formulas r.0 found (InFormula N (Under s.next) (TimeUnder s.next)) n.formulas) in
    let P : System → Type 0 = λ w. IsNumbered N w × (s.next ≤ w.next) in
    subst P (sym r.2) (
      unequal_numbered (spending s r.0 []) u (kept_unequal s.unequal r.0.picked (mgu (r.0.picked ∷ []))) (kept_each (TermsUnder N s.next) s.unequal r.0.picked (mgu (r.0.picked ∷ [])) n.unequal p),
      le_refl s.next,
    )

-- Two like terms have one value.
pub equal_pair_contradicts : (theory : Theory) (v : Valuation) (pairs : List Pair) → has_equal_pair pairs ≡ true → Every (AreUnequal theory v) pairs → ⊥
equal_pair_contradicts theory v [] e h = absurd cc
equal_pair_contradicts theory v (p ∷ pairs) e h =
    ⊎_elim
    (λ k. h.0.0 (ap (valued v.terms) (alike_same p.0 p.1 k)))
    (λ k. equal_pair_contradicts theory v pairs k h.1)
    (or_cases (alike p.0 p.1) (has_equal_pair pairs) e)
