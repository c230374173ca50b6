-- The row that equates terms and times, and the contradiction where it fails.
use Rattle.std.proofs.Common.{◌≡◌, ◌≤◌, ◌<◌, ℕ, Bool, true, false, if◌then◌else◌, nat_eq, List, [], ◌∷◌, Option, Some, None, is_none, refl, sym, ◌∙◌, subst, ⊎_elim, le_refl}
use Rattle.std.proofs.lemmas.Bool.{or_cases, eqb-true, eq-eqb}
use Rattle.sp_spec.specs.Lists.{Every, Classically}
use Rattle.sp_spec.specs.Term.{Names, Ground, valued, MadeOf}
use Rattle.sp_spec.specs.Theory.{Theory, signature_of}
use Rattle.sp_spec.specs.Guarded.{free_time, same, same_time, Guarded, holds, term_in}
use Rattle.sp_spec.specs.Log.{Log}
use Rattle.sp_law_equal.specs.NormalForms.{HaveNormalForms}
use Rattle.sp_law_equal.proofs.Values.{equal_normal_same}
use Rattle.sp_spec.proofs.Same.{same_by_decides}
use Rattle.sp_spec_system.specs.System.{System}
use Rattle.sp_spec_system.specs.Solutions.{Valuation, assignment, FormulaHolds, Solves}
use Rattle.sp_spec_system.specs.Numbered.{InFormula, IsNumbered}
use Rattle.sp_spec_system.specs.Covering.{Covers}
use Rattle.sp_law_system.specs.Laws.{UnifierIsRight}
use Rattle.sp_law_system.proofs.Solutions.{Under, TimeUnder}
use Rattle.sp_spec_system.specs.Formulas.{first_formula, spending, pair_of}
use Rattle.sp_spec_formula.specs.Equate.{Equation, equal_terms, equal_times, equation_of, equated, equate, equation_fails, fails_to_equate}
use Rattle.sp_spec_system.specs.MakingOne.{made_one}
use Rattle.sp_law_formula.proofs.Freed.{freed_value, freed_in, pair_parts}
use Rattle.sp_spec.proofs.Options.{mapped, then_some}
use Rattle.sp_law_formula.proofs.OneCase.{covers_by_itself}
use Rattle.sp_law_formula.proofs.Spending.{is_found, found_holds, spending_solves, spending_numbered}
use Rattle.sp_law_formula.proofs.Merged.{SolvedBy, NumberedFrom}
use Rattle.sp_law_formula.proofs.MadeOne.{pairs_solved, pairs_numbered, made_one_holds, made_one_numbered}

-- what an equation says, and whose numbers it has
abbrev pub EquationHolds : Valuation → Equation → Type 0
EquationHolds v (equal_terms p) = valued v.terms p.0 ≡ valued v.terms p.1
EquationHolds v (equal_times i j) = v.times i ≡ v.times j

abbrev pub EquationUnder : Names → ℕ → Equation → Type 0
EquationUnder N n (equal_terms p) = MadeOf N (Under n) p.0 × MadeOf N (Under n) p.1
EquationUnder N n (equal_times i j) = (i < n) × (j < n)

-- what isn't otherwise is so, where a test tells
told : {A : Type 0} (b : Bool) → (b ≡ true → A) → (A → b ≡ true) → Classically A → A
told true yields back c = yields refl
told false yields back c = absurd (c (λ a. let k = back a in cc))

same_ground : (t u : Ground) → Classically (t ≡ u) → t ≡ u
same_ground t u c =
    let test : ⊥ → ⊥ → Bool = λ x y. absurd x in
    let decides = same_by_decides test (λ x y. absurd x) t u in
    told _ decides.0 decides.1 c

pub same_number : (i j : ℕ) → Classically (i ≡ j) → i ≡ j
same_number i j c = told (nat_eq i j) (eqb-true i j) (eq-eqb i j) c

equation_holds : (theory : Theory) → HaveNormalForms (signature_of theory).equations → (log : Log) (v : Valuation) (f : Guarded) (e : Equation) → equation_of f ≡ Some e → FormulaHolds theory log v f → EquationHolds v e
equation_holds theory good log v (holds (same t u)) e h k =
    let r = mapped equal_terms (pair_of t u) e h in
    let parts = pair_parts t u r.0 r.1 in
    let es = (signature_of theory).equations in
    let one = same_ground (term_in (assignment v) t) (term_in (assignment v) u) (λ none. k.0 (λ l. none (equal_normal_same es good (term_in (assignment v) t) (term_in (assignment v) u) k.1.0.0 k.1.1.0 l))) in
    subst (EquationHolds v) (sym r.2) (sym (freed_value (assignment v) t r.0.0 parts.0) ∙ one ∙ freed_value (assignment v) u r.0.1 parts.1)
equation_holds theory good log v (holds (same_time (free_time i) (free_time j))) e h k =
    let g : equal_times i j ≡ e = cc in
    subst (EquationHolds v) g (same_number (v.times i) (v.times j) k.0)
equation_holds theory good log v f e h k = absurd cc

equation_in : (N : Names) → (n : ℕ) (f : Guarded) (e : Equation) → equation_of f ≡ Some e → InFormula N (Under n) (TimeUnder n) f → EquationUnder N n e
equation_in N n (holds (same t u)) e h k =
    let r = mapped equal_terms (pair_of t u) e h in
    let parts = pair_parts t u r.0 r.1 in
    subst (EquationUnder N n) (sym r.2) (freed_in N (Under n) t r.0.0 parts.0 k.0, freed_in N (Under n) u r.0.1 parts.1 k.1)
equation_in N n (holds (same_time (free_time i) (free_time j))) e h k = let g : equal_times i j ≡ e = cc in subst (EquationUnder N n) g k
equation_in N n f e h k = absurd cc

module _ {N : Names} (right : UnifierIsRight) (s : System) (n : IsNumbered N s) where
  -- a solution in which the equation holds is one after the equating
  pub equated_solved : (theory : Theory) (log : Log) (v : Valuation) → Solves theory log v s → (e : Equation) → EquationUnder N s.next e → EquationHolds v e → SolvedBy theory log v (equated s e)
  equated_solved theory log v h (equal_terms p) u one = pairs_solved right s n (p ∷ []) theory log v h (one, tt)
  equated_solved theory log v h (equal_times i j) u one = at (nat_eq i j)
    where
      at : (b : Bool) → SolvedBy theory log v (if b then Some s else made_one s (i, j))
      at true = h
      at false = made_one_holds right s n theory log v h (i, j) u one

  pub equated_numbered : (e : Equation) → EquationUnder N s.next e → NumberedFrom N s.next (equated s e)
  equated_numbered (equal_terms p) u = pairs_numbered right s n (p ∷ []) (u, tt)
  equated_numbered (equal_times i j) u = at (nat_eq i j)
    where
      at : (b : Bool) → NumberedFrom N s.next (if b then Some s else made_one s (i, j))
      at true = (n, le_refl s.next)
      at false = made_one_numbered right s n (i, j) u

-- a system that has a solution is there
pub not_none : (theory : Theory) (log : Log) (v : Valuation) (o : Option System) → is_none o ≡ true → SolvedBy theory log v o → ⊥
not_none theory log v None a b = b
not_none theory log v (Some t) a b = cc

module _ (N : Names) (right : UnifierIsRight) where
  pub equate_covers : (theory : Theory) → HaveNormalForms (signature_of theory).equations → (s t : System) → equate s ≡ Some t → IsNumbered N s → Covers theory s (t ∷ [])
  equate_covers theory good s t e n =
      let q = then_some (λ r. equated (spending s r []) r.picked) (first_formula equation_of s.formulas) t e in
      let r = q.0 in
      let found = is_found equation_of s.formulas r q.1 in
      let u = equation_in N s.next r.formula r.picked found.picks (found_holds equation_of s.formulas r found (InFormula N (Under s.next) (TimeUnder s.next)) n.formulas) in
      covers_by_itself theory s t (λ log is v h.
      let one = equation_holds theory good log v r.formula r.picked found.picks (found_holds equation_of s.formulas r found (FormulaHolds theory log v) h.formulas) in
      subst (SolvedBy theory log v) q.2
      (equated_solved right (spending s r []) (spending_numbered equation_of s r found [] tt n) theory log v (spending_solves equation_of theory log v s r found [] tt h) r.picked u one))

  pub equate_numbered : (s t : System) → equate s ≡ Some t → IsNumbered N s → IsNumbered N t × (s.next ≤ t.next)
  equate_numbered s t e n =
      let q = then_some (λ r. equated (spending s r []) r.picked) (first_formula equation_of s.formulas) t e in
      let r = q.0 in
      let found = is_found equation_of s.formulas r q.1 in
      let u = equation_in N s.next r.formula r.picked found.picks (found_holds equation_of s.formulas r found (InFormula N (Under s.next) (TimeUnder s.next)) n.formulas) in
      subst (NumberedFrom N s.next) q.2 (equated_numbered right (spending s r []) (spending_numbered equation_of s r found [] tt n) r.picked u)

  -- Failing unification: an equation that a solution makes true can be put into the system.
  module _ (theory : Theory) (good : HaveNormalForms (signature_of theory).equations) (s : System) (n : IsNumbered N s) (log : Log) (v : Valuation) (h : Solves theory log v s) where
    fails_contradicts : (f : Guarded) → InFormula N (Under s.next) (TimeUnder s.next) f → (o : Option Equation) → equation_of f ≡ o → equation_fails s o ≡ true → FormulaHolds theory log v f → ⊥
    fails_contradicts f i None k e l = absurd cc
    fails_contradicts f i (Some q) k e l = not_none theory log v (equated s q) e (equated_solved right s n theory log v h q (equation_in N s.next f q k i) (equation_holds theory good log v f q k l))

    pub some_fails_contradicts : (fs : List Guarded) → Every (InFormula N (Under s.next) (TimeUnder s.next)) fs → fails_to_equate s fs ≡ true → Every (FormulaHolds theory log v) fs → ⊥
    some_fails_contradicts [] i e k = absurd cc
    some_fails_contradicts (f ∷ fs) i e k =
        ⊎_elim (λ l. fails_contradicts f i.0 (equation_of f) refl l k.0) (λ l. some_fails_contradicts fs i.1 l k.1) (or_cases (equation_fails s (equation_of f)) (fails_to_equate s fs) e)
