-- The row on disjunctions: one with a known part is spent, and else a part that is false is left out.
use Rattle.std.proofs.Common.{◌≡◌, ◌≤◌, ◌⊎◌, ℕ, Bool, true, false, if◌then◌else◌, List, [], ◌∷◌, length, Option, Some, option_map, refl, sym, subst, inl, inr, le_refl}
use Rattle.sp_spec.specs.Lists.{Every, Classically}
use Rattle.sp_spec.specs.Term.{Names, Variable}
use Rattle.sp_spec.specs.Theory.{Theory, signature_of}
use Rattle.sp_spec.specs.Guarded.{Guarded, falsity, one_of, Guardeds, no_more, and_then, GuardedHolds, SomeHolds}
use Rattle.sp_spec.specs.Log.{Log, log_trace}
use Rattle.sp_spec_system.specs.System.{System}
use Rattle.sp_spec_system.specs.Solutions.{Valuation, assignment, Settled, EachSettled, FormulaHolds, Solves}
use Rattle.sp_spec_system.specs.Numbered.{InFormula, InEach, IsNumbered}
use Rattle.sp_spec_system.specs.Covering.{Covers}
use Rattle.sp_law_system.proofs.Solutions.{Under, TimeUnder, agrees_itself}
use Rattle.sp_spec_system.specs.Formulas.{first_formula, spending}
use Rattle.sp_spec_formula.specs.Disjunction.{some_known, without_false, disjunction_of, instead_of, disjunction}
use Rattle.sp_spec.proofs.Options.{mapped}
use Rattle.sp_law_formula.proofs.Spending.{is_found, found_holds, spending_solves, spending_numbered}

-- a part is false, or it stays
false_or_kept : (f : Guarded) → (f ≡ falsity) ⊎ ((fs : Guardeds) → without_false (and_then f fs) ≡ option_map (and_then f) (without_false fs))
false_or_kept falsity = inl refl
false_or_kept f = inr (λ fs. refl)

-- what is left of a disjunction: all but its first part where that is false, or the first part and what is left of the others
pub left_out : (X : Guardeds → Type 0) (f : Guarded) (fs gs : Guardeds) → without_false (and_then f fs) ≡ Some gs → (f ≡ falsity → X fs)
    → ((rest : Guardeds) → without_false fs ≡ Some rest → X (and_then f rest)) → X gs
left_out X f fs gs e gone kept = at (false_or_kept f)
  where
    at : (f ≡ falsity) ⊎ ((fs : Guardeds) → without_false (and_then f fs) ≡ option_map (and_then f) (without_false fs)) → X gs
    at (inl i) =
        let k : without_false (and_then falsity fs) ≡ Some gs = subst (λ (x : Guarded). without_false (and_then x fs) ≡ Some gs) i e in
        let g : fs ≡ gs = cc in
        subst X g (gone i)
    at (inr i) =
        let q = mapped (and_then f) (without_false fs) gs (subst (λ (o : Option Guardeds). o ≡ Some gs) (i fs) e) in
        subst X (sym q.2) (kept q.0 q.1)

module _ (theory : Theory) (log : Log) (v : Valuation) where
  abbrev SomeTrue : Guardeds → Type 0
  SomeTrue fs = SomeHolds (signature_of theory) (log_trace log) (assignment v) fs

  abbrev AllSettled : Guardeds → Type 0
  AllSettled fs = EachSettled (signature_of theory) (length log) (assignment v) fs

  left_hold : (fs gs : Guardeds) → without_false fs ≡ Some gs → SomeTrue fs → SomeTrue gs
  left_hold no_more gs e h = absurd cc
  left_hold (and_then f fs) gs e (inr h) = left_out SomeTrue f fs gs e (λ i. h) (λ rest k. inr (left_hold fs rest k h))
  left_hold (and_then f fs) gs e (inl h) =
      left_out SomeTrue f fs gs e
      (λ i. absurd (subst (λ (x : Guarded). GuardedHolds (signature_of theory) (log_trace log) (assignment v) x) i h))
      (λ rest k. inl h)

  left_settled : (fs gs : Guardeds) → without_false fs ≡ Some gs → AllSettled fs → AllSettled gs
  left_settled no_more gs e h = absurd cc
  left_settled (and_then f fs) gs e h = left_out AllSettled f fs gs e (λ i. h.1) (λ rest k. (h.0, left_settled fs rest k h.1))

  -- what stands in the place of the disjunction of these parts
  disjunction_holds : (fs : Guardeds) → SomeTrue fs → GuardedHolds (signature_of theory) (log_trace log) (assignment v) (disjunction_of fs)
  disjunction_holds no_more h = absurd h
  disjunction_holds (and_then f no_more) (inl h) = h
  disjunction_holds (and_then f no_more) (inr h) = absurd h
  disjunction_holds (and_then f (and_then g fs)) h = λ none. none h

  disjunction_settled : (fs : Guardeds) → AllSettled fs → Settled (signature_of theory) (length log) (assignment v) (disjunction_of fs)
  disjunction_settled no_more h = tt
  disjunction_settled (and_then f no_more) h = h.0
  disjunction_settled (and_then f (and_then g fs)) h = h

  instead_holds : (s : System) (f : Guarded) (new : List Guarded) → instead_of s f ≡ Some new → FormulaHolds theory log v f → Classically (Every (FormulaHolds theory log v) new)
  instead_holds s (one_of fs) new e h none = at (some_known s fs) e
    where
      at : (b : Bool) → (if b then Some [] else option_map (λ gs. disjunction_of gs ∷ []) (without_false fs)) ≡ Some new → ⊥
      at true k = let empty : List Guarded = [] in let g : empty ≡ new = cc in none (subst (Every (FormulaHolds theory log v)) g tt)
      at false k =
          let q = mapped (λ gs. disjunction_of gs ∷ []) (without_false fs) new k in
          h.0 (λ some. none (subst (Every (FormulaHolds theory log v)) (sym q.2)
          ((disjunction_holds q.0 (left_hold fs q.0 q.1 some), disjunction_settled q.0 (left_settled fs q.0 q.1 h.1)), tt)))
  instead_holds s f new e h none = absurd cc

module _ (N : Names) (P : Variable → Type 0) (Q : ℕ → Type 0) where
  left_in : (fs gs : Guardeds) → without_false fs ≡ Some gs → InEach N P Q fs → InEach N P Q gs
  left_in no_more gs e h = absurd cc
  left_in (and_then f fs) gs e h = left_out (InEach N P Q) f fs gs e (λ i. h.1) (λ rest k. (h.0, left_in fs rest k h.1))

  disjunction_in : (fs : Guardeds) → InEach N P Q fs → InFormula N P Q (disjunction_of fs)
  disjunction_in no_more h = tt
  disjunction_in (and_then f no_more) h = h.0
  disjunction_in (and_then f (and_then g fs)) h = h

  instead_in : (s : System) (f : Guarded) (new : List Guarded) → instead_of s f ≡ Some new → InFormula N P Q f → Every (InFormula N P Q) new
  instead_in s (one_of fs) new e h = at (some_known s fs) e
    where
      at : (b : Bool) → (if b then Some [] else option_map (λ gs. disjunction_of gs ∷ []) (without_false fs)) ≡ Some new → Every (InFormula N P Q) new
      at true k = let empty : List Guarded = [] in let g : empty ≡ new = cc in subst (Every (InFormula N P Q)) g tt
      at false k =
          let q = mapped (λ gs. disjunction_of gs ∷ []) (without_false fs) new k in
          subst (Every (InFormula N P Q)) (sym q.2) (disjunction_in q.0 (left_in fs q.0 q.1 h), tt)
  instead_in s f new e h = absurd cc

pub disjunction_covers : (theory : Theory) (s t : System) → disjunction s ≡ Some t → Covers theory s (t ∷ [])
disjunction_covers theory s t e =
    let r = mapped (λ r. spending s r r.picked) (first_formula (instead_of s) s.formulas) t e in
    let found = is_found (instead_of s) s.formulas r.0 r.1 in
    record {
      covers = λ log is v h none.
          instead_holds theory log v s r.0.formula r.0.picked found.picks (found_holds (instead_of s) s.formulas r.0 found (FormulaHolds theory log v) h.formulas)
          (λ new. none.0 v (agrees_itself s.next v) (subst (Solves theory log v) (sym r.2) (spending_solves (instead_of s) theory log v s r.0 found r.0.picked new h)));
    }

pub disjunction_numbered : {N : Names} → (s t : System) → disjunction s ≡ Some t → IsNumbered N s → IsNumbered N t × (s.next ≤ t.next)
disjunction_numbered {N} s t e n =
    let r = mapped (λ r. spending s r r.picked) (first_formula (instead_of s) s.formulas) t e in
    let found = is_found (instead_of s) s.formulas r.0 r.1 in
    let new = instead_in N (Under s.next) (TimeUnder s.next) s r.0.formula r.0.picked found.picks (found_holds (instead_of s) s.formulas r.0 found (InFormula N (Under s.next) (TimeUnder s.next)) n.formulas) in
    let P : System → Type 0 = λ u. IsNumbered N u × (s.next ≤ u.next) in
    subst P (sym r.2) (spending_numbered (instead_of s) s r.0 found r.0.picked new n, le_refl s.next)
