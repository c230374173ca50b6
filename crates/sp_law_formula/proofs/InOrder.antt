-- Order pairs: a path leads to a later position; the row on literals of order, and the contradictions of order.
use Rattle.std.proofs.Common.{◌≡◌, ◌≤◌, ◌<◌, ℕ, zero, suc, Bool, true, false, ◌&&◌, ◌||◌, nat_eq, List, [], ◌∷◌, length, Some, sym, ap, subst, ⊎_elim, le_refl, le_of_eq, le_of_lt, lt_of_lt_of_le, lt_irrefl, ◌++◌}
use Rattle.std.proofs.lemmas.Bool.{or_cases, and_parts, eqb-true}
use Rattle.sp_spec.specs.Lists.{Every}
use Rattle.sp_spec.specs.Term.{Names, Variable}
use Rattle.sp_spec.specs.Theory.{Theory}
use Rattle.sp_spec.specs.Guarded.{free_time, same_time, before, Guarded, holds, fails}
use Rattle.sp_spec.specs.Log.{Log}
use Rattle.sp_spec.proofs.Lists.{every_append}
use Rattle.sp_spec_system.specs.System.{System}
use Rattle.sp_spec_system.specs.Solutions.{Valuation, FormulaHolds, IsBefore, Solves}
use Rattle.sp_spec_system.specs.Numbered.{InFormula, IsNumbered}
use Rattle.sp_spec_system.specs.Covering.{Covers}
use Rattle.sp_law_system.proofs.Solutions.{Under, TimeUnder}
use Rattle.sp_spec_system.specs.Order.{some_pair, path_within, is_before, begins_cycle, is_cyclic}
use Rattle.sp_spec_system.specs.Formulas.{first_formula, spending}
use Rattle.sp_spec_formula.specs.InOrder.{nothing_if, order_of, ordered_at, in_order, is_refuted, has_refuted}
use Rattle.sp_spec.proofs.Options.{mapped}
use Rattle.sp_law_formula.proofs.OneCase.{covers_by_itself}
use Rattle.sp_law_formula.proofs.Spending.{is_found, found_holds, spending_solves, spending_numbered}
use Rattle.sp_law_system.proofs.With.{BothUnder, order_solves, order_numbered}

module _ (log : Log) (v : Valuation) where
  -- a pair leads to a later position than that at which it begins
  some_pair_later : (pairs : List (ℕ × ℕ)) → Every (IsBefore log v) pairs → (i : ℕ) (leads : ℕ → Bool) (q : ℕ) → ((k : ℕ) → leads k ≡ true → v.times k ≤ q) → some_pair pairs i leads ≡ true → v.times i < q
  some_pair_later [] h i leads q reach e = absurd cc
  some_pair_later (p ∷ pairs) h i leads q reach e =
      ⊎_elim
      (λ k.
      let both = and_parts (nat_eq p.0 i) (leads p.1) k in
      subst (λ (t : ℕ). v.times t < q) (eqb-true p.0 i both.0) (lt_of_lt_of_le h.0.0 (reach p.1 both.1)))
      (λ k. some_pair_later pairs h.1 i leads q reach k)
      (or_cases (nat_eq p.0 i && leads p.1) (some_pair pairs i leads) e)

  module _ (order : List (ℕ × ℕ)) (h : Every (IsBefore log v) order) where
    path_later : (n i j : ℕ) → path_within n order i j ≡ true → v.times i < v.times j
    path_later zero i j e = absurd cc
    path_later (suc n) i j e = some_pair_later order h i (λ k. nat_eq k j || path_within n order k j) (v.times j) (reach (λ k l. path_later n k j l)) e
      where
        reach : ((k : ℕ) → path_within n order k j ≡ true → v.times k < v.times j) → (k : ℕ) → (nat_eq k j || path_within n order k j) ≡ true → v.times k ≤ v.times j
        reach shorter k l =
            ⊎_elim (λ m. le_of_eq (ap v.times (eqb-true k j m))) (λ m. le_of_lt (shorter k m)) (or_cases (nat_eq k j) (path_within n order k j) l)

    pub before_later : (i j : ℕ) → is_before order i j ≡ true → v.times i < v.times j
    before_later i j e = path_later (length order) i j e

    cycle_contradicts : (pairs : List (ℕ × ℕ)) → begins_cycle order pairs ≡ true → ⊥
    cycle_contradicts [] e = cc
    cycle_contradicts (p ∷ pairs) e =
        ⊎_elim (λ k. lt_irrefl (v.times p.0) (before_later p.0 p.0 k)) (λ k. cycle_contradicts pairs k) (or_cases (is_before order p.0 p.0) (begins_cycle order pairs) e)

    pub cyclic_contradicts : is_cyclic order ≡ true → ⊥
    cyclic_contradicts e = cycle_contradicts order e

    -- a time differs from itself, or isn't before one that it is before
    refuted_contradicts : (theory : Theory) (f : Guarded) → is_refuted order f ≡ true → FormulaHolds theory log v f → ⊥
    refuted_contradicts theory (fails (same_time (free_time i) (free_time j))) e k = k.0 (λ none. none (ap v.times (eqb-true i j e)))
    refuted_contradicts theory (fails (before (free_time i) (free_time j))) e k = k.0 (before_later i j e)
    refuted_contradicts theory f e k = absurd cc

    pub some_refuted_contradicts : (theory : Theory) (fs : List Guarded) → has_refuted order fs ≡ true → Every (FormulaHolds theory log v) fs → ⊥
    some_refuted_contradicts theory [] e k = absurd cc
    some_refuted_contradicts theory (f ∷ fs) e k =
        ⊎_elim (λ l. refuted_contradicts theory f l k.0) (λ l. some_refuted_contradicts theory fs l k.1) (or_cases (is_refuted order f) (has_refuted order fs) e)

-- what holds of no pairs
nothing_more : (P : ℕ × ℕ → Type 0) (b : Bool) (pairs : List (ℕ × ℕ)) → nothing_if b ≡ Some pairs → Every P pairs
nothing_more P true pairs e = let empty : List (ℕ × ℕ) = [] in let g : empty ≡ pairs = cc in subst (Every P) g tt
nothing_more P false pairs e = absurd cc

order_holds : (theory : Theory) (log : Log) (v : Valuation) (order : List (ℕ × ℕ)) (f : Guarded) (pairs : List (ℕ × ℕ)) → order_of order f ≡ Some pairs → FormulaHolds theory log v f → Every (IsBefore log v) pairs
order_holds theory log v order (holds (before (free_time i) (free_time j))) pairs e h = let one : List (ℕ × ℕ) = (i, j) ∷ [] in let g : one ≡ pairs = cc in subst (Every (IsBefore log v)) g ((h.0, h.1.1), tt)
order_holds theory log v order (fails (same_time (free_time i) (free_time j))) pairs e h = nothing_more (IsBefore log v) (is_before order i j || is_before order j i) pairs e
order_holds theory log v order (fails (before (free_time i) (free_time j))) pairs e h = nothing_more (IsBefore log v) (nat_eq i j || is_before order j i) pairs e
order_holds theory log v order f pairs e h = absurd cc

order_in : (N : Names) → (P : Variable → Type 0) (n : ℕ) (order : List (ℕ × ℕ)) (f : Guarded) (pairs : List (ℕ × ℕ)) → order_of order f ≡ Some pairs → InFormula N P (TimeUnder n) f → Every (BothUnder n) pairs
order_in N P n order (holds (before (free_time i) (free_time j))) pairs e h = let one : List (ℕ × ℕ) = (i, j) ∷ [] in let g : one ≡ pairs = cc in subst (Every (BothUnder n)) g (h, tt)
order_in N P n order (fails (same_time (free_time i) (free_time j))) pairs e h = nothing_more (BothUnder n) (is_before order i j || is_before order j i) pairs e
order_in N P n order (fails (before (free_time i) (free_time j))) pairs e h = nothing_more (BothUnder n) (nat_eq i j || is_before order j i) pairs e
order_in N P n order f pairs e h = absurd cc

pub in_order_covers : (theory : Theory) (s t : System) → in_order s ≡ Some t → Covers theory s (t ∷ [])
in_order_covers theory s t e =
    let r = mapped (ordered_at s) (first_formula (order_of s.order) s.formulas) t e in
    let found = is_found (order_of s.order) s.formulas r.0 r.1 in
    covers_by_itself theory s t (λ log is v h.
    let u = spending_solves (order_of s.order) theory log v s r.0 found [] tt h in
    let pairs = order_holds theory log v s.order r.0.formula r.0.picked found.picks (found_holds (order_of s.order) s.formulas r.0 found (FormulaHolds theory log v) h.formulas) in
    subst (Solves theory log v) (sym r.2)
    (order_solves theory log v (spending s r.0 []) u (s.order ++ r.0.picked) (every_append (IsBefore log v) s.order r.0.picked h.order pairs)))

pub in_order_numbered : {N : Names} → (s t : System) → in_order s ≡ Some t → IsNumbered N s → IsNumbered N t × (s.next ≤ t.next)
in_order_numbered {N} s t e n =
    let r = mapped (ordered_at s) (first_formula (order_of s.order) s.formulas) t e in
    let found = is_found (order_of s.order) s.formulas r.0 r.1 in
    let u = spending_numbered (order_of s.order) s r.0 found [] tt n in
    let pairs = order_in N (Under s.next) s.next s.order r.0.formula r.0.picked found.picks (found_holds (order_of s.order) s.formulas r.0 found (InFormula N (Under s.next) (TimeUnder s.next)) n.formulas) in
    let P : System → Type 0 = λ w. IsNumbered N w × (s.next ≤ w.next) in
    subst P (sym r.2) (order_numbered (spending s r.0 []) u (s.order ++ r.0.picked) (every_append (BothUnder s.next) s.order r.0.picked n.order pairs), le_refl s.next)
