-- The last time: the row on literals of it, and the contradictions of it.
use Rattle.std.proofs.Common.{◌≡◌, ◌≤◌, ◌<◌, ℕ, zero, suc, true, ◌||◌, nat_eq, List, [], ◌∷◌, length, Option, Some, None, IfSome, refl, sym, ap, ◌∙◌, subst, ⊎_elim, arith, le_refl, le_of_eq, le_of_lt}
use Rattle.std.proofs.Math.Arith.{lt_of_le-ne}
use Rattle.std.proofs.lemmas.Bool.{or_cases, and_parts, eqb-true}
use Rattle.sp_spec.specs.Lists.{Member, Every}
use Rattle.sp_spec.specs.Term.{Names, Variable}
use Rattle.sp_spec.specs.Theory.{Theory}
use Rattle.sp_spec.specs.Guarded.{free_time, before, last, Guarded, holds, fails}
use Rattle.sp_spec.specs.Log.{Log, log_trace}
use Rattle.sp_spec_system.specs.System.{Event, System}
use Rattle.sp_spec_system.specs.Solutions.{Valuation, FormulaHolds, IsBefore, IsLast, Solves}
use Rattle.sp_spec_system.specs.Numbered.{InFormula, IsNumbered}
use Rattle.sp_spec_system.specs.Covering.{Covers}
use Rattle.sp_spec_system.specs.Formulas.{Found, first_formula, spending}
use Rattle.sp_spec_system.specs.Order.{is_before, begins_at}
use Rattle.sp_spec_formula.specs.Equate.{equal_times, equated}
use Rattle.sp_spec_formula.specs.Last.{Ending, is_last, before_last, ending_of, made_last, ended_by, sets_last, last_fails, fails_to_last, has_later, is_last_refuted, has_last_refuted, all_by, is_behind_all, some_behind_all, has_unlast}
use Rattle.sp_spec.proofs.Options.{then_some}
use Rattle.sp_law_system.specs.Laws.{UnifierIsRight}
use Rattle.sp_law_system.proofs.Solutions.{Under, TimeUnder}
use Rattle.sp_law_system.proofs.With.{last_solves, last_numbered}
use Rattle.sp_law_formula.proofs.Entries.{length_trace}
use Rattle.sp_law_formula.proofs.Equate.{same_number, equated_solved, equated_numbered, not_none}
use Rattle.sp_law_formula.proofs.OneCase.{covers_by_itself}
use Rattle.sp_law_formula.proofs.Merged.{SolvedBy, NumberedFrom}
use Rattle.sp_law_formula.proofs.InOrder.{before_later}
use Rattle.sp_law_formula.proofs.Spending.{IsFound, is_found, found_holds, spending_solves, spending_numbered}

-- what an ending says, and whose numbers it has
abbrev EndingHolds : Log → Valuation → Ending → Type 0
EndingHolds log v (is_last i) = suc (v.times i) ≡ length log
EndingHolds log v (before_last i j) = (v.times i < v.times j) × (v.times i < length log) × (v.times j < length log)

abbrev EndingUnder : ℕ → Ending → Type 0
EndingUnder n (is_last i) = i < n
EndingUnder n (before_last i j) = (i < n) × (j < n)

module _ (theory : Theory) (log : Log) (v : Valuation) where
  -- a time that is said to be the last one is it, and one that is said not to be isn't
  last_holds : (i : ℕ) → FormulaHolds theory log v (holds (last (free_time i))) → suc (v.times i) ≡ length log
  last_holds i k = same_number (suc (v.times i)) (length (log_trace log)) k.0 ∙ length_trace log

  not_last : (i : ℕ) → FormulaHolds theory log v (fails (last (free_time i))) → suc (v.times i) ≡ length log → ⊥
  not_last i k e = k.0 (λ none. none (e ∙ sym (length_trace log)))

  -- two last times have one position, and one that isn't the last comes before it
  both_last : (i j : ℕ) → suc (v.times i) ≡ length log → suc (v.times j) ≡ length log → v.times i ≡ v.times j
  both_last i j a b = omega (arith, a, b)

  ending_holds : (known : Option ℕ) → IsLast log v known → (f : Guarded) (e : Ending) → ending_of known f ≡ Some e → FormulaHolds theory log v f → EndingHolds log v e
  ending_holds known l (holds (last (free_time i))) e h k = let g : is_last i ≡ e = cc in subst (EndingHolds log v) g (last_holds i k)
  ending_holds (Some j) l (fails (last (free_time i))) e h k =
      let g : before_last i j ≡ e = cc in
      let inside = k.1 in
      let most : v.times i ≤ v.times j = omega (arith, l, inside) in
      let under : v.times j < length log = omega (arith, l) in
      subst (EndingHolds log v) g (lt_of_le-ne most (λ s. not_last i k (ap suc s ∙ l)), inside, under)
  ending_holds known l f e h k = absurd cc

ending_in : (N : Names) (P : Variable → Type 0) (n : ℕ) (known : Option ℕ) → IfSome known (TimeUnder n) → (f : Guarded) (e : Ending)
    → ending_of known f ≡ Some e → InFormula N P (TimeUnder n) f → EndingUnder n e
ending_in N P n known l (holds (last (free_time i))) e h k = let g : is_last i ≡ e = cc in subst (EndingUnder n) g k
ending_in N P n (Some j) l (fails (last (free_time i))) e h k = let g : before_last i j ≡ e = cc in subst (EndingUnder n) g (k, l)
ending_in N P n known l f e h k = absurd cc

module _ {N : Names} (right : UnifierIsRight) (s : System) (n : IsNumbered N s) where
  -- a last time that is one with the known one, or is known from now on
  made_last_solved : (theory : Theory) (log : Log) (v : Valuation) → Solves theory log v s → (i : ℕ) → i < s.next → suc (v.times i) ≡ length log → (known : Option ℕ)
      → IfSome known (TimeUnder s.next) → IsLast log v known → SolvedBy theory log v (made_last known i s)
  made_last_solved theory log v h i u one None under l = last_solves theory log v s h i one
  made_last_solved theory log v h i u one (Some j) under l = equated_solved right s n theory log v h (equal_times i j) (u, under) (both_last theory log v i j one l)

  made_last_numbered : (i : ℕ) → i < s.next → (known : Option ℕ) → IfSome known (TimeUnder s.next) → NumberedFrom N s.next (made_last known i s)
  made_last_numbered i u None under = (last_numbered s n i u, le_refl s.next)
  made_last_numbered i u (Some j) under = equated_numbered right s n (equal_times i j) (u, under)

module _ (N : Names) (right : UnifierIsRight) where
  ended_solved : (theory : Theory) (s : System) (n : IsNumbered N s) (log : Log) (v : Valuation) → Solves theory log v s → (r : Found Ending) → IsFound (ending_of s.last) s.formulas r
      → (e : Ending) → EndingUnder s.next e → EndingHolds log v e → SolvedBy theory log v (ended_by s r e)
  ended_solved theory s n log v h r found (is_last i) u k =
      let solved = spending_solves (ending_of s.last) theory log v s r found [] tt h in
      made_last_solved right (spending s r []) (spending_numbered (ending_of s.last) s r found [] tt n) theory log v solved i u k s.last n.last h.last
  ended_solved theory s n log v h r found (before_last i j) u k =
      spending_solves (ending_of s.last) theory log v s r found (holds (before (free_time i) (free_time j)) ∷ []) ((k.0, (k.1, k.2)), tt) h

  ended_numbered : (s : System) (n : IsNumbered N s) (r : Found Ending) → IsFound (ending_of s.last) s.formulas r → (e : Ending) → EndingUnder s.next e → NumberedFrom N s.next (ended_by s r e)
  ended_numbered s n r found (is_last i) u = made_last_numbered right (spending s r []) (spending_numbered (ending_of s.last) s r found [] tt n) i u s.last n.last
  ended_numbered s n r found (before_last i j) u = (spending_numbered (ending_of s.last) s r found (holds (before (free_time i) (free_time j)) ∷ []) (u, tt) n, le_refl s.next)

  found_under : (s : System) → IsNumbered N s → (r : Found Ending) → IsFound (ending_of s.last) s.formulas r → EndingUnder s.next r.picked
  found_under s n r found =
      ending_in N (Under s.next) s.next s.last n.last r.formula r.picked found.picks (found_holds (ending_of s.last) s.formulas r found (InFormula N (Under s.next) (TimeUnder s.next)) n.formulas)

  pub sets_last_covers : (theory : Theory) (s t : System) → sets_last s ≡ Some t → IsNumbered N s → Covers theory s (t ∷ [])
  sets_last_covers theory s t e n =
      let q = then_some (λ r. ended_by s r r.picked) (first_formula (ending_of s.last) s.formulas) t e in
      let r = q.0 in
      let found = is_found (ending_of s.last) s.formulas r q.1 in
      covers_by_itself theory s t (λ log is v h.
      let k = ending_holds theory log v s.last h.last r.formula r.picked found.picks (found_holds (ending_of s.last) s.formulas r found (FormulaHolds theory log v) h.formulas) in
      subst (SolvedBy theory log v) q.2 (ended_solved theory s n log v h r found r.picked (found_under s n r found) k))

  pub sets_last_numbered : (s t : System) → sets_last s ≡ Some t → IsNumbered N s → IsNumbered N t × (s.next ≤ t.next)
  sets_last_numbered s t e n =
      let q = then_some (λ r. ended_by s r r.picked) (first_formula (ending_of s.last) s.formulas) t e in
      let r = q.0 in
      let found = is_found (ending_of s.last) s.formulas r q.1 in
      subst (NumberedFrom N s.next) q.2 (ended_numbered s n r found r.picked (found_under s n r found))

  -- Contradictions. The events at two last times can be one.
  module _ (theory : Theory) (s : System) (n : IsNumbered N s) (log : Log) (v : Valuation) (h : Solves theory log v s) where
    last_fails_contradicts : (known : Option ℕ) → IfSome known (TimeUnder s.next) → IsLast log v known → (f : Guarded) → InFormula N (Under s.next) (TimeUnder s.next) f → last_fails s known f ≡ true
        → FormulaHolds theory log v f → ⊥
    last_fails_contradicts (Some j) u l (holds (last (free_time i))) k e g =
        not_none theory log v (equated s (equal_times i j)) e
        (equated_solved right s n theory log v h (equal_times i j) (k, u) (both_last theory log v i j (last_holds theory log v i g) l))
    last_fails_contradicts known u l f k e g = absurd cc

    pub some_last_fails_contradicts : (fs : List Guarded) → Every (InFormula N (Under s.next) (TimeUnder s.next)) fs → fails_to_last s fs ≡ true → Every (FormulaHolds theory log v) fs → ⊥
    some_last_fails_contradicts [] k e g = absurd cc
    some_last_fails_contradicts (f ∷ fs) k e g =
        ⊎_elim (λ l. last_fails_contradicts s.last n.last h.last f k.0 l g.0) (λ l. some_last_fails_contradicts fs k.1 l g.1) (or_cases (last_fails s s.last f) (fails_to_last s fs) e)

module _ (log : Log) (v : Valuation) where
  -- no pair begins at the last time
  begins_contradicts : (i : ℕ) → suc (v.times i) ≡ length log → (order : List (ℕ × ℕ)) → Every (IsBefore log v) order → begins_at i order ≡ true → ⊥
  begins_contradicts i l [] k e = absurd cc
  begins_contradicts i l (p ∷ pairs) k e = ⊎_elim here (λ b. begins_contradicts i l pairs k.1 b) (or_cases (nat_eq p.0 i) (begins_at i pairs) e)
    where
      here : nat_eq p.0 i ≡ true → ⊥
      here b =
          let same : v.times p.0 ≡ v.times i = ap v.times (eqb-true p.0 i b) in
          let first = k.0.0 in
          let second = k.0.1 in
          omega (arith, l, same, first, second)

  pub later_contradicts : (known : Option ℕ) → IsLast log v known → (order : List (ℕ × ℕ)) → Every (IsBefore log v) order → has_later known order ≡ true → ⊥
  later_contradicts None l order k e = absurd cc
  later_contradicts (Some i) l order k e = begins_contradicts i l order k e

  -- the last time is the last one
  last_refuted_contradicts : (theory : Theory) (known : Option ℕ) → IsLast log v known → (f : Guarded) → is_last_refuted known f ≡ true → FormulaHolds theory log v f → ⊥
  last_refuted_contradicts theory (Some j) l (fails (last (free_time i))) e k = not_last theory log v i k (ap (λ (x : ℕ). suc (v.times x)) (eqb-true i j e) ∙ l)
  last_refuted_contradicts theory known l f e k = absurd cc

  pub some_last_refuted_contradicts : (theory : Theory) (known : Option ℕ) → IsLast log v known → (fs : List Guarded) → has_last_refuted known fs ≡ true → Every (FormulaHolds theory log v) fs → ⊥
  some_last_refuted_contradicts theory known l [] e k = absurd cc
  some_last_refuted_contradicts theory known l (f ∷ fs) e k =
      ⊎_elim (λ b. last_refuted_contradicts theory known l f b k.0) (λ b. some_last_refuted_contradicts theory known l fs b k.1) (or_cases (is_last_refuted known f) (has_last_refuted known fs) e)

  -- events that are at a time or before it are at no later position
  by_then : (order : List (ℕ × ℕ)) → Every (IsBefore log v) order → (i : ℕ) (es : List Event) → all_by order i es ≡ true → (e : Event) → Member e es → v.times e.time ≤ v.times i
  by_then order h i [] k e m = absurd m
  by_then order h i (d ∷ es) k e m =
      let both = and_parts (nat_eq d.time i || is_before order d.time i) (all_by order i es) k in
      ⊎_elim (λ g. subst (λ (x : Event). v.times x.time ≤ v.times i) g (here both.0)) (λ l. by_then order h i es both.1 e l) m
    where
      here : (nat_eq d.time i || is_before order d.time i) ≡ true → v.times d.time ≤ v.times i
      here k =
          ⊎_elim (λ l. le_of_eq (ap v.times (eqb-true d.time i l))) (λ l. le_of_lt (before_later log v order h d.time i l)) (or_cases (nat_eq d.time i) (is_before order d.time i) k)

  -- In a closed system one of the events is at the last position.
  module _ (theory : Theory) (s : System) (h : Solves theory log v s) (closed : s.closed ≡ true) where
    behind_contradicts : (f : Guarded) → is_behind_all s f ≡ true → FormulaHolds theory log v f → ⊥
    behind_contradicts (fails (last (free_time i))) e k = at (length log) refl
      where
        at : (n : ℕ) → length log ≡ n → ⊥
        at zero l = let under = k.1 in omega (arith, l, under)
        at (suc p) l =
            let under = k.1 in
            let a = h.closed closed p (omega (arith, l)) in
            let most = by_then s.order h.order i s.events e a.0 a.1 in
            let there = a.2 in
            not_last theory log v i k (omega (arith, l, under, most, there))
    behind_contradicts f e k = absurd cc

    some_behind_contradicts : (fs : List Guarded) → some_behind_all s fs ≡ true → Every (FormulaHolds theory log v) fs → ⊥
    some_behind_contradicts [] e k = absurd cc
    some_behind_contradicts (f ∷ fs) e k =
        ⊎_elim (λ l. behind_contradicts f l k.0) (λ l. some_behind_contradicts fs l k.1) (or_cases (is_behind_all s f) (some_behind_all s fs) e)

  pub unlast_contradicts : (theory : Theory) (s : System) → Solves theory log v s → has_unlast s ≡ true → ⊥
  unlast_contradicts theory s h e =
      let both = and_parts s.closed (some_behind_all s s.formulas) e in
      some_behind_contradicts theory s h both.0 s.formulas both.1 h.formulas
