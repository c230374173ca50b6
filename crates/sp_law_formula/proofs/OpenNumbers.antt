-- Opening an existential formula takes new numbers alone.
use Rattle.std.proofs.Common.{◌≡◌, ◌≤◌, ◌+◌, ℕ, zero, suc, List, [], ◌∷◌, ◌++◌, map, length, Some, sym, ap, subst, arith}
use Rattle.sp_spec.specs.Lists.{Every}
use Rattle.sp_spec.specs.Term.{Names, Variable, var, MadeOf}
use Rattle.sp_spec.specs.Guarded.{free, free_time, Binder, message, time, Atom, Guarded, truth, falsity, holds, fails, all_of, one_of, some, every, pushed}
use Rattle.sp_spec.specs.Change.{Change, atom_changed, changed, opened, opening, free_change}
use Rattle.sp_spec_system.specs.System.{System, with_next}
use Rattle.sp_spec_system.specs.Numbered.{AtFree, AtFreeTime, InAtom, InFormula, IsNumbered}
use Rattle.sp_spec.proofs.Lists.{every_append, every_map}
use Rattle.sp_law_equal.proofs.Made.{each_weaken}
use Rattle.sp_law_system.proofs.Numbers.{PutsIn, atom_changed_in, changed_in}
use Rattle.sp_law_system.proofs.Solutions.{Under, TimeUnder}
use Rattle.sp_spec_system.specs.Formulas.{first_formula}
use Rattle.sp_spec_formula.specs.Open.{Existential, existential_of, opened_at, open_existential}
use Rattle.sp_spec.proofs.Options.{mapped}
use Rattle.sp_law_formula.proofs.OpenValues.{more_place, more_time}
use Rattle.sp_law_formula.proofs.Spending.{is_found, found_holds, spending_numbered}
use Rattle.sp_law_system.proofs.With.{next_numbered}

module _ (N : Names) (base : ℕ) where
  abbrev Puts : ℕ → Change → Type 0
  Puts next c = PutsIn N (Under base) (Under next) (TimeUnder base) (TimeUnder next) c

  more_puts : (n : ℕ) (c : Change) → Puts n c → Puts (suc n) c
  more_puts n c h = record {
    terms = λ x k. each_weaken N (Under n) (Under (suc n)) (λ y l. omega (arith, l)) (c.terms x) (h.terms x k);
    times = λ i k. let l = h.times i k in omega (arith, l);
    bound_terms = λ k. more_place N n (c.bound_terms k) (h.bound_terms k);
    bound_times = λ k. more_time n (c.bound_times k) (h.bound_times k);
  }

  opened_puts : (bs : List Binder) (next : ℕ) (c : Change) → Puts next c → Puts (next + length bs) (opened bs next c)
  opened_puts [] next c h = subst (λ (n : ℕ). Puts n c) (omega arith) h
  opened_puts (message sort ∷ bs) next c h =
      let d : Change = record { terms = c.terms; times = c.times; bound_terms = pushed (var (free (record { sort = sort; number = next }))) c.bound_terms; bound_times = c.bound_times } in
      let m = more_puts next c h in
      let k : Puts (suc next) d = record { terms = m.terms; times = m.times; bound_terms = terms m; bound_times = m.bound_times } in
      subst (λ (n : ℕ). Puts n (opened bs (suc next) d)) (omega arith) (opened_puts bs (suc next) d k)
    where
      terms : Puts (suc next) c → (j : ℕ) → MadeOf N (AtFree (Under (suc next))) (pushed (var (free (record { sort = sort; number = next }))) c.bound_terms j)
      terms m zero = omega arith
      terms m (suc j) = m.bound_terms j
  opened_puts (time ∷ bs) next c h =
      let d : Change = record { terms = c.terms; times = c.times; bound_terms = c.bound_terms; bound_times = pushed (free_time next) c.bound_times } in
      let m = more_puts next c h in
      let k : Puts (suc next) d = record { terms = m.terms; times = m.times; bound_terms = m.bound_terms; bound_times = times m } in
      subst (λ (n : ℕ). Puts n (opened bs (suc next) d)) (omega arith) (opened_puts bs (suc next) d k)
    where
      times : Puts (suc next) c → (j : ℕ) → AtFreeTime (TimeUnder (suc next)) (pushed (free_time next) c.bound_times j)
      times m zero = omega arith
      times m (suc j) = m.bound_times j

  opening_puts : (bs : List Binder) → Puts (base + length bs) (opening bs base)
  opening_puts bs = opened_puts bs base (free_change var (λ i. i)) (record { terms = λ x k. k; times = λ i k. k; bound_terms = λ k. tt; bound_times = λ k. tt })

-- what an existential formula was taken to be
pub found_formula : (f : Guarded) (e : Existential) → existential_of f ≡ Some e → f ≡ some e.binders e.guard e.body
found_formula (some bs guard f) e h =
    let d : Existential = record { binders = bs; guard = guard; body = f } in
    let g : d ≡ e = cc in
    ap (λ (x : Existential). some x.binders x.guard x.body) g
found_formula truth e h = absurd cc
found_formula falsity e h = absurd cc
found_formula (holds a) e h = absurd cc
found_formula (fails a) e h = absurd cc
found_formula (all_of fs) e h = absurd cc
found_formula (one_of fs) e h = absurd cc
found_formula (every bs guard f) e h = absurd cc

atoms_in : {N : Names} → (P P' : Variable → Type 0) (Q Q' : ℕ → Type 0) (c : Change) → PutsIn N P P' Q Q' c → (atoms : List Atom) → Every (InAtom N P Q) atoms → Every (InFormula N P' Q') (map (λ a. holds (atom_changed c a)) atoms)
atoms_in {N} P P' Q Q' c h = every_map _ _ (λ a. holds (atom_changed c a)) (atom_changed_in N P P' Q Q' c h)

pub open_existential_numbered : {N : Names} → (s t : System) → open_existential s ≡ Some t → IsNumbered N s → IsNumbered N t × (s.next ≤ t.next)
open_existential_numbered {N} s t e n =
    let q = mapped (opened_at s) (first_formula existential_of s.formulas) t e in
    let r = q.0 in
    let next = s.next + length r.picked.binders in
    let found = is_found existential_of s.formulas r q.1 in
    let i = subst (InFormula N (Under s.next) (TimeUnder s.next)) (found_formula r.formula r.picked found.picks) (found_holds existential_of s.formulas r found (InFormula N (Under s.next) (TimeUnder s.next)) n.formulas) in
    let m = next_numbered s n next (omega arith) in
    let c = opening r.picked.binders s.next in
    let puts = opening_puts N s.next r.picked.binders in
    let new = every_append (InFormula N (Under next) (TimeUnder next)) (map (λ a. holds (atom_changed c a)) r.picked.guard) (changed c r.picked.body ∷ [])
    (atoms_in _ _ _ _ c puts r.picked.guard i.0) (changed_in N _ _ _ _ c puts r.picked.body i.1, tt) in
    let k = spending_numbered existential_of (with_next s next) r found (map (λ a. holds (atom_changed c a)) r.picked.guard ++ changed c r.picked.body ∷ []) new m in
    let P : System → Type 0 = λ w. IsNumbered N w × (s.next ≤ w.next) in
    subst P (sym q.2) (k, omega arith)
