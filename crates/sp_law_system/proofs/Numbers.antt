-- Which variables and times stand in a formula, under weakening and change.
use Rattle.std.proofs.Common.{ℕ, suc, zero, List, [], ◌∷◌}
use Rattle.sp_spec.specs.Term.{Names, Variable, Term, var, MadeOf}
use Rattle.sp_spec.specs.Rule.{FactsMadeOf}
use Rattle.sp_spec.specs.Guarded.{Place, free, bound, Time, free_time, bound_time, Binder, message, time, Atom, acts, same, same_time, before, last, Guarded, truth, falsity, holds, fails, all_of, one_of, some, every, Guardeds, no_more, and_then, pushed}
use Rattle.sp_spec.specs.Change.{Change, placed, place_changed, time_changed, raised_place, raised, raised_time, under_message, under_time, under, atom_changed, changed, changed_each}
use Rattle.sp_spec_system.specs.Numbered.{AtFree, AtFreeTime, InAtom, InFormula, InEach, InWay, InHappening, InEvent}
use Rattle.sp_spec_system.specs.System.{Way, anyhow, public_name, own_name, constructed, chain_begun, chain_done, Happening, rule_step, sending, learning, happening_facts, Event}
use Rattle.sp_spec.proofs.Lists.{every_map, every_weaken}
use Rattle.sp_law_equal.proofs.Made.{each_valued, each_valued_all, each_weaken, each_weaken_all, facts_weaken}

-- the facts of what happens
pub happening_made : (N : Names) → (P : Variable → Type 0) (Q : ℕ → Type 0) (h : Happening) → InHappening N P Q h → FactsMadeOf N P (happening_facts h)
happening_made N P Q (rule_step r facts) e = e
happening_made N P Q (sending m) e = record { premises = tt; actions = ((e, tt), tt); conclusions = ((e, tt), tt) }
happening_made N P Q (learning m way) e = record { premises = tt; actions = ((e.0, tt), tt); conclusions = tt }

module _ (N : Names) (P P' : Variable → Type 0) (Q Q' : ℕ → Type 0) (h : (x : Variable) → P x → P' x) (k : (i : ℕ) → Q i → Q' i) where
  free_weaken : (p : Place) → AtFree P p → AtFree P' p
  free_weaken (free x) e = h x e
  free_weaken (bound n) e = tt

  time_weaken : (i : Time) → AtFreeTime Q i → AtFreeTime Q' i
  time_weaken (free_time i) e = k i e
  time_weaken (bound_time n) e = tt

  atom_weaken : (a : Atom) → InAtom N P Q a → InAtom N P' Q' a
  atom_weaken (acts a i) e = (each_weaken_all N (AtFree P) (AtFree P') free_weaken a.args e.0, time_weaken i e.1)
  atom_weaken (same t u) e = (each_weaken N (AtFree P) (AtFree P') free_weaken t e.0, each_weaken N (AtFree P) (AtFree P') free_weaken u e.1)
  atom_weaken (same_time i j) e = (time_weaken i e.0, time_weaken j e.1)
  atom_weaken (before i j) e = (time_weaken i e.0, time_weaken j e.1)
  atom_weaken (last i) e = time_weaken i e

  mutual
    pub formula_weaken : (f : Guarded) → InFormula N P Q f → InFormula N P' Q' f
    formula_weaken truth e = tt
    formula_weaken falsity e = tt
    formula_weaken (holds a) e = atom_weaken a e
    formula_weaken (fails a) e = atom_weaken a e
    formula_weaken (all_of fs) e = formulas_weaken fs e
    formula_weaken (one_of fs) e = formulas_weaken fs e
    formula_weaken (some bs guard f) e = (every_weaken (InAtom N P Q) (InAtom N P' Q') atom_weaken guard e.0, formula_weaken f e.1)
    formula_weaken (every bs guard f) e = (every_weaken (InAtom N P Q) (InAtom N P' Q') atom_weaken guard e.0, formula_weaken f e.1)

    formulas_weaken : (fs : Guardeds) → InEach N P Q fs → InEach N P' Q' fs
    formulas_weaken no_more e = tt
    formulas_weaken (and_then f fs) e = (formula_weaken f e.0, formulas_weaken fs e.1)

  way_weaken : (way : Way) → InWay N P Q way → InWay N P' Q' way
  way_weaken anyhow e = tt
  way_weaken public_name e = tt
  way_weaken own_name e = tt
  way_weaken constructed e = tt
  way_weaken (chain_begun i n ts) e = (k i e.0, every_weaken _ _ (each_weaken N P P' h) ts e.1)
  way_weaken (chain_done i n ts) e = (k i e.0, every_weaken _ _ (each_weaken N P P' h) ts e.1)

  happening_weaken : (x : Happening) → InHappening N P Q x → InHappening N P' Q' x
  happening_weaken (rule_step r facts) e = facts_weaken N P P' h facts e
  happening_weaken (sending m) e = each_weaken N P P' h m e
  happening_weaken (learning m way) e = (each_weaken N P P' h m e.0, way_weaken way e.1)

  pub event_weaken : (e : Event) → InEvent N P Q e → InEvent N P' Q' e
  event_weaken e i = (k e.time i.0, happening_weaken e.happening i.1)

-- what the change puts in has only these variables and times
pub record PutsIn (N : Names) (P P' : Variable → Type 0) (Q Q' : ℕ → Type 0) (c : Change) : Type 0 where
  pub terms : (x : Variable) → P x → MadeOf N P' (c.terms x)
  pub times : (i : ℕ) → Q i → Q' (c.times i)
  pub bound_terms : (k : ℕ) → MadeOf N (AtFree P') (c.bound_terms k)
  pub bound_times : (k : ℕ) → AtFreeTime Q' (c.bound_times k)

module _ (N : Names) (P P' : Variable → Type 0) (Q Q' : ℕ → Type 0) where
  raised_free : (p : Place) → AtFree P' p → MadeOf N (AtFree P') (raised_place p)
  raised_free (free x) e = e
  raised_free (bound k) e = tt

  raised_in : (t : Term Place) → MadeOf N (AtFree P') t → MadeOf N (AtFree P') (raised t)
  raised_in t e = each_valued N (AtFree P') (AtFree P') raised_place raised_free t e

  raised_time_in : (i : Time) → AtFreeTime Q' i → AtFreeTime Q' (raised_time i)
  raised_time_in (free_time i) e = e
  raised_time_in (bound_time k) e = tt

  puts_message : (c : Change) → PutsIn N P P' Q Q' c → PutsIn N P P' Q Q' (under_message c)
  puts_message c h = record { terms = h.terms; times = h.times; bound_terms = terms; bound_times = h.bound_times }
    where
      terms : (k : ℕ) → MadeOf N (AtFree P') (pushed (var (bound zero)) (λ j. raised (c.bound_terms j)) k)
      terms zero = tt
      terms (suc k) = raised_in (c.bound_terms k) (h.bound_terms k)

  puts_time : (c : Change) → PutsIn N P P' Q Q' c → PutsIn N P P' Q Q' (under_time c)
  puts_time c h = record { terms = h.terms; times = h.times; bound_terms = h.bound_terms; bound_times = times }
    where
      times : (k : ℕ) → AtFreeTime Q' (pushed (bound_time zero) (λ j. raised_time (c.bound_times j)) k)
      times zero = tt
      times (suc k) = raised_time_in (c.bound_times k) (h.bound_times k)

  puts_under : (bs : List Binder) (c : Change) → PutsIn N P P' Q Q' c → PutsIn N P P' Q Q' (under bs c)
  puts_under [] c h = h
  puts_under (message sort ∷ bs) c h = puts_under bs (under_message c) (puts_message c h)
  puts_under (time ∷ bs) c h = puts_under bs (under_time c) (puts_time c h)

  placed_in : (t : Term Variable) → MadeOf N P' t → MadeOf N (AtFree P') (placed t)
  placed_in t e = each_valued N P' (AtFree P') (λ x. var (free x)) (λ x k. k) t e

  place_in : (c : Change) → PutsIn N P P' Q Q' c → (p : Place) → AtFree P p → MadeOf N (AtFree P') (place_changed c p)
  place_in c h (free x) e = placed_in (c.terms x) (h.terms x e)
  place_in c h (bound k) e = h.bound_terms k

  time_in : (c : Change) → PutsIn N P P' Q Q' c → (i : Time) → AtFreeTime Q i → AtFreeTime Q' (time_changed c i)
  time_in c h (free_time i) e = h.times i e
  time_in c h (bound_time k) e = h.bound_times k

  pub atom_changed_in : (c : Change) → PutsIn N P P' Q Q' c → (a : Atom) → InAtom N P Q a → InAtom N P' Q' (atom_changed c a)
  atom_changed_in c h (acts a i) e = (each_valued_all N (AtFree P) (AtFree P') (place_changed c) (place_in c h) a.args e.0, time_in c h i e.1)
  atom_changed_in c h (same t u) e = (each_valued N (AtFree P) (AtFree P') (place_changed c) (place_in c h) t e.0, each_valued N (AtFree P) (AtFree P') (place_changed c) (place_in c h) u e.1)
  atom_changed_in c h (same_time i j) e = (time_in c h i e.0, time_in c h j e.1)
  atom_changed_in c h (before i j) e = (time_in c h i e.0, time_in c h j e.1)
  atom_changed_in c h (last i) e = time_in c h i e

  mutual
    pub changed_in : (c : Change) → PutsIn N P P' Q Q' c → (f : Guarded) → InFormula N P Q f → InFormula N P' Q' (changed c f)
    changed_in c h truth e = tt
    changed_in c h falsity e = tt
    changed_in c h (holds a) e = atom_changed_in c h a e
    changed_in c h (fails a) e = atom_changed_in c h a e
    changed_in c h (all_of fs) e = changed_each_in c h fs e
    changed_in c h (one_of fs) e = changed_each_in c h fs e
    changed_in c h (some bs guard f) e =
        let k = puts_under bs c h in
        (every_map (InAtom N P Q) (InAtom N P' Q') (atom_changed (under bs c)) (atom_changed_in (under bs c) k) guard e.0, changed_in (under bs c) k f e.1)
    changed_in c h (every bs guard f) e =
        let k = puts_under bs c h in
        (every_map (InAtom N P Q) (InAtom N P' Q') (atom_changed (under bs c)) (atom_changed_in (under bs c) k) guard e.0, changed_in (under bs c) k f e.1)

    changed_each_in : (c : Change) → PutsIn N P P' Q Q' c → (fs : Guardeds) → InEach N P Q fs → InEach N P' Q' (changed_each c fs)
    changed_each_in c h no_more e = tt
    changed_each_in c h (and_then f fs) e = (changed_in c h f e.0, changed_each_in c h fs e.1)
