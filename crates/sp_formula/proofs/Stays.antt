-- What has none of the bound variables, and not the time, is unchanged.
use Rattle.std.proofs.Common.{◌≡◌, ℕ, Bool, true, false, not, ◌||◌, ◌==◌, if◌then◌else◌, List, [], ◌∷◌, map, Option, Some, None, is_none, refl, sym, ap, ap₂, ◌∙◌}
use Rattle.std.specs.Prelude.{unwrap_or}
use Rattle.std.proofs.lemmas.Bool.{and_parts, eqb-true}
use Rattle.sp_spec.specs.Term.{Variable, Term, var, constant, name, app, Terms, none, more, valued, valued_all, each_variable, each_variables}
use Rattle.sp_spec.specs.Rule.{Action, action_at}
use Rattle.sp_spec.specs.Substitution.{Binding, lookup, bound_to}
use Rattle.sp_spec.specs.Guarded.{Place, free, bound, Time, free_time, bound_time, Atom, acts, same, same_time, before, last, Guarded, truth, falsity, holds, fails, all_of, one_of, some, every, Guardeds, no_more, and_then, guardeds_of}
use Rattle.sp_spec.specs.Change.{Change, placed, place_changed, time_changed, atom_changed, changed, changed_each, free_change, time_replaced}
use Rattle.sp_formula.specs.Staying.{is_unbound, place_stays, time_stays, moment_stays, atom_stays, all_so, formula_stays, formulas_stay}
use Rattle.sp_formula.proofs.FreeChanges.{under-free_change}

-- terms, where each variable that passes stands for itself
module _ {V : Type 0} (passes : V → Bool) (v : V → Term V) (stays : (x : V) → passes x ≡ true → v x ≡ var x) where
  mutual
    pub term_kept : (t : Term V) → each_variable passes t ≡ true → valued v t ≡ t
    term_kept (var x) h = stays x h
    term_kept (constant c) h = refl
    term_kept (name n) h = refl
    term_kept (app f ts) h = ap (app f) (terms_kept ts h)

    pub terms_kept : (ts : Terms V) → each_variables passes ts ≡ true → valued_all v ts ≡ ts
    terms_kept none h = refl
    terms_kept (more t ts) h = let both = and_parts (each_variable passes t) (each_variables passes ts) h in ap₂ more (term_kept t both.0) (terms_kept ts both.1)

-- a list, where what passes stays
pub all_kept : {A : Type 0} (passes : A → Bool) (f : A → A) → ((x : A) → passes x ≡ true → f x ≡ x) → (xs : List A) → all_so passes xs ≡ true → map f xs ≡ xs
all_kept passes f stays [] h = refl
all_kept passes f stays (x ∷ xs) h = let both = and_parts (passes x) (all_so passes xs) h in ap₂ (λ y ys. y ∷ ys) (stays x both.0) (all_kept passes f stays xs both.1)

itself : (o : Option (Term Variable)) (x : Variable) → is_none o ≡ true → unwrap_or o (var x) ≡ var x
itself None x h = refl
itself (Some t) x h = absurd cc

pub unbound_kept : (bs : List Binding) (x : Variable) → is_unbound bs x ≡ true → bound_to bs x ≡ var x
unbound_kept bs x h = itself (lookup bs x) x h

pub time_kept : (small large i : ℕ) → time_stays small large i ≡ true → time_replaced small large i ≡ i
time_kept small large i h = at (i == large) refl h
  where
    at : (b : Bool) → (i == large) ≡ b → (not b || (small == large)) ≡ true → (if b then small else i) ≡ i
    at true e p = eqb-true small large p ∙ sym (eqb-true i large e)
    at false e p = refl

module _ (bs : List Binding) (small large : ℕ) where
  abbrev here : Change
  here = free_change (bound_to bs) (time_replaced small large)

  place_kept : (p : Place) → place_stays bs p ≡ true → place_changed here p ≡ var p
  place_kept (free x) h = ap placed (unbound_kept bs x h)
  place_kept (bound k) h = refl

  moment_kept : (i : Time) → moment_stays small large i ≡ true → time_changed here i ≡ i
  moment_kept (free_time i) h = ap free_time (time_kept small large i h)
  moment_kept (bound_time k) h = refl

  action_kept : (a : Action Place) → each_variables (place_stays bs) a.args ≡ true → action_at (place_changed here) a ≡ a
  action_kept a h =
      ap (λ (ts : Terms Place). let made : Action Place = record { symbol = a.symbol; args = ts } in made)
      (terms_kept (place_stays bs) (place_changed here) place_kept a.args h)

  kept_term : (t : Term Place) → each_variable (place_stays bs) t ≡ true → valued (place_changed here) t ≡ t
  kept_term t h = term_kept (place_stays bs) (place_changed here) place_kept t h

  two_kept : (f : Time → Time → Atom) (i j : Time) → moment_stays small large i ≡ true → moment_stays small large j ≡ true → f (time_changed here i) (time_changed here j) ≡ f i j
  two_kept f i j h k = ap₂ f (moment_kept i h) (moment_kept j k)

  atom_kept : (a : Atom) → atom_stays bs small large a ≡ true → atom_changed here a ≡ a
  atom_kept (acts a i) h = let both = and_parts (each_variables (place_stays bs) a.args) (moment_stays small large i) h in ap₂ acts (action_kept a both.0) (moment_kept i both.1)
  atom_kept (same t u) h = let both = and_parts (each_variable (place_stays bs) t) (each_variable (place_stays bs) u) h in ap₂ same (kept_term t both.0) (kept_term u both.1)
  atom_kept (same_time i j) h = let both = and_parts (moment_stays small large i) (moment_stays small large j) h in two_kept same_time i j both.0 both.1
  atom_kept (before i j) h = let both = and_parts (moment_stays small large i) (moment_stays small large j) h in two_kept before i j both.0 both.1
  atom_kept (last i) h = ap last (moment_kept i h)

  mutual
    pub formula_kept : (f : Guarded) → formula_stays bs small large f ≡ true → changed here f ≡ f
    formula_kept truth h = refl
    formula_kept falsity h = refl
    formula_kept (holds a) h = ap holds (atom_kept a h)
    formula_kept (fails a) h = ap fails (atom_kept a h)
    formula_kept (all_of fs) h = ap all_of (each_kept fs h)
    formula_kept (one_of fs) h = ap one_of (each_kept fs h)
    formula_kept (some binders guard f) h =
        let both = and_parts (all_so (atom_stays bs small large) guard) (formula_stays bs small large f) h in
        ap (λ (d : Change). some binders (map (atom_changed d) guard) (changed d f)) (under-free_change (bound_to bs) (time_replaced small large) binders)
        ∙ ap₂ (some binders) (all_kept (atom_stays bs small large) (atom_changed here) atom_kept guard both.0) (formula_kept f both.1)
    formula_kept (every binders guard f) h =
        let both = and_parts (all_so (atom_stays bs small large) guard) (formula_stays bs small large f) h in
        ap (λ (d : Change). every binders (map (atom_changed d) guard) (changed d f)) (under-free_change (bound_to bs) (time_replaced small large) binders)
        ∙ ap₂ (every binders) (all_kept (atom_stays bs small large) (atom_changed here) atom_kept guard both.0) (formula_kept f both.1)

    each_kept : (fs : Guardeds) → formulas_stay bs small large fs ≡ true → changed_each here fs ≡ fs
    each_kept no_more h = refl
    each_kept (and_then f fs) h = let both = and_parts (formula_stays bs small large f) (formulas_stay bs small large fs) h in ap₂ and_then (formula_kept f both.0) (each_kept fs both.1)

  pub formulas_kept : (fs : List Guarded) → formulas_stay bs small large (guardeds_of fs) ≡ true → map (changed here) fs ≡ fs
  formulas_kept [] h = refl
  formulas_kept (f ∷ fs) h = let both = and_parts (formula_stays bs small large f) (formulas_stay bs small large (guardeds_of fs)) h in ap₂ (λ g gs. g ∷ gs) (formula_kept f both.0) (formulas_kept fs both.1)
