-- A change that puts each thing in its own place changes no formula; and so a formula is as true under values that agree on what
-- stands in it.
use Rattle.std.proofs.Common.{◌≡◌, ℕ, zero, suc, List, [], ◌∷◌, map, refl, sym, ap, ap₂, ◌∙◌}
use Rattle.sp_spec.specs.Term.{Names, Variable, Term, var, Terms, valued}
use Rattle.sp_spec.specs.Signature.{Signature}
use Rattle.sp_spec.specs.Rule.{Action, action_at}
use Rattle.sp_spec.specs.Execution.{Trace}
use Rattle.sp_spec.specs.Guarded.{Place, free, bound, Time, free_time, bound_time, Binder, message, time, Atom, acts, same, same_time, before, last, Guarded, truth, falsity, holds, fails, all_of, one_of, some, every, Guardeds, no_more, and_then, Assignment, pushed, GuardedHolds}
use Rattle.sp_spec.specs.Change.{Change, placed, place_changed, time_changed, raised, raised_time, under_message, under_time, under, atom_changed, changed, changed_each, free_change}
use Rattle.sp_spec_system.specs.Numbered.{InFormula}
use Rattle.sp_spec_system.specs.Solutions.{Settled}
use Rattle.sp_law_system.proofs.Facts.{valued_equal, valued_all_equal}
use Rattle.sp_law_system.proofs.TermValues.{valued_var, valued_var_all}
use Rattle.sp_law_system.proofs.Changing.{Reads, changed_same, settled_same}

pub record Keeps (c : Change) : Type 0 where
  pub terms : (x : Variable) → c.terms x ≡ var x
  pub times : (i : ℕ) → c.times i ≡ i
  pub bound_terms : (k : ℕ) → c.bound_terms k ≡ var (bound k)
  pub bound_times : (k : ℕ) → c.bound_times k ≡ bound_time k

keeps_message : (c : Change) → Keeps c → Keeps (under_message c)
keeps_message c h = record { terms = h.terms; times = h.times; bound_terms = terms; bound_times = h.bound_times }
  where
    terms : (k : ℕ) → pushed (var (bound zero)) (λ j. raised (c.bound_terms j)) k ≡ var (bound k)
    terms zero = refl
    terms (suc k) = ap raised (h.bound_terms k)

keeps_time : (c : Change) → Keeps c → Keeps (under_time c)
keeps_time c h = record { terms = h.terms; times = h.times; bound_terms = h.bound_terms; bound_times = times }
  where
    times : (k : ℕ) → pushed (bound_time zero) (λ j. raised_time (c.bound_times j)) k ≡ bound_time k
    times zero = refl
    times (suc k) = ap raised_time (h.bound_times k)

keeps_under : (bs : List Binder) (c : Change) → Keeps c → Keeps (under bs c)
keeps_under [] c h = h
keeps_under (message sort ∷ bs) c h = keeps_under bs (under_message c) (keeps_message c h)
keeps_under (time ∷ bs) c h = keeps_under bs (under_time c) (keeps_time c h)

kept_place : (c : Change) → Keeps c → (p : Place) → place_changed c p ≡ var p
kept_place c h (free x) = ap placed (h.terms x)
kept_place c h (bound k) = h.bound_terms k

kept_term : (c : Change) → Keeps c → (t : Term Place) → valued (place_changed c) t ≡ t
kept_term c h t = valued_equal (place_changed c) var (kept_place c h) t ∙ valued_var t

kept_action : (c : Change) → Keeps c → (a : Action Place) → action_at (place_changed c) a ≡ a
kept_action c h a =
    ap (λ (ts : Terms Place). let x : Action Place = record { symbol = a.symbol; args = ts } in x)
    (valued_all_equal (place_changed c) var (kept_place c h) a.args ∙ valued_var_all a.args)

kept_time : (c : Change) → Keeps c → (i : Time) → time_changed c i ≡ i
kept_time c h (free_time i) = ap free_time (h.times i)
kept_time c h (bound_time k) = h.bound_times k

kept_atom : (c : Change) → Keeps c → (a : Atom) → atom_changed c a ≡ a
kept_atom c h (acts a i) = ap₂ acts (kept_action c h a) (kept_time c h i)
kept_atom c h (same t u) = ap₂ same (kept_term c h t) (kept_term c h u)
kept_atom c h (same_time i j) = ap₂ same_time (kept_time c h i) (kept_time c h j)
kept_atom c h (before i j) = ap₂ before (kept_time c h i) (kept_time c h j)
kept_atom c h (last i) = ap last (kept_time c h i)

kept_atoms : (c : Change) → Keeps c → (atoms : List Atom) → map (atom_changed c) atoms ≡ atoms
kept_atoms c h [] = refl
kept_atoms c h (a ∷ atoms) = ap₂ (λ x xs. x ∷ xs) (kept_atom c h a) (kept_atoms c h atoms)

mutual
  pub kept : (c : Change) → Keeps c → (f : Guarded) → changed c f ≡ f
  kept c h truth = refl
  kept c h falsity = refl
  kept c h (holds a) = ap holds (kept_atom c h a)
  kept c h (fails a) = ap fails (kept_atom c h a)
  kept c h (all_of fs) = ap all_of (kept_each c h fs)
  kept c h (one_of fs) = ap one_of (kept_each c h fs)
  kept c h (some bs guard f) = let k = keeps_under bs c h in ap₂ (some bs) (kept_atoms (under bs c) k guard) (kept (under bs c) k f)
  kept c h (every bs guard f) = let k = keeps_under bs c h in ap₂ (every bs) (kept_atoms (under bs c) k guard) (kept (under bs c) k f)

  kept_each : (c : Change) → Keeps c → (fs : Guardeds) → changed_each c fs ≡ fs
  kept_each c h no_more = refl
  kept_each c h (and_then f fs) = ap₂ and_then (kept c h f) (kept_each c h fs)

pub no_change : Change
no_change = free_change var (λ i. i)

pub no_change_keeps : Keeps no_change
unfolding no_change
no_change_keeps = record { terms = λ x. refl; times = λ i. refl; bound_terms = λ k. refl; bound_times = λ k. refl }

-- two assignments that agree on these variables and times, and on what is bound
module _ (N : Names) (A : Variable → Type 0) (B : ℕ → Type 0) (m r : Assignment) (variables : (x : Variable) → A x → r.terms x ≡ m.terms x) (moments : (i : ℕ) → B i → r.times i ≡ m.times i)
    (terms : (k : ℕ) → r.bound_terms k ≡ m.bound_terms k) (times : (k : ℕ) → r.bound_times k ≡ m.bound_times k) where
  agreeing : Reads A B no_change m r
  unfolding no_change
  agreeing = record { variables = variables; moments = moments; terms = terms; times = times }

  pub agree_same : (signature : Signature) (trace : Trace) (f : Guarded) → InFormula N A B f → GuardedHolds signature trace m f ≡ GuardedHolds signature trace r f
  agree_same signature trace f e = ap (GuardedHolds signature trace m) (sym (kept no_change no_change_keeps f)) ∙ changed_same N A B signature trace no_change m r agreeing f e

  pub agree_settled : (signature : Signature) (n : ℕ) (f : Guarded) → InFormula N A B f → Settled signature n m f ≡ Settled signature n r f
  agree_settled signature n f e = ap (Settled signature n m) (sym (kept no_change no_change_keeps f)) ∙ settled_same N A B signature n no_change m r agreeing f e
