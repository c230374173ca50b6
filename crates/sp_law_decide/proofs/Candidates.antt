-- The environments that may make a guard true arise from the one outside, and each assignment that makes it true is one of them, but for
-- equal values.
use Rattle.std.proofs.Common.{◌≡◌, inl, ℕ, ◌≤◌, true, List, [], ◌∷◌, length, refl, sym, ap, ◌∙◌, subst}
use Rattle.std.proofs.Math.Path.{fun_ext}
use Rattle.std.proofs.lemmas.Bool.{and_parts}
use Rattle.sp_spec.specs.Lists.{Member, Every}
use Rattle.sp_spec.specs.Term.{Ground, Values}
use Rattle.sp_spec.specs.Signature.{Signature}
use Rattle.sp_spec.specs.Execution.{Trace}
use Rattle.sp_spec.specs.Guarded.{Place, free, bound, Binder, Atom, acts, same, same_time, before, last, Guarded, truth, some, Assignment, place_in, term_in, action_in, time_in, AtomsHold, GuardedHolds}
use Rattle.sp_law_equal.specs.NormalForms.{HaveNormalForms, KeepSymbols}
use Rattle.sp_law_equal.specs.Normal.{normal}
use Rattle.sp_spec.proofs.Same.{same_term_decides}
use Rattle.sp_law_equal.proofs.Chains.{equal_from}
use Rattle.sp_law_equal.proofs.Forms.{normal_of_normal, to_normal}
use Rattle.sp_law_truth.specs.Same.{EqualAssignments}
use Rattle.sp_law_truth.proofs.EqualTraces.{equal_same}
use Rattle.sp_law_guard.specs.IsGuarded.{messages_in, each_guarded}
use Rattle.sp_law_decide.specs.Deciding.{nothing, value_or, Environment, assignment_of, entered, by_actions, candidates, atom_true, atoms_true}
use Rattle.sp_law_decide.specs.Normal.{IsNormalTrace, IsConstructorAtom}
use Rattle.sp_law_decide.proofs.Slots.{value_fits, fits_itself, good_fits}
use Rattle.sp_law_decide.proofs.Matched.{IsGood, IsNormalValue, IsPosition}
use Rattle.sp_law_decide.proofs.Terms.{slots_normal}
use Rattle.sp_law_decide.proofs.Actions.{Stands, Reached, actions_found}
use Rattle.sp_law_decide.proofs.Equalities.{AreSame, each_found}
use Rattle.sp_law_decide.proofs.Ranges.{Arises, arises_terms, arises_times, assigned, outside, outside_terms, outside_times}
use Rattle.sp_law_decide.proofs.Atoms.{at_decides, atoms_decide}
use Rattle.sp_law_decide.proofs.Entered.{FitsIn, fits_outside, arises_outside, normalized, fits_entered}
use Rattle.sp_law_decide.proofs.Full.{IsReady, Follows, candidate_ready}
use Rattle.sp_law_truth.proofs.Itself.{trace_itself}

same_assigned : (a b : Assignment) → a.terms ≡ b.terms → a.times ≡ b.times → a.bound_terms ≡ b.bound_terms → a.bound_times ≡ b.bound_times → a ≡ b
same_assigned a b e f g h =
    ap (λ (x : Values). assigned x a.times a.bound_terms a.bound_times) e
    ∙ ap (λ (x : ℕ → ℕ). assigned b.terms x a.bound_terms a.bound_times) f
    ∙ ap (λ (x : ℕ → Ground). assigned b.terms b.times x a.bound_times) g
    ∙ ap (λ (x : ℕ → ℕ). assigned b.terms b.times b.bound_terms x) h

module _ (signature : Signature) (n : ℕ) where
  -- what fits an environment with all its values is what it assigns
  ready_assigns : (env : Environment) → IsReady signature n env → (w : Assignment) → FitsIn signature n env w → (λ x. nothing) ≡ w.terms → (λ i. 0) ≡ w.times → assignment_of env ≡ w
  ready_assigns env ready w fits e f =
      same_assigned (assignment_of env) w e f
      (fun_ext (λ k. value_fits (IsGood signature) nothing env.messages w.bound_terms fits.messages k (ready.messages k)))
      (fun_ext (λ k. value_fits (IsPosition n) 0 env.times w.bound_times fits.times k (ready.times k)))

  fits_ready : (env : Environment) → IsReady signature n env → FitsIn signature n env (assignment_of env)
  fits_ready env ready = record {
    messages = fits_itself (IsGood signature) nothing env.messages ready.good.messages ready.messages;
    times = fits_itself (IsPosition n) 0 env.times ready.good.times ready.times;
  }

  pub candidate_arises : (bs : List Binder) (env c : Environment) → IsReady signature n env → IsReady signature n c → Follows signature n (entered bs env) c
      → Arises signature n bs (assignment_of env) (assignment_of c)
  candidate_arises bs env c ready given follows =
      let w = assignment_of c in
      let own = fits_ready c given in
      let fits : FitsIn signature n (entered bs env) w = record { messages = follows.messages.weakens w.bound_terms own.messages; times = follows.times.weakens w.bound_times own.times } in
      let e = ready_assigns env ready (outside bs w) (fits_outside signature n bs env w fits) (sym (outside_terms bs w)) (sym (outside_times bs w)) in
      subst (λ (m : Assignment). Arises signature n bs m w) (sym e) (arises_outside signature n bs env w fits)

  module _ (good : HaveNormalForms signature.equations) (keeps : KeepSymbols signature.symbols signature.equations) where
    fits_normalized : (env : Environment) → IsReady signature n env → FitsIn signature n env (normalized signature n good keeps (assignment_of env))
    fits_normalized env ready =
        let es = signature.equations in
        let e : value_or nothing env.messages ≡ (λ k. normal es (value_or nothing env.messages k)) =
        fun_ext (λ k. sym (normal_of_normal es (value_or nothing env.messages k) (slots_normal signature good env.messages ready.good.messages k).0)) in
        let own = fits_ready env ready in
        subst (λ (f : ℕ → Ground). FitsIn signature n env (assigned (λ x. nothing) (λ i. 0) f (value_or 0 env.times))) e own

    equal_normalized : (bs : List Binder) (env : Environment) (w : Assignment) → Arises signature n bs (assignment_of env) w
        → EqualAssignments signature.equations w (normalized signature n good keeps w)
    equal_normalized bs env w a = record {
      terms = λ x. equal_from signature.equations (w.terms x) nothing (ap (λ (f : Values). f x) (sym (arises_terms signature n bs (assignment_of env) w a)));
      times = λ i. ap (λ (f : ℕ → ℕ). f i) (sym (arises_times signature n bs (assignment_of env) w a));
      bound_terms = λ k. to_normal signature.equations (w.bound_terms k);
      bound_times = λ k. refl;
    }

    module _ (trace : Trace) (normals : IsNormalTrace signature trace) (within : length trace ≤ n) where
      -- what makes a formula true makes it so in normal form
      pub normalized_holds : (bs : List Binder) (env : Environment) (w : Assignment) → Arises signature n bs (assignment_of env) w → (g : Guarded)
          → (GuardedHolds signature trace w g → GuardedHolds signature trace (normalized signature n good keeps w) g)
          × (GuardedHolds signature trace (normalized signature n good keeps w) g → GuardedHolds signature trace w g)
      normalized_holds bs env w a g =
          let r = equal_same signature trace trace (trace_itself signature.equations trace) w (normalized signature n good keeps w) (equal_normalized bs env w a) g in
          (r.0, r.1)

      normal_places : (env : Environment) (w : Assignment) → FitsIn signature n env (normalized signature n good keeps w) → (p : Place) → IsNormalValue signature (place_in (normalized signature n good keeps w) p)
      normal_places env w fits (free x) = (tt, tt)
      normal_places env w fits (bound k) =
          good_fits (IsGood signature) nothing (IsNormalValue signature) (tt, tt) (λ sort t g. (g.1, g.2)) env.messages (normalized signature n good keeps w).bound_terms fits.messages k

      -- the tests tell where the actions stand and which sides are the same
      atoms_there : (w : Assignment) (guard : List Atom) → atoms_true trace (normalized signature n good keeps w) guard ≡ true
          → Every (Stands signature n (normalized signature n good keeps w).bound_terms w.bound_times trace) guard × Every (AreSame signature (normalized signature n good keeps w).bound_terms) guard
      atoms_there w [] e = (tt, tt)
      atoms_there w (a ∷ guard) e =
          let m = normalized signature n good keeps w in
          let r = and_parts (atom_true trace m a) (atoms_true trace m guard) e in
          let q = atoms_there w guard r.1 in
          ((at a r.0, q.0), (equal a r.0, q.1))
        where
          at : (a : Atom) → atom_true trace (normalized signature n good keeps w) a ≡ true → Stands signature n (normalized signature n good keeps w).bound_terms w.bound_times trace a
          at (acts a i) e = (at_decides trace (time_in (normalized signature n good keeps w) i) (action_in (normalized signature n good keeps w) a)).0 e
          at (same t u) e = tt
          at (same_time i j) e = tt
          at (before i j) e = tt
          at (last i) e = tt

          equal : (a : Atom) → atom_true trace (normalized signature n good keeps w) a ≡ true → AreSame signature (normalized signature n good keeps w).bound_terms a
          equal (same t u) e = (same_term_decides (term_in (normalized signature n good keeps w) t) (term_in (normalized signature n good keeps w) u)).0 e
          equal (acts a i) e = tt
          equal (same_time i j) e = tt
          equal (before i j) e = tt
          equal (last i) e = tt

      pub candidate_found : (bs : List Binder) (guard : List Atom) (env : Environment) → each_guarded (messages_in bs) guard bs ≡ true → Every (IsConstructorAtom signature) guard
          → IsReady signature n env → (w : Assignment) → Arises signature n bs (assignment_of env) w → AtomsHold signature trace w guard
          → (c : Environment) × Member c (candidates trace bs guard env) × (assignment_of c ≡ normalized signature n good keeps w)
      candidate_found bs guard env guarded constructors ready w a h =
          let m = normalized signature n good keeps w in
          let fits = fits_entered signature n good keeps bs env (assignment_of env) w a (fits_normalized env ready) in
          let holds = ((normalized_holds bs env w a (some [] guard truth)).0 (h, tt)).0 in
          let true_there = (atoms_decide signature good trace normals m (normal_places (entered bs env) w fits) guard constructors).1 holds in
          let there = atoms_there w guard true_there in
          let start : Reached signature n m.bound_terms w.bound_times (entered bs env ∷ []) = record { reached = entered bs env; member = inl refl; messages = fits.messages; times = fits.times } in
          let acted = actions_found signature n m.bound_terms w.bound_times trace guard (entered bs env ∷ []) there.0 start in
          let r = each_found signature m.bound_terms n w.bound_times guard there.1 (by_actions trace guard (entered bs env ∷ [])) acted in
          let c = r.reached in
          let q = candidate_ready signature n good trace normals within bs guard env guarded constructors ready c r.member in
          (c, r.member, ready_assigns c q.0 m (record { messages = r.messages; times = r.times }) refl refl)
