-- The row that opens an existential formula covers.
use Rattle.std.proofs.Common.{◌≡◌, ◌<◌, ◌+◌, ℕ, zero, suc, List, [], ◌∷◌, ◌++◌, map, length, Some, refl, sym, ap, ◌∙◌, subst, arith, le_refl}
use Rattle.sp_spec.specs.Lists.{Every}
use Rattle.sp_spec.specs.Term.{Names, Variable, var, Ground, valued}
use Rattle.sp_spec.specs.Signature.{Signature, IsValue}
use Rattle.sp_spec.specs.Equal.{Equal}
use Rattle.sp_spec.specs.Execution.{Trace}
use Rattle.sp_spec.specs.Theory.{Theory, signature_of}
use Rattle.sp_spec.specs.Guarded.{Binder, message, time, Atom, Guarded, holds, some, Assignment, with_term, with_time, AtomsHold, GuardedHolds}
use Rattle.sp_spec.specs.Log.{Log, log_trace}
use Rattle.sp_law_equal.specs.Normal.{normal}
use Rattle.sp_law_equal.specs.NormalForms.{HaveNormalForms, KeepSymbols}
use Rattle.sp_law_equal.proofs.Chains.{equal_refl}
use Rattle.sp_law_equal.proofs.Forms.{normal_has_sort, to_normal}
use Rattle.sp_spec.specs.Change.{Change, atom_changed, changed, opened, opening, free_change}
use Rattle.sp_spec_system.specs.System.{System}
use Rattle.sp_spec_system.specs.Solutions.{Valuation, assignment, AtomSettled, Settled, FormulaHolds, Solves}
use Rattle.sp_spec_system.specs.Numbered.{InAtom, InFormula, IsNumbered}
use Rattle.sp_spec_system.specs.Covering.{Agrees, Covers}
use Rattle.sp_spec.proofs.Lists.{every_append}
use Rattle.sp_law_system.proofs.Changing.{Reads, changed_same, settled_same, atoms_same, atoms_settled}
use Rattle.sp_law_system.proofs.Solutions.{Under, TimeUnder, agrees_itself, agrees_then, agree_solves}
use Rattle.sp_spec_system.specs.Formulas.{first_formula, spending}
use Rattle.sp_spec_formula.specs.Open.{existential_of, opened_at, open_existential}
use Rattle.sp_spec.proofs.Options.{mapped}
use Rattle.sp_law_formula.proofs.Spending.{is_found, found_holds, spending_solves}
use Rattle.sp_law_formula.proofs.Entries.{length_trace}
use Rattle.sp_law_formula.proofs.OpenNumbers.{found_formula}
use Rattle.sp_law_formula.proofs.OpenValues.{with_value, with_position, value_agrees, position_agrees, Opens, opens_message, opens_time, put_message, put_time}
use Rattle.sp_law_system.proofs.With.{next_solves}

-- truth under equal values
abbrev pub EqualTruth : Type 0
EqualTruth = (signature : Signature) (trace : Trace) (f : Guarded) (m w : Assignment)
    → ((x : Variable) → Equal signature.equations (m.terms x) (w.terms x)) → ((i : ℕ) → m.times i ≡ w.times i)
    → ((k : ℕ) → Equal signature.equations (m.bound_terms k) (w.bound_terms k)) → ((k : ℕ) → m.bound_times k ≡ w.bound_times k)
    → GuardedHolds signature trace m f → GuardedHolds signature trace w f

module _ (N : Names) (theory : Theory) (good : HaveNormalForms (signature_of theory).equations) (keeps : KeepSymbols (signature_of theory).symbols (signature_of theory).equations) (equal_truth : EqualTruth) where
  module _ (log : Log) (guard : List Atom) (f : Guarded) (base : ℕ) where
    -- what the opened formula's parts are under some values that agree
    abbrev Parts : Assignment → Type 0
    Parts m = (AtomsHold (signature_of theory) (log_trace log) m guard × GuardedHolds (signature_of theory) (log_trace log) m f)
        × (Every (AtomSettled (signature_of theory) (length log) m) guard × Settled (signature_of theory) (length log) m f)

    opened_holds : (bs : List Binder) (next : ℕ) (c : Change) (w : Valuation) (m : Assignment) → Opens N theory base next c w m
        → GuardedHolds (signature_of theory) (log_trace log) m (some bs guard f) → Settled (signature_of theory) (length log) m (some bs guard f)
        → ((w' : Valuation) (m' : Assignment) → Agrees next w w' → Opens N theory base (next + length bs) (opened bs next c) w' m' → Parts m' → ⊥) → ⊥
    opened_holds [] next c w m o h k none =
        none w m (agrees_itself next w) (subst (λ (n : ℕ). Opens N theory base n c w m) (omega arith) o) (h, k)
    opened_holds (message sort ∷ bs) next c w m o h k none = h (λ y.
        let es = (signature_of theory).equations in
        let t = normal es y.0 in
        let value : IsValue (signature_of theory) sort t = (normal_has_sort es sort y.0 y.1.0, keeps.kept y.0 y.1.1) in
        let normal_t = good.is_normal y.0 in
        let h' = equal_truth (signature_of theory) (log_trace log) (some bs guard f) (with_term y.0 m) (with_term t m)
        (λ x. equal_refl es (m.terms x)) (λ i. refl) (bound_equal y.0) (λ i. refl) y.2 in
        opened_holds bs (suc next) (put_message c sort next) (with_value w (record { sort = sort; number = next }) t) (with_term t m)
        (opens_message N theory base next c w m o sort t value normal_t) h' (k t value normal_t)
        (λ w' m' a o' p. none w' m' (agrees_then next (suc next) w (with_value w (record { sort = sort; number = next }) t) w' (omega arith) (value_agrees w sort next t) a)
        (subst (λ (n : ℕ). Opens N theory base n (opened bs (suc next) (put_message c sort next)) w' m') (omega arith) o') p))
      where
        bound_equal : (t : Ground) (k : ℕ) → Equal (signature_of theory).equations ((with_term t m).bound_terms k) ((with_term (normal (signature_of theory).equations t) m).bound_terms k)
        bound_equal t zero = to_normal (signature_of theory).equations t
        bound_equal t (suc k) = equal_refl (signature_of theory).equations (m.bound_terms k)
    opened_holds (time ∷ bs) next c w m o h k none = h (λ y.
        let l : y.0 < length log = subst (λ (n : ℕ). y.0 < n) (length_trace log) y.1 in
        opened_holds bs (suc next) (put_time c next) (with_position w next y.0) (with_time y.0 m) (opens_time N theory base next c w m o y.0) y.2 (k y.0 l)
        (λ w' m' a o' p. none w' m' (agrees_then next (suc next) w (with_position w next y.0) w' (omega arith) (position_agrees w next y.0) a)
        (subst (λ (n : ℕ). Opens N theory base n (opened bs (suc next) (put_time c next)) w' m') (omega arith) o') p))

  -- the opened formula's guard and body, as formulas of the system
  opened_reads : (base next : ℕ) (c : Change) (w : Valuation) (m : Assignment) → Opens N theory base next c w m → Reads (Under base) (TimeUnder base) c (assignment w) m
  opened_reads base next c w m o = record {
    variables = λ x h. o.variables x h ∙ sym (ap (valued w.terms) (o.same_terms x));
    moments = λ i h. o.moments i h ∙ sym (ap w.times (o.same_times i));
    terms = o.terms;
    times = o.times;
  }

  pub starts : (s : System) (log : Log) (v : Valuation) → Solves theory log v s → Opens N theory s.next s.next (free_change var (λ i. i)) v (assignment v)
  starts s log v h = record {
    above = le_refl s.next;
    same_terms = λ x. refl;
    same_times = λ i. refl;
    variables = λ x l. refl;
    moments = λ i l. refl;
    terms = λ k. refl;
    times = λ k. refl;
    terms_under = λ k. tt;
    times_under = λ k. tt;
    sorts = h.sorts;
    normal_values = h.normal;
  }

  -- the new formulas hold where the guard and the body do under the assignment that is read
  new_hold : (log : Log) (base next : ℕ) (c : Change) (w : Valuation) (m : Assignment) → Opens N theory base next c w m → (guard : List Atom) (f : Guarded)
      → Every (InAtom N (Under base) (TimeUnder base)) guard → InFormula N (Under base) (TimeUnder base) f → Parts log guard f base m
      → Every (FormulaHolds theory log w) (map (λ a. holds (atom_changed c a)) guard ++ changed c f ∷ [])
  new_hold log base next c w m o guard f ig if' p =
      let reads = opened_reads base next c w m o in
      let A = Under base in
      let B = TimeUnder base in
      let g : AtomsHold (signature_of theory) (log_trace log) (assignment w) (map (atom_changed c) guard) =
      subst (λ (X : Type 0). X) (sym (atoms_same N A B (signature_of theory) (log_trace log) c (assignment w) m reads guard ig)) p.0.0 in
      let gs : Every (AtomSettled (signature_of theory) (length log) (assignment w)) (map (atom_changed c) guard) =
      subst (λ (X : Type 0). X) (sym (atoms_settled N A B (signature_of theory) (length log) c (assignment w) m reads guard ig)) p.1.0 in
      every_append (FormulaHolds theory log w) (map (λ a. holds (atom_changed c a)) guard) (changed c f ∷ [])
      (each guard g gs) (
        (
          subst (λ (X : Type 0). X) (sym (changed_same N A B (signature_of theory) (log_trace log) c (assignment w) m reads f if')) p.0.1,
          subst (λ (X : Type 0). X) (sym (settled_same N A B (signature_of theory) (length log) c (assignment w) m reads f if')) p.1.1,
        ),
        tt,
      )
    where
      each : (atoms : List Atom) → AtomsHold (signature_of theory) (log_trace log) (assignment w) (map (atom_changed c) atoms)
          → Every (AtomSettled (signature_of theory) (length log) (assignment w)) (map (atom_changed c) atoms)
          → Every (FormulaHolds theory log w) (map (λ a. holds (atom_changed c a)) atoms)
      each [] h k = tt
      each (a ∷ atoms) h k = ((h.0, k.0), each atoms h.1 k.1)

  pub open_existential_covers : (s t : System) → open_existential s ≡ Some t → IsNumbered N s → Covers theory s (t ∷ [])
  open_existential_covers s t e n =
      let q = mapped (opened_at s) (first_formula existential_of s.formulas) t e in
      let r = q.0 in
      let found = is_found existential_of s.formulas r q.1 in
      let is = found_formula r.formula r.picked found.picks in
      record {
        covers = λ log is_log v h none.
            let k = subst (FormulaHolds theory log v) is (found_holds existential_of s.formulas r found (FormulaHolds theory log v) h.formulas) in
            let i = subst (InFormula N (Under s.next) (TimeUnder s.next)) is (found_holds existential_of s.formulas r found (InFormula N (Under s.next) (TimeUnder s.next)) n.formulas) in
            opened_holds log r.picked.guard r.picked.body s.next r.picked.binders s.next (free_change var (λ j. j)) v (assignment v) (starts s log v h) k.0 k.1
            (λ w m a o p.
            let old = agree_solves theory log s v w n a o.normal_values o.sorts h in
            let new = new_hold log s.next (s.next + length r.picked.binders) (opening r.picked.binders s.next) w m o r.picked.guard r.picked.body i.0 i.1 p in
            let opened_parts = map (λ b. holds (atom_changed (opening r.picked.binders s.next) b)) r.picked.guard ++ changed (opening r.picked.binders s.next) r.picked.body ∷ [] in
            let u = spending_solves existential_of theory log w s r found opened_parts new old in
            none.0 w a (subst (Solves theory log w) (sym q.2) (next_solves theory log w (spending s r opened_parts) u (s.next + length r.picked.binders))));
      }
