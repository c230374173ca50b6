-- The times that stand in a system are positions of each log that solves it, but for the empty one: what stands below a quantifier over times says nothing of
-- a log without positions.
use Rattle.std.proofs.Common.{◌≡◌, ◌<◌, ℕ, suc, List, [], ◌∷◌, ◌++◌, length, Option, Some, None, flat_map, map, refl, subst, arith}
use Rattle.sp_spec.specs.Lists.{Every, AtPosition}
use Rattle.sp_spec.specs.Term.{Sort, Msg, Fresh, Pub, constant, name, Terms, none, more, Ground, valued}
use Rattle.sp_spec.specs.Signature.{Signature, IsValue}
use Rattle.sp_spec.specs.Equal.{IsNormal}
use Rattle.sp_spec.specs.Theory.{Theory, signature_of}
use Rattle.sp_spec.specs.Guarded.{Place, Time, free_time, bound_time, Binder, message, time, Atom, acts, same, same_time, before, last, Guarded, truth, falsity, holds, fails, all_of, one_of, some, every, Guardeds, no_more, and_then, Assignment, with_term, with_time, time_in}
use Rattle.sp_spec.specs.Log.{Log, How, step, learn, premise_sources, IsLog}
use Rattle.sp_spec_system.specs.System.{anyhow, public_name, own_name, constructed, chain_begun, chain_done, Happening, rule_step, sending, learning, Event, Link, System}
use Rattle.sp_spec_system.specs.Solutions.{Valuation, assignment, HappensAt, HappensIn, LinkHolds, EachNormal, AtomSettled, Settled, EachSettled, FormulaHolds, IsBefore, IsLast, Solves}
use Rattle.sp_spec_system.specs.Occurring.{each_term, in_atom, in_atoms, in_formula, in_each, time_of, times_read, happening_times, event_times, last_times, times_in}
use Rattle.sp_spec.proofs.Lists.{every_append, every_weaken, position_below}
use Rattle.sp_spec.proofs.Logs.{entry_behind}
use Rattle.sp_law_formula.proofs.Entries.{happened}
use Rattle.sp_law_decided.proofs.Learning.{chain_below}
use Rattle.sp_law_decided.proofs.Sources.{source_below}
use Rattle.sp_law_progress.proofs.Occurring.{every_flat}

-- ---- formulas

-- each sort has a normal value
pub normal_value : (signature : Signature) (sort : Sort) → (t : Ground) × IsValue signature sort t × IsNormal signature.equations t
normal_value signature Msg = (constant [], (tt, tt), tt)
normal_value signature Fresh = (name 0, (tt, tt), tt)
normal_value signature Pub = (constant [], (tt, tt), tt)

module _ (signature : Signature) (n : ℕ) (there : 0 < n) where
  -- what holds for all values of the binders does so for some, and these change no time of the system
  some_instance : (bs : List Binder) (P : Assignment → Type 0) (m : Assignment) → EachNormal signature n bs P m → (w : Assignment) × P w × ((i : ℕ) → w.times i ≡ m.times i)
  some_instance [] P m h = (m, h, λ i. refl)
  some_instance (message sort ∷ bs) P m h = let v = normal_value signature sort in some_instance bs P (with_term v.0 m) (h v.0 v.1 v.2)
  some_instance (time ∷ bs) P m h = some_instance bs P (with_time 0 m) (h 0 there)

  -- the position of a time of the system
  abbrev IsPosition : Assignment → ℕ → Type 0
  IsPosition m i = m.times i < n

  no_times : (m : Assignment) (ts : Terms Place) → Every (IsPosition m) (each_term times_read ts)
  no_times m none = tt
  no_times m (more t ts) = no_times m ts

  time_placed : (m : Assignment) (i : Time) → time_in m i < n → Every (IsPosition m) (time_of i)
  time_placed m (free_time i) h = (h, tt)
  time_placed m (bound_time k) h = tt

  both_placed : (m : Assignment) (i j : Time) → (time_in m i < n) × (time_in m j < n) → Every (IsPosition m) (time_of i ++ time_of j)
  both_placed m i j h = every_append (IsPosition m) (time_of i) (time_of j) (time_placed m i h.0) (time_placed m j h.1)

  atom_placed : (m : Assignment) (a : Atom) → AtomSettled signature n m a → Every (IsPosition m) (in_atom times_read a)
  atom_placed m (acts a i) h = every_append (IsPosition m) (each_term times_read a.args) (time_of i) (no_times m a.args) (time_placed m i h.1)
  atom_placed m (same t u) h = tt
  atom_placed m (same_time i j) h = both_placed m i j h
  atom_placed m (before i j) h = both_placed m i j h
  atom_placed m (last i) h = time_placed m i h

  -- below binders
  below_placed : (m w : Assignment) (guard : List Atom) (f : Guarded) → ((i : ℕ) → w.times i ≡ m.times i) → Every (AtomSettled signature n w) guard
      → Every (IsPosition w) (in_formula times_read f) → Every (IsPosition m) (in_atoms times_read guard ++ in_formula times_read f)
  below_placed m w guard f kept h k =
      every_weaken (IsPosition w) (IsPosition m) (λ i l. subst (λ (p : ℕ). p < n) (kept i) l) (in_atoms times_read guard ++ in_formula times_read f)
      (every_append (IsPosition w) (in_atoms times_read guard) (in_formula times_read f) (every_flat (AtomSettled signature n w) (IsPosition w) (in_atom times_read) (atom_placed w) guard h) k)

  mutual
    pub formula_placed : (m : Assignment) (f : Guarded) → Settled signature n m f → Every (IsPosition m) (in_formula times_read f)
    formula_placed m truth h = tt
    formula_placed m falsity h = tt
    formula_placed m (holds a) h = atom_placed m a h
    formula_placed m (fails a) h = atom_placed m a h
    formula_placed m (all_of fs) h = formulas_placed m fs h
    formula_placed m (one_of fs) h = formulas_placed m fs h
    formula_placed m (some bs guard f) h =
        let r = some_instance bs (λ w. Every (AtomSettled signature n w) guard × Settled signature n w f) m h in
        below_placed m r.0 guard f r.2 r.1.0 (formula_placed r.0 f r.1.1)
    formula_placed m (every bs guard f) h =
        let r = some_instance bs (λ w. Every (AtomSettled signature n w) guard × Settled signature n w f) m h in
        below_placed m r.0 guard f r.2 r.1.0 (formula_placed r.0 f r.1.1)

    formulas_placed : (m : Assignment) (fs : Guardeds) → EachSettled signature n m fs → Every (IsPosition m) (in_each times_read fs)
    formulas_placed m no_more h = tt
    formulas_placed m (and_then f fs) h = every_append (IsPosition m) (in_formula times_read f) (in_each times_read fs) (formula_placed m f h.0) (formulas_placed m fs h.1)

-- ---- systems

module _ (theory : Theory) (log : Log) (is : IsLog theory log) (v : Valuation) where
  abbrev IsPlaced : ℕ → Type 0
  IsPlaced i = v.times i < length log

  -- a chain's step came earlier
  happening_placed : (p : ℕ) (h : Happening) → HappensAt log p v h → Every IsPlaced (happening_times h)
  happening_placed p (rule_step r facts) h = tt
  happening_placed p (sending m) h = tt
  happening_placed p (learning m anyhow) h = tt
  happening_placed p (learning m public_name) h = tt
  happening_placed p (learning m own_name) h = tt
  happening_placed p (learning m constructed) h = tt
  happening_placed p (learning m (chain_begun i k ts)) h =
      let there = subst (λ (how : How). AtPosition log p (learn (valued v.terms m) how)) h.2.1 h.1 in
      (chain_below theory log is p (valued v.terms m) (v.times i) k (map (valued v.terms) ts ++ h.2.0) there, tt)
  happening_placed p (learning m (chain_done i k ts)) h =
      let there = subst (λ (how : How). AtPosition log p (learn (valued v.terms m) how)) h.2 h.1 in
      (chain_below theory log is p (valued v.terms m) (v.times i) k (map (valued v.terms) ts) there, tt)

  event_placed : (e : Event) → HappensIn log v e → Every IsPlaced (event_times e)
  event_placed e h = let d = happened log (v.times e.time) v e.happening h in (position_below log (v.times e.time) d.0 d.1, happening_placed (v.times e.time) e.happening h)

  link_placed : (l : Link) → LinkHolds log v l → Every IsPlaced (l.from ∷ l.to ∷ [])
  link_placed l h =
      let there = h.3 in
      let to : v.times l.to < length log = position_below log (v.times l.to) (step h.0 h.1 h.2) there in
      let b = entry_behind theory log is (v.times l.to) (step h.0 h.1 h.2) there in
      let earlier : v.times l.from < length b.past = source_below b.past h.1.premises h.2 (b.keeps premise_sources).0 l.premise (v.times l.from) l.conclusion h.4 in
      let at = b.position in
      (omega (arith, earlier, at, to), (to, tt))

  pair_placed : (p : ℕ × ℕ) → IsBefore log v p → Every IsPlaced (p.0 ∷ p.1 ∷ [])
  pair_placed p h = let first = h.0 in let second = h.1 in (omega (arith, first, second), (second, tt))

  last_placed : (o : Option ℕ) → IsLast log v o → Every IsPlaced (last_times o)
  last_placed None h = tt
  last_placed (Some i) h = let e : suc (v.times i) ≡ length log = h in (omega (arith, e), tt)

  -- The times of a system are positions of each log that solves it and has some.
  pub times_placed : 0 < length log → (s : System) → Solves theory log v s → Every IsPlaced (times_in s)
  times_placed some_there s h =
      let formulas : (fs : List Guarded) → Every (FormulaHolds theory log v) fs → Every IsPlaced (flat_map (in_formula times_read) fs) =
      λ fs k. every_flat (FormulaHolds theory log v) IsPlaced (in_formula times_read) (λ f l. formula_placed (signature_of theory) (length log) some_there (assignment v) f l.1) fs k in
      every_append IsPlaced (flat_map event_times s.events) _ (every_flat (HappensIn log v) IsPlaced event_times event_placed s.events h.events)
      (every_append IsPlaced (flat_map (in_formula times_read) s.formulas) _ (formulas s.formulas h.formulas)
      (every_append IsPlaced (flat_map (in_formula times_read) s.spent) _ (formulas s.spent h.spent)
      (every_append IsPlaced (flat_map (λ (l : Link). l.from ∷ l.to ∷ []) s.links) _ (every_flat (LinkHolds log v) IsPlaced (λ (l : Link). l.from ∷ l.to ∷ []) link_placed s.links h.links)
      (every_append IsPlaced (flat_map (λ (p : ℕ × ℕ). p.0 ∷ p.1 ∷ []) s.order) (last_times s.last)
      (every_flat (IsBefore log v) IsPlaced (λ (p : ℕ × ℕ). p.0 ∷ p.1 ∷ []) pair_placed s.order h.order)
      (last_placed s.last h.last)))))
