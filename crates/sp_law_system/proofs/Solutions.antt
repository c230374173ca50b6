-- What keeps a solution: values that agree on the numbers of the system, and replacing that changes no value.
use Rattle.std.proofs.Common.{◌≡◌, ◌≤◌, ◌<◌, ℕ, List, [], ◌∷◌, map, length, refl, sym, ◌∙◌, subst, lt_of_lt_of_le, Bool, true, false, if◌then◌else◌, ◌++◌, suc, ap, Option, Some, None, IfSome, option_map}
use Rattle.sp_spec.specs.Lists.{Member, Every, AtPlace, AtPosition}
use Rattle.sp_spec.specs.Term.{Names, Variable, Term, valued, MadeOf}
use Rattle.sp_spec.specs.Signature.{IsValuation}
use Rattle.sp_spec.specs.Equal.{IsNormal}
use Rattle.sp_spec.specs.Theory.{Theory, signature_of}
use Rattle.sp_spec.specs.Guarded.{Guarded}
use Rattle.sp_spec.specs.Log.{Log, conclusion, step, log_trace}
use Rattle.sp_spec.specs.Substitution.{Binding, bound_to, Fixes}
use Rattle.sp_spec.specs.Unifier.{Pair}
use Rattle.sp_spec.specs.Change.{free_change, changed}
use Rattle.sp_spec_system.specs.System.{Event, Link, System}
use Rattle.sp_spec_system.specs.Solutions.{Valuation, assignment, LinkHolds, HappensAt, HappensIn, FormulaHolds, AreUnequal, IsBefore, IsLast, Solves}
use Rattle.sp_spec_system.specs.Numbered.{InFormula, InEvent, IsNumbered}
use Rattle.sp_spec_system.specs.Covering.{Agrees}
use Rattle.sp_spec_system.specs.Equating.{happening_changed, event_changed, pair_changed, link_changed, has_link, joined_links, order_changed, system_changed}
use Rattle.sp_spec.proofs.Lists.{every_map, every_both, every_append, every_member, member_map}
use Rattle.sp_law_system.proofs.Facts.{fixed_term}
use Rattle.sp_law_system.proofs.Happenings.{agree_term, agree_happening, change_happening, happening_in}
use Rattle.sp_law_equal.proofs.Made.{each_valued}
use Rattle.sp_law_system.proofs.Numbers.{PutsIn, changed_in}
use Rattle.sp_law_system.proofs.Changing.{Reads, changed_same, settled_same}
use Rattle.sp_law_system.proofs.Unchanged.{agree_same, agree_settled}

abbrev pub Under : ℕ → Variable → Type 0
Under n x = x.number < n

abbrev pub TimeUnder : ℕ → ℕ → Type 0
TimeUnder n i = i < n

pub agrees_itself : (n : ℕ) (v : Valuation) → Agrees n v v
agrees_itself n v = record { terms = λ x h. refl; times = λ i h. refl }

-- one agreement after another, of which the second reaches as far
pub agrees_then : (n k : ℕ) (u v w : Valuation) → n ≤ k → Agrees n u v → Agrees k v w → Agrees n u w
agrees_then n k u v w le a b = record {
  terms = λ x h. b.terms x (lt_of_lt_of_le h le) ∙ a.terms x h;
  times = λ i h. b.times i (lt_of_lt_of_le h le) ∙ a.times i h;
}

module _ (N : Names) (limit : ℕ) (v w : Valuation) (a : Agrees limit v w) (theory : Theory) (log : Log) where
  pub agree_event : (e : Event) → InEvent N (Under limit) (TimeUnder limit) e → HappensIn log v e → HappensIn log w e
  agree_event e b h = subst (λ (p : ℕ). HappensAt log p w e.happening) (sym (a.times e.time b.0)) (agree_happening N (Under limit) (TimeUnder limit) v w a.terms a.times log (v.times e.time) e.happening b.1 h)

  pub agree_formula : (f : Guarded) → InFormula N (Under limit) (TimeUnder limit) f → FormulaHolds theory log v f → FormulaHolds theory log w f
  agree_formula f b h = (
    subst (λ (X : Type 0). X) (agree_same N (Under limit) (TimeUnder limit) (assignment v) (assignment w) a.terms a.times (λ k. refl) (λ k. refl) (signature_of theory) (log_trace log) f b) h.0,
    subst (λ (X : Type 0). X) (agree_settled N (Under limit) (TimeUnder limit) (assignment v) (assignment w) a.terms a.times (λ k. refl) (λ k. refl) (signature_of theory) (length log) f b) h.1,
  )

  same_term : (t : Term Variable) → MadeOf N (Under limit) t → valued w.terms t ≡ valued v.terms t
  same_term t b = agree_term N (Under limit) (TimeUnder limit) v w a.terms a.times t b

  pub agree_unequal : (p : Pair) → MadeOf N (Under limit) p.0 × MadeOf N (Under limit) p.1 → AreUnequal theory v p → AreUnequal theory w p
  agree_unequal p b h = (
    (λ e. h.0 (sym (same_term p.0 b.0) ∙ e ∙ same_term p.1 b.1)),
    subst (IsNormal (signature_of theory).equations) (sym (same_term p.0 b.0)) h.1,
    subst (IsNormal (signature_of theory).equations) (sym (same_term p.1 b.1)) h.2,
  )

  pub agree_link : (l : Link) → TimeUnder limit l.from × TimeUnder limit l.to → LinkHolds log v l → LinkHolds log w l
  agree_link l b h = (
    h.0,
    h.1,
    h.2,
    subst (λ (q : ℕ). AtPosition log q (step h.0 h.1 h.2)) (sym (a.times l.to b.1)) h.3,
    subst (λ (q : ℕ). AtPlace h.2 l.premise (conclusion q l.conclusion)) (sym (a.times l.from b.0)) h.4,
  )

  pub agree_order : (p : ℕ × ℕ) → TimeUnder limit p.0 × TimeUnder limit p.1 → IsBefore log v p → IsBefore log w p
  agree_order p b h = (
    subst (λ (q : ℕ). w.times p.0 < q) (sym (a.times p.1 b.1)) (subst (λ (q : ℕ). q < v.times p.1) (sym (a.times p.0 b.0)) h.0),
    subst (λ (q : ℕ). q < length log) (sym (a.times p.1 b.1)) h.1,
  )

  agree_last : (o : Option ℕ) → IfSome o (TimeUnder limit) → IsLast log v o → IsLast log w o
  agree_last None b h = tt
  agree_last (Some i) b h = ap suc (a.times i b) ∙ h

-- A solution stays one under values that agree below the next number, if they respect sorts and are normal.
pub agree_solves : {N : Names} → (theory : Theory) (log : Log) (s : System) (v w : Valuation) → IsNumbered N s → Agrees s.next v w → ((x : Variable) → IsNormal (signature_of theory).equations (w.terms x)) → IsValuation (signature_of theory) w.terms
    → Solves theory log v s → Solves theory log w s
agree_solves {N} theory log s v w n a normal sorts h = record {
  sorts = sorts;
  normal = normal;
  events = every_both _ _ _ (agree_event N s.next v w a theory log) s.events n.events h.events;
  formulas = every_both _ _ _ (agree_formula N s.next v w a theory log) s.formulas n.formulas h.formulas;
  spent = every_both _ _ _ (agree_formula N s.next v w a theory log) s.spent n.spent h.spent;
  unequal = every_both _ _ _ (agree_unequal N s.next v w a theory log) s.unequal n.unequal h.unequal;
  links = every_both _ _ _ (agree_link N s.next v w a theory log) s.links n.links h.links;
  order = every_both _ _ _ (agree_order N s.next v w a theory log) s.order n.order h.order;
  last = agree_last N s.next v w a theory log s.last n.last h.last;
  closed = λ c p l. let b = h.closed c p l in (b.0, b.1, a.times b.0.time (every_member _ s.events b.0 b.1 n.events).0 ∙ b.2);
}

-- what holds of some links and of others holds where equal ones are one
pub every_link : (P : Link → Type 0) (kept ls : List Link) → Every P kept → Every P ls → Every P (joined_links kept ls)
every_link P kept [] k h = k
every_link P kept (l ∷ ls) k h = every_link P (if has_link kept l then kept else kept ++ l ∷ []) ls (at (has_link kept l)) h.1
  where
    at : (b : Bool) → Every P (if b then kept else kept ++ l ∷ [])
    at true = k
    at false = every_append P kept (l ∷ []) k (h.0, tt)

-- replacing that the values fix
module _ (N : Names) (theory : Theory) (log : Log) (v : Valuation) (bs : List Binding) (fixes : Fixes v.terms bs) (times : ℕ → ℕ) (same_times : (i : ℕ) → v.times (times i) ≡ v.times i) where
  pub change_event : (e : Event) → HappensIn log v e → HappensIn log v (event_changed (bound_to bs) times e)
  change_event e h = subst (λ (p : ℕ). HappensAt log p v (happening_changed (bound_to bs) times e.happening)) (sym (same_times e.time)) (change_happening v bs fixes times same_times log (v.times e.time) e.happening h)

  reads_itself : (A : Variable → Type 0) (B : ℕ → Type 0) → Reads A B (free_change (bound_to bs) times) (assignment v) (assignment v)
  reads_itself A B = record { variables = λ x k. fixes x; moments = λ i k. sym (same_times i); terms = λ k. refl; times = λ k. refl }

  pub change_formula : (A : Variable → Type 0) (B : ℕ → Type 0) (f : Guarded) → InFormula N A B f → FormulaHolds theory log v f → FormulaHolds theory log v (changed (free_change (bound_to bs) times) f)
  change_formula A B f b h = (
    subst (λ (X : Type 0). X) (sym (changed_same N A B (signature_of theory) (log_trace log) (free_change (bound_to bs) times) (assignment v) (assignment v) (reads_itself A B) f b)) h.0,
    subst (λ (X : Type 0). X) (sym (settled_same N A B (signature_of theory) (length log) (free_change (bound_to bs) times) (assignment v) (assignment v) (reads_itself A B) f b)) h.1,
  )

  pub change_unequal : (p : Pair) → AreUnequal theory v p → AreUnequal theory v (pair_changed (bound_to bs) p)
  change_unequal p h =
      let e = fixed_term v.terms bs fixes p.0 in
      let d = fixed_term v.terms bs fixes p.1 in (
        (λ k. h.0 (sym e ∙ k ∙ d)),
        subst (IsNormal (signature_of theory).equations) (sym e) h.1,
        subst (IsNormal (signature_of theory).equations) (sym d) h.2,
      )

  change_order : (p : ℕ × ℕ) → IsBefore log v p → IsBefore log v (order_changed times p)
  change_order p h = (
    subst (λ (q : ℕ). v.times (times p.0) < q) (sym (same_times p.1)) (subst (λ (q : ℕ). q < v.times p.1) (sym (same_times p.0)) h.0),
    subst (λ (q : ℕ). q < length log) (sym (same_times p.1)) h.1,
  )

  change_link : (l : Link) → LinkHolds log v l → LinkHolds log v (link_changed times l)
  change_link l h = (
    h.0,
    h.1,
    h.2,
    subst (λ (q : ℕ). AtPosition log q (step h.0 h.1 h.2)) (sym (same_times l.to)) h.3,
    subst (λ (q : ℕ). AtPlace h.2 l.premise (conclusion q l.conclusion)) (sym (same_times l.from)) h.4,
  )

  change_last : (o : Option ℕ) → IsLast log v o → IsLast log v (option_map times o)
  change_last None h = tt
  change_last (Some i) h = ap suc (same_times i) ∙ h

  change_closed : (es : List Event) (p : ℕ) → ((e : Event) × Member e es × (v.times e.time ≡ p))
      → (e : Event) × Member e (map (event_changed (bound_to bs) times) es) × (v.times e.time ≡ p)
  change_closed es p a = (event_changed (bound_to bs) times a.0, member_map (event_changed (bound_to bs) times) a.0 es a.1, same_times a.0.time ∙ a.2)

  change_formulas : (A : Variable → Type 0) (B : ℕ → Type 0) (fs : List Guarded) → Every (InFormula N A B) fs → Every (FormulaHolds theory log v) fs
      → Every (FormulaHolds theory log v) (map (changed (free_change (bound_to bs) times)) fs)
  change_formulas A B [] n h = tt
  change_formulas A B (f ∷ fs) n h = (change_formula A B f n.0 h.0, change_formulas A B fs n.1 h.1)

  -- The system after the replacing has the same solution.
  pub change_solves : (s : System) → IsNumbered N s → Solves theory log v s → Solves theory log v (system_changed (bound_to bs) times s)
  change_solves s n h = record {
    sorts = h.sorts;
    normal = h.normal;
    events = every_map _ _ (event_changed (bound_to bs) times) change_event s.events h.events;
    formulas = change_formulas (Under s.next) (TimeUnder s.next) s.formulas n.formulas h.formulas;
    spent = change_formulas (Under s.next) (TimeUnder s.next) s.spent n.spent h.spent;
    unequal = every_map _ _ (pair_changed (bound_to bs)) change_unequal s.unequal h.unequal;
    links = every_link (LinkHolds log v) [] (map (link_changed times) s.links) tt (every_map _ _ (link_changed times) change_link s.links h.links);
    order = every_map _ _ (order_changed times) change_order s.order h.order;
    last = change_last s.last h.last;
    closed = λ c p l. change_closed s.events p (h.closed c p l);
  }

-- and its numbers stay below the next one
module _ (N : Names) (n : ℕ) (bs : List Binding) (within : (x : Variable) → Under n x → MadeOf N (Under n) (bound_to bs x)) (times : ℕ → ℕ) (times_within : (i : ℕ) → TimeUnder n i → TimeUnder n (times i)) where
  puts_in : PutsIn N (Under n) (Under n) (TimeUnder n) (TimeUnder n) (free_change (bound_to bs) times)
  puts_in = record { terms = within; times = times_within; bound_terms = λ k. tt; bound_times = λ k. tt }

  pub change_numbered : (s : System) → s.next ≡ n → IsNumbered N s → IsNumbered N (system_changed (bound_to bs) times s)
  change_numbered s e k =
      let P : ℕ → Type 0 = λ m. Every (InEvent N (Under m) (TimeUnder m)) s.events in
      record {
        events = subst (λ (m : ℕ). Every (InEvent N (Under m) (TimeUnder m)) (map (event_changed (bound_to bs) times) s.events)) (sym e)
            (every_map _ _ (event_changed (bound_to bs) times) (λ d b. (times_within d.time b.0, happening_in N (Under n) (TimeUnder n) (bound_to bs) within times times_within d.happening b.1)) s.events (subst P e k.events));
        formulas = subst (λ (m : ℕ). Every (InFormula N (Under m) (TimeUnder m)) (map (changed (free_change (bound_to bs) times)) s.formulas)) (sym e)
            (every_map _ _ (changed (free_change (bound_to bs) times)) (λ f b. changed_in N _ _ _ _ _ puts_in f b) s.formulas (subst (λ (m : ℕ). Every (InFormula N (Under m) (TimeUnder m)) s.formulas) e k.formulas));
        spent = subst (λ (m : ℕ). Every (InFormula N (Under m) (TimeUnder m)) (map (changed (free_change (bound_to bs) times)) s.spent)) (sym e)
            (every_map _ _ (changed (free_change (bound_to bs) times)) (λ f b. changed_in N _ _ _ _ _ puts_in f b) s.spent (subst (λ (m : ℕ). Every (InFormula N (Under m) (TimeUnder m)) s.spent) e k.spent));
        unequal = subst (λ (m : ℕ). Every (λ (p : Pair). MadeOf N (Under m) p.0 × MadeOf N (Under m) p.1) (map (pair_changed (bound_to bs)) s.unequal)) (sym e)
            (every_map _ _ (pair_changed (bound_to bs)) (λ p b. (each_valued N _ _ (bound_to bs) within p.0 b.0, each_valued N _ _ (bound_to bs) within p.1 b.1)) s.unequal
            (subst (λ (m : ℕ). Every (λ (p : Pair). MadeOf N (Under m) p.0 × MadeOf N (Under m) p.1) s.unequal) e k.unequal));
        links = subst (λ (m : ℕ). Every (λ (l : Link). (l.from < m) × (l.to < m)) (joined_links [] (map (link_changed times) s.links))) (sym e)
            (every_link _ [] (map (link_changed times) s.links) tt (every_map _ _ (link_changed times) (λ l b. (times_within l.from b.0, times_within l.to b.1)) s.links
            (subst (λ (m : ℕ). Every (λ (l : Link). (l.from < m) × (l.to < m)) s.links) e k.links)));
        order = subst (λ (m : ℕ). Every (λ (p : ℕ × ℕ). (p.0 < m) × (p.1 < m)) (map (order_changed times) s.order)) (sym e)
            (every_map _ _ (order_changed times) (λ p b. (times_within p.0 b.0, times_within p.1 b.1)) s.order (subst (λ (m : ℕ). Every (λ (p : ℕ × ℕ). (p.0 < m) × (p.1 < m)) s.order) e k.order));
        last = subst (λ (m : ℕ). IfSome (option_map times s.last) (TimeUnder m)) (sym e) (at s.last (subst (λ (m : ℕ). IfSome s.last (TimeUnder m)) e k.last));
      }
    where
      at : (o : Option ℕ) → IfSome o (TimeUnder n) → IfSome (option_map times o) (TimeUnder n)
      at None h = tt
      at (Some i) h = times_within i h
