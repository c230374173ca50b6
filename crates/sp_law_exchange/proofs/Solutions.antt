-- A solution of a system whose names stay is one with other names.
use Rattle.std.proofs.Common.{◌≡◌, inl, inr, ◌<◌, ℕ, suc, IfSome, List, [], ◌∷◌, ◌++◌, map, length, refl, sym, ap, ◌∙◌, subst}
use Rattle.std.proofs.lemmas.List.{map-append}
use Rattle.sp_spec.specs.Lists.{Every, AtPosition}
use Rattle.sp_spec.specs.Term.{Variable, Term, constant, MadeOf, valued}
use Rattle.sp_spec.specs.Equal.{IsNormal}
use Rattle.sp_spec.specs.Rule.{facts_at}
use Rattle.sp_spec.specs.Theory.{Theory, signature_of}
use Rattle.sp_spec.specs.Execution.{Trace}
use Rattle.sp_spec.specs.Log.{How, by_chain, Entry, step, send, learn, Log, log_trace}
use Rattle.sp_spec.specs.Guarded.{Guarded, GuardedHolds}
use Rattle.sp_spec.proofs.Lists.{length_map, every_weaken, every_both}
use Rattle.sp_law_equal.specs.Right.{HaveNoNames}
use Rattle.sp_spec_system.specs.System.{Way, anyhow, public_name, own_name, constructed, chain_begun, chain_done, Happening, rule_step, sending, learning, Event, Link, System}
use Rattle.sp_spec_system.specs.Numbered.{InFormula, InWay, InHappening, InEvent}
use Rattle.sp_spec_system.specs.Solutions.{Valuation, assignment, IsWayOf, HappensAt, HappensIn, LinkHolds, Settled, FormulaHolds, AreUnequal, IsBefore, Solves}
use Rattle.sp_law_exchange.specs.Renaming.{Renaming, renamed, facts_renamed, how_renamed, entry_renamed, log_renamed, valuation_renamed, kept_by, IsOneToOne}
use Rattle.sp_law_exchange.specs.Reach.{FormulaReached}
use Rattle.sp_law_exchange.specs.Laws.{any_variable, any_time, KeepsOutside, SystemHasNames}
use Rattle.sp_law_exchange.proofs.Terms.{valued_renamed, taken_back}
use Rattle.sp_law_exchange.proofs.Terms as terms
use Rattle.sp_law_exchange.proofs.Equalities.{normal_renamed}
use Rattle.sp_law_exchange.proofs.Lists.{position_map}
use Rattle.sp_law_exchange.proofs.Entries.{log_trace_renamed}
use Rattle.sp_law_exchange.proofs.Logs.{facts_values, chain_values}
use Rattle.sp_law_exchange.proofs.Assignments.{Renames}
use Rattle.sp_law_exchange.proofs.Truth.{formula_alike}
use Rattle.sp_law_exchange.proofs.Reaching.{formula_reached}
use Rattle.sp_law_exchange.proofs.Settled.{settled_carried}

module _ (theory : Theory) (without : HaveNoNames (signature_of theory).equations) (r : Renaming) (one : IsOneToOne r) (log : Log) (v : Valuation) where
  abbrev later : Log
  later = log_renamed r log

  abbrev other : Valuation
  other = valuation_renamed r v

  same_length : length log ≡ length later
  same_length = sym (length_map (entry_renamed r) log)

  formula_by : (B : ℕ → Type 0) → Renames r B (assignment v) (assignment other) → (f : Guarded) → InFormula (kept_by r) any_variable any_time f → FormulaReached B f
      → FormulaHolds theory log v f → FormulaHolds theory later other f
  formula_by B h f k b is = (
    subst (λ (t : Trace). GuardedHolds (signature_of theory) t (assignment other) f) (sym (log_trace_renamed r log))
        ((formula_alike (signature_of theory) without r one (log_trace log) any_variable any_time B f k b (assignment v) (assignment other) h).0 is.0),
    subst (λ (n : ℕ). Settled (signature_of theory) n (assignment other) f) same_length
        (settled_carried (signature_of theory) without r one (length log) B f k b (assignment v) (assignment other) h is.1),
  )

  pub formula_renamed : (f : Guarded) → InFormula (kept_by r) any_variable any_time f → KeepsOutside r f → FormulaHolds theory log v f → FormulaHolds theory later other f
  formula_renamed f k (inl stays) is =
      let B : ℕ → Type 0 = λ i. Unit {0} in
      formula_by B (record { terms = λ x. refl; times = λ i. refl; bound_terms = λ i b. ap constant stays; bound_times = λ i. refl }) f k (formula_reached B (λ i. tt) f) is
  formula_renamed f k (inr binds) is =
      let B : ℕ → Type 0 = λ i. ⊥ in
      formula_by B (record { terms = λ x. refl; times = λ i. refl; bound_terms = λ i b. absurd b; bound_times = λ i. refl }) f k binds is

  value : (t : Term Variable) → MadeOf (kept_by r) any_variable t → renamed r (valued v.terms t) ≡ valued other.terms t
  value t k = valued_renamed r any_variable v.terms other.terms (λ x p. refl) t k

  values : (ts : List (Term Variable)) → Every (MadeOf (kept_by r) any_variable) ts → map (renamed r) (map (valued v.terms) ts) ≡ map (valued other.terms) ts
  values ts k = chain_values r any_variable v.terms other.terms (λ x p. refl) ts k

  way_renamed : (way : Way) (how : How) → InWay (kept_by r) any_variable any_time way → IsWayOf v way how → IsWayOf other way (how_renamed r how)
  way_renamed anyhow how k is = tt
  way_renamed public_name how k is = ap (how_renamed r) is
  way_renamed own_name how k is = ap (how_renamed r) is
  way_renamed constructed how k is = ap (how_renamed r) is
  way_renamed (chain_begun i c ts) how k is = (
    map (renamed r) is.0,
    ap (how_renamed r) is.1 ∙ ap (by_chain (v.times i) c) (map-append (renamed r) (map (valued v.terms) ts) is.0 ∙ ap (λ xs. xs ++ map (renamed r) is.0) (values ts k.1)),
    is.2,
  )
  way_renamed (chain_done i c ts) how k is = ap (how_renamed r) is ∙ ap (by_chain (v.times i) c) (values ts k.1)

  entry_there : (p : ℕ) (e d : Entry) → entry_renamed r e ≡ d → AtPosition log p e → AtPosition later p d
  entry_there p e d same at = subst (λ (x : Entry). AtPosition later p x) same (position_map (entry_renamed r) log p e at)

  happening_renamed : (p : ℕ) (x : Happening) → InHappening (kept_by r) any_variable any_time x → HappensAt log p v x → HappensAt later p other x
  happening_renamed p (rule_step n facts) k h = (
    h.0,
    entry_there p (step n (facts_at v.terms facts) h.0) (step n (facts_at other.terms facts) h.0)
        (ap (λ fs. step n fs h.0) (facts_values r any_variable v.terms other.terms (λ x p. refl) facts k)) h.1,
  )
  happening_renamed p (sending m) k h = entry_there p (send (valued v.terms m)) (send (valued other.terms m)) (ap send (value m k)) h
  happening_renamed p (learning m way) k h = (
    how_renamed r h.0,
    entry_there p (learn (valued v.terms m) h.0) (learn (valued other.terms m) (how_renamed r h.0)) (ap (λ t. learn t (how_renamed r h.0)) (value m k.0)) h.1,
    way_renamed way h.0 k.1 h.2,
  )

  event_renamed : (e : Event) → InEvent (kept_by r) any_variable any_time e → HappensIn log v e → HappensIn later other e
  event_renamed e k h = happening_renamed (v.times e.time) e.happening k.1 h

  link_renamed : (l : Link) → LinkHolds log v l → LinkHolds later other l
  link_renamed l h = (h.0, facts_renamed r h.1, h.2, position_map (entry_renamed r) log (v.times l.to) (step h.0 h.1 h.2) h.3, h.4)

  unequal_renamed : (p : Term Variable × Term Variable) → MadeOf (kept_by r) any_variable p.0 × MadeOf (kept_by r) any_variable p.1 → AreUnequal theory v p → AreUnequal theory other p
  unequal_renamed p k h =
      let es = (signature_of theory).equations in
      let e : renamed r (valued v.terms p.0) ≡ valued other.terms p.0 = value p.0 k.0 in
      let d : renamed r (valued v.terms p.1) ≡ valued other.terms p.1 = value p.1 k.1 in (
        (λ same. h.0 (sym (taken_back r one.inverse one.back (valued v.terms p.0)) ∙ ap (renamed one.inverse) (e ∙ same ∙ sym d) ∙ taken_back r one.inverse one.back (valued v.terms p.1))),
        subst (IsNormal es) e (normal_renamed es without r one.inverse one.back (valued v.terms p.0) h.1),
        subst (IsNormal es) d (normal_renamed es without r one.inverse one.back (valued v.terms p.1) h.2),
      )

  before_renamed : (p : ℕ × ℕ) → IsBefore log v p → IsBefore later other p
  before_renamed p h = (h.0, subst (λ (n : ℕ). v.times p.1 < n) same_length h.1)

  formulas_renamed : (fs : List Guarded) → Every (InFormula (kept_by r) any_variable any_time) fs → Every (KeepsOutside r) fs → Every (FormulaHolds theory log v) fs → Every (FormulaHolds theory later other) fs
  formulas_renamed [] k b h = tt
  formulas_renamed (f ∷ fs) k b h = (formula_renamed f k.0 b.0 h.0, formulas_renamed fs k.1 b.1 h.1)

  pub solution_renamed : (s : System) → SystemHasNames (kept_by r) s → Every (KeepsOutside r) s.formulas → Every (KeepsOutside r) s.spent → Solves theory log v s → Solves theory later other s
  solution_renamed s named formulas spent h = record {
    sorts = terms.valuation_renamed r (signature_of theory) v.terms h.sorts;
    normal = λ x. normal_renamed (signature_of theory).equations without r one.inverse one.back (v.terms x) (h.normal x);
    events = every_both _ _ _ event_renamed s.events named.events h.events;
    formulas = formulas_renamed s.formulas named.formulas formulas h.formulas;
    spent = formulas_renamed s.spent named.spent spent h.spent;
    unequal = every_both _ _ _ unequal_renamed s.unequal named.unequal h.unequal;
    links = every_weaken _ _ link_renamed s.links h.links;
    order = every_weaken _ _ before_renamed s.order h.order;
    last = subst (λ (n : ℕ). IfSome s.last (λ i. suc (v.times i) ≡ n)) same_length h.last;
    closed = λ c p below. h.closed c p (subst (λ (n : ℕ). p < n) (sym same_length) below);
  }
