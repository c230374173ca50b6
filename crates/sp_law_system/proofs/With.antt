-- A system with another part in the place of its own: what it has to fulfil.
use Rattle.std.proofs.Common.{◌≡◌, ◌⊎◌, inl, inr, ◌≤◌, ◌<◌, ℕ, suc, List, ◌++◌, length, Option, Some, None, IfSome, refl, ◌∙◌, lt_of_lt_of_le}
use Rattle.sp_spec.specs.Lists.{Member, Every}
use Rattle.sp_spec.specs.Term.{Names, Variable, Term, MadeOf}
use Rattle.sp_spec.specs.Theory.{Theory}
use Rattle.sp_spec.specs.Guarded.{Guarded}
use Rattle.sp_spec.specs.Log.{Log}
use Rattle.sp_spec.proofs.Lists.{every_weaken, member_left, member_right, member_either}
use Rattle.sp_spec_system.specs.System.{Event, Link, System, with_events, with_formulas, with_spent, with_unequal, with_links, with_order, with_last, with_next}
use Rattle.sp_spec_system.specs.Solutions.{Valuation, HappensIn, LinkHolds, FormulaHolds, AreUnequal, IsBefore, Solves}
use Rattle.sp_spec_system.specs.Numbered.{InFormula, InEvent, IsNumbered}
use Rattle.sp_law_equal.proofs.Made.{each_weaken}
use Rattle.sp_law_system.proofs.Numbers.{formula_weaken, event_weaken}
use Rattle.sp_law_system.proofs.Solutions.{Under, TimeUnder}

-- the terms of a pair, both times of a pair, and both of a link
abbrev pub TermsUnder : Names → ℕ → Term Variable × Term Variable → Type 0
TermsUnder N n p = MadeOf N (Under n) p.0 × MadeOf N (Under n) p.1

abbrev pub BothUnder : ℕ → ℕ × ℕ → Type 0
BothUnder n p = (p.0 < n) × (p.1 < n)

abbrev pub LinkUnder : ℕ → Link → Type 0
LinkUnder n l = (l.from < n) × (l.to < n)

-- each event of the one list has one of the other at its position
abbrev pub AreFoundIn : Valuation → List Event → List Event → Type 0
AreFoundIn v events es = (e : Event) → Member e events → (d : Event) × Member d es × (v.times d.time ≡ v.times e.time)

module _ (theory : Theory) (log : Log) (v : Valuation) (s : System) (h : Solves theory log v s) where
  -- in a closed system none may be lost
  pub events_solve : (es : List Event) → AreFoundIn v s.events es → Every (HappensIn log v) es → Solves theory log v (with_events s es)
  events_solve es found k = record { sorts = h.sorts; normal = h.normal; events = k; formulas = h.formulas; spent = h.spent; unequal = h.unequal; links = h.links; order = h.order; last = h.last; closed = λ c p l. let a = h.closed c p l in let b = found a.0 a.1 in (b.0, b.1, b.2 ∙ a.2) }

  pub formulas_solve : (fs : List Guarded) → Every (FormulaHolds theory log v) fs → Solves theory log v (with_formulas s fs)
  formulas_solve fs k = record { sorts = h.sorts; normal = h.normal; events = h.events; formulas = k; spent = h.spent; unequal = h.unequal; links = h.links; order = h.order; last = h.last; closed = h.closed }

  pub spent_solve : (fs : List Guarded) → Every (FormulaHolds theory log v) fs → Solves theory log v (with_spent s fs)
  spent_solve fs k = record { sorts = h.sorts; normal = h.normal; events = h.events; formulas = h.formulas; spent = k; unequal = h.unequal; links = h.links; order = h.order; last = h.last; closed = h.closed }

  pub unequal_solve : (ps : List (Term Variable × Term Variable)) → Every (AreUnequal theory v) ps → Solves theory log v (with_unequal s ps)
  unequal_solve ps k = record { sorts = h.sorts; normal = h.normal; events = h.events; formulas = h.formulas; spent = h.spent; unequal = k; links = h.links; order = h.order; last = h.last; closed = h.closed }

  pub links_solve : (ls : List Link) → Every (LinkHolds log v) ls → Solves theory log v (with_links s ls)
  links_solve ls k = record { sorts = h.sorts; normal = h.normal; events = h.events; formulas = h.formulas; spent = h.spent; unequal = h.unequal; links = k; order = h.order; last = h.last; closed = h.closed }

  pub order_solves : (ps : List (ℕ × ℕ)) → Every (IsBefore log v) ps → Solves theory log v (with_order s ps)
  order_solves ps k = record { sorts = h.sorts; normal = h.normal; events = h.events; formulas = h.formulas; spent = h.spent; unequal = h.unequal; links = h.links; order = k; last = h.last; closed = h.closed }

  pub last_solves : (i : ℕ) → suc (v.times i) ≡ length log → Solves theory log v (with_last s (Some i))
  last_solves i k = record { sorts = h.sorts; normal = h.normal; events = h.events; formulas = h.formulas; spent = h.spent; unequal = h.unequal; links = h.links; order = h.order; last = k; closed = h.closed }

  pub next_solves : (n : ℕ) → Solves theory log v (with_next s n)
  next_solves n = record { sorts = h.sorts; normal = h.normal; events = h.events; formulas = h.formulas; spent = h.spent; unequal = h.unequal; links = h.links; order = h.order; last = h.last; closed = h.closed }

-- those of a list stand among those of a longer one
pub found_behind : (v : Valuation) (events more : List Event) → AreFoundIn v events (events ++ more)
found_behind v events more e m = (e, member_left e events more m, refl)

-- and so where both lists are made longer by the same
pub found_with : (v : Valuation) (events es more : List Event) → AreFoundIn v events es → AreFoundIn v (events ++ more) (es ++ more)
found_with v events es more found e m = at (member_either e events more m)
  where
    at : Member e events ⊎ Member e more → (d : Event) × Member d (es ++ more) × (v.times d.time ≡ v.times e.time)
    at (inl l) = let d = found e l in (d.0, member_left d.0 es more d.1, d.2)
    at (inr l) = (e, member_right e es more l, refl)

module _ {N : Names} (s : System) (h : IsNumbered N s) where
  pub events_numbered : (es : List Event) → Every (InEvent N (Under s.next) (TimeUnder s.next)) es → IsNumbered N (with_events s es)
  events_numbered es k = record { events = k; formulas = h.formulas; spent = h.spent; unequal = h.unequal; links = h.links; order = h.order; last = h.last }

  pub formulas_numbered : (fs : List Guarded) → Every (InFormula N (Under s.next) (TimeUnder s.next)) fs → IsNumbered N (with_formulas s fs)
  formulas_numbered fs k = record { events = h.events; formulas = k; spent = h.spent; unequal = h.unequal; links = h.links; order = h.order; last = h.last }

  pub spent_numbered : (fs : List Guarded) → Every (InFormula N (Under s.next) (TimeUnder s.next)) fs → IsNumbered N (with_spent s fs)
  spent_numbered fs k = record { events = h.events; formulas = h.formulas; spent = k; unequal = h.unequal; links = h.links; order = h.order; last = h.last }

  pub unequal_numbered : (ps : List (Term Variable × Term Variable)) → Every (TermsUnder N s.next) ps → IsNumbered N (with_unequal s ps)
  unequal_numbered ps k = record { events = h.events; formulas = h.formulas; spent = h.spent; unequal = k; links = h.links; order = h.order; last = h.last }

  pub links_numbered : (ls : List Link) → Every (LinkUnder s.next) ls → IsNumbered N (with_links s ls)
  links_numbered ls k = record { events = h.events; formulas = h.formulas; spent = h.spent; unequal = h.unequal; links = k; order = h.order; last = h.last }

  pub order_numbered : (ps : List (ℕ × ℕ)) → Every (BothUnder s.next) ps → IsNumbered N (with_order s ps)
  order_numbered ps k = record { events = h.events; formulas = h.formulas; spent = h.spent; unequal = h.unequal; links = h.links; order = k; last = h.last }

  pub last_numbered : (i : ℕ) → i < s.next → IsNumbered N (with_last s (Some i))
  last_numbered i k = record { events = h.events; formulas = h.formulas; spent = h.spent; unequal = h.unequal; links = h.links; order = h.order; last = k }

  -- a larger next number
  pub next_numbered : (n : ℕ) → s.next ≤ n → IsNumbered N (with_next s n)
  next_numbered n le = record {
    events = every_weaken _ _ (event_weaken N _ _ _ _ (λ y k. lt_of_lt_of_le k le) (λ i k. lt_of_lt_of_le k le)) s.events h.events;
    formulas = every_weaken _ _ (formula_weaken N _ _ _ _ (λ y k. lt_of_lt_of_le k le) (λ i k. lt_of_lt_of_le k le)) s.formulas h.formulas;
    spent = every_weaken _ _ (formula_weaken N _ _ _ _ (λ y k. lt_of_lt_of_le k le) (λ i k. lt_of_lt_of_le k le)) s.spent h.spent;
    unequal = every_weaken (TermsUnder N s.next) (TermsUnder N n) (λ q b. (each_weaken N (Under s.next) (Under n) (λ y k. lt_of_lt_of_le k le) q.0 b.0, each_weaken N (Under s.next) (Under n) (λ y k. lt_of_lt_of_le k le) q.1 b.1)) s.unequal h.unequal;
    links = every_weaken (LinkUnder s.next) (LinkUnder n) (λ l b. (lt_of_lt_of_le b.0 le, lt_of_lt_of_le b.1 le)) s.links h.links;
    order = every_weaken (BothUnder s.next) (BothUnder n) (λ q b. (lt_of_lt_of_le b.0 le, lt_of_lt_of_le b.1 le)) s.order h.order;
    last = under s.last h.last;
  }
    where
      under : (o : Option ℕ) → IfSome o (λ i. i < s.next) → IfSome o (λ i. i < n)
      under None k = tt
      under (Some i) k = lt_of_lt_of_le k le
