-- A numbered system and the renamed one have the same solutions, and the renamed one is numbered.
use Rattle.std.proofs.Common.{◌≡◌, ◌<◌, ◌+◌, ℕ, List, [], ◌∷◌, map, Option, Some, None, IfSome, option_map, sym, subst, inl, inr, ⊎_elim, arith}
use Rattle.sp_spec.specs.Lists.{Member, Every}
use Rattle.sp_spec.specs.Term.{Names, Variable, Term, var, valued, MadeOf}
use Rattle.sp_spec.specs.Guarded.{Guarded}
use Rattle.sp_spec.specs.Change.{changed, free_change}
use Rattle.sp_spec.specs.Log.{Log}
use Rattle.sp_spec.specs.Theory.{Theory}
use Rattle.sp_spec_system.specs.System.{Way, anyhow, public_name, own_name, constructed, chain_begun, chain_done, Happening, rule_step, sending, learning, Event, System}
use Rattle.sp_spec_system.specs.Solutions.{Valuation, HappensIn, LinkHolds, FormulaHolds, AreUnequal, IsBefore, IsLast, Solves}
use Rattle.sp_spec_system.specs.Numbered.{InFormula, InWay, InHappening, InEvent, HappenOnce, IsNumbered}
use Rattle.sp_spec_system.specs.Equating.{way_changed, happening_changed, event_changed, pair_changed, link_changed, order_changed}
use Rattle.sp_spec.proofs.Lists.{every_map}
use Rattle.sp_law_equal.proofs.Made.{each_valued, facts_valued}
use Rattle.sp_law_system.proofs.Numbers.{PutsIn, changed_in}
use Rattle.sp_law_system.proofs.Solutions.{Under, TimeUnder, every_link}
use Rattle.sp_law_system.proofs.With.{TermsUnder, BothUnder, LinkUnder}
use Rattle.sp_spec_system.specs.Together.{raised_variable, renamed_from}
use Rattle.sp_law_sources.specs.Laws.{IsRaised, AreValues}
use Rattle.sp_law_sources.proofs.Links.{every_of_joined}
use Rattle.sp_law_sources.proofs.Renamed.{every_mapped, terms_raised, times_raised, read_event, read_formula, read_unequal, read_link, read_order, read_last, raised_all, all_raised}

-- one type is the other
there : {X Y : Type 0} → X ≡ Y → X → Y
there e x = subst (λ (Z : Type 0). Z) e x

module _ (N : Names) (theory : Theory) (log : Log) (n : ℕ) (s : System) (k : IsNumbered N s) (v w : Valuation) (r : IsRaised n s.next v w) where
  events_same : Every (HappensIn log w) (renamed_from n s).events ≡ Every (HappensIn log v) s.events
  events_same = every_mapped (InEvent N (Under s.next) (TimeUnder s.next)) (HappensIn log v) (HappensIn log w) _ (read_event N n s.next v w r log) s.events k.events

  formulas_same : (fs : List Guarded) → Every (InFormula N (Under s.next) (TimeUnder s.next)) fs
      → Every (FormulaHolds theory log w) (map (changed (free_change (terms_raised N n s.next v w r) (times_raised N n s.next v w r))) fs) ≡ Every (FormulaHolds theory log v) fs
  formulas_same fs m = every_mapped (InFormula N (Under s.next) (TimeUnder s.next)) (FormulaHolds theory log v) (FormulaHolds theory log w) _ (read_formula N n s.next v w r log theory) fs m

  unequal_same : Every (AreUnequal theory w) (renamed_from n s).unequal ≡ Every (AreUnequal theory v) s.unequal
  unequal_same = every_mapped (TermsUnder N s.next) (AreUnequal theory v) (AreUnequal theory w) _ (read_unequal N n s.next v w r log theory) s.unequal k.unequal

  links_same : Every (LinkHolds log w) (map (link_changed (times_raised N n s.next v w r)) s.links) ≡ Every (LinkHolds log v) s.links
  links_same = every_mapped (LinkUnder s.next) (LinkHolds log v) (LinkHolds log w) _ (read_link N n s.next v w r log) s.links k.links

  order_same : Every (IsBefore log w) (renamed_from n s).order ≡ Every (IsBefore log v) s.order
  order_same = every_mapped (BothUnder s.next) (IsBefore log v) (IsBefore log w) _ (read_order N n s.next v w r log) s.order k.order

  last_same : IsLast log w (renamed_from n s).last ≡ IsLast log v s.last
  last_same = read_last N n s.next v w r log s.last k.last

  pub renamed_solves : AreValues theory w → Solves theory log v s → Solves theory log w (renamed_from n s)
  renamed_solves values h = record {
    sorts = values.sorts;
    normal = values.normal;
    events = there (sym events_same) h.events;
    formulas = there (sym (formulas_same s.formulas k.formulas)) h.formulas;
    spent = there (sym (formulas_same s.spent k.spent)) h.spent;
    unequal = there (sym unequal_same) h.unequal;
    links = every_link (LinkHolds log w) _ _ tt (there (sym links_same) h.links);
    order = there (sym order_same) h.order;
    last = there (sym last_same) h.last;
    closed = λ c. raised_all N n s.next v w r log s.events k.events (h.closed c);
  }

  pub solves_renamed : AreValues theory v → Solves theory log w (renamed_from n s) → Solves theory log v s
  solves_renamed values h = record {
    sorts = values.sorts;
    normal = values.normal;
    events = there events_same h.events;
    formulas = there (formulas_same s.formulas k.formulas) h.formulas;
    spent = there (formulas_same s.spent k.spent) h.spent;
    unequal = there unequal_same h.unequal;
    links = there links_same (every_of_joined (LinkHolds log w) _ _ h.links).1;
    order = there order_same h.order;
    last = there last_same h.last;
    closed = λ c. all_raised N n s.next v w r log s.events k.events (h.closed c);
  }

-- its numbers are below its next one
module _ (N : Names) (n limit : ℕ) where
  raised_within : (x : Variable) → Under limit x → MadeOf N (Under (n + limit)) (var (raised_variable n x))
  raised_within x k = omega (arith, k)

  time_within : (i : ℕ) → TimeUnder limit i → TimeUnder (n + limit) (n + i)
  time_within i k = omega (arith, k)

  term_in : (t : Term Variable) → MadeOf N (Under limit) t → MadeOf N (Under (n + limit)) (valued (λ x. var (raised_variable n x)) t)
  term_in t b = each_valued N (Under limit) (Under (n + limit)) (λ x. var (raised_variable n x)) raised_within t b

  way_in : (way : Way) → InWay N (Under limit) (TimeUnder limit) way
      → InWay N (Under (n + limit)) (TimeUnder (n + limit)) (way_changed (λ x. var (raised_variable n x)) (λ i. n + i) way)
  way_in anyhow b = tt
  way_in public_name b = tt
  way_in own_name b = tt
  way_in constructed b = tt
  way_in (chain_begun i k ts) b = (time_within i b.0, every_map _ _ (valued (λ x. var (raised_variable n x))) term_in ts b.1)
  way_in (chain_done i k ts) b = (time_within i b.0, every_map _ _ (valued (λ x. var (raised_variable n x))) term_in ts b.1)

  happening_in : (h : Happening) → InHappening N (Under limit) (TimeUnder limit) h
      → InHappening N (Under (n + limit)) (TimeUnder (n + limit)) (happening_changed (λ x. var (raised_variable n x)) (λ i. n + i) h)
  happening_in (rule_step rule facts) b = facts_valued N (Under limit) (Under (n + limit)) (λ x. var (raised_variable n x)) raised_within facts b
  happening_in (sending m) b = term_in m b
  happening_in (learning m way) b = (term_in m b.0, way_in way b.1)

  formula_in : (f : Guarded) → InFormula N (Under limit) (TimeUnder limit) f
      → InFormula N (Under (n + limit)) (TimeUnder (n + limit)) (changed (free_change (λ x. var (raised_variable n x)) (λ i. n + i)) f)
  formula_in f b =
      let puts : PutsIn N (Under limit) (Under (n + limit)) (TimeUnder limit) (TimeUnder (n + limit)) (free_change (λ x. var (raised_variable n x)) (λ i. n + i)) =
      record { terms = raised_within; times = time_within; bound_terms = λ k. tt; bound_times = λ k. tt } in
      changed_in N (Under limit) (Under (n + limit)) (TimeUnder limit) (TimeUnder (n + limit)) _ puts f b

last_within : (n limit : ℕ) (o : Option ℕ) → IfSome o (TimeUnder limit) → IfSome (option_map (λ i. n + i) o) (TimeUnder (n + limit))
last_within n limit None b = tt
last_within n limit (Some i) b = omega (arith, b)

pub renamed_numbered : (N : Names) (n : ℕ) (s : System) → IsNumbered N s → IsNumbered N (renamed_from n s)
renamed_numbered N n s k = record {
  events = every_map _ _ (event_changed (λ x. var (raised_variable n x)) (λ i. n + i)) (λ e b. (time_within N n s.next e.time b.0, happening_in N n s.next e.happening b.1)) s.events k.events;
  formulas = every_map _ _ (changed (free_change (λ x. var (raised_variable n x)) (λ i. n + i))) (formula_in N n s.next) s.formulas k.formulas;
  spent = every_map _ _ (changed (free_change (λ x. var (raised_variable n x)) (λ i. n + i))) (formula_in N n s.next) s.spent k.spent;
  unequal = every_map _ _ (pair_changed (λ x. var (raised_variable n x))) (λ p b. (term_in N n s.next p.0 b.0, term_in N n s.next p.1 b.1)) s.unequal k.unequal;
  links = every_link _ _ _ tt (every_map _ _ (link_changed (λ i. n + i)) (λ l b. (time_within N n s.next l.from b.0, time_within N n s.next l.to b.1)) s.links k.links);
  order = every_map _ _ (order_changed (λ i. n + i)) (λ p b. (time_within N n s.next p.0 b.0, time_within N n s.next p.1 b.1)) s.order k.order;
  last = last_within n s.next s.last k.last;
}

-- and no two of its events have one time, if no two of the system's have
abbrev times_of : List Event → List ℕ
times_of events = map (λ (e : Event). e.time) events

module _ (n : ℕ) where
  abbrev raised : Event → Event
  raised e = event_changed (λ x. var (raised_variable n x)) (λ i. n + i) e

  raised_at : (i : ℕ) (es : List Event) → Member (n + i) (times_of (map raised es)) → Member i (times_of es)
  raised_at i [] m = m
  raised_at i (e ∷ es) m = ⊎_elim (λ k. inl (omega (arith, k))) (λ k. inr (raised_at i es k)) m

  raised_once : (es : List Event) → HappenOnce es → HappenOnce (map raised es)
  raised_once [] h = tt
  raised_once (e ∷ es) h = ((λ m. h.0 (raised_at e.time es m)), raised_once es h.1)

  pub renamed_once : (s : System) → HappenOnce s.events → HappenOnce (renamed_from n s).events
  renamed_once s h = raised_once s.events h

  -- its times are no smaller than what they are raised by
  pub renamed_above : (es : List Event) (i : ℕ) → Member i (times_of (map raised es)) → i < n → ⊥
  renamed_above [] i m l = m
  renamed_above (e ∷ es) i m l = ⊎_elim (λ k. omega (arith, k, l)) (λ k. renamed_above es i k l) m
