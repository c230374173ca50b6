-- A chain that begins with what a new step puts out: each case of a form keeps the numbers, and that of the conclusion which puts out the chain's first
-- message is solved.
use Rattle.std.proofs.Common.{◌≡◌, ◌<◌, ◌+◌, ◌&&◌, ℕ, suc, true, false, not, List, [], ◌∷◌, ◌++◌, codes, Option, Some, None, option_map, refl, ap, ◌∙◌, subst, arith, zero, sym}
use Rattle.std.proofs.lemmas.Bool.{and_from}
use Rattle.std.proofs.lemmas.Slice.Eq.{bytes_eq-Decides}
use Rattle.std.specs.Str.{bytes_eq}
use Rattle.sp_spec.specs.Lists.{Every, AtPlace, AtPosition}
use Rattle.sp_spec.specs.Term.{Names, Variable, Term, Terms, none, more, Ground, MadeOf, AllMadeOf, Values, valued, valued_all}
use Rattle.sp_spec.specs.Rule.{Fact, fact_at, out_of, facts_at}
use Rattle.sp_spec.specs.Theory.{Theory, signature_of}
use Rattle.sp_spec.proofs.Lists.{every_append, every_parts, position_below}
use Rattle.sp_spec.proofs.Options.{if_some, then_if}
use Rattle.sp_spec_forms.specs.Numbering.{Form}
use Rattle.sp_spec_system.specs.System.{Way, chain_begun, rule_step, Event, System, with_next, with_pairs}
use Rattle.sp_spec_system.specs.Numbered.{InEvent, IsNumbered}
use Rattle.sp_spec_system.specs.MakingOne.{learnt_by_at}
use Rattle.sp_spec_system.specs.Cases.{renamed, system_if}
use Rattle.sp_spec_formula.specs.Action.{with_step}
use Rattle.sp_spec_system.specs.Picked.{only_term}
use Rattle.sp_spec_know.specs.Know.{put_out, with_output, by_outputs}
use Rattle.sp_law_system.specs.Rules.{IsNumberedForm}
use Rattle.sp_law_system.proofs.LearntBy.{learnt_by_at_numbered, learnt_by_at_happens}
use Rattle.sp_law_system.proofs.Solutions.{Under, TimeUnder, agrees_then}
use Rattle.sp_law_formula.proofs.MergedKept.{learnt_found}
use Rattle.sp_law_system.proofs.With.{BothUnder, found_with, events_numbered, order_numbered, next_numbered, events_solve, order_solves, next_solves}
use Rattle.sp_law_formula.proofs.ActionSteps.{step_numbered, step_solved}
use Rattle.sp_law_formula.proofs.Merged.{Later}
use Rattle.sp_spec.specs.Signature.{IsValuation}
use Rattle.sp_spec.specs.Equal.{IsNormal}
use Rattle.sp_spec.specs.Log.{Log, Source, by_chain, step, learn}
use Rattle.sp_spec_system.specs.Solutions.{Valuation, HappensIn, IsBefore, Solves}
use Rattle.sp_spec_system.specs.Covering.{Agrees, NoneSolved}
use Rattle.sp_law_formula.proofs.Entries.{beside, beside_agrees}
use Rattle.sp_law_know.proofs.KnowParts.{way_at}
use Rattle.sp_law_graph.proofs.Waiting.{timed, timed_agrees, timed_new, timed_before, timed_solves}

-- ---- what a conclusion puts out

one_made : (N : Names) (P : Variable → Type 0) (ts : Terms Variable) (t : Term Variable) → only_term ts ≡ Some t → AllMadeOf N P ts → MadeOf N P t
one_made N P none t e h = absurd cc
one_made N P (more u none) t e h = let same : u ≡ t = cc in subst (MadeOf N P) same h.0
one_made N P (more u (more w ws)) t e h = absurd cc

output_made : (N : Names) (P : Variable → Type 0) (g : Fact Variable) (t : Term Variable) → put_out g ≡ Some t → AllMadeOf N P g.args → MadeOf N P t
output_made N P g t e h = one_made N P g.args t (if_some (bytes_eq g.symbol (codes "Out") && not g.persistent) (only_term g.args) t e).1 h

one_there : (v : Values) (ts : Terms Variable) (first : Ground) → valued_all v ts ≡ more first none
    → (t : Term Variable) × (only_term ts ≡ Some t) × (valued v t ≡ first)
one_there v none first e = absurd cc
one_there v (more t none) first e = (t, refl, (let same : valued v t ≡ first = cc in same))
one_there v (more t (more u us)) first e = absurd cc

-- an Out of some message puts out what has it for its value
output_there : (v : Values) (g : Fact Variable) (first : Ground) → fact_at v g ≡ out_of first
    → (t : Term Variable) × (put_out g ≡ Some t) × (valued v t ≡ first)
output_there v g first e =
    let symbol : g.symbol ≡ codes "Out" = ap (λ (x : Fact ⊥). x.symbol) e in
    let flag : g.persistent ≡ false = ap (λ (x : Fact ⊥). x.persistent) e in
    let one = one_there v g.args first (ap (λ (x : Fact ⊥). x.args) e) in
    let test : (bytes_eq g.symbol (codes "Out") && not g.persistent) ≡ true =
    and_from (bytes_eq g.symbol (codes "Out")) (not g.persistent) ((bytes_eq-Decides g.symbol (codes "Out")).1 symbol) (ap not flag) in
    (one.0, then_if (bytes_eq g.symbol (codes "Out") && not g.persistent) (only_term g.args) test ∙ one.1, one.2)

-- ---- the system with a new step and a chain that begins with what it puts out

module _ (N : Names) (theory : Theory) (s : System) (n : IsNumbered N s) (i : ℕ) (i_under : i < s.next) (name : List ℕ) (form : Form)
    (form_under : IsNumberedForm N form) where
  abbrev pairs : List (ℕ × ℕ)
  pairs = (s.next, i) ∷ []

  abbrev base : System
  base = with_next (with_pairs s pairs) (suc s.next)

  abbrev limit : ℕ
  limit = suc s.next + form.count

  -- the step's event
  abbrev new : Event
  new = record { time = s.next; happening = rule_step name (renamed (suc s.next) form.facts) }

  abbrev way : ℕ → Term Variable → Way
  way k t = chain_begun s.next k (t ∷ [])

  base_numbered : IsNumbered N base
  base_numbered =
      let next = suc s.next in
      let new_under : s.next < next = omega arith in
      let old : i < next = omega (arith, i_under) in
      let m = next_numbered s n next (omega arith) in
      order_numbered (with_next s next) m (s.order ++ pairs) (every_append (BothUnder next) s.order pairs m.order ((new_under, old), tt))

  stepped_numbered : IsNumbered N (with_step base s.next name form)
  stepped_numbered = step_numbered N theory base name form s.next (omega arith) form_under base_numbered

  event_parts : Every (InEvent N (Under limit) (TimeUnder limit)) s.events × Every (InEvent N (Under limit) (TimeUnder limit)) (new ∷ [])
  event_parts = every_parts (InEvent N (Under limit) (TimeUnder limit)) s.events (new ∷ []) stepped_numbered.events

  pub form_conclusions : Every (λ (g : Fact Variable). AllMadeOf N (Under limit) g.args) (renamed (suc s.next) form.facts).conclusions
  form_conclusions = event_parts.1.0.1.conclusions

  output_numbered : (k : ℕ) (t : Term Variable) → MadeOf N (Under limit) t → IsNumbered N (with_output s i name form k t)
  output_numbered k t u =
      let events = learnt_by_at i (way k t) s.events in
      let new_under : s.next < limit = omega arith in
      events_numbered (with_step base s.next name form) stepped_numbered (events ++ new ∷ [])
      (every_append (InEvent N (Under limit) (TimeUnder limit)) events (new ∷ [])
      (learnt_by_at_numbered N (Under limit) (TimeUnder limit) i (way k t) (new_under, (u, tt)) s.events event_parts.0) event_parts.1)

  -- each of the conclusions from a place on
  pub outputs_numbered : (k : ℕ) (gs : List (Fact Variable)) → Every (λ (g : Fact Variable). AllMadeOf N (Under limit) g.args) gs
      → Every (Later N s.next) (by_outputs s i name form k gs)
  outputs_numbered k [] u = tt
  outputs_numbered k (g ∷ gs) u =
      every_append (Later N s.next) (system_if (option_map (with_output s i name form k) (put_out g))) (by_outputs s i name form (suc k) gs)
      (at (put_out g) refl) (outputs_numbered (suc k) gs u.1)
    where
      at : (o : Option (Term Variable)) → put_out g ≡ o → Every (Later N s.next) (system_if (option_map (with_output s i name form k) o))
      at None e = tt
      at (Some t) e = ((output_numbered k t (output_made N (Under limit) g t e u.0), omega arith), tt)

  -- where the entry at an earlier position is a step by the form, and the chain at the time begins with what its conclusion of that place puts out
  module _ (log : Log) (v : Valuation) (h : Solves theory log v s) (q : ℕ) (earlier : q < v.times i) (values : Values)
      (sorts : IsValuation (signature_of theory) values)
      (are_normal : (x : Variable) → IsNormal (signature_of theory).equations (values x)) (sources : List Source)
      (there : AtPosition log q (step name (facts_at values form.facts) sources)) (place : ℕ) (m first : Ground) (others : List Ground)
      (learnt : AtPosition log (v.times i) (learn m (by_chain q place (first ∷ others)))) where
    abbrev before : Valuation
    before = timed s.next q v

    abbrev value : Valuation
    value = beside (suc s.next) before values

    pub output_agrees : Agrees s.next v value
    output_agrees = agrees_then s.next (suc s.next) v before value (omega arith) (timed_agrees s.next q v) (beside_agrees (suc s.next) before values)

    new_time : value.times s.next ≡ q
    new_time = (beside_agrees (suc s.next) before values).times s.next (omega arith) ∙ timed_new s.next q v

    base_solved : Solves theory log before base
    base_solved =
        let old = timed_solves theory log s v q n h in
        let below = position_below log (v.times i) (learn m (by_chain q place (first ∷ others))) learnt in
        let order = every_append (IsBefore log before) s.order pairs old.order (timed_before s.next q v log i i_under earlier below, tt) in
        next_solves theory log before (with_pairs s pairs) (order_solves theory log before s old (s.order ++ pairs) order) (suc s.next)

    stepped_solved : Solves theory log value (with_step base s.next name form)
    stepped_solved =
        let here = subst (λ (x : ℕ). AtPosition log x (step name (facts_at values form.facts) sources)) (sym (timed_new s.next q v)) there in
        step_solved N theory base name form s.next (omega arith) form_under log before base_solved base_numbered values sorts are_normal sources here

    output_solved : (t : Term Variable) → valued value.terms t ≡ first → Solves theory log value (with_output s i name form place t)
    output_solved t e =
        let same_chain : by_chain q place (first ∷ others) ≡ by_chain (value.times s.next) place (valued value.terms t ∷ others) =
        ap (λ (p : ℕ). by_chain p place (first ∷ others)) (sym new_time) ∙ ap (λ (g : Ground). by_chain (value.times s.next) place (g ∷ others)) (sym e) in
        let here = subst (λ (p : ℕ). AtPosition log p (learn m (by_chain q place (first ∷ others)))) (sym (output_agrees.times i i_under)) learnt in
        let is_way = way_at log (value.times i) value (way place t) m (by_chain q place (first ∷ others)) here (others, same_chain, tt) in
        let parts = every_parts (HappensIn log value) s.events (new ∷ []) stepped_solved.events in
        let events = learnt_by_at i (way place t) s.events in
        events_solve theory log value (with_step base s.next name form) stepped_solved (events ++ new ∷ []) (found_with value s.events events (new ∷ []) (learnt_found value i (way place t) s.events))
        (every_append (HappensIn log value) events (new ∷ []) (learnt_by_at_happens log value i (way place t) is_way s.events parts.0) parts.1)

    one_solved : (g : Fact Variable) → fact_at value.terms g ≡ out_of first
        → NoneSolved theory log v s.next (system_if (option_map (with_output s i name form place) (put_out g))) → ⊥
    one_solved g e none_solved =
        let out = output_there value.terms g first e in
        (subst (λ (o : Option (Term Variable)). NoneSolved theory log v s.next (system_if (option_map (with_output s i name form place) o)))
        out.1 none_solved).0
        value output_agrees (output_solved out.0 out.2)

    -- it stands at a place behind the first
    pub outputs_solved : (g : Fact Variable) → fact_at value.terms g ≡ out_of first → (from : ℕ) (gs : List (Fact Variable)) (k : ℕ) → AtPlace gs k g
        → place ≡ from + k → NoneSolved theory log v s.next (by_outputs s i name form from gs) → ⊥
    outputs_solved g e from [] k at is none_solved = at
    outputs_solved g e from (c ∷ gs) zero at is none_solved =
        let here : from ≡ place = omega (arith, is) in
        let one = (every_parts _ (system_if (option_map (with_output s i name form from) (put_out c)))
        (by_outputs s i name form (suc from) gs) none_solved).0 in
        one_solved g e
        (subst (λ (x : Fact Variable). NoneSolved theory log v s.next (system_if (option_map (with_output s i name form place) (put_out x)))) at
        (subst (λ (j : ℕ). NoneSolved theory log v s.next (system_if (option_map (with_output s i name form j) (put_out c)))) here one))
    outputs_solved g e from (c ∷ gs) (suc k) at is none_solved =
        outputs_solved g e (suc from) gs k at (omega (arith, is))
        (every_parts _ (system_if (option_map (with_output s i name form from) (put_out c))) (by_outputs s i name form (suc from) gs) none_solved).1
