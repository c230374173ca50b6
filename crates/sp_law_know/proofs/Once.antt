-- No two events have one time: the rows and the moves on what is learnt and sent keep it.
use Rattle.std.proofs.Common.{◌≡◌, ◌<◌, ◌+◌, ℕ, suc, Bool, true, false, if◌then◌else◌, List, [], ◌∷◌, ◌++◌, codes, decimal, Option, Some, None, option_map, refl, sym, subst, arith, le_refl}
use Rattle.std.proofs.lemmas.List.{map-append}
use Rattle.sp_spec.specs.Lists.{Every}
use Rattle.sp_spec.specs.Term.{Names, Sort, Msg, Fresh, Pub, Variable, Term, var, constant, name, app, Terms, none, more, count, valued, valued_all}
use Rattle.sp_spec.specs.Signature.{Symbol}
use Rattle.sp_spec.proofs.Lists.{every_append}
use Rattle.sp_spec.proofs.Options.{mapped}
use Rattle.sp_spec_system.specs.System.{Way, anyhow, own_name, constructed, chain_begun, chain_done, Happening, rule_step, sending, learning, Event, System, with_pairs, with_next}
use Rattle.sp_spec_system.specs.Numbered.{HappenOnce, IsNumbered}
use Rattle.sp_spec_system.specs.MakingOne.{learnt_by_at}
use Rattle.sp_spec_system.specs.Picked.{first_some}
use Rattle.sp_spec_system.specs.Order.{is_before}
use Rattle.sp_spec_know.specs.Learning.{learning_of, with_event, learnt_from, learnt_before}
use Rattle.sp_spec_know.specs.SendInput.{open_input, with_sending, send_input}
use Rattle.sp_spec_know.specs.SendLearnt.{unlearnt_sending, send_learnt}
use Rattle.sp_spec_know.specs.SettleLearn.{settled_event, each_learnt_before, with_settling, settle_learn}
use Rattle.sp_spec_know.specs.LearnOnce.{times_of_learnings, learn_once}
use Rattle.sp_spec_know.specs.FreshFirst.{missing_behind, fresh_first}
use Rattle.sp_spec.specs.Destruction.{Destruction, is_public}
use Rattle.sp_spec.specs.Unifier.{mgu}
use Rattle.sp_spec_system.specs.Rules.{Rules}
use Rattle.sp_spec_know.specs.Know.{wanted_at, with_way, with_learnings, made_case, own_if, own_case, put_out, with_output, by_outputs, output_forms, by_each_output, know_cases}
use Rattle.sp_spec_know.specs.Chain.{Begun, begun_at, with_same, is_no_end, done_case, numbered_from, variables_of, with_link, by_destructions, chain_cases}
use Rattle.sp_spec.specs.Rule.{Fact}
use Rattle.sp_spec_forms.specs.Numbering.{Form}
use Rattle.sp_spec_forms.specs.Forms.{RuleForms}
use Rattle.sp_spec_system.specs.Cases.{case_if, renamed, system_if, named}
use Rattle.sp_spec_system.specs.Move.{Case, systems_in}
use Rattle.sp_law_formula.proofs.Once.{times_of, learnt_times, pairs_once}
use Rattle.sp_law_graph.proofs.Once.{at_new_time, IsTimed, is_timed, wider, same_timed, pairs_timed, one_once, IsOnce, case_once, both_once, named_once}

-- ---- systems

event_timed : (s : System) (h : Happening) → IsTimed s → IsTimed (with_event s h)
event_timed s h timed = record {
  below = subst (Every (λ (i : ℕ). i < suc s.next)) (sym (map-append (λ (e : Event). e.time) s.events (record { time = s.next; happening = h } ∷ [])))
      (every_append (λ (i : ℕ). i < suc s.next) (times_of s.events) (s.next ∷ []) (wider s.next (suc s.next) (omega arith) s.events timed.below) (omega arith, tt));
  once = at_new_time s.next h s.events timed.below timed.once;
}

way_timed : (s : System) (i : ℕ) (way : Way) → IsTimed s → IsTimed (with_way s i way)
way_timed s i way = same_timed s (with_way s i way) (learnt_times i way s.events) (le_refl s.next)

-- a message is learnt before a time
learnt_timed : (t : Term Variable) (i : ℕ) (s : System) → IsTimed s → IsTimed (learnt_before t i s)
learnt_timed t i s timed = at (learning_of t s.events)
  where
    at : (o : Option ℕ) → IsTimed (learnt_from t i s o)
    at None = event_timed (with_pairs s ((s.next, i) ∷ [])) (learning t anyhow) (pairs_timed s ((s.next, i) ∷ []) timed)
    at (Some j) = by (is_before s.order j i)
      where
        by : (b : Bool) → IsTimed (if b then s else with_pairs s ((j, i) ∷ []))
        by true = timed
        by false = pairs_timed s ((j, i) ∷ []) timed

each_timed : (i : ℕ) (ts : List (Term Variable)) (s : System) → IsTimed s → IsTimed (each_learnt_before i ts s)
each_timed i [] s timed = timed
each_timed i (t ∷ ts) s timed = each_timed i ts (learnt_before t i s) (learnt_timed t i s timed)

-- ---- rows

module _ (s t : System) where
  pub learn_once_once : learn_once s ≡ Some t → HappenOnce s.events → HappenOnce t.events
  learn_once_once = one_once s t (times_of_learnings s.events)

  pub fresh_first_once : fresh_first s ≡ Some t → HappenOnce s.events → HappenOnce t.events
  fresh_first_once e once =
      let r = mapped (with_pairs s) (first_some (missing_behind s) s.events) t e in
      subst (λ (w : System). HappenOnce w.events) (sym r.2) once

module _ {N : Names} (s t : System) where
  pub send_input_once : send_input s ≡ Some t → IsNumbered N s → HappenOnce s.events → HappenOnce t.events
  send_input_once e n once =
      let r = mapped (with_sending s) (first_some (open_input s.links) s.events) t e in
      let timed = is_timed s n once in
      subst (λ (w : System). HappenOnce w.events) (sym r.2) (at_new_time s.next (sending r.0.message) s.events timed.below timed.once)

  pub send_learnt_once : send_learnt s ≡ Some t → IsNumbered N s → HappenOnce s.events → HappenOnce t.events
  send_learnt_once e n once =
      let r = mapped (λ (p : Term Variable × ℕ). learnt_before p.0 p.1 s) (first_some (unlearnt_sending s) s.events) t e in
      subst (λ (w : System). HappenOnce w.events) (sym r.2) (learnt_timed r.0.0 r.0.1 s (is_timed s n once)).once

pub settle_learn_once : {N : Names} (symbols : List Symbol) (s t : System) → settle_learn symbols s ≡ Some t → IsNumbered N s → HappenOnce s.events
    → HappenOnce t.events
settle_learn_once symbols s t e n once =
    let r = mapped (with_settling s) (first_some (settled_event symbols) s.events) t e in
    let x = r.0 in
    subst (λ (w : System). HappenOnce w.events) (sym r.2)
    (each_timed x.time x.parts (with_way s x.time x.way) (way_timed s x.time x.way (is_timed s n once))).once

-- ---- the move on a message

-- the cases of a message that is asked for
abbrev cases_for : Rules → System → ℕ → Term Variable → List Case
cases_for rules s i m = made_case rules.signature.symbols s i m ++ (own_case s i m ++ by_each_output rules.forms s i)

-- parts that are learnt before, each at a new time
learnings_timed : (i : ℕ) (ts : Terms Variable) (s : System) → IsTimed s → IsTimed (with_learnings i ts s)
learnings_timed i none s timed = timed
learnings_timed i (more t ts) s timed =
    let pairs = (s.next, i) ∷ [] in
    learnings_timed i ts (with_event (with_pairs s pairs) (learning t anyhow)) (event_timed (with_pairs s pairs) (learning t anyhow) (pairs_timed s pairs timed))

module _ (s : System) (timed : IsTimed s) (i : ℕ) where
  made_once : (symbols : List Symbol) (m : Term Variable) → Every IsOnce (systems_in (made_case symbols s i m))
  made_once symbols (var x) = tt
  made_once symbols (constant c) = tt
  made_once symbols (name k) = tt
  made_once symbols (app f ts) = at (is_public symbols f (count ts))
    where
      made : Case
      made = record { name = codes "made"; system = with_learnings i ts (with_way s i constructed) }

      at : (b : Bool) → Every IsOnce (systems_in (if b then made ∷ [] else []))
      at true = ((learnings_timed i ts (with_way s i constructed) (way_timed s i constructed timed)).once, tt)
      at false = tt

  own_once : (m : Term Variable) → Every IsOnce (systems_in (own_case s i m))
  own_once (constant c) = tt
  own_once (name k) = tt
  own_once (app f ts) = tt
  own_once (var x) = at x.sort
    where
      at : (sort : Sort) → Every IsOnce (systems_in (own_if s i sort))
      at Fresh = ((way_timed s i own_name timed).once, tt)
      at Msg = tt
      at Pub = tt

  -- a new step and a chain that begins with what it puts out
  output_once : (rule : List ℕ) (form : Form) (k : ℕ) (t : Term Variable) → IsOnce (with_output s i rule form k t)
  output_once rule form k t =
      let way = chain_begun s.next k (t ∷ []) in
      let begun = way_timed s i way timed in
      at_new_time s.next (rule_step rule (renamed (suc s.next) form.facts)) (learnt_by_at i way s.events) begun.below begun.once

  outputs_once : (rule : List ℕ) (form : Form) (k : ℕ) (gs : List (Fact Variable)) → Every IsOnce (by_outputs s i rule form k gs)
  outputs_once rule form k [] = tt
  outputs_once rule form k (g ∷ gs) =
      every_append IsOnce (system_if (option_map (with_output s i rule form k) (put_out g))) (by_outputs s i rule form (suc k) gs) (at (put_out g))
      (outputs_once rule form (suc k) gs)
    where
      at : (o : Option (Term Variable)) → Every IsOnce (system_if (option_map (with_output s i rule form k) o))
      at None = tt
      at (Some t) = (output_once rule form k t, tt)

  output_forms_once : (rule : List ℕ) (forms : List Form) → Every IsOnce (output_forms rule forms s i)
  output_forms_once rule [] = tt
  output_forms_once rule (form ∷ forms) =
      let conclusions = (renamed (suc s.next) form.facts).conclusions in
      every_append IsOnce (by_outputs s i rule form 0 conclusions) (output_forms rule forms s i) (outputs_once rule form 0 conclusions)
      (output_forms_once rule forms)

  each_output_once : (rules : List RuleForms) → Every IsOnce (systems_in (by_each_output rules s i))
  each_output_once [] = tt
  each_output_once (rule ∷ rules) =
      let own = output_forms rule.name rule.forms s i in
      both_once (named rule.name own) (by_each_output rules s i) (named_once rule.name own (output_forms_once rule.name rule.forms)) (each_output_once rules)

  cases_once : (rules : Rules) (m : Term Variable) → Every IsOnce (systems_in (cases_for rules s i m))
  cases_once rules m =
      let made = made_case rules.signature.symbols s i m in
      let own = own_case s i m in
      let outputs = by_each_output rules.forms s i in
      both_once made (own ++ outputs) (made_once rules.signature.symbols m) (both_once own outputs (own_once m) (each_output_once rules.forms))

pub know_once : {N : Names} (rules : Rules) (s : System) → IsNumbered N s → HappenOnce s.events → (i : ℕ) (cs : List Case)
    → know_cases rules s i ≡ Some cs → Every (λ (c : System). HappenOnce c.events) (systems_in cs)
know_once rules s n once i cs e =
    let r = mapped (cases_for rules s i) (wanted_at rules.signature.symbols s i) cs e in
    subst (λ (x : List Case). Every IsOnce (systems_in x)) (sym r.2) (cases_once s (is_timed s n once) i rules r.0)

-- ---- the move on a chain

module _ (s : System) (timed : IsTimed s) (i : ℕ) (b : Begun) where
  -- where two terms are to be the same
  same_once : (label : List ℕ) (t : System) → IsOnce t → (a c : Term Variable) → Every IsOnce (systems_in (case_if label (with_same t a c)))
  same_once label t once a c = case_once label (with_same t a c) (pairs_once t (mgu ((a, c) ∷ [])) once)

  done_once : Every IsOnce (systems_in (done_case s i b))
  done_once = at (is_no_end b.last)
    where
      done : System
      done = with_way s i (chain_done b.from b.conclusion b.passed)

      at : (c : Bool) → Every IsOnce (systems_in (if c then [] else case_if (codes "done") (with_same done b.last b.message)))
      at true = tt
      at false = same_once (codes "done") done (way_timed s i (chain_done b.from b.conclusion b.passed) timed).once b.last b.message

  link_timed : (d : Destruction) → IsTimed (with_link s i b d)
  link_timed d =
      let new = numbered_from s.next d in
      let way = chain_begun b.from b.conclusion (b.passed ++ valued new d.result ∷ []) in
      let settled = with_way s i way in
      let wide = s.next + variables_of d in
      learnings_timed i (valued_all new d.sides) (with_next settled wide)
      (same_timed settled (with_next settled wide) refl (omega arith) (way_timed s i way timed))

  destructions_once : (k : ℕ) (ds : List Destruction) → Every IsOnce (systems_in (by_destructions s i b k ds))
  destructions_once k [] = tt
  destructions_once k (d ∷ ds) =
      let label = codes "chain_" ++ decimal k in
      let pattern = valued (numbered_from s.next d) d.pattern in
      both_once (case_if label (with_same (with_link s i b d) b.last pattern)) (by_destructions s i b (suc k) ds)
      (same_once label (with_link s i b d) (link_timed d).once b.last pattern) (destructions_once (suc k) ds)

pub chain_once : {N : Names} (ds : List Destruction) (s : System) → IsNumbered N s → HappenOnce s.events → (i : ℕ) (cs : List Case)
    → chain_cases ds s i ≡ Some cs → Every (λ (c : System). HappenOnce c.events) (systems_in cs)
chain_once ds s n once i cs e =
    let r = mapped (λ (b : Begun). done_case s i b ++ by_destructions s i b 1 ds) (begun_at s i) cs e in
    let timed = is_timed s n once in
    subst (λ (x : List Case). Every IsOnce (systems_in x)) (sym r.2)
    (both_once (done_case s i r.0) (by_destructions s i r.0 1 ds) (done_once s timed i r.0) (destructions_once s timed i r.0 1 ds))
