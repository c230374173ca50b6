-- The examples.
use Rattle.std.proofs.Common.{◌≡◌, ⊎_elim, ℕ, zero, suc, Bool, true, false, List, [], ◌∷◌, length, Some, inl, inr, refl, ap, arith}
use Rattle.sp_spec.specs.Lists.{newest_first}
use Rattle.std.specs.Prelude.{codes}
use Rattle.sp_spec.specs.Lists.{AtPosition}
use Rattle.sp_spec.specs.Term.{Sort, Msg, Fresh, Pub, var, constant, name, Ground, valued}
use Rattle.sp_spec.specs.Same.{same_term}
use Rattle.sp_spec.specs.Signature.{IsValue}
use Rattle.sp_spec.specs.Equal.{IsNormal, end}
use Rattle.sp_spec.specs.Rule.{facts_at}
use Rattle.sp_spec.specs.Theory.{signature_of}
use Rattle.sp_spec.specs.Log.{Log, step, learn, How, fresh_rule, by_chain, IsLog, IsLearnt, IsMadeAlone, IsRuleInstance, Keeps, Clause, rule_instance, premise_sources, fresh_names_once, sent_is_learnt, learnt_once, way_of_learning, made_alone, chain_is_new}
use Rattle.sp_spec.proofs.Logs.{step_keeps}
use Rattle.sp_spec_system.specs.System.{rule_step, learning, chain_done}
use Rattle.sp_spec_system.specs.Solutions.{AreAll, Solves}
use Rattle.sp_spec_system.specs.Numbered.{names_in, HappenOnce, IsNumbered}
use Rattle.sp_law_exchange.specs.Renaming.{log_renamed}
use Rattle.sp_law_exchange.specs.Exchange.{Exchange, exchanges}
use Rattle.sp_spec_solved.specs.Candidate.{candidate}
use Rattle.sp_law_decided.specs.Decided.{IsDecided}
use Rattle.sp_law_decided.specs.Test.{leaves_nothing}
use Rattle.sp_law_decided.specs.Examples.{fresh_variable, public_variable, theory, new_rule, new_facts, idle_rule, no_facts, idle_event, idle_entry, twice_system, chain_system, chain_log, chain_valuation, chain_entries, value, TimesAreToDiffer, ChainTimesAreToBeCompared, constants, learnt_system, learnt_log, learnt_entries, valuation, DecidedSystemsHaveSolutions}
use Rattle.sp_law_decided.proofs.Tested.{tested}

passes : leaves_nothing constants learnt_system ≡ true
passes = refl

suggests : candidate constants learnt_system ≡ Some learnt_entries
suggests = refl

numbered : IsNumbered (names_in constants) learnt_system
numbered =
    record {
      events = (
        (omega arith, record { premises = ((omega arith, tt), tt); actions = ((omega arith, (omega arith, tt)), tt); conclusions = ((omega arith, tt), tt) }),
        ((omega arith, (omega arith, (omega arith, (omega arith, tt)))), tt),
      );
      formulas = tt;
      spent = tt;
      unequal = ((omega arith, refl), tt);
      links = tt;
      order = ((omega arith, omega arith), tt);
      last = tt;
    }

happen_once : HappenOnce learnt_system.events
happen_once = ((λ m. ⊎_elim (λ e. omega (arith, e)) (λ k. k) m), ((λ m. m), tt))

decided : IsDecided constants learnt_system
decided = tested constants learnt_system numbered happen_once passes

-- ---- its solution

is_value : (s : Sort) → IsValue (signature_of theory) s (value s)
is_value Msg = (tt, tt)
is_value Fresh = (tt, tt)
is_value Pub = (tt, tt)

is_normal : (s : Sort) → IsNormal (signature_of theory).equations (value s)
is_normal Msg = tt
is_normal Fresh = tt
is_normal Pub = tt

new_instance : IsRuleInstance theory (codes "New") (facts_at valuation.terms new_facts)
new_instance = (
  new_rule,
  inl refl,
  refl,
  valuation.terms,
  (λ z. is_value z.sort),
  record {
    premises = (refl, refl, ((end, tt), (tt, tt)), tt);
    actions = (refl, ((end, (end, tt)), (tt, (tt, tt))), tt);
    conclusions = (refl, refl, ((end, tt), (tt, tt)), tt);
  },
)

step_log : IsLog theory (step (codes "New") (facts_at valuation.terms new_facts) (fresh_rule ∷ []) ∷ [])
step_log =
    (tt, step_keeps theory [] (codes "New") (facts_at valuation.terms new_facts) (fresh_rule ∷ []) new_instance (refl, tt) tt ((λ m. m), tt))

not_learnt : IsLearnt (step (codes "New") (facts_at valuation.terms new_facts) (fresh_rule ∷ []) ∷ []) (name 5) → ⊥
not_learnt h = at h.0 h.1.0 h.1.1
  where
    at : (p : ℕ) (how : How) → AtPosition (step (codes "New") (facts_at valuation.terms new_facts) (fresh_rule ∷ []) ∷ []) p (learn (name 5) how) → ⊥
    at p how (inl a) = let e = a.1 in cc
    at p how (inr a) = a

not_alone : IsMadeAlone (signature_of theory) (name 5) → ⊥
not_alone (inl h) = let e = h.2 in cc
not_alone (inr (inl h)) = let e = h.2 in cc
not_alone (inr (inr h)) = h

learn_keeps : (clause : Clause) → Keeps theory clause (learn (name 5) (by_chain 0 0 (name 5 ∷ []))) (step (codes "New") (facts_at valuation.terms new_facts) (fresh_rule ∷ []) ∷ [])
learn_keeps rule_instance = tt
learn_keeps premise_sources = tt
learn_keeps fresh_names_once = ((λ m. m), tt)
learn_keeps sent_is_learnt = tt
learn_keeps learnt_once = not_learnt
learn_keeps way_of_learning = (codes "New", facts_at valuation.terms new_facts, fresh_rule ∷ [], inl (refl, refl), name 5, refl, (refl, refl))
learn_keeps made_alone = not_alone
learn_keeps chain_is_new = ((λ q l a. absurd (omega arith)), tt)

is_b : Ground → Bool
is_b t = same_term t (constant (codes "b"))

not_c : valued valuation.terms (var public_variable) ≡ valued valuation.terms (constant (codes "c")) → ⊥
unfolding is_b
not_c e = let h : true ≡ false = ap is_b e in cc

all_happen : AreAll learnt_log valuation learnt_system.events
all_happen zero l = (record { time = 0; happening = rule_step (codes "New") new_facts }, inl refl, refl)
all_happen (suc zero) l = (record { time = 1; happening = learning (var fresh_variable) (chain_done 0 0 (var fresh_variable ∷ [])) }, inr (inl refl), refl)
all_happen (suc (suc p)) l = absurd (omega arith)

solved : Solves theory learnt_log valuation learnt_system
solved =
    record {
      sorts = λ z. is_value z.sort;
      normal = λ z. is_normal z.sort;
      events = ((fresh_rule ∷ [], inr (inl (refl, refl))), ((by_chain 0 0 (name 5 ∷ []), inl (refl, refl), refl), tt));
      formulas = tt;
      spent = tt;
      unequal = ((not_c, tt, tt), tt);
      links = tt;
      order = ((omega arith, omega arith), tt);
      last = tt;
      closed = λ c. all_happen;
    }

pub decided_systems_have_solutions_lem : DecidedSystemsHaveSolutions
decided_systems_have_solutions_lem = record { decided = decided; log = (step_log, learn_keeps); solves = solved; suggested = suggests }

-- ---- two events at one time

idle_instance : IsRuleInstance theory (codes "Idle") (facts_at valuation.terms no_facts)
idle_instance = (idle_rule, inr (inl refl), refl, valuation.terms, (λ z. is_value z.sort), record { premises = tt; actions = tt; conclusions = tt })

idle_log : IsLog theory (idle_entry ∷ [])
idle_log = (tt, step_keeps theory [] (codes "Idle") (facts_at valuation.terms no_facts) [] idle_instance tt tt tt)

idle_numbered : IsNumbered (names_in []) twice_system
idle_numbered =
    record {
      events = ((omega arith, record { premises = tt; actions = tt; conclusions = tt }), ((omega arith, record { premises = tt; actions = tt; conclusions = tt }), tt));
      formulas = tt;
      spent = tt;
      unequal = tt;
      links = tt;
      order = tt;
      last = tt;
    }

idle_all : AreAll (idle_entry ∷ []) valuation twice_system.events
idle_all zero l = (idle_event, inl refl, refl)
idle_all (suc p) l = absurd (omega arith)

idle_solved : Solves theory (idle_entry ∷ []) valuation twice_system
idle_solved =
    record {
      sorts = λ z. is_value z.sort;
      normal = λ z. is_normal z.sort;
      events = (([], inl (refl, refl)), (([], inl (refl, refl)), tt));
      formulas = tt;
      spent = tt;
      unequal = tt;
      links = tt;
      order = tt;
      last = tt;
      closed = λ c. idle_all;
    }

idle_other : (es : List Exchange) → log_renamed (exchanges es) (idle_entry ∷ []) ≡ newest_first (idle_entry ∷ idle_entry ∷ []) → ⊥
idle_other es e = let n : suc zero ≡ suc (suc zero) = ap length e in cc

pub times_are_to_differ_lem : TimesAreToDiffer
times_are_to_differ_lem =
    record { fails = λ d. d.0 (inl refl); compared = refl; passes = refl; numbered = idle_numbered; log = idle_log; solves = idle_solved; suggested = refl; none = idle_other }

-- ---- a chain that begins at a time of no event

chain_once : HappenOnce chain_system.events
chain_once = ((λ m. ⊎_elim (λ e. omega (arith, e)) (λ n. ⊎_elim (λ e. omega (arith, e)) (λ k. k) n) m), ((λ m. ⊎_elim (λ e. omega (arith, e)) (λ k. k) m), ((λ m. m), tt)))

chain_numbered : IsNumbered (names_in constants) chain_system
chain_numbered =
    record {
      events = (
        (omega arith, record { premises = tt; actions = tt; conclusions = tt }),
        (
          (omega arith, record { premises = ((omega arith, tt), tt); actions = ((omega arith, (omega arith, tt)), tt); conclusions = ((omega arith, tt), tt) }),
          ((omega arith, (omega arith, (omega arith, (omega arith, tt)))), tt),
        ),
      );
      formulas = tt;
      spent = tt;
      unequal = ((omega arith, refl), tt);
      links = tt;
      order = ((omega arith, omega arith), ((omega arith, omega arith), tt));
      last = tt;
    }

two_steps : IsLog theory (step (codes "New") (facts_at valuation.terms new_facts) (fresh_rule ∷ []) ∷ idle_entry ∷ [])
two_steps = (idle_log, step_keeps theory (idle_entry ∷ []) (codes "New") (facts_at valuation.terms new_facts) (fresh_rule ∷ []) new_instance (refl, tt) tt ((λ m. m), tt))

not_yet : (p : ℕ) (how : How) → AtPosition (step (codes "New") (facts_at valuation.terms new_facts) (fresh_rule ∷ []) ∷ idle_entry ∷ []) p (learn (name 5) how) → ⊥
not_yet p how (inl a) = let e = a.1 in cc
not_yet p how (inr (inl a)) = let e = a.1 in cc
not_yet p how (inr (inr a)) = a

chain_keeps : (clause : Clause) → Keeps theory clause (learn (name 5) (by_chain 1 0 (name 5 ∷ []))) (step (codes "New") (facts_at valuation.terms new_facts) (fresh_rule ∷ []) ∷ idle_entry ∷ [])
chain_keeps rule_instance = tt
chain_keeps premise_sources = tt
chain_keeps fresh_names_once = ((λ m. m), tt)
chain_keeps sent_is_learnt = tt
chain_keeps learnt_once = λ h. not_yet h.0 h.1.0 h.1.1
chain_keeps way_of_learning = (codes "New", facts_at valuation.terms new_facts, fresh_rule ∷ [], inl (refl, refl), name 5, refl, (refl, refl))
chain_keeps made_alone = not_alone
chain_keeps chain_is_new = ((λ q l a. not_yet q a.0 a.1), tt)

chain_all : AreAll chain_log chain_valuation chain_system.events
chain_all zero l = (idle_event, inl refl, refl)
chain_all (suc zero) l = (record { time = 1; happening = rule_step (codes "New") new_facts }, inr (inl refl), refl)
chain_all (suc (suc zero)) l = (record { time = 2; happening = learning (var fresh_variable) (chain_done 3 0 (var fresh_variable ∷ [])) }, inr (inr (inl refl)), refl)
chain_all (suc (suc (suc p))) l = absurd (omega arith)

chain_solved : Solves theory chain_log chain_valuation chain_system
chain_solved =
    record {
      sorts = λ z. is_value z.sort;
      normal = λ z. is_normal z.sort;
      events = (([], inr (inr (inl (refl, refl)))), ((fresh_rule ∷ [], inr (inl (refl, refl))), ((by_chain 1 0 (name 5 ∷ []), inl (refl, refl), refl), tt)));
      formulas = tt;
      spent = tt;
      unequal = ((not_c, tt, tt), tt);
      links = tt;
      order = ((omega arith, omega arith), ((omega arith, omega arith), tt));
      last = tt;
      closed = λ c. chain_all;
    }

-- where the chain begins
begins : How → ℕ
begins (by_chain p k ts) = p
begins how = 0

first_begins : Log → ℕ
first_begins (learn m how ∷ past) = begins how
first_begins past = 0

chain_other : (es : List Exchange) → log_renamed (exchanges es) chain_log ≡ newest_first chain_entries → ⊥
unfolding begins first_begins
chain_other es e = let n : suc zero ≡ zero = ap first_begins e in cc

pub chain_times_are_to_be_compared_lem : ChainTimesAreToBeCompared
chain_times_are_to_be_compared_lem =
    record {
      once = chain_once;
      compared = refl;
      fails = refl;
      passes = refl;
      numbered = chain_numbered;
      log = (two_steps, chain_keeps);
      solves = chain_solved;
      suggested = refl;
      none = chain_other;
    }
