-- The fresh names that an entry's premises use are made, one after the other.
use Rattle.std.proofs.Common.{◌⊎◌, ⊎_elim, List, [], ◌∷◌, ◌++◌, inl, inr, refl, sym, ap, subst, append_assoc}
use Rattle.sp_spec.specs.Lists.{Member, Every, Distinct}
use Rattle.sp_spec.specs.Term.{Fresh, var, constant, name, app, Ground}
use Rattle.sp_spec.specs.Signature.{Signature, Equation, HasSort, IsValue}
use Rattle.sp_spec.specs.Rule.{Fact, Facts, fr}
use Rattle.sp_spec.specs.Theory.{Theory, signature_of}
use Rattle.sp_spec.specs.Execution.{Step, make_fresh, State, Trace, Leads, Runs}
use Rattle.sp_spec.specs.Log.{fresh_rule}
use Rattle.sp_law_equal.specs.Matching.{any_of}
use Rattle.sp_law_log_steps.specs.Found.{fresh_steps}
use Rattle.sp_law_equal.proofs.Chains.{same_fact_refl}
use Rattle.sp_law_log_steps.proofs.Alike.{AreAlike}
use Rattle.sp_law_log_steps.proofs.Labels.{Labelled, facts_in}

abbrev pub state_of : List (Fact ⊥) → List Ground → State
state_of facts made = record { facts = facts; made = made }

abbrev fresh_label : Ground → Labelled
fresh_label t = (fresh_rule, fr t)

-- the state with the facts that are made, and the names
abbrev pub with_fresh : List Ground → List Labelled → List Labelled
with_fresh [] state = state
with_fresh (t ∷ ts) state = with_fresh ts ((fresh_rule, fr t) ∷ state)

abbrev pub with_made_facts : List Ground → List (Fact ⊥) → List (Fact ⊥)
with_made_facts [] facts = facts
with_made_facts (t ∷ ts) facts = with_made_facts ts (fr t ∷ facts)

abbrev pub with_made : List Ground → List Ground → List Ground
with_made [] made = made
with_made (t ∷ ts) made = with_made ts (t ∷ made)

pub fresh_keeps : (ts : List Ground) (state : List Labelled) (y : Labelled) → Member y state → Member y (with_fresh ts state)
fresh_keeps [] state y m = m
fresh_keeps (t ∷ ts) state y m = fresh_keeps ts ((fresh_rule, fr t) ∷ state) y (inr m)

pub made_keeps : (ts : List Ground) (facts : List (Fact ⊥)) (g : Fact ⊥) → Member g facts → Member g (with_made_facts ts facts)
made_keeps [] facts g m = m
made_keeps (t ∷ ts) facts g m = made_keeps ts (fr t ∷ facts) g (inr m)

pub fresh_there : (ts : List Ground) (state : List Labelled) (t : Ground) → Member t ts → Member (fresh_rule, fr t) (with_fresh ts state)
fresh_there [] state t m = absurd m
fresh_there (u ∷ ts) state t (inl e) =
    fresh_keeps ts ((fresh_rule, fr u) ∷ state) (fresh_rule, fr t) (inl (ap fresh_label e))
fresh_there (u ∷ ts) state t (inr m) = fresh_there ts ((fresh_rule, fr u) ∷ state) t m

pub fresh_alike : (es : List Equation) (ts : List Ground) (facts : List (Fact ⊥)) (state : List Labelled) → AreAlike es facts (facts_in state)
    → AreAlike es (with_made_facts ts facts) (facts_in (with_fresh ts state))
fresh_alike es [] facts state a = a
fresh_alike es (t ∷ ts) facts state a = fresh_alike es ts (fr t ∷ facts) ((fresh_rule, fr t) ∷ state) (same_fact_refl es (fr t), a)

pub made_either : (ts made : List Ground) (t : Ground) → Member t (with_made ts made) → Member t ts ⊎ Member t made
made_either [] made t m = inr m
made_either (u ∷ ts) made t m =
    ⊎_elim (λ k. inl (inr k)) (λ k. ⊎_elim (λ e. inl (inl e)) (λ old. inr old) k) (made_either ts (u ∷ made) t m)

-- a fresh name is over each signature
pub fresh_is_value : (signature : Signature) (t : Ground) → HasSort Fresh t → IsValue signature Fresh t
fresh_is_value signature (var x) h = absurd x
fresh_is_value signature (constant c) h = absurd h
fresh_is_value signature (name n) h = (tt, tt)
fresh_is_value signature (app f ts) h = absurd h

module _ (theory : Theory) where
  abbrev fresh_facts : Ground → Facts ⊥
  fresh_facts t = record { premises = []; actions = []; conclusions = fr t ∷ [] }

  -- a fresh name that isn't made yet can be made
  make_leads : (t : Ground) (facts : List (Fact ⊥)) (made : List Ground) → HasSort Fresh t → (Member t made → ⊥)
      → Leads theory (make_fresh t) (fresh_facts t) (state_of facts made) (state_of (fr t ∷ facts) (t ∷ made))
  make_leads t facts made sort new = record {
    values = λ x. any_of x.sort;
    rest = facts;
    named = tt;
    is_instance = refl;
    takes = refl;
    is_new = new;
    sorts = fresh_is_value (signature_of theory) t sort;
    adds = refl;
  }

  pub run_fresh : (ts : List Ground) (past : List Step) (facts : List (Fact ⊥)) (made : List Ground) (trace : Trace)
      → Runs theory past (state_of facts made) trace → Every (λ (t : Ground). HasSort Fresh t) ts → Distinct ts → ((t : Ground) → Member t ts → Member t made → ⊥)
      → Runs theory (fresh_steps ts ++ past) (state_of (with_made_facts ts facts) (with_made ts made)) trace
  run_fresh [] past facts made trace runs sorts once new = runs
  run_fresh (t ∷ ts) past facts made trace runs sorts once new =
      let leads = make_leads t facts made sorts.0 (new t (inl refl)) in
      let one : Runs theory (make_fresh t ∷ past) (state_of (fr t ∷ facts) (t ∷ made)) trace = (state_of facts made, trace, fresh_facts t, runs, leads, refl) in
      let new_later : (u : Ground) → Member u ts → Member u (t ∷ made) → ⊥ =
      λ u m k. ⊎_elim (λ e. once.0 (subst (λ (x : Ground). Member x ts) (sym e) m)) (λ old. new u (inr m) old) k in
      subst (λ (steps : List Step). Runs theory steps (state_of (with_made_facts ts (fr t ∷ facts)) (with_made ts (t ∷ made))) trace)
      (sym (append_assoc (fresh_steps ts) (make_fresh t ∷ []) past))
      (run_fresh ts (make_fresh t ∷ past) (fr t ∷ facts) (t ∷ made) trace one sorts.1 once.1 new_later)
