-- How steps are replayed, on a state whose facts are in normal form.
use Rattle.std.specs.Prelude.{ℕ, Bool, true, false, ◌&&◌, ◌||◌, if◌then◌else◌, List, [], ◌∷◌, ◌++◌, Option, Some, None, Result, Ok, Err}
use Rattle.sp_spec.specs.Same.{same_term}
use Rattle.sp_spec.specs.Term.{Sort, Msg, Fresh, Pub, app, Ground, Grounds, count}
use Rattle.sp_spec.specs.Signature.{Symbol, Signature}
use Rattle.sp_spec.specs.Rule.{Fact, Action, Facts, Rule, rule_named, facts_at, fr, in_of, out_of, knows, sends}
use Rattle.sp_spec.specs.Execution.{Step, make_fresh, use_rule, take_out, put_in, know_public, make_own, apply_symbol, known_all, Cause, no_such_rule, no_instance, premise_absent, fresh_name_twice, wrong_sort}
use Rattle.sp_law_equal.specs.Matching.{Bound, value_in, has_sort}
use Rattle.sp_law_equal.specs.Normal.{normal_facts}
use Rattle.sp_law_run.specs.Taken.{taken}
use Rattle.sp_law_run.specs.Given.{bound_by}
use Rattle.sp_norm.specs.Over.{any_public, over, all_over}

-- what was reached: the facts in normal form, the fresh names, and the entries of the trace in normal form, each the oldest first
pub record Reached : Type 0 where
  pub facts : List (Fact ⊥)
  pub made : List Ground
  pub entries : List (List (Action ⊥))

abbrev pub nothing : Reached
nothing = record { facts = []; made = []; entries = [] }

-- the facts of a step, and whether its terms have their sorts
pub record Instance : Type 0 where
  pub facts : Facts ⊥
  pub sorted : Bool

abbrev pub is_value : List Symbol → Sort → Ground → Bool
is_value symbols sort t = has_sort sort t && over symbols t

abbrev pub are_values : List Symbol → List Bound → Bool
are_values symbols [] = true
are_values symbols (b ∷ bs) = is_value symbols b.0.sort b.1 && are_values symbols bs

abbrev pub of_facts : List (Fact ⊥) → List (Action ⊥) → List (Fact ⊥) → Bool → Result Instance Cause
of_facts premises actions conclusions sorted =
    Ok (record { facts = record { premises = premises; actions = actions; conclusions = conclusions }; sorted = sorted })

abbrev pub of_values : List Symbol → Rule → Option (List Bound) → Result Instance Cause
of_values symbols r None = Err no_instance
of_values symbols r (Some bs) = Ok (record { facts = facts_at (value_in bs) r.facts; sorted = are_values symbols bs })

abbrev pub of_rule : List Symbol → Option Rule → List (List ℕ × Ground) → Result Instance Cause
of_rule symbols None given = Err no_such_rule
of_rule symbols (Some r) given = of_values symbols r (bound_by r.variables given)

abbrev pub of_symbol : List Symbol → List ℕ → Grounds → Result Instance Cause
of_symbol symbols f ts =
    if any_public symbols f (count ts) then of_facts (known_all ts) [] (knows (app f ts) ∷ []) (all_over symbols ts) else Err no_such_rule

-- the instance of the step, or why there is none
abbrev pub instance_of : Signature → List Rule → Step → Result Instance Cause
instance_of signature rules (make_fresh t) = of_facts [] [] (fr t ∷ []) (is_value signature.symbols Fresh t)
instance_of signature rules (use_rule name given) = of_rule signature.symbols (rule_named name rules) given
instance_of signature rules (take_out t) = of_facts (out_of t ∷ []) [] (knows t ∷ []) (is_value signature.symbols Msg t)
instance_of signature rules (put_in t) = of_facts (knows t ∷ []) (sends t ∷ []) (in_of t ∷ []) (is_value signature.symbols Msg t)
instance_of signature rules (know_public t) = of_facts [] [] (knows t ∷ []) (is_value signature.symbols Pub t)
instance_of signature rules (make_own t) = of_facts (fr t ∷ []) [] (knows t ∷ []) (is_value signature.symbols Fresh t)
instance_of signature rules (apply_symbol f ts) = of_symbol signature.symbols f ts

abbrev pub is_made : Ground → List Ground → Bool
is_made t [] = false
is_made t (u ∷ us) = same_term u t || is_made t us

abbrev pub is_made_twice : Step → List Ground → Bool
is_made_twice (make_fresh t) made = is_made t made
is_made_twice step made = false

abbrev pub made_after : Step → List Ground → List Ground
made_after (make_fresh t) made = made ++ t ∷ []
made_after step made = made

-- an entry is added where there is an action
abbrev pub entries_after : List (Action ⊥) → List (List (Action ⊥)) → List (List (Action ⊥))
entries_after [] entries = entries
entries_after (a ∷ actions) entries = entries ++ (a ∷ actions) ∷ []

abbrev pub reached_after : Step → Facts ⊥ → List (Fact ⊥) → Reached → Reached
reached_after step facts rest before = record {
  facts = rest ++ facts.conclusions;
  made = made_after step before.made;
  entries = entries_after facts.actions before.entries;
}

-- when the premises were taken, or weren't there
abbrev pub by_rest : Step → Facts ⊥ → Bool → Reached → Option (List (Fact ⊥)) → Result Reached Cause
by_rest step facts sorted before None = Err premise_absent
by_rest step facts sorted before (Some rest) =
    if is_made_twice step before.made then Err fresh_name_twice
    else if sorted then Ok (reached_after step facts rest before)
    else Err wrong_sort

abbrev pub by_facts : Step → Facts ⊥ → Bool → Reached → Result Reached Cause
by_facts step facts sorted before = by_rest step facts sorted before (taken facts.premises before.facts)

abbrev pub by_instance : Signature → Step → Reached → Result Instance Cause → Result Reached Cause
by_instance signature step before (Err cause) = Err cause
by_instance signature step before (Ok i) = by_facts step (normal_facts signature.equations i.facts) i.sorted before

-- what is reached by the step, or the least cause why it can't be done
abbrev pub next : Signature → List Rule → Step → Reached → Result Reached Cause
next signature rules step before = by_instance signature step before (instance_of signature rules step)
