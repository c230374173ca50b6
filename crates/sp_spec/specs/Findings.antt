-- What is wrong with a written rule though its grammar is right: the fatal findings on its facts, its actions and its variables. Source:
-- Tamarin manual, "Checking well-formedness" and "Built-in facts" (which facts are reserved).
use Rattle.std.specs.Prelude.{ℕ, Bool, true, false, ◌&&◌, ◌||◌, nat_lt, not, List, [], ◌∷◌, codes}
use Rattle.std.specs.Str.{bytes_eq}
use Rattle.sp_spec.specs.Term.{Sort, Msg, Fresh, Pub, var, Terms, none, more, count}
use Rattle.sp_spec.specs.Rule.{Fact, Action, Facts}
use Rattle.sp_spec.specs.Formula.{Mark, bare, of_sort, of_time, Written}
use Rattle.sp_spec.specs.Written.{WrittenRule, in_facts, in_actions, occurrences, is_fr_argument, sort_in}

-- more than sixteen arguments
abbrev pub is_wide : {V : Type 0} → Terms V → Bool
is_wide ts = nat_lt 16 (count ts)

abbrev pub has_wide_fact : List (Fact Written) → Bool
has_wide_fact [] = false
has_wide_fact (f ∷ fs) = is_wide f.args || has_wide_fact fs

abbrev pub has_wide_action : List (Action Written) → Bool
has_wide_action [] = false
has_wide_action (a ∷ rest) = is_wide a.args || has_wide_action rest

-- The mark agrees with the sort that the variable has in the rule. What is fresh by a premise Fr may be written without its mark;
-- a time point has no place in a rule.
abbrev pub agrees : Bool → Sort → Mark → Bool
agrees by_fr sort of_time = false
agrees by_fr Fresh (of_sort Fresh) = true
agrees by_fr Fresh (of_sort Msg) = by_fr
agrees by_fr Fresh (of_sort Pub) = false
agrees by_fr Fresh bare = by_fr
agrees by_fr Pub (of_sort Pub) = true
agrees by_fr Pub (of_sort Fresh) = false
agrees by_fr Pub (of_sort Msg) = false
agrees by_fr Pub bare = false
agrees by_fr Msg (of_sort Msg) = true
agrees by_fr Msg bare = true
agrees by_fr Msg (of_sort Fresh) = false
agrees by_fr Msg (of_sort Pub) = false

abbrev pub has_two_sorts : Facts Written → List Written → Bool
has_two_sorts facts [] = false
has_two_sorts facts (x ∷ xs) = not (agrees (is_fr_argument x.name facts.premises) (sort_in facts x.name) x.mark) || has_two_sorts facts xs

abbrev pub is_fr_named : Fact Written → Bool
is_fr_named f = bytes_eq f.symbol (codes "Fr")

abbrev pub is_one : {V : Type 0} → Terms V → Bool
is_one (more t none) = true
is_one ts = false

-- facts that rules and the built-in rules share: they are linear, and have one argument
unfoldable pub is_shared : List ℕ → Bool
is_shared w = bytes_eq w (codes "Fr") || bytes_eq w (codes "In") || bytes_eq w (codes "Out")

abbrev pub is_misused : Fact Written → Bool
is_misused f = is_shared f.symbol && (f.persistent || not (is_one f.args))

-- what the built-in rules alone take, and what only definitions of them name
unfoldable pub is_no_premise : List ℕ → Bool
is_no_premise w = bytes_eq w (codes "Out") || bytes_eq w (codes "K") || bytes_eq w (codes "KU") || bytes_eq w (codes "KD")

-- what they alone show
unfoldable pub is_no_action : List ℕ → Bool
is_no_action w = bytes_eq w (codes "K") || bytes_eq w (codes "KU") || bytes_eq w (codes "KD")

-- what they alone add
unfoldable pub is_no_conclusion : List ℕ → Bool
is_no_conclusion w = bytes_eq w (codes "In") || bytes_eq w (codes "Fr") || bytes_eq w (codes "K") || bytes_eq w (codes "KU") || bytes_eq w (codes "KD")

abbrev pub is_wrong_premise : Fact Written → Bool
is_wrong_premise f = is_no_premise f.symbol || is_misused f

abbrev pub is_wrong_conclusion : Fact Written → Bool
is_wrong_conclusion f = is_no_conclusion f.symbol || is_misused f

abbrev pub has_wrong_premise : List (Fact Written) → Bool
has_wrong_premise [] = false
has_wrong_premise (f ∷ fs) = is_wrong_premise f || has_wrong_premise fs

abbrev pub has_wrong_action : List (Action Written) → Bool
has_wrong_action [] = false
has_wrong_action (a ∷ rest) = is_no_action a.symbol || has_wrong_action rest

abbrev pub has_wrong_conclusion : List (Fact Written) → Bool
has_wrong_conclusion [] = false
has_wrong_conclusion (f ∷ fs) = is_wrong_conclusion f || has_wrong_conclusion fs

-- the argument of Fr is a variable of sort fresh or msg
abbrev pub may_be_fresh : Mark → Bool
may_be_fresh bare = true
may_be_fresh (of_sort Fresh) = true
may_be_fresh (of_sort Msg) = true
may_be_fresh (of_sort Pub) = false
may_be_fresh of_time = false

abbrev pub is_fresh_variable : Terms Written → Bool
is_fresh_variable (more (var x) none) = may_be_fresh x.mark
is_fresh_variable ts = false

abbrev pub has_wrong_argument : List (Fact Written) → Bool
has_wrong_argument [] = false
has_wrong_argument (f ∷ fs) = (is_fr_named f && is_one f.args && not (is_fresh_variable f.args)) || has_wrong_argument fs

-- a variable of an action or a conclusion that isn't of sort pub stands in a premise
abbrev pub is_named : List ℕ → List Written → Bool
is_named x [] = false
is_named x (y ∷ ys) = bytes_eq y.name x || is_named x ys

abbrev pub is_pub : Sort → Bool
is_pub Pub = true
is_pub sort = false

abbrev pub has_unbound : Facts Written → List Written → Bool
has_unbound facts [] = false
has_unbound facts (x ∷ xs) = (not (is_pub (sort_in facts x.name)) && not (is_named x.name (in_facts facts.premises))) || has_unbound facts xs

abbrev pub rule_is_wrong : WrittenRule → Bool
rule_is_wrong r =
    (has_wide_fact r.facts.premises || (has_wide_action r.facts.actions || has_wide_fact r.facts.conclusions))
    || (has_two_sorts r.facts (occurrences r.facts)
    || (has_wrong_premise r.facts.premises || (has_wrong_action r.facts.actions || (has_wrong_conclusion r.facts.conclusions
    || (has_wrong_argument r.facts.premises
    || (has_unbound r.facts (in_actions r.facts.actions) || has_unbound r.facts (in_facts r.facts.conclusions)))))))
