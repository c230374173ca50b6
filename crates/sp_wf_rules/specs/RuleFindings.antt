-- The findings on a rule, each where its condition holds, over premises, actions and conclusions from left to right. Source: Tamarin manual,
-- "Checking well-formedness", "Built-in facts" and "Model specification using rules" (Fr facts, sorts of variables).
use Rattle.std.specs.Prelude.{ℕ, Bool, false, ◌&&◌, ◌||◌, not, if◌then◌else◌, List, [], ◌∷◌, ◌++◌}
use Rattle.std.specs.Str.{bytes_eq}
use Rattle.sp_spec.specs.Term.{Sort, Msg, Fresh, var, Terms, none, more}
use Rattle.sp_spec.specs.Rule.{Fact, Action, Facts}
use Rattle.sp_spec.specs.Formula.{Mark, bare, of_sort, of_time, Written}
use Rattle.sp_spec.specs.Written.{WrittenRule, in_facts, in_actions, occurrences}
use Rattle.sp_spec.specs.Findings.{is_wide, agrees, is_fr_named, is_one, is_no_action, is_wrong_premise, is_wrong_conclusion, may_be_fresh, is_fresh_variable, is_named, is_pub}
use Rattle.sp_spec.specs.Signature.{Symbol, Equation}
use Rattle.sp_finding.specs.Finding.{Finding, arity_above, two_sorts, reserved, fr_argument, destructor_in_premise, in_no_premise, told}
use Rattle.sp_finding.specs.TermFindings.{unknown_in_all, have_destructor}

-- symbols that aren't there
abbrev pub unknown_in_facts : List Symbol → List (Fact Written) → List Finding
unknown_in_facts symbols [] = []
unknown_in_facts symbols (f ∷ fs) = unknown_in_all symbols f.args ++ unknown_in_facts symbols fs

abbrev pub unknown_in_actions : List Symbol → List (Action Written) → List Finding
unknown_in_actions symbols [] = []
unknown_in_actions symbols (a ∷ rest) = unknown_in_all symbols a.args ++ unknown_in_actions symbols rest

abbrev pub unknown_in_rule : List Symbol → WrittenRule → List Finding
unknown_in_rule symbols r = unknown_in_facts symbols r.facts.premises ++ (unknown_in_actions symbols r.facts.actions ++ unknown_in_facts symbols r.facts.conclusions)

-- a fact or an action of more than sixteen arguments
abbrev pub wide_facts : List (Fact Written) → List Finding
wide_facts [] = []
wide_facts (f ∷ fs) = told (is_wide f.args) (arity_above f.symbol) (wide_facts fs)

abbrev pub wide_actions : List (Action Written) → List Finding
wide_actions [] = []
wide_actions (a ∷ rest) = told (is_wide a.args) (arity_above a.symbol) (wide_actions rest)

abbrev pub wide_in_rule : WrittenRule → List Finding
wide_in_rule r = wide_facts r.facts.premises ++ (wide_actions r.facts.actions ++ wide_facts r.facts.conclusions)

-- The sort of a variable, which is known by its name alone: fresh beside a right premise Fr, or else that of its first mark.
abbrev pub makes_fresh : List ℕ → Terms Written → Bool
makes_fresh x (more (var y) none) = bytes_eq y.name x && may_be_fresh y.mark
makes_fresh x ts = false

abbrev pub is_made_fresh : List ℕ → List (Fact Written) → Bool
is_made_fresh x [] = false
is_made_fresh x (f ∷ fs) = (is_fr_named f && (not f.persistent && makes_fresh x f.args)) || is_made_fresh x fs

abbrev pub first_mark : List ℕ → List Written → Mark
first_mark x [] = bare
first_mark x (y ∷ ys) = if bytes_eq y.name x then y.mark else first_mark x ys

abbrev pub sort_of_mark : Mark → Sort
sort_of_mark bare = Msg
sort_of_mark (of_sort sort) = sort
sort_of_mark of_time = Msg

abbrev pub first_sort : Facts Written → List ℕ → Sort
first_sort facts x = if is_made_fresh x facts.premises then Fresh else sort_of_mark (first_mark x (occurrences facts))

-- it stands somewhere with another sort, or as a time
abbrev pub stands_otherwise : Bool → Sort → List ℕ → List Written → Bool
stands_otherwise by_fr sort x [] = false
stands_otherwise by_fr sort x (y ∷ ys) = (bytes_eq y.name x && not (agrees by_fr sort y.mark)) || stands_otherwise by_fr sort x ys

abbrev pub has_other_mark : Facts Written → List ℕ → Bool
has_other_mark facts x = stands_otherwise (is_made_fresh x facts.premises) (first_sort facts x) x (occurrences facts)

abbrev pub two_sorted : List ℕ → Facts Written → List Written → List Finding
two_sorted r facts [] = []
two_sorted r facts (x ∷ xs) = told (has_other_mark facts x.name) (two_sorts r x.name) (two_sorted r facts xs)

abbrev pub sorts_in_rule : WrittenRule → List Finding
sorts_in_rule r = two_sorted r.name r.facts (occurrences r.facts)

-- what is reserved, and what rules share with the built-in rules and is persistent or hasn't one argument
abbrev pub wrong_premises : List ℕ → List (Fact Written) → List Finding
wrong_premises r [] = []
wrong_premises r (f ∷ fs) = told (is_wrong_premise f) (reserved r f.symbol) (wrong_premises r fs)

abbrev pub wrong_actions : List ℕ → List (Action Written) → List Finding
wrong_actions r [] = []
wrong_actions r (a ∷ rest) = told (is_no_action a.symbol) (reserved r a.symbol) (wrong_actions r rest)

abbrev pub wrong_conclusions : List ℕ → List (Fact Written) → List Finding
wrong_conclusions r [] = []
wrong_conclusions r (f ∷ fs) = told (is_wrong_conclusion f) (reserved r f.symbol) (wrong_conclusions r fs)

abbrev pub reserved_in_rule : WrittenRule → List Finding
reserved_in_rule r = wrong_premises r.name r.facts.premises ++ (wrong_actions r.name r.facts.actions ++ wrong_conclusions r.name r.facts.conclusions)

-- the argument of a linear Fr of one argument is a variable of sort fresh or msg
abbrev pub wrong_arguments : List ℕ → List (Fact Written) → List Finding
wrong_arguments r [] = []
wrong_arguments r (f ∷ fs) = told (is_fr_named f && (not f.persistent && (is_one f.args && not (is_fresh_variable f.args)))) (fr_argument r) (wrong_arguments r fs)

abbrev pub arguments_in_rule : WrittenRule → List Finding
arguments_in_rule r = wrong_arguments r.name r.facts.premises

-- a destructor stands in a premise
abbrev pub facts_have_destructor : {V : Type 0} → List Equation → List (Fact V) → Bool
facts_have_destructor es [] = false
facts_have_destructor es (f ∷ fs) = have_destructor es f.args || facts_have_destructor es fs

abbrev pub destructors_in_rule : List Equation → WrittenRule → List Finding
destructors_in_rule es r = told (facts_have_destructor es r.facts.premises) (destructor_in_premise r.name) []

-- a variable of an action or a conclusion that isn't of sort pub stands in a premise
abbrev pub unbound : List ℕ → Facts Written → List Written → List Finding
unbound r facts [] = []
unbound r facts (x ∷ xs) = told (not (is_pub (first_sort facts x.name)) && not (is_named x.name (in_facts facts.premises))) (in_no_premise r x.name) (unbound r facts xs)

abbrev pub unbound_in_rule : WrittenRule → List Finding
unbound_in_rule r = unbound r.name r.facts (in_actions r.facts.actions) ++ unbound r.name r.facts (in_facts r.facts.conclusions)
