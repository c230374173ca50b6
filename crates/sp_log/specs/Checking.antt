-- The tests of a log that are about steps: whether an entry is an instance, where its premises come from, and whether what it uses is new. Lists of entries
-- have the oldest first here. Source of what is checked: CSF 2012, "Dependency graphs" (each node is an instance of a rule, each premise has one source, a linear fact
-- is taken once, and a fresh name is made once).
use Rattle.std.specs.Prelude.{ℕ, zero, Bool, true, false, not, ◌&&◌, ◌||◌, ◌==◌, List, [], ◌∷◌, ◌++◌, slice_get, Option, Some, None}
use Rattle.std.specs.Str.{bytes_eq}
use Rattle.std.specs.List.{list_all, list_any}
use Rattle.sp_spec.specs.Term.{Variable, Grounds}
use Rattle.sp_spec.specs.Same.{same_term, same_terms}
use Rattle.sp_spec.specs.Signature.{Equation, Signature}
use Rattle.sp_spec.specs.Rule.{Fact, Action, Facts, in_of}
use Rattle.sp_spec.specs.Log.{Source, fresh_rule, conclusion, Entry, step, send, learn, is_fr, fresh_uses, all_fresh_uses}
use Rattle.sp_spec_forms.specs.Numbering.{Form}
use Rattle.sp_spec_forms.specs.Reducible.{args_of}
use Rattle.sp_spec_forms.specs.Forms.{RuleForms}
use Rattle.sp_law_equal.specs.Matching.{Bound, has_sort}
use Rattle.sp_law_equal.specs.Normal.{normal_all}
use Rattle.sp_law_run.specs.Taken.{same_choice, same_fact}
use Rattle.sp_law_log_steps.specs.Found.{matched_instance}
use Rattle.sp_norm.specs.Over.{over}

-- each term is its own normal form
abbrev pub stay : List Equation → Grounds → Bool
stay es ts = same_terms (normal_all es ts) ts

-- each term of the facts is
abbrev pub are_in_normal_form : List Equation → Facts ⊥ → Bool
are_in_normal_form es facts = list_all (stay es) (args_of facts)

-- a value of its variable's sort, over the signature's symbols
abbrev pub is_value : Signature → Bound → Bool
is_value signature b = has_sort b.0.sort b.1 && over signature.symbols b.1

abbrev pub are_values : Signature → List Bound → Bool
are_values signature [] = true
are_values signature (b ∷ bs) = is_value signature b && are_values signature bs

abbrev pub give_values : Signature → Option (List Bound) → Bool
give_values signature None = false
give_values signature (Some bs) = are_values signature bs

-- facts of the same names, linear or persistent alike, one beside each
abbrev pub alike_facts : List (Fact Variable) → List (Fact ⊥) → Bool
alike_facts [] [] = true
alike_facts (f ∷ fs) (g ∷ gs) = (bytes_eq f.symbol g.symbol && same_choice f.persistent g.persistent) && alike_facts fs gs
alike_facts _ _ = false

abbrev pub alike_actions : List (Action Variable) → List (Action ⊥) → Bool
alike_actions [] [] = true
alike_actions (a ∷ xs) (b ∷ ys) = bytes_eq a.symbol b.symbol && alike_actions xs ys
alike_actions _ _ = false

abbrev pub are_alike : Facts Variable → Facts ⊥ → Bool
are_alike p f = alike_facts p.premises f.premises && (alike_actions p.actions f.actions && alike_facts p.conclusions f.conclusions)

-- the facts are an instance of the form, by the values that they give to its variables
abbrev pub is_instance : Signature → Form → Facts ⊥ → Bool
is_instance signature form facts = are_alike form.facts facts && give_values signature (matched_instance form.facts facts)

-- they are one of some form of a rule of that name
abbrev pub is_instance_of_any : Signature → List RuleForms → List ℕ → Facts ⊥ → Bool
is_instance_of_any signature [] r facts = false
is_instance_of_any signature (rule ∷ rules) r facts =
    (bytes_eq rule.name r && list_any (λ (form : Form). is_instance signature form facts) rule.forms) || is_instance_of_any signature rules r facts

-- a step is an instance, in normal form, of a rule of its name
abbrev pub step_is_instance : Signature → List RuleForms → Entry → Bool
step_is_instance signature rules (step r facts sources) = are_in_normal_form signature.equations facts && is_instance_of_any signature rules r facts
step_is_instance signature rules e = true

abbrev pub is_fact : Option (Fact ⊥) → Fact ⊥ → Bool
is_fact None f = false
is_fact (Some g) f = same_fact g f

-- the entry, if there is one, gives the fact as its conclusion of that place
abbrev pub concludes : Option Entry → ℕ → Fact ⊥ → Bool
concludes (Some (step r facts sources)) k f = is_fact (slice_get facts.conclusions k) f
concludes (Some (send m)) k f = (k == zero) && same_fact f (in_of m)
concludes (Some (learn m how)) k f = false
concludes None k f = false

-- a premise has its source in what came earlier
abbrev pub has_source : Fact ⊥ → Source → List Entry → Bool
has_source f fresh_rule earlier = is_fr f
has_source f (conclusion p k) earlier = not (is_fr f) && concludes (slice_get earlier p) k f

abbrev pub have_sources : List (Fact ⊥) → List Source → List Entry → Bool
have_sources [] [] earlier = true
have_sources (f ∷ fs) (o ∷ sources) earlier = has_source f o earlier && have_sources fs sources earlier
have_sources _ _ earlier = false

abbrev pub same_source : Source → Source → Bool
same_source fresh_rule fresh_rule = true
same_source (conclusion p k) (conclusion q j) = (p == q) && (k == j)
same_source _ _ = false

-- by a test of sameness: whether it is one of these
abbrev pub is_one_of : {A : Type 0} → (A → A → Bool) → List A → A → Bool
is_one_of same [] x = false
is_one_of same (y ∷ ys) x = same y x || is_one_of same ys x

-- whether none of them is one of those before, and none of them stands there twice
abbrev pub are_new : {A : Type 0} → (A → A → Bool) → List A → List A → Bool
are_new same before [] = true
are_new same before (x ∷ xs) = not (is_one_of same before x) && are_new same (before ++ x ∷ []) xs

-- no fresh name is used twice
abbrev pub names_are_new : Entry → List Entry → Bool
names_are_new e earlier = are_new same_term (all_fresh_uses earlier) (fresh_uses e)
