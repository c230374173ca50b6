-- The rules of a proof, with the places of those a form of which has an action, or a conclusion, of a name.
use Rattle.std.specs.Prelude.{ℕ, suc, ◌==◌, ◌-◌, Bool, false, ◌||◌, List, [], ◌∷◌, ◌++◌, map, length, Option, Some, None, if◌then◌else◌, slice_get, String, bytes_eq}
use Rattle.std.specs.List.{list_any}
use Rattle.std.specs.Option.{option_map_or}
use Rattle.std.specs.BTreeMap.{BTreeMap, get_by_text}
use Rattle.std.specs.declared.vec.Vec.{Vec}
use Rattle.sp_spec.specs.Term.{Variable}
use Rattle.sp_spec.specs.Rule.{Fact, Action}
use Rattle.sp_spec_forms.specs.Numbering.{Form}
use Rattle.sp_spec_forms.specs.Forms.{RuleForms}

abbrev pub action_names : List (Action Variable) → List (List ℕ)
action_names actions = map (λ a. a.symbol) actions

abbrev pub fact_names : List (Fact Variable) → List (List ℕ)
fact_names facts = map (λ f. f.symbol) facts

-- the names of a form's actions
abbrev pub shown_names : Form → List (List ℕ)
shown_names form = action_names form.facts.actions

-- the names of a form's conclusions
abbrev pub given_names : Form → List (List ℕ)
given_names form = fact_names form.facts.conclusions

-- one of the names is this one
abbrev pub has_name : List ℕ → List (List ℕ) → Bool
has_name symbol [] = false
has_name symbol (name ∷ names) = bytes_eq symbol name || has_name symbol names

-- one of the names that the forms have is this one
abbrev pub is_named : (Form → List (List ℕ)) → List ℕ → List Form → Bool
is_named names symbol forms = list_any (λ form. has_name symbol (names form)) forms

-- the places of the rules a form of which has this name, counted from here on
abbrev pub places_by : (Form → List (List ℕ)) → List ℕ → ℕ → List RuleForms → List ℕ
places_by names symbol here [] = []
places_by names symbol here (r ∷ rules) =
    if is_named names symbol r.forms then here ∷ places_by names symbol (suc here) rules else places_by names symbol (suc here) rules

-- the places of the rules a form of which has an action of this name
abbrev pub places : List ℕ → ℕ → List RuleForms → List ℕ
places symbol here rules = places_by shown_names symbol here rules

-- the places of the rules a form of which has a conclusion of this name
abbrev pub givers : List ℕ → ℕ → List RuleForms → List ℕ
givers symbol here rules = places_by given_names symbol here rules

-- the places that the map has under a name
abbrev pub listed : {A B : Type 0} → BTreeMap (String A) (Vec ℕ B) → List ℕ → List ℕ
listed m symbol = option_map_or (λ v. v.items) (get_by_text m symbol) []

abbrev pub last_is : ℕ → Option ℕ → Bool
last_is here None = false
last_is here (Some p) = p == here

-- the places with this one at their end, once
abbrev pub noted : ℕ → List ℕ → List ℕ
noted here ps = if last_is here (slice_get ps (length ps - 1)) then ps else ps ++ here ∷ []

-- the places once these names of the rule here are gone over
abbrev pub noted_each : ℕ → List ℕ → List (List ℕ) → List ℕ → List ℕ
noted_each here symbol [] ps = ps
noted_each here symbol (name ∷ names) ps = noted_each here symbol names (if bytes_eq symbol name then noted here ps else ps)

-- the places once these forms of the rule here are gone over
abbrev pub noted_forms : (Form → List (List ℕ)) → ℕ → List ℕ → List Form → List ℕ → List ℕ
noted_forms names here symbol [] ps = ps
noted_forms names here symbol (form ∷ forms) ps = noted_forms names here symbol forms (noted_each here symbol (names form) ps)

-- what the rule that is found gives
abbrev pub by_found : {C : Type 0} → (RuleForms → List C) → Option RuleForms → List C
by_found gives None = []
by_found gives (Some r) = gives r

-- what the rules at these places give
abbrev pub by_places : {C : Type 0} → (RuleForms → List C) → List RuleForms → List ℕ → List C
by_places gives rules [] = []
by_places gives rules (p ∷ ps) = by_found gives (slice_get rules p) ++ by_places gives rules ps
