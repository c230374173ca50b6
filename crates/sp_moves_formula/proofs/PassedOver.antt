-- A rule none of whose forms has an action of the name that is looked for gives no case: going over the others gives all.
use Rattle.std.proofs.Common.{◌≡◌, ℕ, Bool, true, false, List, [], ◌∷◌, ◌++◌, map, Option, None, option_map, refl, ap, ◌∙◌, if◌then◌else◌}
use Rattle.std.specs.Str.{bytes_eq}
use Rattle.sp_spec.specs.Term.{Variable, Term}
use Rattle.sp_spec.specs.Rule.{Action, action_at}
use Rattle.sp_spec.specs.Substitution.{bound_to}
use Rattle.sp_spec.specs.Unifier.{Pair}
use Rattle.sp_spec_system.specs.System.{System}
use Rattle.sp_spec_system.specs.Equating.{argument_pairs, unifier_of, system_changed}
use Rattle.sp_spec_formula.specs.Action.{by_actions, with_step, by_forms, by_each}
use Rattle.sp_spec_system.specs.Cases.{system_if, named}
use Rattle.sp_moves_formula.specs.Sought.{by_rule}
use Rattle.sp_moves.specs.Shifted.{shifted}
use Rattle.sp_book.specs.Book.{action_names, shown_names, has_name, is_named, places, by_places}
use Rattle.sp_book.proofs.GoneBy.{Gives, all_gone_by}
use Rattle.sp_spec_forms.specs.Numbering.{Form}
use Rattle.sp_spec_forms.specs.Forms.{RuleForms}
use Rattle.std.proofs.lemmas.Bool.{or_parts}

-- the systems in which two actions are one, where their names differ
other_name : (s : System) (b : Bool) (pairs : Option (List Pair)) (rest : List System) → b ≡ false
    → system_if (option_map (λ bs. system_changed (bound_to bs) (λ i. i) s) (unifier_of (if b then pairs else None))) ++ rest ≡ rest
other_name s false pairs rest e = refl
other_name s true pairs rest e = absurd cc

none_acts : (s : System) (a : Action Variable) (v : Variable → Term Variable) (actions : List (Action Variable)) → has_name a.symbol (action_names actions) ≡ false
    → by_actions s a (map (action_at v) actions) ≡ []
none_acts s a v [] e = refl
none_acts s a v (b ∷ actions) e =
    let parts = or_parts (bytes_eq a.symbol b.symbol) (has_name a.symbol (action_names actions)) e in
    other_name s (bytes_eq a.symbol b.symbol) (argument_pairs a.args (action_at v b).args) (by_actions s a (map (action_at v) actions)) parts.0
    ∙ none_acts s a v actions parts.1

none_of : (name : List ℕ) (forms : List Form) (s : System) (i : ℕ) (a : Action Variable) → is_named shown_names a.symbol forms ≡ false → by_forms name forms s i a ≡ []
none_of name [] s i a e = refl
none_of name (form ∷ forms) s i a e =
    let parts = or_parts (has_name a.symbol (shown_names form)) (is_named shown_names a.symbol forms) e in
    ap (λ (systems : List System). systems ++ by_forms name forms s i a) (none_acts (with_step s i name form) a (shifted s.next) form.facts.actions parts.0)
    ∙ none_of name forms s i a parts.1

no_case : (r : RuleForms) (s : System) (i : ℕ) (a : Action Variable) → is_named shown_names a.symbol r.forms ≡ false → by_rule r s i a ≡ []
no_case r s i a e = ap (named r.name) (none_of r.name r.forms s i a e)

pub none_left_out : (rules : List RuleForms) (s : System) (i : ℕ) (a : Action Variable) → by_places (λ r. by_rule r s i a) rules (places a.symbol 0 rules) ≡ by_each rules s i a
none_left_out rules s i a =
    let gives = λ (r : RuleForms). by_rule r s i a in
    let each = λ (rs : List RuleForms). by_each rs s i a in
    let law : Gives shown_names a.symbol gives each = record { at_end = refl; on = λ r rest. refl; passed_over = λ r. no_case r s i a } in
    all_gone_by law rules
