-- A rule none of whose forms has a conclusion of the premise's name gives no case: going over the others gives all.
use Rattle.std.proofs.Common.{◌≡◌, ℕ, suc, Bool, true, false, ◌&&◌, List, [], ◌∷◌, ◌++◌, map, Option, None, option_map, refl, ap, ◌∙◌, if◌then◌else◌}
use Rattle.std.proofs.lemmas.Bool.{or_parts}
use Rattle.std.specs.Str.{bytes_eq}
use Rattle.sp_spec.specs.Term.{Variable, Term}
use Rattle.sp_spec.specs.Rule.{Fact, fact_at}
use Rattle.sp_spec.specs.Substitution.{bound_to}
use Rattle.sp_spec.specs.Unifier.{Pair}
use Rattle.sp_spec_forms.specs.Alike.{same_flag}
use Rattle.sp_spec_forms.specs.Numbering.{Form}
use Rattle.sp_spec_forms.specs.Forms.{RuleForms}
use Rattle.sp_spec_system.specs.System.{System}
use Rattle.sp_spec_system.specs.Equating.{argument_pairs, unifier_of, system_changed}
use Rattle.sp_spec_system.specs.Cases.{system_if, named}
use Rattle.sp_spec_graph.specs.Premise.{with_source, by_conclusions, source_forms, by_each_source}
use Rattle.sp_moves.specs.Shifted.{shifted}
use Rattle.sp_book.specs.Book.{fact_names, given_names, has_name, is_named, givers, by_places}
use Rattle.sp_book.proofs.GoneBy.{Gives, all_gone_by}
use Rattle.sp_moves_graph.specs.PremiseRules.{by_source}

-- the systems in which two facts are one, where their names differ
other_name : (s : System) (b c : Bool) (pairs : Option (List Pair)) (rest : List System) → b ≡ false
    → system_if (option_map (λ bs. system_changed (bound_to bs) (λ i. i) s) (unifier_of (if b && c then pairs else None))) ++ rest ≡ rest
other_name s false c pairs rest e = refl
other_name s true c pairs rest e = absurd cc

none_gives : (s : System) (i p : ℕ) (f : Fact Variable) (name : List ℕ) (form : Form) (v : Variable → Term Variable) (k : ℕ) (gs : List (Fact Variable))
    → has_name f.symbol (fact_names gs) ≡ false → by_conclusions s i p f name form k (map (fact_at v) gs) ≡ []
none_gives s i p f name form v k [] e = refl
none_gives s i p f name form v k (g ∷ gs) e =
    let parts = or_parts (bytes_eq f.symbol g.symbol) (has_name f.symbol (fact_names gs)) e in
    other_name (with_source s i p name form k) (bytes_eq f.symbol g.symbol) (same_flag f.persistent g.persistent) (argument_pairs f.args (fact_at v g).args)
    (by_conclusions s i p f name form (suc k) (map (fact_at v) gs)) parts.0
    ∙ none_gives s i p f name form v (suc k) gs parts.1

none_of : (name : List ℕ) (forms : List Form) (s : System) (i p : ℕ) (f : Fact Variable) → is_named given_names f.symbol forms ≡ false → source_forms name forms s i p f ≡ []
none_of name [] s i p f e = refl
none_of name (form ∷ forms) s i p f e =
    let parts = or_parts (has_name f.symbol (given_names form)) (is_named given_names f.symbol forms) e in
    ap (λ (systems : List System). systems ++ source_forms name forms s i p f) (none_gives s i p f name form (shifted (suc s.next)) 0 form.facts.conclusions parts.0)
    ∙ none_of name forms s i p f parts.1

no_case : (r : RuleForms) (s : System) (i p : ℕ) (f : Fact Variable) → is_named given_names f.symbol r.forms ≡ false → by_source r s i p f ≡ []
no_case r s i p f e = ap (named r.name) (none_of r.name r.forms s i p f e)

pub none_left_out : (rules : List RuleForms) (s : System) (i p : ℕ) (f : Fact Variable)
    → by_places (λ r. by_source r s i p f) rules (givers f.symbol 0 rules) ≡ by_each_source rules s i p f
none_left_out rules s i p f =
    let gives = λ (r : RuleForms). by_source r s i p f in
    let each = λ (rs : List RuleForms). by_each_source rs s i p f in
    let law : Gives given_names f.symbol gives each = record { at_end = refl; on = λ r rest. refl; passed_over = λ r. no_case r s i p f } in
    all_gone_by law rules
