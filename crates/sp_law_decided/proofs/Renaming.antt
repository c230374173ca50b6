-- What a renaming that leads from the values of variables to others makes of terms, chains and facts without other names than the constants.
use Rattle.std.proofs.Common.{◌≡◌, ℕ, List, [], ◌∷◌, map}
use Rattle.sp_spec.specs.Lists.{Every}
use Rattle.sp_spec.proofs.Lists.{every_parts, every_both}
use Rattle.sp_spec.proofs.Occurrences.{term_each, occurrences_each}
use Rattle.sp_spec.specs.Term.{any_names, Variable, Term, Values, valued, in_term, MadeOf}
use Rattle.sp_spec.specs.Rule.{Fact, Action, Facts, facts_at, occurrences, FactsMadeOf}
use Rattle.sp_spec_system.specs.Numbered.{names_in}
use Rattle.sp_spec_solved.specs.Naming.{in_chain}
use Rattle.sp_law_equal.proofs.Made.{made_both, all_made_both}
use Rattle.sp_law_exchange.specs.Laws.{any_variable}
use Rattle.sp_law_exchange.specs.Renaming.{Renaming, renamed, facts_renamed, kept_by}
use Rattle.sp_law_exchange.proofs.Terms.{valued_renamed}
use Rattle.sp_law_exchange.proofs.Logs.{facts_values, chain_values}
use Rattle.sp_law_exchange.proofs.Names.{term_names, facts_names, listed_kept}

module _ (constants : List (List ℕ)) (r : Renaming) (stay : Every (λ c. r.public c ≡ c) constants) (v w : Values) where
  -- the renaming leads from the one value to the other
  abbrev pub Leads : Variable → Type 0
  Leads x = renamed r (v x) ≡ w x

  term_kept : (t : Term Variable) → MadeOf (names_in constants) any_variable t → Every Leads (in_term t) → MadeOf (kept_by r) Leads t
  term_kept t m h =
      made_both (kept_by r) any_names Leads t (term_names (names_in constants) (kept_by r) (listed_kept r constants stay) any_variable any_variable (λ x p. p) t m)
      (term_each Leads t h)

  pub term_renamed : (t : Term Variable) → MadeOf (names_in constants) any_variable t → Every Leads (in_term t) → renamed r (valued v t) ≡ valued w t
  term_renamed t m h = valued_renamed r Leads v w (λ x e. e) t (term_kept t m h)

  chain_kept : (ts : List (Term Variable)) → Every (MadeOf (names_in constants) any_variable) ts → Every Leads (in_chain ts) → Every (MadeOf (kept_by r) Leads) ts
  chain_kept [] m h = tt
  chain_kept (t ∷ ts) m h = let both = every_parts Leads (in_term t) (in_chain ts) h in (term_kept t m.0 both.0, chain_kept ts m.1 both.1)

  pub chain_renamed : (ts : List (Term Variable)) → Every (MadeOf (names_in constants) any_variable) ts → Every Leads (in_chain ts) → map (renamed r) (map (valued v) ts) ≡ map (valued w) ts
  chain_renamed ts m h = chain_values r Leads v w (λ x e. e) ts (chain_kept ts m h)

  step_kept : (facts : Facts Variable) → FactsMadeOf (names_in constants) any_variable facts → Every Leads (occurrences facts) → FactsMadeOf (kept_by r) Leads facts
  step_kept facts m h =
      let names = facts_names (names_in constants) (kept_by r) (listed_kept r constants stay) any_variable any_variable (λ x p. p) facts m in
      let each = occurrences_each Leads facts h in
      record {
        premises = every_both _ _ _ (λ (f : Fact Variable) a b. all_made_both (kept_by r) any_names Leads f.args a b) facts.premises names.premises each.premises;
        actions = every_both _ _ _ (λ (x : Action Variable) a b. all_made_both (kept_by r) any_names Leads x.args a b) facts.actions names.actions each.actions;
        conclusions = every_both _ _ _ (λ (f : Fact Variable) a b. all_made_both (kept_by r) any_names Leads f.args a b) facts.conclusions names.conclusions each.conclusions;
      }

  pub step_renamed : (facts : Facts Variable) → FactsMadeOf (names_in constants) any_variable facts → Every Leads (occurrences facts) → facts_renamed r (facts_at v facts) ≡ facts_at w facts
  step_renamed facts m h = facts_values r Leads v w (λ x e. e) facts (step_kept facts m h)
