-- What narrowing begins with: a number above those of a rule's variables, and these as a list.
use Rattle.std.proofs.Common.{◌≡◌, ℕ, suc, ◌+◌, List, [], ◌∷◌, ◌++◌, map, length, refl, sym, ap, ap₂, ◌∙◌, arith}
use Rattle.sp_spec.specs.Term.{Variable, Term, var, Terms, more}
use Rattle.sp_spec.specs.Rule.{Declared, Rule}
use Rattle.sp_term.specs.View.{terms_of}
use Rattle.sp_spec_forms.specs.Forms.{above_each, rule_variables, start}

above_both : (tss uss : List (Terms Variable)) → above_each (tss ++ uss) ≡ above_each tss + above_each uss
above_both [] uss = omega arith
above_both (ts ∷ tss) uss = let more : above_each (tss ++ uss) ≡ above_each tss + above_each uss = above_both tss uss in omega arith

-- the number of variables, what stands above those of premises, actions and conclusions, and the sums of these
pub started : (rule : Rule) (k p a c behind all n : ℕ) → k ≡ length rule.variables → p ≡ above_each (map (λ f. f.args) rule.facts.premises) → a ≡ above_each (map (λ f. f.args) rule.facts.actions)
    → c ≡ above_each (map (λ f. f.args) rule.facts.conclusions) → behind ≡ a + c → all ≡ p + behind → n ≡ k + all → n ≡ start rule
started rule k p a c behind all n ek ep ea ec eb el en =
    let ps = map (λ f. f.args) rule.facts.premises in
    let as' = map (λ f. f.args) rule.facts.actions in
    let cs = map (λ f. f.args) rule.facts.conclusions in
    let later : c ≡ above_each cs → behind ≡ above_each (as' ++ cs) = λ e. eb ∙ ap₂ (λ x y. x + y) ea e ∙ sym (above_both as' cs) in
    let whole : all ≡ above_each (ps ++ (as' ++ cs)) = el ∙ ap₂ (λ x y. x + y) ep (later ec) ∙ sym (above_both ps (as' ++ cs)) in
    en ∙ ap₂ (λ x y. x + y) ek whole

abbrev pub variables_from : ℕ → List Declared → List (Term Variable)
variables_from k [] = []
variables_from k (x ∷ xs) = var (record { sort = x.sort; number = k }) ∷ variables_from (suc k) xs

pub variables_listed : (k : ℕ) (xs : List Declared) → terms_of (variables_from k xs) ≡ rule_variables k xs
variables_listed k [] = refl
variables_listed k (x ∷ xs) = ap (more (var (record { sort = x.sort; number = k }))) (variables_listed (suc k) xs)
