-- Gathering the variables of facts.
use Rattle.std.proofs.Common.{◌≡◌, List, ◌++◌, length, ℕ, false, refl, ap, sym, ◌∙◌}
use Rattle.std.proofs.lemmas.List.{append_assoc}
use Rattle.sp_spec.specs.Rule.{Fact, Action}
use Rattle.sp_spec.specs.Formula.{Written}
use Rattle.sp_spec.specs.Written.{in_facts, in_actions, is_argument}
use Rattle.sp_spec.specs.Term.{var, constant, name, app, Terms, none, more, count}
use Rattle.sp_term.specs.declared.term.Term.{Term}
use Rattle.sp_read_parts.specs.declared.written.WrittenVariable.{WrittenVariable}
use Rattle.sp_read_parts.specs.Views.{terms}
use Rattle.sp_finding.proofs.Counted.{counted}

-- what is gathered from premises, then actions, then conclusions
pub gathered : (ps : List (Fact Written)) (as' : List (Action Written)) (cs : List (Fact Written)) (a b c : List Written) → a ≡ in_facts ps → b ≡ a ++ in_actions as'
    → c ≡ b ++ in_facts cs → c ≡ in_facts ps ++ (in_actions as' ++ in_facts cs)
gathered ps as' cs a b c e f g = g ∙ ap (λ xs. xs ++ in_facts cs) (f ∙ ap (λ xs. xs ++ in_actions as') e) ∙ append_assoc (in_facts ps) (in_actions as') (in_facts cs)

-- with another number of arguments there is not the one
not_counted : (x : List ℕ) (ts : Terms Written) → (count ts ≡ 1 → ⊥) → is_argument x ts ≡ false
not_counted x none h = refl
not_counted x (more t none) h = absurd (h refl)
not_counted x (more (var y) (more u ts)) h = refl
not_counted x (more (constant c) (more u ts)) h = refl
not_counted x (more (name n) (more u ts)) h = refl
not_counted x (more (app f xs) (more u ts)) h = refl

pub not_one : (x : List ℕ) (ts : List (Term WrittenVariable)) → (length ts ≡ 1 → ⊥) → is_argument x (terms ts) ≡ false
not_one x ts h = not_counted x (terms ts) (λ e. h (sym (counted ts) ∙ e))
