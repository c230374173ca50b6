-- The variables of facts and terms, each once.
use Rattle.std.proofs.Common.{◌≡◌, ℕ, List, [], ◌∷◌, ◌++◌, length, append_assoc, refl, sym, ap, ap₂, ◌∙◌}
use Rattle.std.specs.List.{flat_map}
use Rattle.sp_spec.specs.Term.{Variable, Terms, valued_all, in_terms}
use Rattle.sp_spec.specs.Same.{same_variable}
use Rattle.sp_spec.specs.Rule.{Fact, Action, Facts, facts_at, in_facts, in_actions, occurrences}
use Rattle.sp_spec.proofs.Same.{same_variable_decides}
use Rattle.sp_spec_forms.specs.Numbering.{Form, seen, renumbered, numbered, without_repeats}
use Rattle.sp_variant.specs.Adding.{added_after}
use Rattle.sp_variant.proofs.Adding.{added_both, added_to_none}

of_facts : (fs : List (Fact Variable)) → flat_map (λ f. in_terms f.args) fs ≡ in_facts fs
of_facts [] = refl
of_facts (f ∷ fs) = ap (λ xs. in_terms f.args ++ xs) (of_facts fs)

of_actions : (as' : List (Action Variable)) → flat_map (λ a. in_terms a.args) as' ≡ in_actions as'
of_actions [] = refl
of_actions (a ∷ as') = ap (λ xs. in_terms a.args ++ xs) (of_actions as')

abbrev pub added : List Variable → List Variable → List Variable
added = added_after same_variable

once_added : (xs : List Variable) → added [] xs ≡ without_repeats same_variable xs
once_added xs =
    added_to_none same_variable
    (λ x y z k l. (same_variable_decides x z).1 ((same_variable_decides x y).0 k ∙ (same_variable_decides y z).0 l)) xs

-- those of premises, actions and conclusions, added one after the other
pub seen_in_turn : (f : Facts Variable) (s s1 s2 s3 : List Variable) → s ≡ [] → s1 ≡ added s (flat_map (λ p. in_terms p.args) f.premises)
    → s2 ≡ added s1 (flat_map (λ a. in_terms a.args) f.actions) → s3 ≡ added s2 (flat_map (λ c. in_terms c.args) f.conclusions)
    → s3 ≡ without_repeats same_variable (occurrences f)
seen_in_turn f s s1 s2 s3 e e1 e2 e3 =
    let a = in_facts f.premises in
    let b = in_actions f.actions in
    let c = in_facts f.conclusions in
    let two : s2 ≡ added [] (a ++ b) = e2 ∙ ap₂ added (e1 ∙ ap₂ added e (of_facts f.premises)) (of_actions f.actions) ∙ added_both same_variable [] a b in
    e3
    ∙ ap₂ added two (of_facts f.conclusions)
    ∙ added_both same_variable [] (a ++ b) c
    ∙ ap (added []) (append_assoc a b c)
    ∙ once_added (occurrences f)

-- and then those of terms
pub seen_behind : (f : Facts Variable) (kept : Terms Variable) (s s1 : List Variable) → s ≡ without_repeats same_variable (occurrences f) → s1 ≡ added s (in_terms kept)
    → s1 ≡ seen f kept
seen_behind f kept s s1 e e1 =
    e1
    ∙ ap (λ xs. added xs (in_terms kept)) (e ∙ sym (once_added (occurrences f)))
    ∙ added_both same_variable [] (occurrences f) (in_terms kept)
    ∙ once_added (occurrences f ++ in_terms kept)

-- a form by its parts
pub numbered_by : (f : Facts Variable) (kept : Terms Variable) (xs : List Variable) (n : ℕ) (g : Facts Variable) (ts : Terms Variable) → xs ≡ seen f kept
    → n ≡ length (without_repeats same_variable (occurrences f)) → g ≡ facts_at (renumbered xs) f → ts ≡ valued_all (renumbered xs) kept
    → record { facts = g; count = n; kept = ts } ≡ numbered f kept
numbered_by f kept xs n g ts e counted facts terms =
    let made : Facts Variable → ℕ → Terms Variable → Form = λ h k us. record { facts = h; count = k; kept = us } in
    ap (λ h. made h n ts) (facts ∙ ap (λ ys. facts_at (renumbered ys) f) e)
    ∙ ap₂ (made (numbered f kept).facts) counted (terms ∙ ap (λ ys. valued_all (renumbered ys) kept) e)
