-- The variables of a destruction, each once.
use Rattle.std.proofs.Common.{◌≡◌, List, [], ◌++◌, append_assoc, ap, ◌∙◌}
use Rattle.sp_spec.specs.Term.{Variable, in_term, in_terms}
use Rattle.sp_spec.specs.Same.{same_variable}
use Rattle.sp_spec.specs.Destruction.{Destruction}
use Rattle.sp_spec.proofs.Same.{same_variable_decides}
use Rattle.sp_variant.proofs.Adding.{added_both, added_to_none}
use Rattle.sp_variant.proofs.Seen.{added}
use Rattle.sp_moves_know.specs.Linking.{seen_in}

-- those of the pattern, of the side messages and of the result, added one after the other
pub seen_in_turn : (d : Destruction) (s s1 s2 s3 : List Variable) → s ≡ [] → s1 ≡ added s (in_term d.pattern) → s2 ≡ added s1 (in_terms d.sides)
    → s3 ≡ added s2 (in_term d.result) → s3 ≡ seen_in d
seen_in_turn d s s1 s2 s3 e e1 e2 e3 =
    let a = in_term d.pattern in
    let b = in_terms d.sides in
    let c = in_term d.result in
    let two : s2 ≡ added [] (a ++ b) = e2 ∙ ap (λ xs. added xs b) (e1 ∙ ap (λ xs. added xs a) e) ∙ added_both same_variable [] a b in
    e3
    ∙ ap (λ xs. added xs c) two
    ∙ added_both same_variable [] (a ++ b) c
    ∙ ap (added []) (append_assoc a b c)
    ∙ added_to_none same_variable
    (λ x y z k l. (same_variable_decides x z).1 ((same_variable_decides x y).0 k ∙ (same_variable_decides y z).0 l)) (a ++ (b ++ c))
