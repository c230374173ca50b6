-- Forms that are put behind others.
use Rattle.std.proofs.Common.{◌≡◌, List, ◌++◌, append_assoc, ap, ◌∙◌}

pub gathered : {A : Type 0} (a b c xs ys : List A) → b ≡ a ++ xs → c ≡ b ++ ys → c ≡ a ++ (xs ++ ys)
gathered {A = A} a b c xs ys e f = f ∙ ap (λ (zs : List A). zs ++ ys) e ∙ append_assoc a xs ys
