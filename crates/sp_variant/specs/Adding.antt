-- Lists that others are added to, unless the same stands there.
use Rattle.std.specs.Prelude.{Bool, List, [], ◌∷◌, ◌++◌, if◌then◌else◌}
use Rattle.std.specs.List.{list_any}

-- the list with these at its end, each unless one that is the same stands before it
abbrev pub added_after : {A : Type 0} → (A → A → Bool) → List A → List A → List A
added_after same before [] = before
added_after same before (x ∷ xs) = added_after same (if list_any (λ y. same y x) before then before else before ++ x ∷ []) xs
