-- What is picked from a list: the first of its elements, or the first two, of a kind; or the only one.
use Rattle.std.specs.Prelude.{Bool, if◌then◌else◌, List, [], ◌∷◌, Option, Some, None, ℕ, ◌||◌, false}
use Rattle.std.specs.Option.{option_or}
use Rattle.sp_spec.specs.Term.{Variable, Term, Terms, none, more}

-- the first two, in the order of the list
abbrev pub first_with : {A : Type 0} → (A → A → Bool) → A → List A → Option (A × A)
first_with test l [] = None
first_with test l (m ∷ ms) = if test l m then Some (l, m) else first_with test l ms

abbrev pub first_two : {A : Type 0} → (A → A → Bool) → List A → Option (A × A)
first_two test [] = None
first_two test (l ∷ ls) = option_or (first_with test l ls) (first_two test ls)

abbrev pub if_any : List (ℕ × ℕ) → Option (List (ℕ × ℕ))
if_any [] = None
if_any (p ∷ pairs) = Some (p ∷ pairs)

abbrev pub first_some : {A B : Type 0} → (A → Option B) → List A → Option B
first_some pick [] = None
first_some pick (x ∷ xs) = option_or (pick x) (first_some pick xs)

-- whether some two are of the kind
abbrev pub some_with : {A : Type 0} → (A → A → Bool) → A → List A → Bool
some_with test l [] = false
some_with test l (m ∷ ms) = test l m || some_with test l ms

abbrev pub some_two : {A : Type 0} → (A → A → Bool) → List A → Bool
some_two test [] = false
some_two test (l ∷ ls) = some_with test l ls || some_two test ls

-- the term, if it is the only one
abbrev pub only_term : Terms Variable → Option (Term Variable)
only_term (more t none) = Some t
only_term ts = None
