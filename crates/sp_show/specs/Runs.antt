-- The texts of rows, as they are written one after the other: each element behind a separator that the first one lacks.
use Rattle.std.specs.Prelude.{ℕ, Bool, false, not, ◌&&◌, if◌then◌else◌, List, [], ◌∷◌, ◌++◌, codes}
use Rattle.sp_spec.specs.Term.{none, more, Ground, Grounds}
use Rattle.sp_spec.specs.Rule.{Action}
use Rattle.sp_spec_printed.specs.Printed.{is_pair, text_at, term_text, action_text}

abbrev pub separator : Bool → List ℕ
separator first = if first then [] else codes ", "

-- at the end of a pair's row a pair goes on with the row
abbrev pub terms_run : Bool → Bool → Grounds → List ℕ
terms_run first in_pair none = []
terms_run first in_pair (more t ts) = separator first ++ (text_at (in_pair && not first) t ++ terms_run false in_pair ts)

-- what stands before and behind the arguments of a symbol
abbrev pub opening : Bool → List ℕ → Grounds → List ℕ
opening ends f none = f
opening ends f (more t ts) = if is_pair f (more t ts) then (if ends then [] else codes "<") else f ++ codes "("

abbrev pub closing : Bool → List ℕ → Grounds → List ℕ
closing ends f none = []
closing ends f (more t ts) = if is_pair f (more t ts) then (if ends then [] else codes ">") else codes ")"

abbrev pub actions_run : Bool → List (Action ⊥) → List ℕ
actions_run first [] = codes "\n"
actions_run first (a ∷ entry) = separator first ++ (action_text a ++ actions_run false entry)

abbrev pub given_start : Bool → List ℕ
given_start first = if first then codes " " else codes ", "

abbrev pub given_run : Bool → List (List ℕ × Ground) → List ℕ
given_run first [] = []
given_run first (g ∷ given) = given_start first ++ (g.0 ++ (codes " = " ++ (term_text g.1 ++ given_run false given)))
