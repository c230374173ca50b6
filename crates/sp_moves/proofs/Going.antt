-- Going over a list, whose elements give cases or systems.
use Rattle.std.proofs.Common.{◌≡◌, ℕ, List, [], ◌∷◌, ◌++◌, map, ap, ap₂, sym, ◌∙◌, append_assoc}
use Rattle.std.specs.Prelude.{string_bytes}
use Rattle.std.proofs.lemmas.List.{map-append}
use Rattle.sp_spec_system.specs.System.{System}
use Rattle.sp_spec_system.specs.Move as spec
use Rattle.sp_system.specs.SystemView.{system_of}
use Rattle.sp_moves.specs.View.{case_of}
use Rattle.sp_moves.specs.declared.moves.Case.{Case}

-- what is made so far, what this element gives and what the rest gives are all of it
pub one_further : {X Y : Type 0} (view : X → Y) (made grown : List X) (here rest left all : List Y) → map view grown ≡ map view made ++ here → left ≡ here ++ rest → map view made ++ left ≡ all
    → map view grown ++ rest ≡ all
one_further {Y = Y} view made grown here rest left all added split whole =
    ap (λ (ys : List Y). ys ++ rest) added ∙ append_assoc (map view made) here rest ∙ ap (λ (ys : List Y). map view made ++ ys) (sym split) ∙ whole

-- one case is added
pub grows : (made grown : List Case) (one : Case) (name : List ℕ) (s : System) → grown ≡ made ++ one ∷ [] → string_bytes one.name ≡ name → system_of one.system ≡ s
    → map case_of grown ≡ map case_of made ++ record { name = name; system = s } ∷ []
grows made grown one name s e n t =
    let case : List ℕ → System → spec.Case = λ m u. record { name = m; system = u } in
    ap (map case_of) e ∙ map-append case_of made (one ∷ []) ∙ ap₂ (λ (m : List ℕ) (u : System). map case_of made ++ case m u ∷ []) n t
