-- What going over the places that are listed under a name leaves out gives nothing.
use Rattle.std.proofs.Common.{◌≡◌, ℕ, suc, Bool, true, false, List, [], ◌∷◌, ◌++◌, length, Some, refl, ap, sym, ◌∙◌, if◌then◌else◌, append_assoc, slice_get}
use Rattle.sp_spec_forms.specs.Numbering.{Form}
use Rattle.sp_spec_forms.specs.Forms.{RuleForms}
use Rattle.sp_book.specs.Book.{is_named, places_by, by_places}

-- what each of the rules gives, one rule after the other, where those without the name give nothing
pub record Gives {C : Type 0} (names : Form → List (List ℕ)) (symbol : List ℕ) (gives : RuleForms → List C) (each : List RuleForms → List C) : Type 0 where
  pub at_end : each [] ≡ []
  pub on : (r : RuleForms) (rules : List RuleForms) → each (r ∷ rules) ≡ gives r ++ each rules
  pub passed_over : (r : RuleForms) → is_named names symbol r.forms ≡ false → gives r ≡ []

here_found : (front : List RuleForms) (r : RuleForms) (rest : List RuleForms) → slice_get (front ++ r ∷ rest) (length front) ≡ Some r
here_found [] r rest = refl
here_found (q ∷ front) r rest = here_found front r rest

longer : (front : List RuleForms) (r : RuleForms) → length (front ++ r ∷ []) ≡ suc (length front)
longer [] r = refl
longer (q ∷ front) r = ap (λ (n : ℕ). suc n) (longer front r)

-- one rule is gone by, by whether it has the name
gone_by : {C : Type 0} (gives : RuleForms → List C) (all : List RuleForms) (here : ℕ) (r : RuleForms) (later : List ℕ) (rest : List C) (b : Bool) → (b ≡ false → gives r ≡ [])
    → slice_get all here ≡ Some r → by_places gives all later ≡ rest
    → by_places gives all (if b then here ∷ later else later) ≡ gives r ++ rest
gone_by gives all here r later rest true none found ih = rw (found, ih) refl
gone_by {C = C} gives all here r later rest false none found ih = ih ∙ ap (λ (cs : List C). cs ++ rest) (sym (none refl))

from : {C : Type 0} {names : Form → List (List ℕ)} {symbol : List ℕ} {gives : RuleForms → List C} {each : List RuleForms → List C} → Gives names symbol gives each
    → (front rest : List RuleForms) → by_places gives (front ++ rest) (places_by names symbol (length front) rest) ≡ each rest
from law front [] = sym law.at_end
from {names = names} {symbol = symbol} {gives = gives} {each = each} law front (r ∷ rest) =
    let next : by_places gives ((front ++ r ∷ []) ++ rest) (places_by names symbol (length (front ++ r ∷ [])) rest) ≡ each rest = from law (front ++ r ∷ []) rest in
    let next_here : by_places gives (front ++ r ∷ rest) (places_by names symbol (suc (length front)) rest) ≡ each rest = rw (append_assoc, longer front r) at next in
    gone_by gives (front ++ r ∷ rest) (length front) r (places_by names symbol (suc (length front)) rest) (each rest) (is_named names symbol r.forms)
    (law.passed_over r) (here_found front r rest) next_here
    ∙ sym (law.on r rest)

pub all_gone_by : {C : Type 0} {names : Form → List (List ℕ)} {symbol : List ℕ} {gives : RuleForms → List C} {each : List RuleForms → List C} → Gives names symbol gives each
    → (rules : List RuleForms) → by_places gives rules (places_by names symbol 0 rules) ≡ each rules
all_gone_by law rules = from law [] rules
