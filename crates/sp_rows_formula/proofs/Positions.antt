-- The first formula of which something is picked is the one at its position.
use Rattle.std.proofs.Common.{◌≡◌, ℕ, suc, List, [], ◌∷◌, ◌++◌, take, drop, Option, Some, None, option_map, option_and_then, refl, sym, ap, ap₂, ◌∙◌, ◌+◌, length}
use Rattle.sp_spec.specs.Guarded.{Guarded}
use Rattle.sp_spec_system.specs.System.{System, with_next, with_pairs}
use Rattle.sp_spec_system.specs.Formulas.{Found, found_at, first_formula, spending}
use Rattle.sp_spec_formula.specs.Split.{split_of, split}
use Rattle.sp_spec_formula.specs.Disjunction.{instead_of, disjunction}
use Rattle.sp_spec_formula.specs.InOrder.{order_of, in_order}
use Rattle.sp_spec_formula.specs.Unequal.{inequality_of, unequal}
use Rattle.sp_spec_formula.specs.Equate.{Equation, equation_of, equated, equate}
use Rattle.sp_spec_formula.specs.ActionStands.{standing_of, action_stands}
use Rattle.sp_spec_formula.specs.Open.{existential_of, open_existential}
use Rattle.sp_system.specs.SpendView.{spending_at}
use Rattle.sp_rows_formula.specs.RowsView.{position_at, position_of, keeping}
use Rattle.sp_rows_formula.specs.OpeningView.{opened_by, opening_at}

-- what is found is what stands at the position
record Stands {A : Type 0} (fs : List Guarded) (r : Found A) (p : ℕ × A) : Type 0 where
  front : r.front ≡ take p.0 fs
  formula : r.formula ∷ [] ≡ take 1 (drop p.0 fs)
  picked : r.picked ≡ p.1
  back : r.back ≡ drop (suc p.0) fs

abbrev IsThere : {A : Type 0} → List Guarded → Option (Found A) → Option (ℕ × A) → Type 0
IsThere fs None None = Unit {0}
IsThere fs None (Some p) = ⊥
IsThere fs (Some r) None = ⊥
IsThere fs (Some r) (Some p) = Stands fs r p

there : {A : Type 0} (f : Guarded) (fs : List Guarded) (o : Option A) (found : Option (Found A)) (position : Option (ℕ × A)) → IsThere fs found position → IsThere (f ∷ fs) (found_at f fs o found) (position_at o position)
there f fs (Some a) found position h = record { front = refl; formula = refl; picked = refl; back = refl }
there f fs None None None h = tt
there f fs None None (Some p) h = absurd h
there f fs None (Some r) None h = absurd h
there f fs None (Some r) (Some p) h = record { front = ap (λ (gs : List Guarded). f ∷ gs) h.front; formula = h.formula; picked = h.picked; back = h.back }

is_there : {A : Type 0} (pick : Guarded → Option A) (fs : List Guarded) → IsThere fs (first_formula pick fs) (position_of pick fs)
is_there pick [] = tt
is_there pick (f ∷ fs) = there f fs (pick f) (first_formula pick fs) (position_of pick fs) (is_there pick fs)

spent_there : {A : Type 0} (s : System) (r : Found A) (p : ℕ × A) (fs : List Guarded) → Stands s.formulas r p → spending s r fs ≡ spending_at s p.0 fs
spent_there s r p fs h =
    let made : List Guarded → List Guarded → System = λ gs ds. record s { formulas = gs; spent = s.spent ++ ds } in
    ap₂ made (ap₂ (λ (xs ys : List Guarded). xs ++ (fs ++ ys)) h.front h.back) h.formula

-- a row that spends the formula and goes on with what it picked of it
pub spends : {A R : Type 0} (pick : Guarded → Option A) (instead : A → List Guarded) (goes_on : System → A → R) (s : System)
    → option_map (λ r. goes_on (spending s r (instead r.picked)) r.picked) (first_formula pick s.formulas) ≡ option_map (λ p. goes_on (spending_at s p.0 (instead p.1)) p.1) (position_of pick s.formulas)
spends {A = A} {R = R} pick instead goes_on s = at (first_formula pick s.formulas) (position_of pick s.formulas) (is_there pick s.formulas)
  where
    at : (found : Option (Found A)) (position : Option (ℕ × A)) → IsThere s.formulas found position
        → option_map (λ r. goes_on (spending s r (instead r.picked)) r.picked) found ≡ option_map (λ p. goes_on (spending_at s p.0 (instead p.1)) p.1) position
    at None None h = refl
    at None (Some p) h = absurd h
    at (Some r) None h = absurd h
    at (Some r) (Some p) h =
        ap (λ (a : A). Some (goes_on (spending s r (instead a)) a)) h.picked
        ∙ ap (λ (t : System). Some (goes_on t p.1)) (spent_there s r p (instead p.1) h)

pub unequal-there : (s : System) → unequal s ≡ option_map (λ p. keeping (spending_at s p.0 []) p.1) (position_of inequality_of s.formulas)
unequal-there s = spends inequality_of (λ p. []) keeping s

pub action_stands-there : (s : System) → action_stands s ≡ option_map (λ p. spending_at s p.0 []) (position_of (standing_of s.events) s.formulas)
action_stands-there s = spends (standing_of s.events) (λ a. []) (λ t a. t) s

-- of what is picked, only where it stands counts
pub place_counts : {A : Type 0} (s : System) (o : Option (ℕ × A)) → option_map (λ p. spending_at s p.0 []) o ≡ option_map (λ k. spending_at s k []) (option_map (λ p. p.0) o)
place_counts s None = refl
place_counts s (Some p) = refl

pub open_existential-there : (s : System) → open_existential s ≡ option_map (λ p. opening_at s p.0 (opened_by s.next p.1)) (position_of existential_of s.formulas)
open_existential-there s =
    spends existential_of (λ e. (opened_by s.next e).0) (λ t e. with_next t (s.next + length e.binders)) s

pub split-there : (s : System) → split s ≡ option_map (λ p. spending_at s p.0 p.1) (position_of split_of s.formulas)
split-there s = spends split_of (λ fs. fs) (λ t fs. t) s

pub disjunction-there : (s : System) → disjunction s ≡ option_map (λ p. spending_at s p.0 p.1) (position_of (instead_of s) s.formulas)
disjunction-there s = spends (instead_of s) (λ fs. fs) (λ t fs. t) s

pub in_order-there : (s : System) → in_order s ≡ option_map (λ p. with_pairs (spending_at s p.0 []) p.1) (position_of (order_of s.order) s.formulas)
in_order-there s = spends (order_of s.order) (λ ps. []) with_pairs s

-- what may fail after the formula is spent
abbrev pub joined : Option (Option System) → Option System
joined o = option_and_then (λ p. p) o

pub joins : {A : Type 0} (f : A → Option System) (o : Option A) → joined (option_map f o) ≡ option_and_then f o
joins f None = refl
joins f (Some a) = refl

-- what is made the same after a formula is spent may as well be made the same before
pub equate-there : (s : System) → equate s ≡ option_and_then (λ p. equated (spending_at s p.0 []) p.1) (position_of equation_of s.formulas)
equate-there s =
    sym (joins (λ (r : Found Equation). equated (spending s r []) r.picked) (first_formula equation_of s.formulas))
    ∙ ap joined (spends equation_of (λ e. []) equated s)
    ∙ joins (λ (p : ℕ × Equation). equated (spending_at s p.0 []) p.1) (position_of equation_of s.formulas)
