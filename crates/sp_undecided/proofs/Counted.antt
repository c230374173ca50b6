-- The numbers below another, as a loop goes over them: what stands of them, and the first move on one that is an instance.
use Rattle.std.proofs.Common.{◌≡◌, ℕ, ◌+◌, ◌-◌, ◌<◌, ◌≤◌, suc, Bool, true, false, if◌then◌else◌, List, [], ◌∷◌, ◌++◌, map, Option, Some, None, refl, sym, ap, ◌∙◌, add-one, append_assoc, arith}
use Rattle.std.specs.Prelude.{filter, flat_map}
use Rattle.std.proofs.lemmas.List.Elements.{filter-append}
use Rattle.sp_spec.specs.Term.{Msg}
use Rattle.sp_spec_system.specs.System.{System}
use Rattle.sp_spec_system.specs.Move.{Side, Move, top, Context}
use Rattle.sp_spec_formula.specs.Top.{of_number, has_variable}
use Rattle.sp_spec_proof.specs.Choice.{is_instance, first_instance}
use Rattle.sp_spec_proof.specs.Deciding.{counted, sides_at}
use Rattle.sp_undecided.proofs.Instances.{is_top}

-- those from a number on
abbrev pub from : ℕ → ℕ → List ℕ
from k n = counted k (n - k)

pub next_of : (k n : ℕ) → k < n → from k n ≡ k ∷ from (k + 1) n
next_of k n below = let e : n - k ≡ suc (n - (k + 1)) = omega (arith, below) in ap (counted k) e ∙ ap (λ (j : ℕ). k ∷ counted j (n - (k + 1))) (sym (add-one k))

pub none_of : (k n : ℕ) → n ≤ k → from k n ≡ []
none_of k n past = let e : n - k ≡ 0 = omega (arith, past) in ap (counted k) e

-- what is asked of the next one
pub standing_next : (stands : ℕ → Bool) (k n : ℕ) (b : Bool) → k < n → stands k ≡ b → filter stands (from k n) ≡ (if b then k ∷ filter stands (from (k + 1) n) else filter stands (from (k + 1) n))
standing_next stands k n b below here =
    ap (filter stands) (next_of k n below) ∙ ap (λ (c : Bool). if c then k ∷ filter stands (from (k + 1) n) else filter stands (from (k + 1) n)) here

-- with the next one behind what was gathered, if it stands
pub standing_more : (stands : ℕ → Bool) (k n : ℕ) (b : Bool) (made new whole : List ℕ) → k < n → stands k ≡ b → made ++ filter stands (from k n) ≡ whole
    → new ≡ made ++ (if b then k ∷ [] else []) → new ++ filter stands (from (k + 1) n) ≡ whole
standing_more stands k n b made new whole below here so_far is =
    ap (λ (xs : List ℕ). xs ++ filter stands (from (k + 1) n)) is
    ∙ append_assoc made (if b then k ∷ [] else []) (filter stands (from (k + 1) n))
    ∙ ap (λ (xs : List ℕ). made ++ xs) (at b ∙ sym (standing_next stands k n b below here))
    ∙ so_far
  where
    at : (c : Bool) → (if c then k ∷ [] else []) ++ filter stands (from (k + 1) n) ≡ (if c then k ∷ filter stands (from (k + 1) n) else filter stands (from (k + 1) n))
    at true = refl
    at false = refl

-- the same of the sides at each number
pub sides_more : (stands : Side → Bool) (k n : ℕ) (made new whole : List Side) → k < n → made ++ filter stands (flat_map sides_at (from k n)) ≡ whole
    → new ≡ made ++ filter stands (sides_at k) → new ++ filter stands (flat_map sides_at (from (k + 1) n)) ≡ whole
sides_more stands k n made new whole below so_far is =
    let later : List Side = flat_map sides_at (from (k + 1) n) in
    ap (λ (xs : List Side). xs ++ filter stands later) is
    ∙ append_assoc made (filter stands (sides_at k)) (filter stands later)
    ∙ ap (λ (xs : List Side). made ++ xs) (sym (filter-append stands (sides_at k) later))
    ∙ ap (λ (ks : List ℕ). made ++ filter stands (flat_map sides_at ks)) (sym (next_of k n below))
    ∙ so_far

pub top_next : (context : Context) (s : System) (k n : ℕ) (b : Bool) → k < n → has_variable s (of_number Msg k) ≡ b
    → first_instance context s (map top (from k n)) ≡ (if b then Some (top k) else first_instance context s (map top (from (k + 1) n)))
top_next context s k n b below here =
    ap (λ (ks : List ℕ). first_instance context s (map top ks)) (next_of k n below)
    ∙ ap (λ (c : Bool). if c then Some (top k) else first_instance context s (map top (from (k + 1) n))) (is_top context s k ∙ here)
