-- The way to where a term stands first, step by step.
use Rattle.std.proofs.Common.{◌≡◌, Bool, true, false, if◌then◌else◌, ◌||◌, List, [], ◌∷◌, ℕ, Option, Some, None, option_map, is_some, refl, sym, ap, ◌∙◌, ◌++◌, ◌+◌, ◌<◌, ◌&&◌, ◌==◌, not, length, get_or, take, drop}
use Rattle.std.proofs.lemmas.List.{drop_more, take-append-drop, take_more}
use Rattle.std.specs.Str.{bytes_eq}
use Rattle.std.proofs.Math.Bool.{or-false}
use Rattle.std.specs.Option.{option_or}
use Rattle.sp_spec.specs.Term.{Variable, Term, var, constant, name, app, Terms, none, more, joined, count}
use Rattle.sp_spec.specs.Signature.{Symbol}
use Rattle.sp_spec.specs.Same.{alike, is_part, is_part_of_one}
use Rattle.sp_spec.specs.Destruction.{Fork, way_to, way_among, is_public, along}
use Rattle.sp_term.specs.declared.term.Term as memory
use Rattle.sp_term.specs.declared.term.Variable as leaf
use Rattle.sp_term.specs.View.{view, view_all}
use Rattle.sp_norm.specs.Over.{any_public}
use Rattle.sp_destruct.specs.View.{along_from}

some_if : (b : Bool) (o : Option (List Fork)) → is_some (if b then Some [] else o) ≡ b || is_some o
some_if true o = refl
some_if false o = refl

some_or : {A : Type 0} (g : A → A) (o p : Option A) → is_some (option_or (option_map g o) p) ≡ is_some o || is_some p
some_or g None p = refl
some_or g (Some x) p = refl

mutual
  pub way_found : (r t : Term Variable) → is_some (way_to r t) ≡ is_part r t
  way_found r (var x) = some_if (alike r (var x)) None ∙ or-false (alike r (var x))
  way_found r (constant c) = some_if (alike r (constant c)) None ∙ or-false (alike r (constant c))
  way_found r (name n) = some_if (alike r (name n)) None ∙ or-false (alike r (name n))
  way_found r (app f ts) = some_if (alike r (app f ts)) (way_among r f none ts) ∙ ap (λ b. alike r (app f ts) || b) (among_found r f none ts)

  among_found : (r : Term Variable) (f : List ℕ) (front ts : Terms Variable) → is_some (way_among r f front ts) ≡ is_part_of_one r ts
  among_found r f front none = refl
  among_found r f front (more t ts) =
      some_or (λ forks. record { symbol = f; front = front; entered = t; back = ts } ∷ forks) (way_to r t) (way_among r f (joined front (more t none)) ts)
      ∙ ap (λ b. b || is_some (way_among r f (joined front (more t none)) ts)) (way_found r t)
      ∙ ap (λ b. is_part r t || b) (among_found r f (joined front (more t none)) ts)

-- the test of symbols
pub public_same : (symbols : List Symbol) (f : List ℕ) (n : ℕ) → any_public symbols f n ≡ is_public symbols f n
public_same [] f n = refl
public_same (s ∷ symbols) f n = ap (λ (b : Bool). (bytes_eq s.name f && (s.arity == n) && not s.private) || b) (public_same symbols f n)

-- ---- rows of terms

pub joined_none : (ts : Terms Variable) → joined ts none ≡ ts
joined_none none = refl
joined_none (more t ts) = ap (more t) (joined_none ts)

pub joined_again : (ts us vs : Terms Variable) → joined (joined ts us) vs ≡ joined ts (joined us vs)
joined_again none us vs = refl
joined_again (more t ts) us vs = ap (more t) (joined_again ts us vs)

pub row_append : (xs ys : List (memory.Term leaf.Variable)) → view_all (xs ++ ys) ≡ joined (view_all xs) (view_all ys)
row_append [] ys = refl
row_append (x ∷ xs) ys = ap (more (view x)) (row_append xs ys)

-- where a walk along the terms has come to
module _ (xs : List (memory.Term leaf.Variable)) (i : ℕ) (x : memory.Term leaf.Variable) (below : i < length xs) (item : x ≡ get_or xs i x) where
  at_item : drop i xs ≡ x ∷ drop (i + 1) xs
  at_item = drop_more xs i x below ∙ ap (λ (y : memory.Term leaf.Variable). y ∷ drop (i + 1) xs) (sym item)

  pub rest_at : view_all (drop i xs) ≡ more (view x) (view_all (drop (i + 1) xs))
  rest_at = ap view_all at_item

  pub row_at : view_all xs ≡ joined (view_all (take i xs)) (more (view x) (view_all (drop (i + 1) xs)))
  row_at = ap view_all (sym (take-append-drop i xs)) ∙ row_append (take i xs) (drop i xs) ∙ ap (joined (view_all (take i xs))) rest_at

  pub row_more : view_all (take (i + 1) xs) ≡ joined (view_all (take i xs)) (more (view x) none)
  row_more =
      ap view_all (take_more xs i x below) ∙ row_append (take i xs) (get_or xs i x ∷ [])
      ∙ ap (λ (y : memory.Term leaf.Variable). joined (view_all (take i xs)) (more (view y) none)) (sym item)

-- ---- one step of the way

-- where the term itself is wanted, no way leads on
pub ends_here : (symbols : List Symbol) (r t : Term Variable) (sides : Terms Variable) → alike r t ≡ true → along_from symbols r sides (way_to r t) ≡ []
ends_here symbols r (var x) sides e = ap (λ (b : Bool). along_from symbols r sides (if b then Some [] else None)) e
ends_here symbols r (constant c) sides e = ap (λ (b : Bool). along_from symbols r sides (if b then Some [] else None)) e
ends_here symbols r (name n) sides e = ap (λ (b : Bool). along_from symbols r sides (if b then Some [] else None)) e
ends_here symbols r (app f ts) sides e = ap (λ (b : Bool). along_from symbols r sides (if b then Some [] else way_among r f none ts)) e

pub goes_on : (r : Term Variable) (f : List ℕ) (ts : Terms Variable) → alike r (app f ts) ≡ false → way_to r (app f ts) ≡ way_among r f none ts
goes_on r f ts e = ap (λ (b : Bool). if b then Some [] else way_among r f none ts) e

-- an argument in which it doesn't stand
pub passes : (r : Term Variable) (f : List ℕ) (front : Terms Variable) (t : Term Variable) (ts : Terms Variable) → is_part r t ≡ false
    → way_among r f front (more t ts) ≡ way_among r f (joined front (more t none)) ts
passes r f front t ts e = at (way_to r t) (way_found r t ∙ e)
  where
    at : (o : Option (List Fork)) → is_some o ≡ false
        → option_or (option_map (λ (forks : List Fork). record { symbol = f; front = front; entered = t; back = ts } ∷ forks) o) (way_among r f (joined front (more t none)) ts)
        ≡ way_among r f (joined front (more t none)) ts
    at None k = refl
    at (Some forks) k = absurd cc

-- no way goes on below where it ends, and each goes on elsewhere
among_goes : (r : Term Variable) (f : List ℕ) (front ts : Terms Variable) → way_among r f front ts ≡ Some [] → ⊥
among_goes r f front none e = cc
among_goes r f front (more t ts) e = at (way_to r t) (among_goes r f (joined front (more t none)) ts) e
  where
    at : (o : Option (List Fork)) → (way_among r f (joined front (more t none)) ts ≡ Some [] → ⊥)
        → option_or (option_map (λ (forks : List Fork). record { symbol = f; front = front; entered = t; back = ts } ∷ forks) o) (way_among r f (joined front (more t none)) ts) ≡ Some []
        → ⊥
    at None later k = later k
    at (Some forks) later k = cc

way_goes : (r t : Term Variable) → alike r t ≡ false → way_to r t ≡ Some [] → ⊥
way_goes r (var x) e k = let p : None ≡ Some [] = sym (ap (λ (b : Bool). if b then Some [] else None) e) ∙ k in cc
way_goes r (constant c) e k = let p : None ≡ Some [] = sym (ap (λ (b : Bool). if b then Some [] else None) e) ∙ k in cc
way_goes r (name n) e k = let p : None ≡ Some [] = sym (ap (λ (b : Bool). if b then Some [] else None) e) ∙ k in cc
way_goes r (app f ts) e k = among_goes r f none ts (sym (goes_on r f ts e) ∙ k)

-- an argument in which it stands, below a public symbol
part_itself : (r t : Term Variable) → alike r t ≡ true → is_part r t ≡ true
part_itself r (var x) e = e
part_itself r (constant c) e = e
part_itself r (name n) e = e
part_itself r (app f ts) e = ap (λ (b : Bool). b || is_part_of_one r ts) e

ends_alone : (r t : Term Variable) → alike r t ≡ true → way_to r t ≡ Some []
ends_alone r (var x) e = ap (λ (b : Bool). if b then Some [] else None) e
ends_alone r (constant c) e = ap (λ (b : Bool). if b then Some [] else None) e
ends_alone r (name n) e = ap (λ (b : Bool). if b then Some [] else None) e
ends_alone r (app f ts) e = ap (λ (b : Bool). if b then Some [] else way_among r f none ts) e

module _ (symbols : List Symbol) (r : Term Variable) (f : List ℕ) (front : Terms Variable) (t : Term Variable) (ts sides : Terms Variable) where
  abbrev here : Fork
  here = record { symbol = f; front = front; entered = t; back = ts }

  abbrev there : Terms Variable
  there = joined sides (joined front ts)

  pub enters_end : alike r t ≡ true → along_from symbols r sides (way_among r f front (more t ts)) ≡ []
  enters_end e = at (way_to r t) (way_found r t ∙ part_itself r t e) (ends_alone r t e)
    where
      at : (o : Option (List Fork)) → is_some o ≡ true → o ≡ Some []
          → along_from symbols r sides (option_or (option_map (λ (forks : List Fork). here ∷ forks) o) (way_among r f (joined front (more t none)) ts)) ≡ []
      at None k l = absurd cc
      at (Some []) k l = refl
      at (Some (g ∷ forks)) k l = absurd cc

  pub enters : alike r t ≡ false → is_part r t ≡ true → is_public symbols f (count (joined front (more t ts))) ≡ true
      → along_from symbols r sides (way_among r f front (more t ts)) ≡ record { pattern = t; sides = there; result = r } ∷ along_from symbols r there (way_to r t)
  enters e part public = at (way_to r t) (way_found r t ∙ part) (way_goes r t e)
    where
      at : (o : Option (List Fork)) → is_some o ≡ true → (o ≡ Some [] → ⊥)
          → along_from symbols r sides (option_or (option_map (λ (forks : List Fork). here ∷ forks) o) (way_among r f (joined front (more t none)) ts))
          ≡ record { pattern = t; sides = there; result = r } ∷ along_from symbols r there o
      at None k l = absurd cc
      at (Some []) k l = absurd (l refl)
      at (Some (g ∷ forks)) k l = ap (λ (b : Bool). if b then record { pattern = t; sides = there; result = r } ∷ along symbols r there (g ∷ forks) else []) public

-- below a symbol that isn't public
module _ (symbols : List Symbol) (r : Term Variable) (f : List ℕ) (sides : Terms Variable) where
  pub nothing_below : (front ts : Terms Variable) → is_public symbols f (count (joined front ts)) ≡ false → along_from symbols r sides (way_among r f front ts) ≡ []
  nothing_below front none e = refl
  nothing_below front (more t ts) e =
      at (way_to r t) (nothing_below (joined front (more t none)) ts (ap (λ (us : Terms Variable). is_public symbols f (count us)) (joined_again front (more t none) ts) ∙ e))
    where
      at : (o : Option (List Fork)) → along_from symbols r sides (way_among r f (joined front (more t none)) ts) ≡ []
          → along_from symbols r sides
          (option_or (option_map (λ (forks : List Fork). record { symbol = f; front = front; entered = t; back = ts } ∷ forks) o) (way_among r f (joined front (more t none)) ts)) ≡ []
      at None later = later
      at (Some []) later = refl
      at (Some (g ∷ forks)) later =
          ap (λ (b : Bool). if b then record { pattern = t; sides = joined sides (joined front ts); result = r } ∷ along symbols r (joined sides (joined front ts)) (g ∷ forks) else []) e
