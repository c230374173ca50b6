-- The way down to where a term stands first, argument by argument, and the ways to the places along it.
use Rattle.std.proofs.Common.{◌≡◌, ◌<◌, ℕ, suc, ◌+◌, length, take, drop, arith, length-drop, Bool, true, false, if◌then◌else◌, List, [], ◌∷◌, ◌++◌, map, Option, Some, None, option_map, refl, sym, ap, ◌∙◌, append_assoc, get_or}
use Rattle.std.proofs.lemmas.List.{length-take-le, map-append, take_more}
use Rattle.sp_spec.proofs.Lists.{length_map, next_item}
use Rattle.std.specs.Option.{option_or}
use Rattle.sp_spec.specs.Term.{Variable, Term, Terms, none, more, joined, count}
use Rattle.sp_spec.specs.Signature.{Symbol}
use Rattle.sp_spec.specs.Destruction.{Fork, way_to, way_among, is_public}
use Rattle.sp_law_log_execution.specs.Executed.{Level, level_of, ways_along}

abbrev pub levels : Option (List Fork) → Option (List Level)
levels o = option_map (map level_of) o

none_there : (o : Option (List Fork)) → levels o ≡ None → o ≡ None
none_there None e = refl
none_there (Some forks) e = absurd cc

module _ (r : Term Variable) (f : List ℕ) (front : Terms Variable) (t : Term Variable) (ts : Terms Variable) where
  abbrev here : Fork
  here = record { symbol = f; front = front; entered = t; back = ts }

  abbrev later : Option (List Fork)
  later = way_among r f (joined front (more t none)) ts

  -- an argument in which it doesn't stand
  pub passes : levels (way_to r t) ≡ None → way_among r f front (more t ts) ≡ later
  passes e = ap (λ (o : Option (List Fork)). option_or (option_map (λ (forks : List Fork). here ∷ forks) o) later) (none_there (way_to r t) e)

  -- an argument in which it stands
  pub enters : (ls : List Level) → levels (way_to r t) ≡ Some ls → levels (way_among r f front (more t ts)) ≡ Some (level_of here ∷ ls)
  enters ls e = by_way (way_to r t) e
    where
      by_way : (o : Option (List Fork)) → levels o ≡ Some ls
          → levels (option_or (option_map (λ (forks : List Fork). here ∷ forks) o) later) ≡ Some (level_of here ∷ ls)
      by_way None e = absurd cc
      by_way (Some forks) e = let same : map level_of forks ≡ ls = cc in ap (λ (xs : List Level). Some (level_of here ∷ xs)) same

-- the level above an argument, made of numbers
pub level_made : (l : Level) (f : List ℕ) (front back : Terms Variable) (t : Term Variable) → l.symbol ≡ f → l.front ≡ count front → l.back ≡ count back
    → l ≡ level_of (record { symbol = f; front = front; entered = t; back = back })
level_made l f front back t s m n =
    ap (λ (x : List ℕ). let r : Level = record { symbol = x; front = l.front; back = l.back } in r) s
    ∙ ap (λ (x : ℕ). let r : Level = record { symbol = f; front = x; back = l.back } in r) m
    ∙ ap (λ (x : ℕ). let r : Level = record { symbol = f; front = count front; back = x } in r) n

pub front_counted : {A : Type 0} (xs : List A) (i front : ℕ) → i < length xs → front ≡ i → front ≡ length (take i xs)
front_counted {A} xs i front within f = f ∙ sym (length-take-le i xs (omega arith))

pub back_counted : {A : Type 0} (xs : List A) (i front back n : ℕ) → i < length xs → length xs ≡ n → front ≡ i → front + suc back ≡ n
    → back ≡ length (drop (i + 1) xs)
back_counted xs i front back n within as_long f b = simp length-drop (omega arith)

-- ---- the ways to places

module _ (symbols : List Symbol) (above : List Level) (l : Level) where
  pub ends : (below : List Level) → below ≡ [] → ways_along symbols above (l ∷ below) ≡ []
  ends [] e = refl
  ends (m ∷ below) e = absurd cc

  pub stops : (below : List Level) → is_public symbols l.symbol (l.front + suc l.back) ≡ false → ways_along symbols above (l ∷ below) ≡ []
  stops [] e = refl
  stops (m ∷ below) e = ap (λ (b : Bool). if b then (above ++ l ∷ []) ∷ ways_along symbols (above ++ l ∷ []) (m ∷ below) else []) e

  pub goes_on : (below : List Level) → (below ≡ [] → ⊥) → is_public symbols l.symbol (l.front + suc l.back) ≡ true
      → ways_along symbols above (l ∷ below) ≡ (above ++ l ∷ []) ∷ ways_along symbols (above ++ l ∷ []) below
  goes_on [] other e = absurd (other refl)
  goes_on (m ∷ below) other e =
      ap (λ (b : Bool). if b then (above ++ l ∷ []) ∷ ways_along symbols (above ++ l ∷ []) (m ∷ below) else []) e

-- one level more
pub way_further : {A : Type 0} (f : A → Level) (symbols : List Symbol) (xs : List A) (i : ℕ) (x : A) → i < length xs → x ≡ get_or xs i x
    → (i + 1 ≡ length xs → ⊥) → is_public symbols (f x).symbol ((f x).front + suc (f x).back) ≡ true → (found ways : List (List Level))
    → ways ≡ found ++ map f (take (i + 1) xs) ∷ []
    → ways ++ ways_along symbols (map f (take (i + 1) xs)) (map f (drop (i + 1) xs)) ≡ found ++ ways_along symbols (map f (take i xs)) (map f (drop i xs))
way_further {A} f symbols xs i x within item other public found ways w =
    let above = map f (take i xs) in
    let here = map f (take (i + 1) xs) in
    let below = map f (drop (i + 1) xs) in
    let taken : here ≡ above ++ f x ∷ [] =
    ap (map f) (take_more xs i x within ∙ ap (λ (y : A). take i xs ++ y ∷ []) (sym item)) ∙ map-append f (take i xs) (x ∷ []) in
    let some : below ≡ [] → ⊥ =
    λ e. let n = sym (length_map f (drop (i + 1) xs)) ∙ ap length e in let d = length-drop (i + 1) xs in other (omega (arith, n, d)) in
    ap (λ (ls : List (List Level)). ls ++ ways_along symbols here below) w
    ∙ append_assoc found (here ∷ []) (ways_along symbols here below)
    ∙ ap (λ (ls : List Level). found ++ ls ∷ ways_along symbols ls below) taken
    ∙ ap (λ (ls : List (List Level)). found ++ ls) (sym (goes_on symbols above (f x) below some public))
    ∙ ap (λ (ls : List Level). found ++ ways_along symbols above ls) (sym (ap (map f) (next_item xs i x within item)))
