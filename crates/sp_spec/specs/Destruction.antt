-- What an equation lets the adversary take out of a message. Source: CSF 2012, "Message deduction" (destruction rules of a
-- subterm-convergent theory); Meier's thesis, chapter 3 (chains).
use Rattle.std.specs.Prelude.{ℕ, Bool, false, ◌&&◌, ◌||◌, ◌==◌, not, if◌then◌else◌, List, [], ◌∷◌, ◌++◌, Option, Some, None, option_map}
use Rattle.std.specs.Str.{bytes_eq}
use Rattle.std.specs.Option.{option_or}
use Rattle.sp_spec.specs.Term.{Variable, Term, var, constant, name, app, Terms, none, more, joined, count}
use Rattle.sp_spec.specs.Same.{alike}
use Rattle.sp_spec.specs.Signature.{Symbol, Equation, Signature}

-- from a message of the pattern and the side messages follows the result
pub record Destruction : Type 0 where
  pub pattern : Term Variable
  pub sides : Terms Variable
  pub result : Term Variable

-- one step down in a term: the symbol, its arguments before the one that is entered, that one, and those behind it
pub record Fork : Type 0 where
  pub symbol : List ℕ
  pub front : Terms Variable
  pub entered : Term Variable
  pub back : Terms Variable

-- the way down to the leftmost place where the term r stands
abbrev mutual
  pub way_to : Term Variable → Term Variable → Option (List Fork)
  way_to r (var x) = if alike r (var x) then Some [] else None
  way_to r (constant c) = if alike r (constant c) then Some [] else None
  way_to r (name n) = if alike r (name n) then Some [] else None
  way_to r (app f ts) = if alike r (app f ts) then Some [] else way_among r f none ts

  pub way_among : Term Variable → List ℕ → Terms Variable → Terms Variable → Option (List Fork)
  way_among r f front none = None
  way_among r f front (more t ts) =
      option_or (option_map (λ forks. record { symbol = f; front = front; entered = t; back = ts } ∷ forks) (way_to r t))
      (way_among r f (joined front (more t none)) ts)

-- a public symbol of that name and arity
abbrev pub is_public : List Symbol → List ℕ → ℕ → Bool
is_public [] f n = false
is_public (s ∷ symbols) f n = (bytes_eq s.name f && (s.arity == n) && not s.private) || is_public symbols f n

-- One destruction for each place on the way that is neither its beginning nor its end, as long as each symbol above is public.
-- The side messages are the arguments beside the way, from the top down.
abbrev pub along : List Symbol → Term Variable → Terms Variable → List Fork → List Destruction
along symbols r sides [] = []
along symbols r sides (f ∷ []) = []
along symbols r sides (f ∷ g ∷ forks) =
    if is_public symbols f.symbol (count (joined f.front (more f.entered f.back)))
    then record { pattern = f.entered; sides = joined sides (joined f.front f.back); result = r }
    ∷ along symbols r (joined sides (joined f.front f.back)) (g ∷ forks)
    else []

abbrev pub along_way : List Symbol → Term Variable → Option (List Fork) → List Destruction
along_way symbols r None = []
along_way symbols r (Some forks) = along symbols r none forks

abbrev pub destructions_by : List Symbol → List Equation → List Destruction
destructions_by symbols [] = []
destructions_by symbols (e ∷ es) = along_way symbols e.right (way_to e.right e.left) ++ destructions_by symbols es

-- in the order of the equations: the first is that of fst, the second that of snd
abbrev pub destructions : Signature → List Destruction
destructions signature = destructions_by signature.symbols signature.equations
