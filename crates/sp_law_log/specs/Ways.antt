-- The way from the root of a term down to a position in it, as a list of forks, the root's first.
use Rattle.std.specs.Prelude.{◌≡◌, List, [], ◌∷◌, ◌++◌}
use Rattle.sp_spec.specs.Lists.{Member, Every}
use Rattle.sp_spec.specs.Term.{Variable, Term, app, Terms, none, more, joined, count}
use Rattle.sp_spec.specs.Signature.{Symbol, Equation, Signature, HasPublic}
use Rattle.sp_spec.specs.Destruction.{Destruction, Fork}

-- the arguments at a fork, with a term in the place that is entered
abbrev pub args_with : Fork → Term Variable → Terms Variable
args_with f t = joined f.front (more t f.back)

-- the term whose way it is, with another at the way's end
abbrev pub plug : List Fork → Term Variable → Term Variable
plug [] t = t
plug (f ∷ forks) t = app f.symbol (args_with f (plug forks t))

-- the arguments beside the way, from the top down
abbrev pub sides : List Fork → Terms Variable
sides [] = none
sides (f ∷ forks) = joined (joined f.front f.back) (sides forks)

-- the adversary may apply the fork's symbol
abbrev pub IsPublicFork : List Symbol → Fork → Type 0
IsPublicFork symbols f = HasPublic symbols f.symbol (count (args_with f f.entered))

abbrev pub ArePublic : List Symbol → List Fork → Type 0
ArePublic symbols forks = Every (IsPublicFork symbols) forks

-- the forks lead from the first term to the second
abbrev pub IsWay : Term Variable → List Fork → Term Variable → Type 0
IsWay t [] r = t ≡ r
IsWay t (f ∷ forks) r = (t ≡ app f.symbol (args_with f f.entered)) × IsWay f.entered forks r

-- the destruction of the place below a fork, on the way to where the equation's right side stands
abbrev pub destruction_below : Equation → List Fork → Fork → Destruction
destruction_below e above f = record { pattern = f.entered; sides = sides (above ++ f ∷ []); result = e.right }

-- It is the destruction of a place on the way to where the right side of an equation stands: neither the way's beginning nor its
-- end, below public symbols alone, with the arguments beside the way down to it as side messages.
pub record IsOfPlace (signature : Signature) (d : Destruction) : Type 0 where
  pub equation : Equation
  pub is_equation : Member equation signature.equations
  pub above : List Fork
  pub fork : Fork
  pub next : Fork
  pub under : List Fork
  pub way : IsWay equation.left (above ++ fork ∷ next ∷ under) equation.right
  pub publics : ArePublic signature.symbols above
  pub public : IsPublicFork signature.symbols fork
  pub is : d ≡ destruction_below equation above fork
