-- The symbols of a theory, and the ground terms over them. Source: Tamarin manual, "Cryptographic messages": the pair symbols
-- and their equations belong to every theory.
use Rattle.std.specs.Prelude.{ℕ, Bool, false, List, [], ◌∷◌, ◌++◌, codes}
use Rattle.sp_spec.specs.Lists.{Member}
use Rattle.sp_spec.specs.Term.{Sort, Msg, Fresh, Pub, Variable, Term, var, constant, name, app, none, more, Ground, Grounds, count, Values}

pub record Symbol : Type 0 where
  pub name : List ℕ
  pub arity : ℕ
  pub private : Bool

-- left and right side
pub record Equation : Type 0 where
  pub left : Term Variable
  pub right : Term Variable

pub record Signature : Type 0 where
  pub symbols : List Symbol
  pub equations : List Equation

abbrev pub pair : {V : Type 0} → Term V → Term V → Term V
pair t u = app (codes "pair") (more t (more u none))

abbrev pub pair_symbols : List Symbol
pair_symbols =
    record { name = codes "pair"; arity = 2; private = false }
    ∷ record { name = codes "fst"; arity = 1; private = false }
    ∷ record { name = codes "snd"; arity = 1; private = false } ∷ []

abbrev pub msg : ℕ → Term Variable
msg n = var (record { sort = Msg; number = n })

-- fst(<x, y>) = x and snd(<x, y>) = y
abbrev pub pair_equations : List Equation
pair_equations =
    record { left = app (codes "fst") (more (pair (msg 0) (msg 1)) none); right = msg 0 }
    ∷ record { left = app (codes "snd") (more (pair (msg 0) (msg 1)) none); right = msg 1 } ∷ []

-- the pairs' symbols and equations, then those that a theory adds
abbrev pub with_pairs : List Symbol → List Equation → Signature
with_pairs symbols equations = record { symbols = pair_symbols ++ symbols; equations = pair_equations ++ equations }

-- a symbol of that name and arity, private or not
abbrev pub HasSymbol : List Symbol → List ℕ → ℕ → Type 0
HasSymbol symbols f n = (private : Bool) × Member (record { name = f; arity = n; private = private }) symbols

-- one that the adversary may apply
abbrev pub HasPublic : List Symbol → List ℕ → ℕ → Type 0
HasPublic symbols f n = Member (record { name = f; arity = n; private = false }) symbols

-- each symbol is one of these, over as many arguments as its arity
abbrev mutual
  pub IsOver : List Symbol → Ground → Type 0
  IsOver symbols (var x) = ⊥
  IsOver symbols (constant c) = Unit {0}
  IsOver symbols (name n) = Unit {0}
  IsOver symbols (app f ts) = HasSymbol symbols f (count ts) × AreOver symbols ts

  pub AreOver : List Symbol → Grounds → Type 0
  AreOver symbols none = Unit {0}
  AreOver symbols (more t ts) = IsOver symbols t × AreOver symbols ts

-- a fresh name for fresh, a public name for pub, any term for msg
abbrev pub HasSort : Sort → Ground → Type 0
HasSort Msg t = Unit {0}
HasSort Fresh (name n) = Unit {0}
HasSort Fresh t = ⊥
HasSort Pub (constant c) = Unit {0}
HasSort Pub t = ⊥

abbrev pub RespectsSorts : Values → Type 0
RespectsSorts v = (x : Variable) → HasSort x.sort (v x)

-- a ground term of the sort, over the signature's symbols
abbrev pub IsValue : Signature → Sort → Ground → Type 0
IsValue signature sort t = HasSort sort t × IsOver signature.symbols t

-- each variable has a value of its sort
abbrev pub IsValuation : Signature → Values → Type 0
IsValuation signature v = (x : Variable) → IsValue signature x.sort (v x)
