-- Message terms. Source: Schmidt, Meier, Cremers and Basin, CSF 2012, section "Cryptographic messages"; Tamarin manual,
-- "Cryptographic messages". Terms are over variables of any kind: those of a rule or a system, those that a text names,
-- bound ones, or none at all.
use Rattle.std.specs.Prelude.{ℕ, suc, List, [], ◌∷◌, ◌++◌, Bool, true, false, ◌&&◌, ◌||◌, Option, Some, option_map, option_and_then}

-- fresh and pub are subsorts of msg, and have nothing in common
pub data Sort : Type 0 where
  Msg : Sort
  Fresh : Sort
  Pub : Sort

-- a variable of a rule or of a system
pub record Variable : Type 0 where
  pub sort : Sort
  pub number : ℕ

-- a variable, a public name 'c', a fresh name ~n1, or a symbol, by its name, over arguments
mutual
  pub data Term (V : Type 0) : Type 0 where
    var : V → Term V
    constant : List ℕ → Term V
    name : ℕ → Term V
    app : List ℕ → Terms V → Term V

  pub data Terms (V : Type 0) : Type 0 where
    none : Terms V
    more : Term V → Terms V → Terms V

-- a term without variables
abbrev pub Ground : Type 0
Ground = Term ⊥

abbrev pub Grounds : Type 0
Grounds = Terms ⊥

-- each variable replaced by what it stands for
abbrev mutual
  pub valued : {V W : Type 0} → (V → Term W) → Term V → Term W
  valued v (var x) = v x
  valued v (constant c) = constant c
  valued v (name n) = name n
  valued v (app f ts) = app f (valued_all v ts)

  pub valued_all : {V W : Type 0} → (V → Term W) → Terms V → Terms W
  valued_all v none = none
  valued_all v (more t ts) = more (valued v t) (valued_all v ts)

-- the same where a variable may stand for nothing: then there is no such term
abbrev mutual
  pub valued_where : {V W : Type 0} → (V → Option (Term W)) → Term V → Option (Term W)
  valued_where v (var x) = v x
  valued_where v (constant c) = Some (constant c)
  valued_where v (name n) = Some (name n)
  valued_where v (app f ts) = option_map (app f) (valued_all_where v ts)

  pub valued_all_where : {V W : Type 0} → (V → Option (Term W)) → Terms V → Option (Terms W)
  valued_all_where v none = Some none
  valued_all_where v (more t ts) = option_and_then (λ u. option_map (more u) (valued_all_where v ts)) (valued_where v t)

-- whether each variable of the term passes a test
abbrev mutual
  pub each_variable : {V : Type 0} → (V → Bool) → Term V → Bool
  each_variable passes (var x) = passes x
  each_variable passes (constant c) = true
  each_variable passes (name n) = true
  each_variable passes (app f ts) = each_variables passes ts

  pub each_variables : {V : Type 0} → (V → Bool) → Terms V → Bool
  each_variables passes none = true
  each_variables passes (more t ts) = each_variable passes t && each_variables passes ts

-- whether one of them does
abbrev mutual
  pub some_variable : {V : Type 0} → (V → Bool) → Term V → Bool
  some_variable passes (var x) = passes x
  some_variable passes (constant c) = false
  some_variable passes (name n) = false
  some_variable passes (app f ts) = some_variables passes ts

  pub some_variables : {V : Type 0} → (V → Bool) → Terms V → Bool
  some_variables passes none = false
  some_variables passes (more t ts) = some_variable passes t || some_variables passes ts

-- the variables as they stand in the term, from left to right
abbrev mutual
  pub in_term : {V : Type 0} → Term V → List V
  in_term (var x) = x ∷ []
  in_term (constant c) = []
  in_term (name n) = []
  in_term (app f ts) = in_terms ts

  pub in_terms : {V : Type 0} → Terms V → List V
  in_terms none = []
  in_terms (more t ts) = in_term t ++ in_terms ts

-- which names a term may have, public and fresh
pub data Name : Type 0 where
  public_name : List ℕ → Name
  fresh_name : ℕ → Name

abbrev pub Names : Type 1
Names = Name → Type 0

-- the term is made of such names, and of variables of which it holds
abbrev mutual
  pub MadeOf : {V : Type 0} → Names → (V → Type 0) → Term V → Type 0
  MadeOf N P (var x) = P x
  MadeOf N P (constant c) = N (public_name c)
  MadeOf N P (name n) = N (fresh_name n)
  MadeOf N P (app f ts) = AllMadeOf N P ts

  pub AllMadeOf : {V : Type 0} → Names → (V → Type 0) → Terms V → Type 0
  AllMadeOf N P none = Unit {0}
  AllMadeOf N P (more t ts) = MadeOf N P t × AllMadeOf N P ts

-- it holds of each variable in the term, whatever names it has
abbrev pub any_names : Names
any_names a = Unit {0}

abbrev pub EachVariable : {V : Type 0} → (V → Type 0) → Term V → Type 0
EachVariable P t = MadeOf any_names P t

abbrev pub EachVariables : {V : Type 0} → (V → Type 0) → Terms V → Type 0
EachVariables P ts = AllMadeOf any_names P ts

abbrev pub count : {V : Type 0} → Terms V → ℕ
count none = 0
count (more t ts) = suc (count ts)

-- each by itself
abbrev pub list_of : {V : Type 0} → Terms V → List (Term V)
list_of none = []
list_of (more t ts) = t ∷ list_of ts

-- one after the other
abbrev pub joined : {V : Type 0} → Terms V → Terms V → Terms V
joined none us = us
joined (more t ts) us = more t (joined ts us)

abbrev pub Values : Type 0
Values = Variable → Ground
