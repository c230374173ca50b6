-- What an entry of the source table is of, and the system that it begins from. Source: Schmidt's thesis, chapter 3 (precomputed case
-- distinctions); Tamarin manual, "Precomputation" (the sources of a message).
use Rattle.std.specs.Prelude.{ℕ, zero, suc, List, [], ◌∷◌}
use Rattle.sp_spec.specs.Term.{Fresh, Variable, Term, var, app, Terms, none, more}
use Rattle.sp_spec.specs.Signature.{msg}
use Rattle.sp_spec.specs.Guarded.{Guarded}
use Rattle.sp_spec_system.specs.System.{System, anyhow, learning, formulas_alone}

-- a fresh name, or a symbol with so many arguments
pub data Head : Type 0 where
  fresh_head : Head
  symbol_head : List ℕ → ℕ → Head

-- so many message variables, of the numbers from this one on
abbrev pub new_variables : ℕ → ℕ → Terms Variable
new_variables zero k = none
new_variables (suc n) k = more (msg k) (new_variables n (suc k))

-- the message of that kind over new variables: the time of its event has the number before them
abbrev pub head_message : Head → Term Variable
head_message fresh_head = var (record { sort = Fresh; number = 1 })
head_message (symbol_head f n) = app f (new_variables n 1)

abbrev pub head_next : Head → ℕ
head_next fresh_head = 2
head_next (symbol_head f n) = suc n

-- Where an entry begins: the message is learnt anyhow, and the lemmas that are taken are true.
abbrev pub start_of : List Guarded → Head → System
start_of taken h = record (formulas_alone taken) { events = record { time = 0; happening = learning (head_message h) anyhow } ∷ []; next = head_next h }
