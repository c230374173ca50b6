-- What is learnt before a time.
use Rattle.std.specs.Prelude.{ℕ, Bool, ◌&&◌, List}
use Rattle.sp_spec.specs.Term as spec
use Rattle.sp_term.specs.declared.term.Term.{Term}
use Rattle.sp_term.specs.declared.term.Variable.{Variable}
use Rattle.sp_term.specs.View.{view}
use Rattle.sp_spec_system.specs.System.{Event}
use Rattle.sp_spec_system.specs.Order.{is_before}
use Rattle.sp_spec_know.specs.Learning.{is_learning_of}

-- a message, and a time
abbrev pub at_time : Term Variable × ℕ → spec.Term spec.Variable × ℕ
at_time p = (view p.0, p.1)

-- the event learns the message, and is before that time
abbrev pub learns_before : List (ℕ × ℕ) → ℕ → spec.Term spec.Variable → Event → Bool
learns_before order i t e = is_learning_of t e.happening && is_before order e.time i
