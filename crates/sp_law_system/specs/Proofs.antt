-- What is kept throughout a proof, and what its cases owe.
use Rattle.std.specs.Prelude.{◌≡◌, ◌≤◌, List, ◌++◌}
use Rattle.sp_spec.specs.Log.{Log, Entry}
use Rattle.sp_spec_system.specs.System.{System}
use Rattle.sp_spec_system.specs.Move.{Context}
use Rattle.sp_spec_system.specs.Numbered.{names_in, IsNumbered, HappenOnce}

-- What each system of a proof in the context fulfils.
pub record IsWellMade (context : Context) (s : System) : Type 0 where
  pub numbered : IsNumbered (names_in context.public_names) s
  pub once : HappenOnce s.events

-- the second system of two fulfils it, and takes no numbers back
pub record IsKept (context : Context) (s t : System) : Type 0 where
  pub well_made : IsWellMade context t
  pub next : s.next ≤ t.next

-- a log by then: what is left of it without its newest entries
abbrev pub IsPast : Log → Log → Type 0
IsPast past log = (newest : List Entry) × (log ≡ newest ++ past)
