-- The ways that those in memory stand for.
use Rattle.std.specs.Prelude.{ℕ, List, map}
use Rattle.sp_spec.specs.Term.{Variable, Term}
use Rattle.sp_term.specs.View.{view}
use Rattle.sp_spec_system.specs.System as spec
use Rattle.sp_system.specs.declared.way.Chain.{Chain}
use Rattle.sp_system.specs.declared.way.Way.{Way}
use Rattle.sp_system.specs.declared.way.Way.TheVariants.{Anyhow, PublicName, OwnName, Constructed, ChainBegun, ChainDone}

-- the time and place of the conclusion with which it begins, and its messages
abbrev pub chain_of : Chain → ℕ × ℕ × List (Term Variable)
chain_of c = (c.time, c.conclusion, map view c.messages.items)

abbrev pub begun_of : Chain → spec.Way
begun_of c = spec.chain_begun c.time c.conclusion (map view c.messages.items)

abbrev pub done_of : Chain → spec.Way
done_of c = spec.chain_done c.time c.conclusion (map view c.messages.items)

abbrev pub way_of : Way → spec.Way
way_of Anyhow = spec.anyhow
way_of PublicName = spec.public_name
way_of OwnName = spec.own_name
way_of Constructed = spec.constructed
way_of (ChainBegun c) = begun_of c
way_of (ChainDone c) = done_of c
