-- The way down in a left side, argument by argument.
use Rattle.std.specs.Prelude.{[], if◌then◌else◌, Option, None, unwrap_or}
use Rattle.sp_spec.specs.Term.{Term, Variable, none, more, Terms, Ground, Values, valued}
use Rattle.sp_spec.specs.Destruction.{way_to}
use Rattle.sp_spec.specs.Log.{Log}
use Rattle.sp_spec.specs.Same.{is_part}
use Rattle.sp_law_adversary.specs.Learning.{Chain, chain_from, chain_down, way_learnt}

-- into the first of these in which the term stands
abbrev pub chain_among : Log → Values → Ground → Term Variable → Terms Variable → Option Chain
chain_among log v end r none = None
chain_among log v end r (more t ts) =
    if is_part r t then chain_from (way_learnt log (valued v t)) end (chain_down log v end (unwrap_or (way_to r t) [])) else chain_among log v end r ts
