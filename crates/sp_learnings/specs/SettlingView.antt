-- What it stands for that is known of how a message is learnt.
use Rattle.std.specs.Prelude.{ℕ, List, [], ◌∷◌, map, codes, Option}
use Rattle.std.specs.Str.{bytes_eq}
use Rattle.sp_spec.specs.Term as terms
use Rattle.sp_term.specs.View.{view}
use Rattle.sp_system.specs.WayView.{way_of}
use Rattle.sp_spec_system.specs.System.{public_name}
use Rattle.sp_spec_know.specs.SettleLearn as spec
use Rattle.sp_learnings.specs.declared.settling.Settling.{Settling}

abbrev pub settling_of : Settling → spec.Settling
settling_of x = record { time = x.time; way = way_of x.way; parts = map view x.parts.items }

abbrev pub publicly : ℕ → spec.Settling
publicly i = record { time = i; way = public_name; parts = [] }

-- the symbol applied to two messages
abbrev pub made_of_both : ℕ → List ℕ → terms.Term terms.Variable → terms.Term terms.Variable → Option spec.Settling
made_of_both i f t u = spec.made_of (bytes_eq f (codes "pair")) i (t ∷ u ∷ [])
