-- What makes two happenings one.
use Rattle.std.specs.Prelude.{List, Option, map}
use Rattle.sp_spec.specs.Term.{Variable}
use Rattle.sp_spec.specs.Rule.{Facts}
use Rattle.sp_spec.specs.Unifier.{Pair}
use Rattle.sp_spec_system.specs.Equating.{both_pairs, fact_pairs, action_pairs}
use Rattle.sp_spec_system.specs.Equating as spec
use Rattle.sp_merge.specs.declared.merging.Merging as memory
use Rattle.sp_system.specs.WayView.{way_of}
use Rattle.sp_unify.specs.View.{pair_view}

abbrev pub merging_of : memory.Merging → spec.Merging
merging_of m = record { pairs = map pair_view m.pairs.items; times = m.times.items; way = way_of m.way }

-- the pairs that make the facts of two steps the same
abbrev pub facts_merging : Facts Variable → Facts Variable → Option (List Pair)
facts_merging f g = both_pairs (fact_pairs f.premises g.premises) (both_pairs (action_pairs f.actions g.actions) (fact_pairs f.conclusions g.conclusions))
