use Rattle.std.proofs.Common.{suc, map, take, drop, ◌++◌, ap, ◌∙◌}
use Rattle.std.proofs.lemmas.List.{map-append}
use Rattle.sp_unify.specs.View.{pair_view}
use Rattle.sp_system.specs.SystemView.{event_of, system_of}
use Rattle.sp_merge.specs.MergingView.{merging_of}
use Rattle.sp_merge.specs.JoiningView.{joining_of}
use Rattle.sp_merge.proofs.Turns.{merged_from}
use Rattle.sp_merge.proofs.joining.with_merging.Goals as goal

pub returns : goal.returns
returns c =
    let events = map event_of c.args.joining.system.events.items in
    merged_from c.args.time (take c.args.position events ++ drop (suc c.args.position) events) (merging_of c.args.found) (joining_of c.args.joining) (system_of c.in_ok-system.system)
    (map pair_view c.append.new.self.items) c.append-2.new.self.items c.in_ok-system.ensures
    (ap (map pair_view) c.in_ok-append.ensures.items ∙ map-append pair_view c.args.joining.pairs.items c.args.found.pairs.items) c.in_ok-append-2.ensures.items
