use Rattle.std.proofs.Common.{◌≤◌, length, map, sym, arith}
use Rattle.std.proofs.lemmas.List.{length-map}
use Rattle.sp_term.specs.View.{name_of}
use Rattle.sp_undecided.proofs.Sorted.{put_there, within}
use Rattle.sp_undecided.proofs.names.place.Goals as goal

pub insert-requires : goal.insert-requires
insert-requires c =
    let names = c.args.names.now.items in
    omega (arith, c.count_before-place.ensures, within (name_of c.args.name) (map name_of names), length-map names name_of)

pub returns : goal.returns
returns c = put_there name_of c.args.name c.args.names.now.items c.insert.new.self.items c.count_before-place.result c.count_before-place.ensures c.in_ok-insert.ensures.items
