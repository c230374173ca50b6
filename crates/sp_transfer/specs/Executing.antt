-- What levels, the ways of destructions, and what links go by in memory stand for.
use Rattle.std.specs.Prelude.{Vec, List, map}
use Rattle.std.specs.Global.{Global}
use Rattle.sp_term.specs.View.{name_of}
use Rattle.sp_destruct.specs.View.{destruction_of}
use Rattle.sp_law_log_execution.specs.Executed as spec
use Rattle.sp_transfer.specs.declared.level.Level.{Level}
use Rattle.sp_transfer.specs.declared.way.Linking.{Linking}

abbrev pub level_of : Level → spec.Level
level_of l = record { symbol = name_of l.symbol; front = l.front; back = l.back }

abbrev pub levels_of : Vec Level Global → List spec.Level
levels_of levels = map level_of levels.items

abbrev pub linking_in : Linking → spec.Linking
linking_in l = record { destructions = map destruction_of l.destructions.items; ways = map levels_of l.ways.items }
