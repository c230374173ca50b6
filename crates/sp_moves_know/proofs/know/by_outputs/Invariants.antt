use Rattle.std.proofs.Common.{◌≡◌, ◌++◌, map, drop}
use Rattle.sp_fact.specs.View.{fact_of}
use Rattle.sp_term.specs.View.{name_of}
use Rattle.sp_book.specs.View.{form_of}
use Rattle.sp_system.specs.SystemView.{system_of}
use Rattle.sp_spec_know.specs.Know.{by_outputs}
use Rattle.sp_moves_know.proofs.know.by_outputs.Given as goal

abbrev pub invariant-loop-place : goal.invariant-loop-place
invariant-loop-place l =
    map system_of l.made.items
    ++ by_outputs (system_of l.system) l.time (name_of l.name) (form_of l.form) l.place (map fact_of (drop l.place l.conclusions.items))
    ≡ by_outputs (system_of l.system) l.time (name_of l.name) (form_of l.form) 0 (map fact_of l.conclusions.items)
