use Rattle.std.proofs.Common.{◌≡◌, map, drop}
use Rattle.sp_fact.specs.View.{fact_of}
use Rattle.sp_system.specs.SystemView.{link_of}
use Rattle.sp_spec_know.specs.SendInput as rows
use Rattle.sp_rows_graph.proofs.send_input.first_input.Given as goal

abbrev pub invariant-loop-place : goal.invariant-loop-place
invariant-loop-place l =
    let links = map link_of l.links.items in
    rows.input_from links l.time 0 (map fact_of l.premises.items) ≡ rows.input_from links l.time l.place (map fact_of (drop l.place l.premises.items))
