-- The premise In that an input in memory stands for, and what is sent for it.
use Rattle.sp_term.specs.View.{view}
use Rattle.sp_spec_know.specs.SendInput as spec
use Rattle.sp_rows_graph.specs.declared.send_input.Input.{Input}

abbrev pub input_of : Input → spec.Input
input_of x = record { time = x.time; premise = x.premise; message = view x.message }
