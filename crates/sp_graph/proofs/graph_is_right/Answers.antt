use Rattle.sp_graph.proofs.Right.{graph_is_right}
use Rattle.sp_graph.proofs.graph_is_right.Goals as goal

pub returns : goal.returns
returns c = graph_is_right
