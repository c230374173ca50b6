-- The trees and judgements that those in memory stand for.
use Rattle.std.specs.Prelude.{List, map, reverse, option_map, string_bytes}
use Rattle.sp_learn.specs.View.{log_of}
use Rattle.sp_system.specs.SystemView.{system_of}
use Rattle.sp_system.specs.declared.system.System.{System}
use Rattle.sp_spec_system.specs.System as system
use Rattle.sp_step.specs.View.{move_of, case_of}
use Rattle.sp_check.specs.Nodes.{NodeRead, tree_read}
use Rattle.sp_check.specs.Skeleton as spec
use Rattle.sp_spec_printed.specs.Verdict as clause
use Rattle.sp_check.specs.Judging as judging
use Rattle.sp_check.specs.declared.skeleton.Step.{Step}
use Rattle.sp_check.specs.declared.skeleton.Step.TheVariants.{Known, Unknown}
use Rattle.sp_check.specs.declared.skeleton.Node.{Node}
use Rattle.sp_check.specs.declared.skeleton.Skeleton.{Skeleton}
use Rattle.sp_check.specs.declared.judging.Clause.{Clause}
use Rattle.sp_check.specs.declared.judging.Clause.TheVariants.{Move, Instance, Cases}
use Rattle.sp_check.specs.declared.judging.Judgement.{Judgement}
use Rattle.sp_check.specs.declared.judging.Judgement.TheVariants.{Rejected, Found, Finished, Incomplete}
use Rattle.sp_check.specs.declared.judging.Checked.{Checked}
use Rattle.sp_check.specs.declared.judging.Checked.TheVariants.{Fails, LeadsTo, EndsWith}
use Rattle.sp_check.specs.declared.judging.NodesJudged.{NodesJudged}
use Rattle.sp_check.specs.declared.judging.NodesJudged.TheVariants.{Passed, Stopped}

abbrev pub step_of : Step → spec.Step
step_of (Known move) = spec.known (move_of move)
step_of (Unknown text) = spec.unknown text.items

abbrev pub node_of : Node → NodeRead
node_of n = (step_of n.step, map string_bytes n.cases.items)

abbrev pub nodes_of : List Node → List NodeRead
nodes_of ns = map node_of ns

abbrev pub skeleton_of : Skeleton → spec.Skeleton
skeleton_of k = tree_read (nodes_of k.nodes.items)

-- the systems that are awaited, the next one first, which is the last in memory
abbrev pub systems_of : List System → List system.System
systems_of ss = reverse (map system_of ss)

abbrev pub clause_of : Clause → clause.Clause
clause_of Move = clause.clause_move
clause_of Instance = clause.clause_instance
clause_of Cases = clause.clause_cases

abbrev pub judgement_of : Judgement → judging.Judgement
judgement_of (Rejected n c) = judging.rejected n (clause_of c)
judgement_of (Found log) = judging.found (log_of log)
judgement_of Finished = judging.finished
judgement_of Incomplete = judging.incomplete

abbrev pub checked_of : Checked → judging.Checked
checked_of (Fails c) = judging.fails (clause_of c)
checked_of (LeadsTo cs) = judging.leads_to (map case_of cs.items)
checked_of (EndsWith log) = judging.ends_with (log_of log)

abbrev pub walked_of : NodesJudged → judging.NodesJudged
walked_of (Passed met) = judging.passed met.nodes (option_map log_of met.log)
walked_of (Stopped n c) = judging.stopped n (clause_of c)
