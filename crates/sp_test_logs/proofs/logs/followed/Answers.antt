use Rattle.sp_replay.proofs.Rules.{have_names, have_normal_forms}
use Rattle.sp_replay.proofs.Replied.{posed_right}
use Rattle.sp_test_logs.proofs.logs.followed.Goals as goal

pub read_steps-requires : goal.read_steps-requires
read_steps-requires c = record { named = have_names c.args.problem.now c.requires }

pub replay-requires-clause-right : goal.replay-requires-clause-right
replay-requires-clause-right c = posed_right c.args.problem.now c.requires

pub replay-requires-clause-normal_forms : goal.replay-requires-clause-normal_forms
replay-requires-clause-normal_forms c = have_normal_forms c.args.problem.now c.requires
