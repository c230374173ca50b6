use Rattle.std.proofs.Common.{string_bytes}
use Rattle.sp_lines.specs.TextsView.{texts_of}
use Rattle.sp_wf.proofs.NamesBefore.{one_more}
use Rattle.sp_wf.proofs.names.tell_name.Goals as goal

pub returns-clause-is_put : goal.returns-clause-is_put
returns-clause-is_put c = λ q.
    one_more c.args.name.now (string_bytes c.in_ok-key.key) q (texts_of c.args.names.now) (texts_of c.see.new.self) c.in_ok-key.ensures.ok c.in_ok-is_new.ensures.seen
