use Rattle.sp_wf_symbols.proofs.FirstNamed.{noted_before, noted_new}
use Rattle.sp_wf_symbols.proofs.firsts.note.Goals as goal

pub returns-in-Some : goal.returns-in-Some
returns-in-Some c q = noted_before c.args.firsts.now c.as_str-name.result c.args.symbol c.as_str-name.ensures.value q _ c.in-Some.ensures.value

pub returns-in_ok-insert-in-None : goal.returns-in_ok-insert-in-None
returns-in_ok-insert-in-None c q =
    noted_new c.args.firsts.now c.as_str-name.result c.args.symbol c.as_str-name.ensures.value q c.insert.new.self c.in-None.ensures.value (c.in_ok-insert-in-None.ensures.updates.0 q)
