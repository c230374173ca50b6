use Rattle.std.proofs.Common.{false, string_bytes}
use Rattle.std.proofs.lemmas.Result.{on_ok_weaker}
use Rattle.sp_term.specs.View.{name_of}
use Rattle.sp_fact.specs.GroundView.{grounds_of}
use Rattle.sp_show.proofs.Texts.{written_application}
use Rattle.sp_show.proofs.term.write_application.Goals as goal

pub returns-clause-text : goal.returns-clause-text
returns-clause-text c =
    on_ok_weaker c.write_closing.result
    (λ h.
    written_application (string_bytes c.args.out.now) (string_bytes c.write_opening.new.out) (string_bytes c.write_row.new.out) (string_bytes c.write_closing.new.out)
    false (name_of c.args.symbol.now) (grounds_of c.args.terms.now.items) c.is_pair.result c.is_pair.ensures
    c.in_ok-write_opening.ensures c.in_ok-write_row.ensures.text h)
    c.write_closing.ensures
