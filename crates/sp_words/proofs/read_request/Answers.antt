use Rattle.std.proofs.Common.{subst, sym}
use Rattle.sp_words.specs.Line.{AsksFor}
use Rattle.sp_words.proofs.read_request.Goals as goal

pub returns-clause-no_line : goal.returns-clause-no_line
returns-clause-no_line g c = λ same request line.
    c.in-None.ensures request (subst (λ read. AsksFor read request) (sym c.in_ok-matches.ensures.names) line.asks)
