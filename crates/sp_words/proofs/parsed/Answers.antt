use Rattle.std.proofs.Common.{sym, ◌∙◌}
use Rattle.clap.specs.Words.{app_of}
use Rattle.sp_words.proofs.Parses.{named_by, refused_by, taken_by}
use Rattle.sp_words.proofs.parsed.Goals as goal

pub returns-in-Ok : goal.returns-in-Ok
returns-in-Ok g c = record {
  taken = taken_by (app_of c.in_ok-command.command) c.in_ok-command.ensures _ c.in-Ok.ensures.kinds;
  names = named_by (app_of c.in_ok-command.command) c.in_ok-command.ensures _ c.in-Ok.matches c.in-Ok.ensures.matches;
  refused = tt;
}

pub returns-in-Err : goal.returns-in-Err
returns-in-Err g c = record {
  taken = tt;
  names = tt;
  refused = λ is. refused_by (app_of c.in_ok-command.command) c.in_ok-command.ensures _ c.in-Err.error c.in-Err.ensures.kinds (sym c.from.ensures ∙ is);
}
