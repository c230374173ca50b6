use Rattle.sp_spec.specs.Signature.{IsOver, AreOver}
use Rattle.sp_spec.specs.Theory.{signature_of}
use Rattle.sp_law_log.proofs.Lasting.{holds_in_log}
use Rattle.sp_law_log.proofs.Over.{over_lasts}
use Rattle.sp_law_log.proofs.logs_are_over.Goals as goal

pub returns : goal.returns
returns c = record {
  each = λ theory good log is. holds_in_log theory (IsOver (signature_of theory).symbols) (AreOver (signature_of theory).symbols) (over_lasts theory good) log is;
}
