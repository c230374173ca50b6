use Rattle.sp_spec.specs.Equal.{IsNormal, AreNormal}
use Rattle.sp_spec.specs.Theory.{signature_of}
use Rattle.sp_law_log.proofs.Lasting.{holds_in_log}
use Rattle.sp_law_log.proofs.Over.{normal_lasts}
use Rattle.sp_law_log.proofs.logs_are_normal.Goals as goal

pub returns : goal.returns
returns c = record {
  each = λ theory log is. holds_in_log theory (IsNormal (signature_of theory).equations) (AreNormal (signature_of theory).equations) (normal_lasts theory) log is;
}
