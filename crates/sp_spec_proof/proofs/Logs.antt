-- The first of several logs, however they are grouped.
use Rattle.std.proofs.Common.{◌≡◌, Option, Some, None, refl}
use Rattle.sp_spec.specs.Log.{Log}
use Rattle.sp_spec_proof.specs.Tree.{first_log}

pub log_last : (o : Option Log) → first_log o None ≡ o
log_last None = refl
log_last (Some log) = refl

pub log_regroup : (o p q : Option Log) → first_log (first_log o p) q ≡ first_log o (first_log p q)
log_regroup None p q = refl
log_regroup (Some log) p q = refl
