-- Where the move `finish` is an instance, nothing is left to decide. Source: this project's own.
use Rattle.std.specs.Prelude.{◌≡◌, true}
use Rattle.sp_spec.specs.Lists.{Every}
use Rattle.sp_spec.specs.Theory.{Theory}
use Rattle.sp_spec.specs.Log.{Log, IsLog}
use Rattle.sp_spec_system.specs.System.{System}
use Rattle.sp_spec_system.specs.Solutions.{Valuation, Solves}
use Rattle.sp_spec_system.specs.Move.{Context}
use Rattle.sp_spec_proof.specs.Finish.{is_decided}
use Rattle.sp_law_equal.specs.RightTheory.{LeavesReserved}
use Rattle.sp_law_system.specs.Proofs.{IsWellMade}
use Rattle.sp_law_decided.specs.Decided.{IsDecided}

-- So it is with each system of a proof that has a solution over a learning log, of a theory no rule of which concludes an In: what an In takes is then one
-- message, which is sent. (Examples.antt: else no move may give a link to a premise.)
pub record EndedIsDecided : Type 0 where
  pub each : (theory : Theory) → Every LeavesReserved theory.rules → (context : Context) (s : System) → is_decided context s ≡ true → IsWellMade context s
      → (log : Log) → IsLog theory log → (v : Valuation) → Solves theory log v s → IsDecided context.public_names s
