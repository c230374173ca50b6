-- Of an execution of a right theory there are entries that are its log, and they pass the test of logs.
use Rattle.std.proofs.Common.{◌≡◌, List, Option, Some, None, option_map, sym, ◌∙◌, subst}
use Rattle.sp_spec.specs.Lists.{newest_first}
use Rattle.sp_spec.specs.Theory.{Theory}
use Rattle.sp_spec.specs.Execution.{Step, Trace, IsExecution}
use Rattle.sp_spec.specs.Log.{Entry, Log}
use Rattle.sp_law_equal.specs.RightTheory.{IsRightTheory}
use Rattle.sp_law_adversary.specs.Laws.{Learns}
use Rattle.sp_learn.proofs.Checks.{log_decides}
use Rattle.sp_transfer.specs.Construction.{log_of}
use Rattle.sp_transfer.specs.Laws.{IsLogged}
use Rattle.sp_transfer.proofs.Run.{right_theory_logged}

pub is_logged : (theory : Theory) → IsRightTheory theory → (steps : List Step) (trace : Trace) → IsExecution theory steps trace
    → (o : Option (List Entry)) → option_map newest_first o ≡ log_of theory steps → IsLogged theory trace o
is_logged theory right steps trace execution None e = let h = right_theory_logged theory right steps trace execution in let k : None ≡ Some h.0 = e ∙ h.1 in absurd cc
is_logged theory right steps trace execution (Some entries) e =
    let h = right_theory_logged theory right steps trace execution in
    let k : Some (newest_first entries) ≡ Some h.0 = e ∙ h.1 in
    let same : newest_first entries ≡ h.0 = cc in
    let learns = subst (λ (log : Log). Learns theory trace log) (sym same) h.2 in
    record { learns = learns; passes = (log_decides theory right.instances entries).1 learns.is_log }
