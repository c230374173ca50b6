-- The logs of a theory that is searched stand for executions.
use Rattle.sp_spec.proofs.Lists.{every_weaken}
use Rattle.sp_spec.specs.Theory.{signature_of}
use Rattle.sp_spec.specs.Written.{WrittenTheory, theory_of}
use Rattle.sp_law_equal.specs.RightTheory.{HasNormalInstances, TakesFreshNames, LeavesReserved}
use Rattle.sp_law_run.proofs.Written.{rules_right}
use Rattle.sp_law_log_steps.specs.Executable.{IsExecutable}
use Rattle.sp_law_log_execution.specs.Laws.{IsRunnable}
use Rattle.sp_law_basic.proofs.RightTexts.{normal_instances}
use Rattle.sp_law_basic.proofs.ClosedRules.{IsRightRule, each_right}
use Rattle.sp_law_found_log.specs.Shown.{IsSearched}

module _ (t : WrittenTheory) (s : IsSearched t) where
  pub checkable : HasNormalInstances (theory_of t)
  checkable = normal_instances t s.normal_forms s.basic

  executable : IsExecutable (theory_of t)
  executable = record {
    instances = checkable;
    distinct = (rules_right t.rules s.rule_names).distinct;
    fresh = every_weaken IsRightRule TakesFreshNames (λ r h. h.fresh) (theory_of t).rules (each_right (signature_of (theory_of t)) t.rules s.basic s.right);
  }

  pub runnable : IsRunnable (theory_of t)
  runnable = record {
    executable = executable;
    reserved = every_weaken IsRightRule LeavesReserved (λ r h. h.reserved) (theory_of t).rules (each_right (signature_of (theory_of t)) t.rules s.basic s.right);
  }
