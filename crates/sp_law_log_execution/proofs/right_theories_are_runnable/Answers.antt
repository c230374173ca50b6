use Rattle.sp_law_log_execution.proofs.right_theories_are_runnable.Goals as goal

pub returns : goal.returns
returns c = record {
  each = λ theory good. record {
    executable = record { instances = good.instances; distinct = good.declared.distinct; fresh = good.takes_fresh };
    reserved = good.reserved;
  };
}
