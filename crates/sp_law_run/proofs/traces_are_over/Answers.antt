use Rattle.sp_spec.specs.Theory.{signature_of}
use Rattle.sp_law_run.proofs.Over.{execution_over, normal_trace_over}
use Rattle.sp_law_run.proofs.traces_are_over.Goals as goal

pub returns : goal.returns
returns c = record {
  each = λ theory over steps trace h. execution_over theory over steps trace h;
  in_normal_form = λ theory over keeps steps trace h.
      normal_trace_over (signature_of theory).symbols (signature_of theory).equations keeps trace (execution_over theory over steps trace h);
}
