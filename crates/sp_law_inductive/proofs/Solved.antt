-- Systems of such formulas alone: their numbers are below their next one, and a log over whose trace they are true solves them.
use Rattle.std.proofs.Common.{◌≡◌, ◌<◌, zero, Bool, true, List, [], length}
use Rattle.sp_spec.specs.Lists.{Every}
use Rattle.sp_spec.specs.Term.{Names}
use Rattle.sp_spec.specs.Signature.{Signature}
use Rattle.sp_spec.specs.Theory.{Theory, signature_of}
use Rattle.sp_spec.specs.Guarded.{Guarded}
use Rattle.sp_spec.specs.Log.{Log}
use Rattle.sp_spec.proofs.Lists.{every_weaken, every_both}
use Rattle.sp_law_equal.specs.NormalForms.{HaveNormalForms}
use Rattle.sp_spec_system.specs.System.{System, formulas_alone, with_closed}
use Rattle.sp_spec_system.specs.Solutions.{FormulaHolds, AreAll, Solves}
use Rattle.sp_spec_system.specs.Numbered.{InFormula, IsNumbered}
use Rattle.sp_law_cover.specs.Admitted.{start, Over}
use Rattle.sp_law_tree.proofs.Starts.{start_sorts, start_normal}
use Rattle.sp_law_inductive.proofs.Bound.{IsBoundForm, bound_in}
use Rattle.sp_law_inductive.proofs.Settled.{bound_settled}

-- in which all may have happened already
abbrev pub alone : Bool → List Guarded → System
alone closed fs = with_closed (formulas_alone fs) closed

pub alone_numbered : (signature : Signature) (N : Names) (closed : Bool) (fs : List Guarded) → Every (IsBoundForm signature N) fs → IsNumbered N (alone closed fs)
alone_numbered signature N closed fs b = record {
  events = tt;
  formulas = every_weaken (IsBoundForm signature N) (InFormula N (λ x. x.number < zero) (λ i. i < zero)) (bound_in signature N (λ x. x.number < zero) (λ i. i < zero) zero) fs b;
  spent = tt;
  unequal = tt;
  links = tt;
  order = tt;
  last = tt;
}

pub alone_solved : (theory : Theory) → HaveNormalForms (signature_of theory).equations → (N : Names) (log : Log) (closed : Bool) → (closed ≡ true → AreAll log start [])
    → (fs : List Guarded) → Every (IsBoundForm (signature_of theory) N) fs → Every (Over theory log) fs → Solves theory log start (alone closed fs)
alone_solved theory good N log closed all fs b h =
    let signature = signature_of theory in
    record {
      sorts = start_sorts signature;
      normal = start_normal signature;
      events = tt;
      formulas = every_both (IsBoundForm signature N) (Over theory log) (FormulaHolds theory log start)
          (λ f bound true_there. (true_there, bound_settled signature good N (length log) start (start_sorts signature) (start_normal signature) f bound)) fs b h;
      spent = tt;
      unequal = tt;
      links = tt;
      order = tt;
      last = tt;
      closed = all;
    }
