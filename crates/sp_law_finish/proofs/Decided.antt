-- A system in which no move but the last is an instance is decided, as far as it has a solution.
use Rattle.std.proofs.Common.{◌≡◌, true}
use Rattle.sp_spec.specs.Lists.{Every}
use Rattle.sp_spec.specs.Theory.{Theory}
use Rattle.sp_spec.specs.Log.{Log, IsLog}
use Rattle.sp_spec.proofs.Lists.{every_weaken}
use Rattle.sp_spec_system.specs.System.{System}
use Rattle.sp_spec_system.specs.Solutions.{Valuation, Solves}
use Rattle.sp_spec_system.specs.Numbered.{names_in, InEvent}
use Rattle.sp_spec_system.specs.Move.{Context}
use Rattle.sp_spec_proof.specs.Finish.{is_decided}
use Rattle.sp_law_equal.specs.RightTheory.{LeavesReserved}
use Rattle.sp_law_system.specs.Proofs.{IsWellMade}
use Rattle.sp_law_system.proofs.Numbers.{event_weaken}
use Rattle.sp_law_system.proofs.Solutions.{Under, TimeUnder}
use Rattle.sp_law_exchange.specs.Laws.{any_variable, any_time}
use Rattle.sp_law_decided.specs.Decided.{IsDecided}
use Rattle.sp_law_finish.specs.Laws.{EndedIsDecided}
use Rattle.sp_law_finish.proofs.Moves.{is_closed}
use Rattle.sp_law_finish.proofs.Times.{compared, placed}
use Rattle.sp_law_finish.proofs.Names.{named, apart, others}
use Rattle.sp_law_finish.proofs.Learnt.{settled}
use Rattle.sp_law_finish.proofs.Premises.{linked}

pub decided : (theory : Theory) → Every LeavesReserved theory.rules → (context : Context) (s : System) → is_decided context s ≡ true → IsWellMade context s
    → (log : Log) → IsLog theory log → (v : Valuation) → Solves theory log v s → IsDecided context.public_names s
decided theory reserved context s e made log is_log v solves =
    let N = names_in context.public_names in
    record {
      closed = is_closed context s e;
      once = made.once;
      compared = compared context s e made theory log v solves;
      names = every_weaken (InEvent N (Under s.next) (TimeUnder s.next)) (InEvent N any_variable any_time)
          (event_weaken N (Under s.next) any_variable (TimeUnder s.next) any_time (λ x k. tt) (λ i k. tt)) s.events made.numbered.events;
      named = named context s e made;
      apart = apart context s e made;
      others = others context s e made;
      settled = λ d m. settled context s e made d m theory log v solves;
      linked = λ d m p f there no_fr. linked context s e made d m p f there theory reserved log is_log v solves no_fr;
      placed = placed context s e made theory log v solves;
    }

pub ended_is_decided_lem : EndedIsDecided
ended_is_decided_lem = record { each = decided }
