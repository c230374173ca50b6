-- The system that an entry begins from is numbered.
use Rattle.std.proofs.Common.{◌<◌, ◌≤◌, ◌+◌, ℕ, zero, suc, List, arith}
use Rattle.sp_spec.specs.Lists.{Every}
use Rattle.sp_spec.specs.Term.{Names, MadeOf, AllMadeOf}
use Rattle.sp_spec.specs.Guarded.{Guarded}
use Rattle.sp_spec_system.specs.Numbered.{InFormula, IsNumbered}
use Rattle.sp_spec_system.specs.Head.{Head, fresh_head, symbol_head, new_variables, head_message, head_next, start_of}
use Rattle.sp_spec.proofs.Lists.{every_weaken}
use Rattle.sp_law_system.proofs.Numbers.{formula_weaken}
use Rattle.sp_law_system.proofs.Solutions.{Under, TimeUnder}
use Rattle.sp_spec_system.specs.Move.{Context}
use Rattle.sp_spec_system.specs.Numbered.{names_in}
use Rattle.sp_law_system.specs.Proofs.{IsWellMade}
use Rattle.sp_spec_sources.specs.Entries.{StandsAlone}

variables_under : (N : Names) (n k limit : ℕ) → n + k ≤ limit → AllMadeOf N (Under limit) (new_variables n k)
variables_under N zero k limit le = tt
variables_under N (suc n) k limit le = (omega (arith, le), variables_under N n (suc k) limit (omega (arith, le)))

message_under : (N : Names) (l : Head) → (0 < head_next l) × MadeOf N (Under (head_next l)) (head_message l)
message_under N fresh_head = (omega arith, omega arith)
message_under N (symbol_head f n) = (omega arith, variables_under N n 1 (suc n) (omega arith))

start_numbered : (N : Names) (taken : List Guarded) → Every (StandsAlone N) taken → (l : Head) → IsNumbered N (start_of taken l)
start_numbered N taken alone l =
    let m = message_under N l in
    record {
      events = ((m.0, (m.1, tt)), tt);
      formulas = every_weaken (StandsAlone N) (InFormula N (Under (head_next l)) (TimeUnder (head_next l)))
          (λ f a. formula_weaken N (λ x. ⊥) (Under (head_next l)) (λ i. ⊥) (TimeUnder (head_next l)) (λ x b. absurd b) (λ i b. absurd b) f a) taken alone;
      spent = tt;
      unequal = tt;
      links = tt;
      order = tt;
      last = tt;
    }

-- and it is well made: it has one event
pub start_made : (context : Context) (taken : List Guarded) → Every (StandsAlone (names_in context.public_names)) taken → (h : Head) → IsWellMade context (start_of taken h)
start_made context taken alone h = record { numbered = start_numbered (names_in context.public_names) taken alone h; once = ((λ m. m), tt) }
