-- A system in which no move but the last is an instance, and which has a solution, but isn't decided: a rule concludes an In that another takes, and no move
-- gives a link to a premise In of other than one message. Source: this project's own.
use Rattle.std.specs.Prelude.{◌≡◌, true, false, [], ◌∷◌, codes, Some, None}
use Rattle.sp_spec.specs.Term.{Sort, Msg, Fresh, Pub, Variable, constant, name, none, Ground}
use Rattle.sp_spec.specs.Rule.{Fact, Facts, Rule, facts_at}
use Rattle.sp_spec.specs.Guarded.{truth}
use Rattle.sp_spec.specs.Theory.{Theory}
use Rattle.sp_spec.specs.Log.{Log, step, conclusion, IsLog}
use Rattle.sp_spec_system.specs.System.{rule_step, System}
use Rattle.sp_spec_system.specs.Solutions.{Valuation, Solves}
use Rattle.sp_spec_system.specs.Move.{Root, Context}
use Rattle.sp_spec_system.specs.Rules.{rules_of}
use Rattle.sp_spec_proof.specs.Finish.{is_decided}
use Rattle.sp_law_system.specs.Proofs.{IsWellMade}
use Rattle.sp_law_decided.specs.Decided.{IsDecided}

-- In()
abbrev pub input : Fact Variable
input = record { symbol = codes "In"; persistent = false; args = none }

-- [ ] --> [ In() ]
abbrev pub given : Facts Variable
given = record { premises = []; actions = []; conclusions = input ∷ [] }

-- [ In() ] --> [ ]
abbrev pub taken : Facts Variable
taken = record { premises = input ∷ []; actions = []; conclusions = [] }

abbrev pub give_rule : Rule
give_rule = record { name = codes "Give"; variables = []; facts = given }

abbrev pub take_rule : Rule
take_rule = record { name = codes "Take"; variables = []; facts = taken }

abbrev pub theory : Theory
theory = record { symbols = []; equations = []; rules = give_rule ∷ take_rule ∷ []; restrictions = []; lemmas = [] }

-- any log is sought, and none is found
abbrev pub root : Root
root = record { restrictions = []; taken = []; sought = truth; begins_with_induction = false; consecutive = false; cases = None }

abbrev pub context : Context
context = record { rules = rules_of theory; public_names = []; root = Some root; table = []; found = λ s. None }

abbrev pub unlinked_system : System
unlinked_system = record {
  events = record { time = 0; happening = rule_step (codes "Give") given } ∷ record { time = 1; happening = rule_step (codes "Take") taken } ∷ [];
  formulas = [];
  spent = [];
  unequal = [];
  links = [];
  order = (0, 1) ∷ [];
  last = None;
  closed = true;
  next = 2;
}

-- the positions are the times
abbrev pub value : Sort → Ground
value Msg = constant []
value Fresh = name 0
value Pub = constant []

abbrev pub valuation : Valuation
valuation = record { terms = λ (z : Variable). value z.sort; times = λ i. i }

abbrev pub unlinked_log : Log
unlinked_log = step (codes "Take") (facts_at valuation.terms taken) (conclusion 0 0 ∷ []) ∷ step (codes "Give") (facts_at valuation.terms given) [] ∷ []

-- All but that no rule concludes an In is so, and the system isn't decided.
pub record InputsAreReserved : Type 0 where
  pub ended : is_decided context unlinked_system ≡ true
  pub made : IsWellMade context unlinked_system
  pub log : IsLog theory unlinked_log
  pub solves : Solves theory unlinked_log valuation unlinked_system
  pub fails : IsDecided [] unlinked_system → ⊥
