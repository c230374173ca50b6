use Rattle.std.proofs.Common.{map, option_map, sym, ap, ◌∙◌}
use Rattle.sp_term.specs.View.{name_of}
use Rattle.sp_system.specs.SystemView.{system_of}
use Rattle.sp_moves.specs.View.{case_of, move_of}
use Rattle.sp_moves.specs.Applied.{clause_of}
use Rattle.sp_moves.proofs.CasesThere.{some_there, none_there}
use Rattle.sp_moves_decide.specs.RulesView.{rules_of}
use Rattle.sp_moves_decide.specs.WhyNot.{why_not_decide, deciding_cases}
use Rattle.sp_moves_decide.proofs.Exact.{exactly}
use Rattle.sp_moves_decide.proofs.apply.apply.Goals as goal

pub returns-in_err-cases-clause-exact : goal.returns-in_err-cases-clause-exact
returns-in_err-cases-clause-exact c =
    exactly (rules_of c.args.signature.now c.args.rules.now) (map name_of c.args.constants.now.items) (system_of c.args.system.now) (move_of c.args.chosen.now)

pub returns-in-Some-clause-exact : goal.returns-in-Some-clause-exact
returns-in-Some-clause-exact c =
    exactly (rules_of c.args.signature.now c.args.rules.now) (map name_of c.args.constants.now.items) (system_of c.args.system.now) (move_of c.args.chosen.now)

pub returns-in-Some-clause-why : goal.returns-in-Some-clause-why
returns-in-Some-clause-why c =
    some_there (why_not_decide (map name_of c.args.constants.now.items) (system_of c.args.system.now) (move_of c.args.chosen.now))
    (deciding_cases (rules_of c.args.signature.now c.args.rules.now) (map name_of c.args.constants.now.items) (system_of c.args.system.now) (move_of c.args.chosen.now))
    (map case_of c.in-Some.cases.items)
    (exactly (rules_of c.args.signature.now c.args.rules.now) (map name_of c.args.constants.now.items) (system_of c.args.system.now) (move_of c.args.chosen.now))
    (ap (option_map (λ cs. map case_of cs.items)) (sym c.in-Some.is) ∙ c.in_ok-cases.ensures)

pub unreachable-requires : goal.unreachable-requires
unreachable-requires c =
    absurd (none_there (why_not_decide (map name_of c.args.constants.now.items) (system_of c.args.system.now) (move_of c.args.chosen.now))
    (deciding_cases (rules_of c.args.signature.now c.args.rules.now) (map name_of c.args.constants.now.items) (system_of c.args.system.now) (move_of c.args.chosen.now))
    (exactly (rules_of c.args.signature.now c.args.rules.now) (map name_of c.args.constants.now.items) (system_of c.args.system.now) (move_of c.args.chosen.now))
    (ap (option_map (λ cs. map case_of cs.items)) (sym c.in-None.is) ∙ c.in_ok-cases.ensures)
    (ap (option_map clause_of) (sym c.in-None-why_not.is) ∙ c.why_not.ensures))
