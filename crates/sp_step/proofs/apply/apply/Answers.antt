use Rattle.std.proofs.Common.{◌≡◌, None, map, option_map, sym, ap, ◌∙◌}
use Rattle.sp_system.specs.SystemView.{system_of}
use Rattle.sp_spec_proof.specs.Cases.{cases}
use Rattle.sp_moves.specs.View.{case_of, move_of}
use Rattle.sp_moves.specs.Applied.{clause_of}
use Rattle.sp_moves.proofs.CasesThere as moves
use Rattle.sp_step.specs.View.{context_of}
use Rattle.sp_step.specs.WhyNot.{why_not}
use Rattle.sp_step.proofs.Exact.{exactly, each_is_asked, none_there}
use Rattle.sp_step.proofs.apply.apply.Goals as goal

pub returns-in_err-cases-clause-exact : goal.returns-in_err-cases-clause-exact
returns-in_err-cases-clause-exact c = exactly (context_of c.args.context.now) (system_of c.args.system.now) (move_of c.args.chosen.now)

pub returns-in_err-cases-clause-asked : goal.returns-in_err-cases-clause-asked
returns-in_err-cases-clause-asked c = each_is_asked (context_of c.args.context.now) (system_of c.args.system.now) (move_of c.args.chosen.now)

pub returns-in_err-clause-in-None-clause-exact : goal.returns-in_err-clause-in-None-clause-exact
returns-in_err-clause-in-None-clause-exact c = exactly (context_of c.args.context.now) (system_of c.args.system.now) (move_of c.args.chosen.now)

pub returns-in_err-clause-in-None-clause-asked : goal.returns-in_err-clause-in-None-clause-asked
returns-in_err-clause-in-None-clause-asked c = each_is_asked (context_of c.args.context.now) (system_of c.args.system.now) (move_of c.args.chosen.now)

pub returns-in-Some-clause-exact : goal.returns-in-Some-clause-exact
returns-in-Some-clause-exact c = exactly (context_of c.args.context.now) (system_of c.args.system.now) (move_of c.args.chosen.now)

pub returns-in-Some-clause-asked : goal.returns-in-Some-clause-asked
returns-in-Some-clause-asked c = each_is_asked (context_of c.args.context.now) (system_of c.args.system.now) (move_of c.args.chosen.now)

pub returns-in-Some-clause-why : goal.returns-in-Some-clause-why
returns-in-Some-clause-why c =
    moves.some_there (why_not (context_of c.args.context.now) (system_of c.args.system.now) (move_of c.args.chosen.now))
    (cases (context_of c.args.context.now) (system_of c.args.system.now) (move_of c.args.chosen.now))
    (map case_of c.in-Some.cases.items)
    (exactly (context_of c.args.context.now) (system_of c.args.system.now) (move_of c.args.chosen.now))
    (ap (option_map (λ cs. map case_of cs.items)) (sym c.in-Some.is) ∙ c.in_ok-cases.ensures)

pub unreachable-requires : goal.unreachable-requires
unreachable-requires c =
    let none : None ≡ cases (context_of c.args.context.now) (system_of c.args.system.now) (move_of c.args.chosen.now)
    = ap (option_map (λ cs. map case_of cs.items)) (sym c.in-None.is) ∙ c.in_ok-cases.ensures in
    absurd (moves.none_there (why_not (context_of c.args.context.now) (system_of c.args.system.now) (move_of c.args.chosen.now))
    (cases (context_of c.args.context.now) (system_of c.args.system.now) (move_of c.args.chosen.now))
    (exactly (context_of c.args.context.now) (system_of c.args.system.now) (move_of c.args.chosen.now))
    none
    (ap (option_map clause_of) (sym c.in-None-2.is) ∙ c.in_ok-clause-in-None.ensures
    ∙ none_there (context_of c.args.context.now) (system_of c.args.system.now) (move_of c.args.chosen.now) none))

pub returns-in-Some-2-clause-why : goal.returns-in-Some-2-clause-why
returns-in-Some-2-clause-why c =
    ap (option_map clause_of) (sym c.in-Some-2.is) ∙ c.in_ok-clause-in-None.ensures
    ∙ none_there (context_of c.args.context.now) (system_of c.args.system.now) (move_of c.args.chosen.now)
    (ap (option_map (λ cs. map case_of cs.items)) (sym c.in-None.is) ∙ c.in_ok-cases.ensures)

pub returns-in-Some-2-clause-exact : goal.returns-in-Some-2-clause-exact
returns-in-Some-2-clause-exact c = exactly (context_of c.args.context.now) (system_of c.args.system.now) (move_of c.args.chosen.now)

pub returns-in-Some-2-clause-asked : goal.returns-in-Some-2-clause-asked
returns-in-Some-2-clause-asked c = each_is_asked (context_of c.args.context.now) (system_of c.args.system.now) (move_of c.args.chosen.now)
