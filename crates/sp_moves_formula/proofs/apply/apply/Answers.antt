use Rattle.std.proofs.Common.{map, option_map, sym, ap, ◌∙◌}
use Rattle.sp_system.specs.SystemView.{system_of}
use Rattle.sp_moves.specs.View.{case_of, move_of}
use Rattle.sp_book.specs.BookView.{book_of}
use Rattle.sp_moves.specs.Applied.{clause_of}
use Rattle.sp_moves_formula.specs.WhyNot.{why_not_formula, formula_cases}
use Rattle.sp_moves_formula.proofs.Exact.{exactly}
use Rattle.sp_moves.proofs.CasesThere.{some_there, none_there}
use Rattle.sp_moves_formula.proofs.apply.apply.Goals as goal

pub returns-in_err-cases-clause-exact : goal.returns-in_err-cases-clause-exact
returns-in_err-cases-clause-exact c = exactly (book_of c.args.rules.now) (system_of c.args.system.now) (move_of c.args.chosen.now)

pub returns-in_err-clause-in-None-clause-exact : goal.returns-in_err-clause-in-None-clause-exact
returns-in_err-clause-in-None-clause-exact c = exactly (book_of c.args.rules.now) (system_of c.args.system.now) (move_of c.args.chosen.now)

pub returns-in-Some-clause-exact : goal.returns-in-Some-clause-exact
returns-in-Some-clause-exact c = exactly (book_of c.args.rules.now) (system_of c.args.system.now) (move_of c.args.chosen.now)

pub returns-in-Some-clause-why : goal.returns-in-Some-clause-why
returns-in-Some-clause-why c =
    some_there (why_not_formula (system_of c.args.system.now) (move_of c.args.chosen.now))
    (formula_cases (book_of c.args.rules.now) (system_of c.args.system.now) (move_of c.args.chosen.now))
    (map case_of c.in-Some.cases.items)
    (exactly (book_of c.args.rules.now) (system_of c.args.system.now) (move_of c.args.chosen.now))
    (ap (option_map (λ cs. map case_of cs.items)) (sym c.in-Some.is) ∙ c.in_ok-cases.ensures)

pub unreachable-requires : goal.unreachable-requires
unreachable-requires c =
    absurd (none_there (why_not_formula (system_of c.args.system.now) (move_of c.args.chosen.now))
    (formula_cases (book_of c.args.rules.now) (system_of c.args.system.now) (move_of c.args.chosen.now))
    (exactly (book_of c.args.rules.now) (system_of c.args.system.now) (move_of c.args.chosen.now))
    (ap (option_map (λ cs. map case_of cs.items)) (sym c.in-None.is) ∙ c.in_ok-cases.ensures)
    (ap (option_map clause_of) (sym c.in-None-2.is) ∙ c.in_ok-clause-in-None.ensures))
