use Rattle.std.proofs.Common.{◌+◌, map, drop, option_map, sym, ap, ◌∙◌, arith}
use Rattle.sp_formula.specs.FormulaView.{atom_of, formula_of}
use Rattle.sp_system.specs.SystemView.{event_of, system_of}
use Rattle.sp_spec_formula.specs.Instantiate as rows
use Rattle.sp_rows_formula.specs.MatchesView.{finished}
use Rattle.sp_rows_formula.specs.SlotsView.{slots_of}
use Rattle.sp_rows_formula.proofs.Matchings.{acts_there, some_here, some_end}
use Rattle.sp_rows_formula.proofs.instantiate.+first_match.Goals as goal

pub returns-in-Some : goal.returns-in-Some
returns-in-Some t c =
    let events = map event_of c.args.system.now.events.items in
    let guard = c.args.guard.now.items in
    let finish = finished (system_of c.args.system.now) (map atom_of guard) (formula_of c.args.body.now) in
    let pick = rows.first_match events finish (map atom_of (drop (c.args.from + 1) guard)) in
    let all = c.deref-next-items.result.now in
    sym
    (acts_there events finish guard c.args.from c.index.result.now c.in-Acts.action c.in-Acts.moment (slots_of c.args.slots.now) c.in_ok-found.found.items all
    (omega (arith, c.if-from-len.false, c.len.ensures)) c.index.ensures c.in-Acts.is c.in_ok-found.ensures c.deref-next-items.ensures.value
    ∙ c.loop-next.invariant
    ∙ some_here pick all c.loop-next.next-index c.next-item.result (formula_of c.in-Some.made) c.loop-next-test.true c.next-item.is (sym c.in_ok-made-3.ensures ∙ ap (option_map formula_of) c.in-Some.is))

pub returns : goal.returns
returns t c =
    let events = map event_of c.args.system.now.events.items in
    let guard = c.args.guard.now.items in
    let finish = finished (system_of c.args.system.now) (map atom_of guard) (formula_of c.args.body.now) in
    let pick = rows.first_match events finish (map atom_of (drop (c.args.from + 1) guard)) in
    let all = c.deref-next-items.result.now in
    sym
    (acts_there events finish guard c.args.from c.index.result.now c.in-Acts.action c.in-Acts.moment (slots_of c.args.slots.now) c.in_ok-found.found.items all
    (omega (arith, c.if-from-len.false, c.len.ensures)) c.index.ensures c.in-Acts.is c.in_ok-found.ensures c.deref-next-items.ensures.value
    ∙ c.loop-next.invariant ∙ some_end pick all c.loop-next.next-index c.loop-next-test.false)
