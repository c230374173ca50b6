use Rattle.std.proofs.Common.{◌≡◌, ◌+◌, ◌-◌, length, map, drop}
use Rattle.sp_formula.specs.FormulaView.{atom_of, formula_of}
use Rattle.sp_system.specs.SystemView.{event_of, system_of}
use Rattle.sp_spec_formula.specs.Instantiate as rows
use Rattle.sp_spec_system.specs.Picked as picked
use Rattle.sp_rows_formula.specs.MatchesView.{finished}
use Rattle.sp_rows_formula.specs.SlotsView.{slots_of}
use Rattle.sp_rows_formula.proofs.instantiate.+first_match.Given as goal

abbrev pub decreases-first_match : goal.decreases-first_match
decreases-first_match l = length l.guard.now.items - l.from

abbrev pub invariant-loop-next : goal.invariant-loop-next
invariant-loop-next l =
    let pick = rows.first_match (map event_of l.system.events.items) (finished (system_of l.system) (map atom_of l.guard.items) (formula_of l.body)) (map atom_of (drop (l.from + 1) l.guard.items)) in
    picked.first_some pick (map slots_of l.next-items) ≡ picked.first_some pick (map slots_of (drop l.next-index l.next-items))
