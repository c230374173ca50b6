use Rattle.std.proofs.Common.{map, take, drop, ap, ◌∙◌}
use Rattle.std.specs.Global.{Vec}
use Rattle.sp_formula.specs.declared.formula.Formula.{Formula}
use Rattle.sp_formula.specs.FormulaView.{formula_of}
use Rattle.sp_system.proofs.Spends.{spends_one}
use Rattle.sp_system.proofs.spend.spend_for.Goals as goal

pub returns : goal.returns
returns c =
    let there = c.in_ok-formula.ensures ∙ ap (λ (v : Vec Formula). take 1 (drop c.args.position (map formula_of v.items))) c.deref.ensures in
    spends_one c.args.system.now c.replace.new.self.items c.in_ok-instead.instead.items c.args.instead.items c.push.new.self.items c.args.position c.in_ok-formula.formula
    there c.in_ok-instead.ensures c.in_ok-replace.ensures c.in_ok-push.ensures.added
