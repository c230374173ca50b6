use Rattle.std.proofs.Common.{sym, ◌∙◌, arith, map}
use Rattle.std.proofs.lemmas.Bool.{false_from_ne_true}
use Rattle.std.proofs.lemmas.List.{length-map}
use Rattle.sp_formula.specs.FormulaView.{formula_of}
use Rattle.sp_formula.proofs.SameParts.{same_formulas-length}
use Rattle.sp_moves_induction.proofs.induction.are_same.Goals as goal

pub returns-then-len : goal.returns-then-len
returns-then-len c =
    let xs = c.args.left.now in
    let ys = c.args.right.now in
    sym
    (false_from_ne_true _
    (λ h.
    let e = sym (length-map xs.items formula_of) ∙ same_formulas-length (map formula_of xs.items) (map formula_of ys.items) h ∙ length-map ys.items formula_of in
    absurd (omega (arith, e, c.if-len.true, c.len.ensures, c.len-2.ensures, xs.ok.0, ys.ok.0))))
