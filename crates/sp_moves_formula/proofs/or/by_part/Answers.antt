use Rattle.std.proofs.Common.{◌≡◌, ◌<◌, ◌+◌, ℕ, suc, drop, List, [], ◌∷◌, ◌++◌, map, length, get_or, codes, decimal, arith, sym, ap, ◌∙◌}
use Rattle.std.proofs.lemmas.List.{drop_more}
use Rattle.sp_formula.specs.FormulaView.{formula_of}
use Rattle.sp_formula.specs.declared.formula.Formula.{Formula}
use Rattle.sp_spec_system.specs.System.{System}
use Rattle.sp_spec_system.specs.Move as spec
use Rattle.sp_system.specs.SystemView.{system_of}
use Rattle.sp_system.specs.SpendView.{spending_at}
use Rattle.sp_moves.specs.View.{case_of}
use Rattle.sp_moves.specs.declared.moves.Case.{Case}
use Rattle.sp_moves_formula.specs.Parts.{by_parts}
use Rattle.sp_moves.proofs.Going.{one_further, grows}
use Rattle.sp_moves_formula.proofs.or.by_part.Goals as goal

split : (s : System) (p i k n : ℕ) (fs : List Formula) (f : Formula) → i < length fs → f ≡ get_or fs i f → n ≡ k + 1
    → by_parts s p k (map formula_of (drop i fs)) ≡ record { name = codes "case_" ++ decimal k; system = spending_at s p (formula_of f ∷ []) } ∷ by_parts s p n (map formula_of (drop (i + 1) fs))
split s p i k n fs f h is e =
    let next : suc k ≡ n = omega arith in
    let one : spec.Case = record { name = codes "case_" ++ decimal k; system = spending_at s p (formula_of f ∷ []) } in
    ap (λ (gs : List Formula). by_parts s p k (map formula_of gs)) (drop_more fs i f h ∙ ap (λ (g : Formula). g ∷ drop (i + 1) fs) (sym is))
    ∙ ap (λ (m : ℕ). one ∷ by_parts s p m (map formula_of (drop (i + 1) fs))) next

pub loop-part-preserved : goal.loop-part-preserved
loop-part-preserved c =
    let s = system_of c.args.system.now in
    let p = c.args.position in
    let k = c.loop-part.number in
    let i = c.loop-part.part-index in
    let f = c.part-item.result in
    let parts = c.deref-part-items.result.now in
    let name = codes "case_" ++ decimal k in
    let spent = spending_at s p (formula_of f ∷ []) in
    let one : Case = record { name = c.in_ok-name.name; system = c.in_ok-system.system } in
    let here : spec.Case = record { name = name; system = spent } in
    one_further case_of c.loop-part.made.items c.push.new.self.items (here ∷ []) (by_parts s p c.in-Some.next (map formula_of (drop (i + 1) parts))) (by_parts s p k (map formula_of (drop i parts)))
    (by_parts s p 1 (map formula_of c.args.parts.now.items))
    (grows c.loop-part.made.items c.push.new.self.items one name spent c.in_ok-push.ensures.items c.in_ok-name.ensures c.in_ok-system.ensures)
    (split s p i k c.in-Some.next parts f c.loop-part-test.true c.part-item.is c.in-Some.ensures.1) c.loop-part.invariant
