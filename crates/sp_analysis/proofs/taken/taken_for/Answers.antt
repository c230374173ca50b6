use Rattle.std.proofs.Common.{[], ◌∷◌, ◌++◌, ◌+◌, map, drop, sym, ap, ◌∙◌}
use Rattle.std.proofs.lemmas.List.{map-append}
use Rattle.sp_spec.proofs.Lists.{next_there}
use Rattle.sp_formula.specs.FormulaView.{formula_of}
use Rattle.sp_written.specs.Views as view
use Rattle.sp_analysis.specs.Taken as spec
use Rattle.sp_analysis.specs.View.{taken_of}
use Rattle.sp_analysis.proofs.TakenFor.{one_hidden, one_taken}
use Rattle.sp_analysis.proofs.taken.taken_for.Goals as goal
use Rattle.sp_analysis.proofs.taken.taken_for.Goals.{then-not-is_hidden+in_ok-clone+in_ok-push, else-not-is_hidden}

pub loop-other-preserved : goal.loop-other-preserved
loop-other-preserved c =
    let attributes = view.attributes c.args.attributes.now.items in
    let ts = c.args.taken.now.items in
    let place = c.loop-other.other-index in
    let other = c.other-item.result in
    let at = next_there c.deref-other-items.result.now ts place other c.deref-other-items.ensures.value c.loop-other-test.true c.other-item.is in
    let out = map formula_of c.loop-other.forms.items in
    let all = spec.taken_for attributes (map taken_of ts) in
    let rest = spec.taken_for attributes (map taken_of (drop (place + 1) ts)) in
    elim c.if-not-is_hidden.branch [
      | then-not-is_hidden+in_ok-clone+in_ok-push w ↦
          ap (λ fs. map formula_of fs.items ++ rest) w.forms-is
          ∙ one_taken attributes place ts other at out (map formula_of w.push.new.self.items) all (formula_of w.in_ok-clone.field-0) (sym c.is_hidden.ensures ∙ w.if-not-is_hidden.true)
          w.in_ok-clone.ensures.cases (ap (map formula_of) w.in_ok-push.ensures.items ∙ map-append formula_of c.loop-other.forms.items (w.in_ok-clone.field-0 ∷ [])) c.loop-other.invariant
      | else-not-is_hidden w ↦
          ap (λ fs. map formula_of fs.items ++ rest) w.forms-is
          ∙ one_hidden attributes place ts other at out all (sym c.is_hidden.ensures ∙ w.if-not-is_hidden.false) c.loop-other.invariant
    ]
