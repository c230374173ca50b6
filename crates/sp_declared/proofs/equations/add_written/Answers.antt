use Rattle.std.proofs.Common.{◌≡◌, ◌+◌, length, [], ◌∷◌, map, sym, ap, ◌∙◌, arith}
use Rattle.std.proofs.lemmas.List.{map-append, length_push}
use Rattle.sp_spec.proofs.Lists.{length_map}
use Rattle.sp_fact.specs.GroundView.{equation_of}
use Rattle.sp_spec_text.specs.Declared.{numbered_from}
use Rattle.sp_declared.specs.NumberedView.{numbered_of}
use Rattle.sp_declared.specs.Equations.{added_after}
use Rattle.sp_declared.proofs.Adding.{numbered_then}
use Rattle.sp_declared.proofs.equations.add_written.Goals as goal

pub loop-equation-preserved : goal.loop-equation-preserved
loop-equation-preserved c =
    let gone = c.loop-equation.yielded in
    let e = c.in-Some.equation in
    let before = map numbered_of c.args.equations.now.items in
    let next = c.in-Some-checked_add.next in
    let counted : next ≡ length gone + 1 = omega (arith, c.in-Some-checked_add.ensures, c.loop-equation.invariant.count) in
    record {
      count = omega (arith, counted, length_push gone e);
      added = numbered_then before (map numbered_of c.loop-equation.equations.items) (map numbered_of c.add.new.equations.items) (map equation_of gone) (equation_of e) next
          (omega (arith, counted, length_map equation_of gone)) c.loop-equation.invariant.added c.in_ok-add.ensures
          ∙ ap (λ es. added_after before (numbered_from 1 es)) (sym (map-append equation_of gone (e ∷ [])));
    }
