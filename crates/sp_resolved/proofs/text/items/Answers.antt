use Rattle.std.proofs.Common.{[], ◌∷◌, ◌++◌, map, sym, ap, ◌∙◌}
use Rattle.std.proofs.lemmas.List.{map-append}
use Rattle.sp_fact.specs.GroundView.{symbol_of}
use Rattle.sp_spec_text.specs.Declared.{resolved_item}
use Rattle.sp_written.specs.Views as view
use Rattle.sp_resolved.proofs.Places.{places_then}
use Rattle.sp_resolved.proofs.text.items.Goals as goal

pub loop-next-preserved : goal.loop-next-preserved
loop-next-preserved c =
    let ss = map symbol_of c.args.symbols.now.items in
    let gone = c.loop-next.yielded in
    let made = c.loop-next.made.items in
    let done = c.in_ok-done.done in
    let x = c.in-Some.next in
    record {
      value = ap view.items c.in_ok-push.ensures.items
          ∙ map-append view.item made (done ∷ [])
          ∙ ap (λ xs. xs ++ view.item done ∷ []) c.loop-next.invariant.value
          ∙ ap (λ y. map (resolved_item ss) (view.items gone) ++ y ∷ []) c.in_ok-done.ensures.value
          ∙ sym (ap (map (resolved_item ss)) (map-append view.item gone (x ∷ [])) ∙ map-append (resolved_item ss) (view.items gone) (view.item x ∷ []));
      places = places_then made gone c.push.new.self.items done x c.in_ok-push.ensures.items c.loop-next.invariant.places c.in_ok-done.ensures.places;
    }
