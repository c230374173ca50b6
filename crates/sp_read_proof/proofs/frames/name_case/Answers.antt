use Rattle.std.proofs.Common.{◌≡◌, List, ℕ, [], ◌∷◌, ◌++◌, map, ap, ap₂, ◌∙◌}
use Rattle.std.proofs.lemmas.List.{map-append}
use Rattle.sp_spec_text.specs.Written.{Method}
use Rattle.sp_written.specs.Views.{step_at}
use Rattle.sp_read_proof.proofs.Places.{found_there, changed_there}
use Rattle.sp_read_proof.proofs.frames.name_case.Goals as goal

pub returns : goal.returns
returns c outer inside x names e f =
    let steps = c.args.steps.now.items in
    let old = c.index_mut-step.result.now in
    let is : step_at old ≡ (x, names) = found_there step_at steps c.args.place outer inside (x, names) e f old c.index_mut-step.ensures.value in
    let more : map (λ name. name.now) c.push.new.self.items ≡ names ++ c.args.name.now ∷ [] =
    ap (map (λ name. name.now)) c.in_ok-push.ensures.items ∙ map-append (λ name. name.now) old.cases.items (c.args.name ∷ []) ∙ ap (λ (s : Method × List (List ℕ)). s.1 ++ c.args.name.now ∷ []) is in
    changed_there step_at steps c.args.place outer inside (x, names) e f _ (x, names ++ c.args.name.now ∷ [])
    (ap₂ (λ (y : Method) (ns : List (List ℕ)). (y, ns)) (ap (λ (s : Method × List (List ℕ)). s.0) is) more)
