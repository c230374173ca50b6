use Rattle.std.proofs.Common.{List, ℕ, option_map, sym, ap, ◌∙◌}
use Rattle.sp_system.specs.SystemView.{system_of}
use Rattle.sp_spec_system.specs.Move.{Side}
use Rattle.sp_spec_system.specs.Picked.{first_two}
use Rattle.sp_undecided.specs.Undecided.{may_be_same, same_both, standing_sides}
use Rattle.sp_undecided.proofs.Instances.{of_names}
use Rattle.sp_undecided.proofs.sides.first_same.Goals as goal

pub returns : goal.returns
returns c context names =
    let s = system_of c.args.system.now in
    c.in_ok-chosen.ensures
    ∙ ap (λ (sides : List Side). option_map same_both (first_two (may_be_same s) sides)) c.in_ok-sides.ensures
    ∙ ap (λ (constants : List (List ℕ)). option_map same_both (first_two (may_be_same s) (standing_sides constants s))) (sym names)
    ∙ sym (of_names context s)
