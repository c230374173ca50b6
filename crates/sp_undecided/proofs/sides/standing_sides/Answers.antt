use Rattle.std.proofs.Common.{ℕ, List, ◌++◌, map, sym, ap₂, ◌∙◌}
use Rattle.std.specs.Prelude.{filter, flat_map}
use Rattle.std.proofs.lemmas.List.Elements.{filter-append}
use Rattle.sp_term.specs.View.{name_of}
use Rattle.sp_system.specs.SystemView.{system_of}
use Rattle.sp_spec_system.specs.Move.{Side, constant_side}
use Rattle.sp_spec_formula.specs.Sides.{stands_there}
use Rattle.sp_spec_proof.specs.Deciding.{counted, sides_at, sorted_by_bytes}
use Rattle.sp_undecided.proofs.sides.standing_sides.Goals as goal

pub returns : goal.returns
returns c =
    let constants = map name_of c.args.constants.now.items in
    let stands = stands_there constants (system_of c.args.system.now) in
    c.in_ok-put_names.ensures
    ∙ ap₂ (λ (front : List Side) (names : List (List ℕ)). front ++ filter stands (map constant_side names)) c.in_ok-made.ensures c.in_ok-names.ensures
    ∙ sym (filter-append stands (flat_map sides_at (counted 0 c.args.system.now.next)) (map constant_side (sorted_by_bytes constants)))
