use Rattle.std.proofs.Common.{map, ap}
use Rattle.sp_term.specs.View.{variable_of}
use Rattle.sp_destruct.specs.View.{destruction_of}
use Rattle.sp_variant.specs.View.{list_by}
use Rattle.sp_moves_know.proofs.Numbers.{seen_in_turn}
use Rattle.sp_moves_know.proofs.link.seen_in.Goals as goal

pub returns : goal.returns
returns c =
    seen_in_turn (destruction_of c.args.destruction.now) (list_by variable_of c.new-seen.result) (list_by variable_of c.see_term.new.seen)
    (list_by variable_of c.see_terms.new.seen) (list_by variable_of c.see_term-2.new.seen)
    (ap (map variable_of) c.new-seen.ensures.items) c.in_ok-see_term.ensures c.in_ok-see_terms.ensures c.in_ok-see_term-2.ensures
