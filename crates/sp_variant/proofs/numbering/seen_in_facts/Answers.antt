use Rattle.std.proofs.Common.{map, ap}
use Rattle.sp_term.specs.View.{variable_of}
use Rattle.sp_fact.specs.View.{facts_of}
use Rattle.sp_variant.specs.View.{list_by}
use Rattle.sp_variant.proofs.Seen.{seen_in_turn}
use Rattle.sp_variant.proofs.numbering.seen_in_facts.Goals as goal

pub returns : goal.returns
returns c =
    seen_in_turn (facts_of c.args.facts.now) (list_by variable_of c.new-seen.result) (list_by variable_of c.see_arguments.new.seen)
    (list_by variable_of c.see_arguments-2.new.seen) (list_by variable_of c.see_arguments-3.new.seen)
    (ap (map variable_of) c.new-seen.ensures.items) c.in_ok-see_arguments.ensures c.in_ok-see_arguments-2.ensures c.in_ok-see_arguments-3.ensures
