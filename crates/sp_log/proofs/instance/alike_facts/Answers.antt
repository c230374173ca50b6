use Rattle.std.proofs.Common.{sym, ◌∙◌, map, arith}
use Rattle.sp_fact.specs.View.{fact_of}
use Rattle.sp_fact.specs.GroundView.{ground_fact}
use Rattle.sp_log.proofs.Uneven.{uneven_facts}
use Rattle.sp_spec.proofs.Lists.{length_map}
use Rattle.sp_log.proofs.instance.alike_facts.Goals as goal

pub returns-then-len : goal.returns-then-len
returns-then-len c =
    let ps = c.args.patterns.now in
    let fs = c.args.facts.now in
    sym
    (uneven_facts (map fact_of ps.items) (map ground_fact fs.items)
    (λ e.
    let same_length = sym (length_map fact_of ps.items) ∙ e ∙ length_map ground_fact fs.items in
    absurd (omega (arith, same_length, c.if-len.true, c.len.ensures, c.len-2.ensures, ps.ok.0, fs.ok.0))))
