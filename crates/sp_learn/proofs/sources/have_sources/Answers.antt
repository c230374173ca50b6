use Rattle.std.proofs.Common.{sym, ◌∙◌, map, arith}
use Rattle.sp_fact.specs.GroundView.{ground_fact}
use Rattle.sp_log.specs.View.{source_of}
use Rattle.sp_learn.specs.View.{entry_of}
use Rattle.sp_log.proofs.Uneven.{uneven_sources}
use Rattle.sp_spec.proofs.Lists.{length_map}
use Rattle.sp_learn.proofs.sources.have_sources.Goals as goal

pub returns-then-len : goal.returns-then-len
returns-then-len c =
    let ps = c.args.premises.now in
    let os = c.args.sources.now in
    sym
    (uneven_sources (map ground_fact ps.items) (map source_of os.items) (map entry_of c.args.earlier.now)
    (λ e.
    let same_length = sym (length_map ground_fact ps.items) ∙ e ∙ length_map source_of os.items in
    absurd (omega (arith, same_length, c.if-len.true, c.len.ensures, c.len-2.ensures, ps.ok.0, os.ok.0))))
