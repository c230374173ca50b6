use Rattle.std.proofs.Common.{map, ap, ◌∙◌}
use Rattle.sp_fact.specs.GroundView.{ground_of, step_of}
use Rattle.sp_read_steps.specs.Reading.{unpaired}
use Rattle.sp_read_steps.specs.View.{symbols_of}
use Rattle.sp_read_steps.proofs.Exits.{application_of_row}
use Rattle.sp_read_steps.proofs.applications.application.Goals as goal

pub returns : goal.returns
returns c =
    let row = rw c.in-Some-2.is at c.in_ok-terms.ensures in
    let terms = map ground_of c.in-Some-2.terms.items in
    application_of_row step_of (symbols_of c.args.symbols.now.items) c.args.text.now c.in-Some-name.found.now c.in-Some-name.rest.now c.in-Some-behind.inside.now terms c.unpaired.result
    c.in-Some-name.ensures.value c.in-Some-behind.ensures row (c.unpaired.ensures ∙ ap (λ xs. unpaired xs terms) c.in_ok-symbol.ensures)
