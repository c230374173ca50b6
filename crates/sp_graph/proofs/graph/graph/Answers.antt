use Rattle.std.proofs.Common.{◌++◌, List, ℕ, map, codes, sym, ap, ◌∙◌}
use Rattle.serde_json.specs.Written.{compact_text, has_float}
use Rattle.sp_spec.specs.Log as log
use Rattle.sp_spec.proofs.Lists.{newest_twice}
use Rattle.sp_fact.specs.GroundView.{equation_of}
use Rattle.sp_book.specs.View.{rule_forms_of}
use Rattle.sp_learn.specs.View.{entries_of}
use Rattle.sp_show_log.specs.Given.{given_among}
use Rattle.sp_graph.specs.Graph.{graph_of}
use Rattle.sp_graph.proofs.Plain.{plain_graph}
use Rattle.sp_graph.proofs.graph.graph.Goals as goal

pub returns : goal.returns
returns c =
    let given = given_among (map equation_of c.args.signature.now.equations.items) (map rule_forms_of c.args.rules.now.rules.items) in
    let lemma = c.args.lemma.now in
    let entries = entries_of c.args.log.now in
    let plain = ap has_float c.in_ok-value.ensures ∙ plain_graph given lemma entries in
    c.in_ok-push_str.ensures.bytes
    ∙ ap (λ (text : List ℕ). text ++ codes "\n") (c.in_ok-text.ensures.text plain ∙ ap compact_text c.in_ok-value.ensures)
    ∙ ap (λ (es : List log.Entry). compact_text (graph_of given lemma es) ++ codes "\n") (sym (newest_twice entries))
