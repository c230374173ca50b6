use Rattle.std.proofs.Common.{ap, codes, ◌∙◌}
use Rattle.std.specs.Str.{bytes_eq}
use Rattle.sp_term.specs.View.{name_of}
use Rattle.sp_show.proofs.Texts.{pair_of_two}
use Rattle.sp_show.proofs.term.is_pair.Goals as goal

pub returns-then-eq : goal.returns-then-eq
returns-then-eq c =
    pair_of_two (name_of c.args.symbol.now) c.args.terms.now.items c.len.result (c.len.ensures ∙ c.args.terms.now.ok.0)
    (c.if-eq.ensures ∙ ap (λ xs. bytes_eq xs (codes "pair")) c.as_str.ensures.value)
