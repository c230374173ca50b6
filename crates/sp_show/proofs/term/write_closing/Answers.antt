use Rattle.std.proofs.Common.{ℕ, List, ◌++◌, nat_eq, ap, ◌∙◌, string_bytes}
use Rattle.sp_term.specs.View.{name_of}
use Rattle.sp_show.proofs.Texts.{closing_round}
use Rattle.sp_show.proofs.term.write_closing.Goals as goal

pub returns-then-not-is_pair : goal.returns-then-not-is_pair
returns-then-not-is_pair c =
    c.in_ok-push_str.ensures.bytes
    ∙ ap (λ (xs : List ℕ). string_bytes c.args.out.now ++ xs)
    (closing_round c.args.ends (name_of c.args.symbol.now) c.args.terms.now.items (c.if-is_empty.ensures ∙ ap (λ (n : ℕ). nat_eq n 0) c.args.terms.now.ok.0) c.if-not-is_pair.ensures)
