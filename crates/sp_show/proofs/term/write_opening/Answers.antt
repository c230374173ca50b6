use Rattle.std.proofs.Common.{ℕ, List, ◌++◌, codes, nat_eq, ap, ◌∙◌, string_bytes, append_assoc}
use Rattle.sp_term.specs.View.{name_of}
use Rattle.sp_show.proofs.Texts.{opening_round}
use Rattle.sp_show.proofs.term.write_opening.Goals as goal

pub returns-then-not-is_pair : goal.returns-then-not-is_pair
returns-then-not-is_pair c =
    let old = string_bytes c.args.out.now in
    let name = name_of c.args.symbol.now in
    c.in_ok-push_str-2.ensures.bytes ∙ ap (λ (xs : List ℕ). xs ++ codes "(") (c.in_ok-push_str.ensures.bytes ∙ ap (λ (xs : List ℕ). old ++ xs) c.as_str-then-not-is_pair.ensures.value)
    ∙ append_assoc old name (codes "(")
    ∙ ap (λ (xs : List ℕ). old ++ xs)
    (opening_round c.args.ends name c.args.terms.now.items (c.if-is_empty.ensures ∙ ap (λ (n : ℕ). nat_eq n 0) c.args.terms.now.ok.0) c.if-not-is_pair.ensures)
