-- One part more.
use Rattle.std.proofs.Common.{◌≡◌, ◌+◌, ℕ, suc, List, ◌++◌, sym, ap, ◌∙◌, append_assoc, arith}
use Rattle.std.specs.Prelude.{decimal}
use Rattle.sp_generated.specs.Theory.{part, parts, with_number}

pub next_part : (n : ℕ) (old out new : List ℕ) → out ≡ old ++ parts n → new ≡ out ++ with_number (decimal (n + 1)) part → new ≡ old ++ parts (n + 1)
next_part n old out new e f =
    let next : n + 1 ≡ suc n = omega arith in
    f ∙ ap (λ (k : ℕ). out ++ with_number (decimal k) part) next ∙ ap (λ (xs : List ℕ). xs ++ with_number (decimal (suc n)) part) e
    ∙ append_assoc old (parts n) (with_number (decimal (suc n)) part) ∙ ap (λ (k : ℕ). old ++ parts k) (sym next)
