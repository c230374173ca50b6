-- The blanks before a line, written one level after the other.
use Rattle.std.proofs.Common.{arith, ◌≡◌, ◌∙◌, sym, ap, ℕ, suc, ◌+◌, ◌-◌, ◌<◌, List, ◌++◌, codes, append_assoc}
use Rattle.sp_skel.specs.TreeText.{indent}

pub one_level : (all out more : List ℕ) (depth level : ℕ) → level < depth → out ++ indent (depth - level) ≡ all → more ≡ out ++ codes "  " → more ++ indent (depth - (level + 1)) ≡ all
one_level all out more depth level below so e =
    let left : depth - level ≡ suc (depth - (level + 1)) = omega arith in
    let rest = indent (depth - (level + 1)) in
    ap (λ (bytes : List ℕ). bytes ++ rest) e ∙ append_assoc out (codes "  ") rest ∙ sym (ap (λ (n : ℕ). out ++ indent n) left) ∙ so
