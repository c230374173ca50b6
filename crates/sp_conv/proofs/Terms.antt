-- Arguments in memory, and how many there are.
use Rattle.std.proofs.Common.{◌≡◌, ℕ, not, ◌&&◌, nat_eq, false, List, [], ◌∷◌, length, sym, ap, ◌∙◌, arith}
use Rattle.std.proofs.lemmas.Bool.{ne_eqb}
use Rattle.sp_spec.specs.Term.{count}
use Rattle.sp_term.specs.View.{variable_of, view_all}
use Rattle.sp_term.specs.declared.term.Term.{Term}
use Rattle.sp_term.specs.declared.term.Variable.{Variable}
use Rattle.sp_term.proofs.Lists.{count-view_all}
use Rattle.sp_conv.specs.Tests.{no_terms, are_as_many}

pub none_counted : (ts : List (Term Variable)) (n : ℕ) → n ≡ length ts → nat_eq n 0 ≡ no_terms (view_all ts)
none_counted [] n e = ap (λ k. nat_eq k 0) e
none_counted (t ∷ ts) n e = ne_eqb n 0 (λ z. absurd (omega arith))

pub many_counted : (ts : List (Term Variable)) (k n : ℕ) → n ≡ length ts → no_terms (view_all ts) ≡ false → nat_eq n k ≡ are_as_many k (view_all ts)
many_counted ts k n e h =
    ap (λ m. nat_eq m k) (e ∙ sym (count-view_all variable_of ts)) ∙ ap (λ b. not b && nat_eq (count (view_all ts)) k) (sym h)
