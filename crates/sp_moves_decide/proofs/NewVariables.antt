-- New variables, in a list.
use Rattle.std.proofs.Common.{◌≡◌, ℕ, zero, suc, ◌+◌, List, [], ◌∷◌, ◌++◌, arith, refl, ap, ◌∙◌}
use Rattle.sp_spec.specs.Term.{Variable, Term, more}
use Rattle.sp_spec.specs.Signature.{msg}
use Rattle.sp_spec_system.specs.Head.{new_variables}
use Rattle.sp_term.specs.View.{terms_of}

abbrev pub new_list : ℕ → ℕ → List (Term Variable)
new_list zero k = []
new_list (suc n) k = msg k ∷ new_list n (suc k)

pub listed : (n k : ℕ) → terms_of (new_list n k) ≡ new_variables n k
listed zero k = refl
listed (suc n) k = ap (more (msg k)) (listed n (suc k))

by_suc : (n k : ℕ) → new_list (suc n) k ≡ new_list n k ++ msg (k + n) ∷ []
by_suc zero k = let e : k ≡ k + zero = omega arith in ap (λ (j : ℕ). msg j ∷ []) e
by_suc (suc n) k =
    let e : suc k + n ≡ k + suc n = omega arith in
    ap (λ (ts : List (Term Variable)). msg k ∷ ts) (by_suc n (suc k) ∙ ap (λ (j : ℕ). new_list n (suc k) ++ msg j ∷ []) e)

-- one more, of the number behind them
pub one_more : (n k : ℕ) → new_list (n + 1) k ≡ new_list n k ++ msg (k + n) ∷ []
one_more n k = let e : n + 1 ≡ suc n = omega arith in ap (λ (j : ℕ). new_list j k) e ∙ by_suc n k
