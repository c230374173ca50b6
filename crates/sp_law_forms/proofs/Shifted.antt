-- Values that agree below a number, and values of shifted terms.
use Rattle.std.proofs.Common.{◌≡◌, ℕ, ◌+◌, ◌≤◌, ◌<◌, refl, ◌∙◌}
use Rattle.sp_spec.specs.Term.{Variable, Term, var, valued}
use Rattle.sp_law_unify.proofs.Values.{valued_then}
use Rattle.sp_spec_forms.specs.Shifted.{above, shifted}
use Rattle.sp_law_conv.proofs.Apart.{valued_below}

-- the values of the variables with numbers below n are the same
abbrev pub AgreeBelow : {W : Type 0} → ℕ → (Variable → Term W) → (Variable → Term W) → Type 0
AgreeBelow n v w = (x : Variable) → x.number < n → v x ≡ w x

abbrev pub shift : ℕ → Variable → Variable
shift n x = record { sort = x.sort; number = n + x.number }

-- values of a shifted term are those at the shifted variables
pub valued_shifted : {W : Type 0} (n : ℕ) (v : Variable → Term W) (t : Term Variable) → valued v (shifted n t) ≡ valued (λ x. v (shift n x)) t
valued_shifted n v t = valued_then v (λ x. var (shift n x)) (λ x. v (shift n x)) (λ x. refl) t

-- of a shifted term only the values of the shifted variables matter
pub shifted_below : {W : Type 0} (n k : ℕ) (v w : Variable → Term W) (t : Term Variable)
    → above t ≤ k → ((x : Variable) → x.number < k → w (shift n x) ≡ v x) → valued w (shifted n t) ≡ valued v t
shifted_below n k v w t le same = valued_shifted n w t ∙ valued_below k (λ x. w (shift n x)) v same t le
