-- Values of terms: composition, and what holds of each variable.
use Rattle.std.proofs.Common.{◌≡◌, refl, ap}
use Rattle.sp_spec.specs.Term.{Term, var, constant, name, app, Terms, none, more, valued, valued_all}

module _ {U V W : Type 0} (v : V → Term W) (θ : U → Term V) where
  mutual
    -- the value of a substituted term is that under the composition
    pub valued-valued : (t : Term U) → valued v (valued θ t) ≡ valued (λ x. valued v (θ x)) t
    valued-valued (var x) = refl
    valued-valued (constant c) = refl
    valued-valued (name n) = refl
    valued-valued (app f ts) = ap (app f) (valued-valued_all ts)

    pub valued-valued_all : (ts : Terms U) → valued_all v (valued_all θ ts) ≡ valued_all (λ x. valued v (θ x)) ts
    valued-valued_all none = refl
    valued-valued_all (more t ts) = cc (valued-valued t, valued-valued_all ts)

module _ {V : Type 0} where
  mutual
    -- the variable itself stays
    pub valued_var : (t : Term V) → valued var t ≡ t
    valued_var (var x) = refl
    valued_var (constant c) = refl
    valued_var (name n) = refl
    valued_var (app f ts) = ap (app f) (valued_var_all ts)

    pub valued_var_all : (ts : Terms V) → valued_all var ts ≡ ts
    valued_var_all none = refl
    valued_var_all (more t ts) = cc (valued_var t, valued_var_all ts)
