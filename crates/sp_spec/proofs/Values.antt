-- Values of terms.
use Rattle.std.proofs.Common.{◌≡◌, refl, ap, ap₂}
use Rattle.sp_spec.specs.Term.{Term, var, constant, name, app, Terms, none, more, valued, valued_all}

mutual
  pub valued-valued : {U V W : Type 0} (v : U → Term V) (w : V → Term W) (t : Term U) → valued w (valued v t) ≡ valued (λ x. valued w (v x)) t
  valued-valued v w (var x) = refl
  valued-valued v w (constant c) = refl
  valued-valued v w (name n) = refl
  valued-valued v w (app f ts) = ap (app f) (valued_all-valued_all v w ts)

  pub valued_all-valued_all : {U V W : Type 0} (v : U → Term V) (w : V → Term W) (ts : Terms U) → valued_all w (valued_all v ts) ≡ valued_all (λ x. valued w (v x)) ts
  valued_all-valued_all v w none = refl
  valued_all-valued_all v w (more t ts) = ap₂ more (valued-valued v w t) (valued_all-valued_all v w ts)
