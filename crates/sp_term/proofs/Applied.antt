-- A loop that has replaced the leaves of each term.
use Rattle.std.proofs.Common.{◌≡◌, List, [], ◌∷◌, map, refl, ap, ◌∙◌}
use Rattle.sp_spec.specs.Term as spec
use Rattle.sp_spec.specs.Term.{more, valued, valued_all}
use Rattle.sp_term.specs.declared.term.Term.{Term}
use Rattle.sp_term.specs.View.{view_by, terms_of, view_all_by}

module _ {L M V W : Type 0} (leaf_of : L → V) (to_of : M → W) (v : V → spec.Term W) where
  terms_of-valued : (ts : List (Term L)) → terms_of (map (λ t. valued v (view_by leaf_of t)) ts) ≡ valued_all v (view_all_by leaf_of ts)
  terms_of-valued [] = refl
  terms_of-valued (t ∷ ts) = ap (more (valued v (view_by leaf_of t))) (terms_of-valued ts)

  pub valued_each : (made : List (Term M)) (ts : List (Term L)) → map (view_by to_of) made ≡ map (λ t. valued v (view_by leaf_of t)) ts
      → view_all_by to_of made ≡ valued_all v (view_all_by leaf_of ts)
  valued_each made ts e = ap terms_of e ∙ terms_of-valued ts
