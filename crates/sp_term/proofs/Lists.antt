-- Lists of terms and what they stand for.
use Rattle.std.proofs.Common.{◌≡◌, suc, List, [], ◌∷◌, length, refl, ap}
use Rattle.sp_spec.specs.Term.{count}
use Rattle.sp_term.specs.declared.term.Term.{Term}
use Rattle.sp_term.specs.View.{view_all_by}

pub count-view_all : {L V : Type 0} (leaf_of : L → V) (ts : List (Term L)) → count (view_all_by leaf_of ts) ≡ length ts
count-view_all leaf_of [] = refl
count-view_all leaf_of (t ∷ ts) = ap suc (count-view_all leaf_of ts)
