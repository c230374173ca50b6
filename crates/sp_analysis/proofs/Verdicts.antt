-- The verdict by the test whether a leaf is open.
use Rattle.std.proofs.Common.{◌≡◌, ◌↔◌, IsTrue, Bool, true, false, true≢false, refl, sym, ap, ◌∙◌}
use Rattle.sp_spec.specs.Theory.{TraceKind}
use Rattle.sp_spec_proof.specs.Tree.{Tree, IsFinished}
use Rattle.sp_search.specs.Finished.{finished}
use Rattle.sp_search.proofs.Finished.{finished_decides}
use Rattle.sp_spec_printed.specs.Verdict.{Verdict, incomplete}
use Rattle.sp_analysis.specs.Printed.{shown, by_leaves}

told : (b : Bool) (t : Tree) → IsTrue b ↔ IsFinished t → b ≡ finished t
told true t h = sym ((finished_decides t).1 (h.0 refl))
told false t h = at (finished t) refl
  where
    at : (d : Bool) → finished t ≡ d → false ≡ finished t
    at true e = absurd (true≢false (sym (h.1 ((finished_decides t).0 e))))
    at false e = sym e

pub when_finished : (kind : TraceKind) (b : Bool) (t : Tree) (v : Verdict) → IsTrue b ↔ IsFinished t → b ≡ true → v ≡ shown kind → v ≡ by_leaves kind (finished t)
when_finished kind b t v h e is = is ∙ ap (by_leaves kind) (sym e ∙ told b t h)

pub when_open : (kind : TraceKind) (b : Bool) (t : Tree) → IsTrue b ↔ IsFinished t → b ≡ false → incomplete ≡ by_leaves kind (finished t)
when_open kind b t h e = ap (by_leaves kind) (sym e ∙ told b t h)
