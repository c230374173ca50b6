-- The test tells whether no leaf is left at which a solution may be.
use Rattle.std.proofs.Common.{◌≡◌, ◌↔◌, IsTrue, Bool, refl, sym, ◌∙◌, not}
use Rattle.std.specs.Bool.{Decides}
use Rattle.std.proofs.lemmas.Bool.{false≢true}
use Rattle.std.proofs.lemmas.Bool.Decides.{Decides-and}
use Rattle.sp_spec_proof.specs.Tree.{Tree, node, Branches, no_branch, branch, IsLeft, IsFinished, AreFinished}
use Rattle.sp_spec_system.specs.Move.{Move, unproved, solved}
use Rattle.sp_search.specs.Finished.{finished, all_finished, is_left}

done_decides : (m : Move) → Decides (not (is_left m)) (IsLeft m → ⊥)
done_decides unproved = (λ e. absurd (false≢true e), λ h. absurd (h tt))
done_decides solved = (λ e. absurd (false≢true e), λ h. absurd (h tt))
done_decides move = (λ _ h. absurd h, λ _. refl)

mutual
  pub finished_decides : (t : Tree) → Decides (finished t) (IsFinished t)
  finished_decides (node move branches) = Decides-and (not (is_left move)) (all_finished branches) (done_decides move) (all_finished_decides branches)

  pub all_finished_decides : (bs : Branches) → Decides (all_finished bs) (AreFinished bs)
  all_finished_decides no_branch = (λ _. tt, λ _. refl)
  all_finished_decides (branch name tree branches) = Decides-and (finished tree) (all_finished branches) (finished_decides tree) (all_finished_decides branches)

pub finished_tells : (b : Bool) (t : Tree) → b ≡ finished t → IsTrue b ↔ IsFinished t
finished_tells b t e =
    let d = finished_decides t in
    (λ h. d.0 (sym e ∙ h), λ h. e ∙ d.1 h)
