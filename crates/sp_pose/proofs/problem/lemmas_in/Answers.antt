use Rattle.std.proofs.Common.{◌≡◌, IfOk, List, map, option_map, subst}
use Rattle.sp_written.specs.declared.theory.WrittenLemma.{WrittenLemma}
use Rattle.sp_pose.specs.Asked.{asked_of, all_asked}
use Rattle.sp_pose.proofs.problem.lemmas_in.Goals as goal

pub returns : goal.returns
returns c =
    subst (λ (ls : List WrittenLemma). IfOk c.guarded_lemmas.result (λ o. option_map (λ gs. map asked_of gs.items) o ≡ all_asked ls)) c.in_ok-lemmas.ensures c.guarded_lemmas.ensures
