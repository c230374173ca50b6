-- Judgements are right.
use Rattle.std.proofs.Common.{◌≡◌, ◌↔◌, ℕ, Bool, true, false, Option, Some, None, refl, sym, ◌∙◌, subst, arith}
use Rattle.std.proofs.lemmas.Bool.{false≢true}
use Rattle.sp_spec.specs.Log.{Log}
use Rattle.sp_spec_system.specs.System.{System}
use Rattle.sp_spec_system.specs.Move.{Context}
use Rattle.sp_spec_proof.specs.Tree.{Tree, IsAccepted, IsFinished, found_log}
use Rattle.sp_spec_proof.specs.Growth.{has_end}
use Rattle.sp_spec_proof.proofs.TreeLogs.{log_at_end, no_log, finished_no_end}
use Rattle.sp_check.specs.Skeleton.{Skeleton, tree_of, has_open}
use Rattle.sp_check.specs.Rejected.{ReadIsAccepted, IsRejectedAt}
use Rattle.sp_spec_printed.specs.Verdict.{Clause}
use Rattle.sp_check.specs.Judging.{Judgement, rejected, found, finished, incomplete, NodesJudged, passed, stopped, walk, judged, judgement}
use Rattle.sp_check.specs.Laws.{JudgementsAreRight}
use Rattle.sp_check.proofs.Walking.{WalkTells, walk_tells}
use Rattle.sp_check.proofs.Once.{accepted_not_rejected, rejected_once, rejected_within}
use Rattle.sp_check.proofs.Open.{left_tells, steps_are}

-- an accepted tree without a log ends the search nowhere
ends_nowhere : (context : Context) (s : System) (t : Tree) → IsAccepted context s t → found_log context s t ≡ None → (b : Bool) → has_end t ≡ b → has_end t ≡ false
ends_nowhere context s t a e false is = is
ends_nowhere context s t a e true is = let log = log_at_end context t s a is in absurd (one_log (found_log context s t) log.0 log.1 e)
  where
    one_log : (o : Option Log) (log : Log) → o ≡ Some log → o ≡ None → ⊥
    one_log o log f g = cc

module _ (context : Context) (s : System) (k : Skeleton) where
  -- the judgement says what is the case
  abbrev Says : Judgement → Type 0
  Says (rejected n clause) = IsRejectedAt context s k n clause
  Says (found log) = (t : Tree) × (tree_of k ≡ Some t) × IsAccepted context s t × (found_log context s t ≡ Some log)
  Says finished = (t : Tree) × (tree_of k ≡ Some t) × IsAccepted context s t × IsFinished t
  Says incomplete = (t : Tree) × (tree_of k ≡ Some t) × IsAccepted context s t × (found_log context s t ≡ None) × (IsFinished t → ⊥)

  same_tree : (t u : Tree) → tree_of k ≡ Some t → tree_of k ≡ Some u → t ≡ u
  same_tree t u e f = cc

  same_log : (t u : Tree) (o p : Option Log) → tree_of k ≡ Some t → tree_of k ≡ Some u → found_log context s t ≡ o → found_log context s u ≡ p → o ≡ p
  same_log t u o p e f l m = sym (subst (λ (x : Tree). found_log context s x ≡ o) (same_tree t u e f) l) ∙ m

  no_log_there : (log : Log) → (Some log ≡ None) → ⊥
  no_log_there log e = cc

  log_of_finished : (t : Tree) → IsFinished t → found_log context s t ≡ None
  log_of_finished t h = no_log context t s (finished_no_end t h)

  clash : (n : ℕ) (clause : Clause) → IsRejectedAt context s k n clause → ReadIsAccepted context s k → ⊥
  clash n clause h a = accepted_not_rejected context s k a n clause h

  says_once : (j l : Judgement) → Says j → Says l → j ≡ l
  says_once (rejected n clause) (rejected m other) h g =
      let e = rejected_once context s k n m clause other h g in
      rw (e.0, e.1) refl
  says_once (rejected n clause) (found log) h g = absurd (clash n clause h (g.0, g.1, g.2))
  says_once (rejected n clause) finished h g = absurd (clash n clause h (g.0, g.1, g.2))
  says_once (rejected n clause) incomplete h g = absurd (clash n clause h (g.0, g.1, g.2))
  says_once (found log) (rejected m other) h g = absurd (clash m other g (h.0, h.1, h.2))
  says_once (found log) (found l) h g = let e : Some log ≡ Some l = same_log h.0 g.0 (Some log) (Some l) h.1 g.1 h.3 g.3 in cc
  says_once (found log) finished h g = absurd (no_log_there log (same_log h.0 g.0 (Some log) None h.1 g.1 h.3 (log_of_finished g.0 g.3)))
  says_once (found log) incomplete h g = absurd (no_log_there log (same_log h.0 g.0 (Some log) None h.1 g.1 h.3 g.3))
  says_once finished (rejected m other) h g = absurd (clash m other g (h.0, h.1, h.2))
  says_once finished (found log) h g = absurd (no_log_there log (same_log g.0 h.0 (Some log) None g.1 h.1 g.3 (log_of_finished h.0 h.3)))
  says_once finished finished h g = refl
  says_once finished incomplete h g = absurd (g.4 (subst IsFinished (same_tree h.0 g.0 h.1 g.1) h.3))
  says_once incomplete (rejected m other) h g = absurd (clash m other g (h.0, h.1, h.2))
  says_once incomplete (found log) h g = absurd (no_log_there log (same_log g.0 h.0 (Some log) None g.1 h.1 g.3 h.3))
  says_once incomplete finished h g = absurd (h.4 (subst IsFinished (same_tree g.0 h.0 g.1 h.1) g.3))
  says_once incomplete incomplete h g = refl

  walk_says : (w : NodesJudged) → WalkTells context 0 None s k w → (left_open : Bool) → has_open k ≡ left_open → Says (judged left_open w)
  walk_says (stopped m clause) h left_open e =
      let is : h.0 ≡ m = (let n = h.1 in omega arith) in
      subst (λ (i : ℕ). IsRejectedAt context s k i clause) is h.2
  walk_says (passed m (Some log)) h left_open e = let t = h.1.1 in (t.0, t.1, t.2, t.3 ∙ sym h.1.2)
  walk_says (passed m None) h true e = let t = h.1.1 in (t.0, t.1, t.2, t.3 ∙ sym h.1.2, λ f. false≢true (sym ((left_tells k t.0 t.1).1 f) ∙ e))
  walk_says (passed m None) h false e =
      let t = h.1.1 in
      (t.0, t.1, t.2, (left_tells k t.0 t.1).0 e (ends_nowhere context s t.0 t.2 (t.3 ∙ sym h.1.2) (has_end t.0) refl))

  says : Says (judgement context s k)
  says = walk_says (walk context 0 None s k) (walk_tells context 0 None s k) (has_open k) refl

  is_what_it_says : (j : Judgement) → (judgement context s k ≡ j) ↔ Says j
  is_what_it_says j = (λ e. subst Says e says, λ h. says_once (judgement context s k) j says h)

  rejected_else : (j : Judgement) → Says j → (ReadIsAccepted context s k → ⊥) → (n : ℕ) × ((clause : Clause) × IsRejectedAt context s k n clause)
  rejected_else (rejected n clause) h none = (n, (clause, h))
  rejected_else (found log) h none = absurd (none (h.0, h.1, h.2))
  rejected_else finished h none = absurd (none (h.0, h.1, h.2))
  rejected_else incomplete h none = absurd (none (h.0, h.1, h.2))

  others_rejected : (ReadIsAccepted context s k → ⊥) ↔ ((n : ℕ) × ((clause : Clause) × IsRejectedAt context s k n clause))
  others_rejected = (rejected_else (judgement context s k) says, λ r h. accepted_not_rejected context s k h r.0 r.1.0 r.1.1)

pub judgements_right : JudgementsAreRight
judgements_right = record {
  rejects = λ context s k n clause. is_what_it_says context s k (rejected n clause);
  rejects_the_others = others_rejected;
  finds = λ context s k log. is_what_it_says context s k (found log);
  finishes = λ context s k. is_what_it_says context s k finished;
  leaves_open = λ context s k. is_what_it_says context s k incomplete;
  one_step = rejected_once;
  is_a_node = rejected_within;
  counts = steps_are;
}
