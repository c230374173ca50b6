-- A tree that is read is not both accepted and rejected, and rejected at one step by one clause.
use Rattle.std.proofs.Common.{◌≡◌, ◌<◌, ◌≤◌, ◌+◌, ℕ, List, [], ◌∷◌, Option, Some, None, refl, sym, ap, ◌∙◌, subst, inl, inr, arith}
use Rattle.sp_spec_system.specs.System.{System}
use Rattle.sp_spec_system.specs.Move.{Context, Case}
use Rattle.sp_check.specs.Skeleton.{Step, known, unknown, Skeleton, node_read, BranchesRead, none_read, branch_read, nodes, nodes_in}
use Rattle.sp_check.specs.Rejected.{IsMove, step_cases, case_names, IsFine, FailsFirst, ReadIsAccepted, IsRejectedAt, AreRejectedAt}
use Rattle.sp_spec_printed.specs.Verdict.{Clause, clause_move, clause_instance, clause_cases}
use Rattle.sp_check.proofs.Shape.{ReadAreAccepted, first_accepted, accepted_node}

move_of_cases : (context : Context) (s : System) (step : Step) (cs : List Case) → step_cases context s step ≡ Some cs → IsMove step
move_of_cases context s (known move) cs e = tt
move_of_cases context s (unknown text) cs e = let none : ⊥ = cc in none

same_cases : (o : Option (List Case)) (cs ds : List Case) → o ≡ Some cs → o ≡ Some ds → cs ≡ ds
same_cases o cs ds e f = cc

no_cases : (o : Option (List Case)) (cs : List Case) → o ≡ Some cs → o ≡ None → ⊥
no_cases o cs e f = cc

fine_not_failing : (context : Context) (s : System) (step : Step) (bs : BranchesRead) (cs : List Case) → IsFine context s step bs cs → (clause : Clause) → FailsFirst context s step bs clause → ⊥
fine_not_failing context s step bs cs h clause_move f = f (move_of_cases context s step cs h.0)
fine_not_failing context s step bs cs h clause_instance f = no_cases (step_cases context s step) cs h.0 f.1
fine_not_failing context s step bs cs h clause_cases f = f.3 (h.1 ∙ ap case_names (same_cases (step_cases context s step) cs f.0 h.0 f.2))

fails_once : (context : Context) (s : System) (step : Step) (bs : BranchesRead) (clause other : Clause) → FailsFirst context s step bs clause → FailsFirst context s step bs other → clause ≡ other
fails_once context s step bs clause_move clause_move f g = refl
fails_once context s step bs clause_move clause_instance f g = absurd (f g.0)
fails_once context s step bs clause_move clause_cases f g = absurd (f g.1)
fails_once context s step bs clause_instance clause_move f g = absurd (g f.0)
fails_once context s step bs clause_instance clause_instance f g = refl
fails_once context s step bs clause_instance clause_cases f g = absurd (no_cases (step_cases context s step) g.0 g.2 f.1)
fails_once context s step bs clause_cases clause_move f g = absurd (g f.1)
fails_once context s step bs clause_cases clause_instance f g = absurd (no_cases (step_cases context s step) f.0 f.2 g.1)
fails_once context s step bs clause_cases clause_cases f g = refl

mutual
  pub accepted_not_rejected : (context : Context) (s : System) (k : Skeleton) → ReadIsAccepted context s k → (n : ℕ) (clause : Clause) → IsRejectedAt context s k n clause → ⊥
  accepted_not_rejected context s (node_read step bs) h n clause (inl r) =
      let a = accepted_node context s step bs h in
      fine_not_failing context s step bs a.0 a.1 clause r.1
  accepted_not_rejected context s (node_read step bs) h n clause (inr r) =
      let a = accepted_node context s step bs h in
      let e = same_cases (step_cases context s step) a.0 r.0 a.1.0 r.2.0 in
      accepted_not_rejected_in context r.0 bs (subst (λ (cs : List Case). ReadAreAccepted context cs bs) e a.2) r.1 clause r.4

  accepted_not_rejected_in : (context : Context) (cs : List Case) (bs : BranchesRead) → ReadAreAccepted context cs bs → (n : ℕ) (clause : Clause) → AreRejectedAt context cs bs n clause → ⊥
  accepted_not_rejected_in context [] none_read h n clause r = r
  accepted_not_rejected_in context [] (branch_read name k bs) h n clause r = r
  accepted_not_rejected_in context (c ∷ cs) none_read h n clause r = r
  accepted_not_rejected_in context (c ∷ cs) (branch_read name k bs) h n clause (inl r) = accepted_not_rejected context c.system k (first_accepted context c cs name k bs h).1 n clause r
  accepted_not_rejected_in context (c ∷ cs) (branch_read name k bs) h n clause (inr r) = accepted_not_rejected_in context cs bs (first_accepted context c cs name k bs h).2 r.0 clause r.3

mutual
  pub rejected_once : (context : Context) (s : System) (k : Skeleton) (n m : ℕ) (clause other : Clause) → IsRejectedAt context s k n clause → IsRejectedAt context s k m other
      → (n ≡ m) × (clause ≡ other)
  rejected_once context s (node_read step bs) n m clause other (inl r) (inl q) = (r.0 ∙ sym q.0, fails_once context s step bs clause other r.1 q.1)
  rejected_once context s (node_read step bs) n m clause other (inl r) (inr q) = absurd (fine_not_failing context s step bs q.0 q.2 clause r.1)
  rejected_once context s (node_read step bs) n m clause other (inr r) (inl q) = absurd (fine_not_failing context s step bs r.0 r.2 other q.1)
  rejected_once context s (node_read step bs) n m clause other (inr r) (inr q) =
      let e = same_cases (step_cases context s step) r.0 q.0 r.2.0 q.2.0 in
      let below = rejected_once_in context q.0 bs r.1 q.1 clause other (subst (λ (cs : List Case). AreRejectedAt context cs bs r.1 clause) e r.4) q.4 in
      (r.3 ∙ ap (λ (i : ℕ). 1 + i) below.0 ∙ sym q.3, below.1)

  rejected_once_in : (context : Context) (cs : List Case) (bs : BranchesRead) (n m : ℕ) (clause other : Clause) → AreRejectedAt context cs bs n clause → AreRejectedAt context cs bs m other
      → (n ≡ m) × (clause ≡ other)
  rejected_once_in context [] none_read n m clause other r q = absurd r
  rejected_once_in context [] (branch_read name k bs) n m clause other r q = absurd r
  rejected_once_in context (c ∷ cs) none_read n m clause other r q = absurd r
  rejected_once_in context (c ∷ cs) (branch_read name k bs) n m clause other (inl r) (inl q) = rejected_once context c.system k n m clause other r q
  rejected_once_in context (c ∷ cs) (branch_read name k bs) n m clause other (inl r) (inr q) = absurd (accepted_not_rejected context c.system k q.1 n clause r)
  rejected_once_in context (c ∷ cs) (branch_read name k bs) n m clause other (inr r) (inl q) = absurd (accepted_not_rejected context c.system k r.1 m other q)
  rejected_once_in context (c ∷ cs) (branch_read name k bs) n m clause other (inr r) (inr q) =
      let later = rejected_once_in context cs bs r.0 q.0 clause other r.3 q.3 in
      (r.2 ∙ ap (λ (i : ℕ). nodes k + i) later.0 ∙ sym q.2, later.1)

mutual
  pub rejected_within : (context : Context) (s : System) (k : Skeleton) (n : ℕ) (clause : Clause) → IsRejectedAt context s k n clause → (0 < n) × (n ≤ nodes k)
  rejected_within context s (node_read step bs) n clause (inl r) = let e = r.0 in (omega arith, omega arith)
  rejected_within context s (node_read step bs) n clause (inr r) =
      let e = r.3 in
      let below = rejected_within_in context r.0 bs r.1 clause r.4 in
      (omega arith, let l = below.1 in omega arith)

  rejected_within_in : (context : Context) (cs : List Case) (bs : BranchesRead) (n : ℕ) (clause : Clause) → AreRejectedAt context cs bs n clause → (0 < n) × (n ≤ nodes_in bs)
  rejected_within_in context [] none_read n clause r = absurd r
  rejected_within_in context [] (branch_read name k bs) n clause r = absurd r
  rejected_within_in context (c ∷ cs) none_read n clause r = absurd r
  rejected_within_in context (c ∷ cs) (branch_read name k bs) n clause (inl r) =
      let below = rejected_within context c.system k n clause r in
      (below.0, let l = below.1 in omega arith)
  rejected_within_in context (c ∷ cs) (branch_read name k bs) n clause (inr r) =
      let e = r.2 in
      let later = rejected_within_in context cs bs r.0 clause r.3 in
      let p = later.0 in
      let l = later.1 in
      (omega arith, omega arith)
