-- The walk stops at the first node that fails, and passes where the tree is accepted, with the tree's log.
use Rattle.std.proofs.Common.{◌≡◌, ℕ, ◌+◌, Bool, true, false, if◌then◌else◌, List, [], ◌∷◌, Option, Some, None, refl, sym, ap, ◌∙◌, subst, inl, inr, arith}
use Rattle.std.proofs.lemmas.Bool.{false≢true}
use Rattle.sp_spec.specs.Log.{Log}
use Rattle.sp_spec_system.specs.System.{System}
use Rattle.sp_spec_system.specs.Move.{Move, solved, Context, Case, end_log}
use Rattle.sp_spec_proof.specs.Cases.{cases}
use Rattle.sp_spec_proof.specs.Tree.{node, no_branch, IsAccepted, AreAccepted, is_solved, first_log}
use Rattle.sp_spec_proof.proofs.Logs.{log_last, log_regroup}
use Rattle.sp_check.specs.Skeleton.{known, unknown, Skeleton, node_read, BranchesRead, none_read, branch_read, branch_names, nodes, nodes_in}
use Rattle.sp_check.specs.Rejected.{case_names, IsRejectedAt, AreRejectedAt}
use Rattle.sp_spec_printed.specs.Verdict.{clause_cases}
use Rattle.sp_check.specs.Judging.{are_named, fails, leads_to, cases_checked, log_checked, NodesJudged, passed, stopped, walked_on, walk, walk_checked}
use Rattle.sp_check.proofs.Names.{named_decides}
use Rattle.sp_check.proofs.Shape.{ReadHas, ReadHave, more_have, node_has}

-- what a walk tells of a tree that stands behind so many nodes, with the first log among them, and of branches
abbrev pub WalkTells : Context → ℕ → Option Log → System → Skeleton → NodesJudged → Type 0
WalkTells context before met s k (passed m log) = (m ≡ before + nodes k) × ((o : Option Log) × ReadHas context s k o × (log ≡ first_log met o))
WalkTells context before met s k (stopped m clause) = (j : ℕ) × (m ≡ before + j) × IsRejectedAt context s k j clause

abbrev pub BranchesTell : Context → ℕ → Option Log → List Case → BranchesRead → NodesJudged → Type 0
BranchesTell context before met cs bs (passed m log) = (m ≡ before + nodes_in bs) × ((o : Option Log) × ReadHave context cs bs o × (log ≡ first_log met o))
BranchesTell context before met cs bs (stopped m clause) = (j : ℕ) × (m ≡ before + j) × AreRejectedAt context cs bs j clause

node_tells : (context : Context) (before : ℕ) (met : Option Log) (s : System) (move : Move) → is_solved move ≡ false → (bs : BranchesRead) (cs : List Case)
    → cases context s move ≡ Some cs → branch_names bs ≡ case_names cs → (w : NodesJudged) → BranchesTell context (before + 1) met cs bs w → WalkTells context before met s (node_read (known move) bs) w
node_tells context before met s move goes_on bs cs e names (passed m log) h = (let n = h.0 in omega arith, (h.1.0, node_has context s move goes_on bs cs h.1.0 e h.1.1, h.1.2))
node_tells context before met s move goes_on bs cs e names (stopped m clause) h = (1 + h.0, (let n = h.1 in omega arith), inr (cs, h.0, (e, names), refl, h.2))

names_tell : (context : Context) (before : ℕ) (met : Option Log) (s : System) (move : Move) → is_solved move ≡ false → (bs : BranchesRead) (cs : List Case) → cases context s move ≡ Some cs
    → (branch_names bs ≡ case_names cs → BranchesTell context (before + 1) met cs bs (walk_checked context (before + 1) met (leads_to cs) bs))
    → (b : Bool) → are_named cs (branch_names bs) ≡ b → WalkTells context before met s (node_read (known move) bs) (walk_checked context (before + 1) met (if b then leads_to cs else fails clause_cases) bs)
names_tell context before met s move goes_on bs cs e below true is =
    let names = (named_decides cs (branch_names bs)).0 is in
    node_tells context before met s move goes_on bs cs e names (walk_checked context (before + 1) met (leads_to cs) bs) (below names)
names_tell context before met s move goes_on bs cs e below false is = (1, refl, inl (refl, (cs, tt, e, λ names. false≢true (sym is ∙ (named_decides cs (branch_names bs)).1 names))))

cases_tell : (context : Context) (before : ℕ) (met : Option Log) (s : System) (move : Move) → is_solved move ≡ false → (bs : BranchesRead)
    → ((cs : List Case) → branch_names bs ≡ case_names cs → BranchesTell context (before + 1) met cs bs (walk_checked context (before + 1) met (leads_to cs) bs))
    → (o : Option (List Case)) → cases context s move ≡ o → WalkTells context before met s (node_read (known move) bs) (walk_checked context (before + 1) met (cases_checked (branch_names bs) o) bs)
cases_tell context before met s move goes_on bs below None e = (1, refl, inl (refl, (tt, e)))
cases_tell context before met s move goes_on bs below (Some cs) e = names_tell context before met s move goes_on bs cs e (below cs) (are_named cs (branch_names bs)) refl

-- where the search ends
end_cases : (context : Context) (s : System) (log : Log) → end_log context s ≡ Some log → cases context s solved ≡ Some []
end_cases context s log e = rw e refl

end_accepted : (context : Context) (s : System) (log : Log) → end_log context s ≡ Some log → IsAccepted context s (node solved no_branch)
end_accepted context s log e = subst (λ (o : Option (List Case)). AreAccepted context o no_branch) (sym (end_cases context s log e)) tt

no_end_cases : (context : Context) (s : System) → end_log context s ≡ None → cases context s solved ≡ None
no_end_cases context s e = rw e refl

end_tells : (context : Context) (before : ℕ) (met : Option Log) (s : System) (bs : BranchesRead) (o : Option Log) → end_log context s ≡ o
    → WalkTells context before met s (node_read (known solved) bs) (walk_checked context (before + 1) met (log_checked (branch_names bs) o) bs)
end_tells context before met s bs None e = (1, refl, inl (refl, (tt, no_end_cases context s e)))
end_tells context before met s none_read (Some log) e = (refl, (Some log, (node solved no_branch, refl, end_accepted context s log e, e), refl))
end_tells context before met s (branch_read name k bs) (Some log) e = (1, refl, inl (refl, ([], tt, end_cases context s log e, λ names. let none : ⊥ = cc in none)))

-- a first branch, and those behind it
later_tell : (context : Context) (before n : ℕ) (met log o : Option Log) (c : Case) (cs : List Case) (name : List ℕ) (k : Skeleton) (bs : BranchesRead) → name ≡ c.name → n ≡ before + nodes k
    → ReadHas context c.system k o → log ≡ first_log met o → (v : NodesJudged) → BranchesTell context n log cs bs v → BranchesTell context before met (c ∷ cs) (branch_read name k bs) v
later_tell context before n met log o c cs name k bs e is h l (passed m last) hs = (
  (let i = hs.0 in omega arith),
  (first_log o hs.1.0, more_have context c cs name k bs o hs.1.0 e h hs.1.1, hs.1.2 ∙ ap (λ (x : Option Log). first_log x hs.1.0) l ∙ log_regroup met o hs.1.0),
)
later_tell context before n met log o c cs name k bs e is h l (stopped m clause) hs = (nodes k + hs.0, (let i = hs.1 in omega arith), inr (hs.0, (h.0, h.1, h.2), refl, hs.2))

first_tells : (context : Context) (before : ℕ) (met : Option Log) (c : Case) (cs : List Case) (name : List ℕ) (k : Skeleton) (bs : BranchesRead) → name ≡ c.name
    → (w : NodesJudged) → WalkTells context before met c.system k w → ((n : ℕ) (log : Option Log) → BranchesTell context n log cs bs (walk_checked context n log (leads_to cs) bs))
    → BranchesTell context before met (c ∷ cs) (branch_read name k bs) (walked_on w (λ n log. walk_checked context n log (leads_to cs) bs))
first_tells context before met c cs name k bs e (passed n log) h later =
    later_tell context before n met log h.1.0 c cs name k bs e h.0 h.1.1 h.1.2 (walk_checked context n log (leads_to cs) bs) (later n log)
first_tells context before met c cs name k bs e (stopped n clause) h later = (h.0, h.1, inl h.2)

mutual
  pub walk_tells : (context : Context) (before : ℕ) (met : Option Log) (s : System) (k : Skeleton) → WalkTells context before met s k (walk context before met s k)
  walk_tells context before met s (node_read (known solved) bs) = end_tells context before met s bs (end_log context s) refl
  walk_tells context before met s (node_read (known move) bs) =
      cases_tell context before met s move refl bs (λ cs names. branches_tell context (before + 1) met cs bs names) (cases context s move) refl
  walk_tells context before met s (node_read (unknown text) bs) = (1, refl, inl (refl, λ h. h))

  pub branches_tell : (context : Context) (before : ℕ) (met : Option Log) (cs : List Case) (bs : BranchesRead) → branch_names bs ≡ case_names cs
      → BranchesTell context before met cs bs (walk_checked context before met (leads_to cs) bs)
  branches_tell context before met [] none_read e = (omega arith, (None, (no_branch, refl, tt, refl), sym (log_last met)))
  branches_tell context before met [] (branch_read name k bs) e = absurd (let none : ⊥ = cc in none)
  branches_tell context before met (c ∷ cs) none_read e = absurd (let none : ⊥ = cc in none)
  branches_tell context before met (c ∷ cs) (branch_read name k bs) e =
      first_tells context before met c cs name k bs (cc) (walk context before met c.system k) (walk_tells context before met c.system k) (λ n log. branches_tell context n log cs bs (cc))
