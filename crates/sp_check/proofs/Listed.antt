-- A walk over nodes in preorder is a walk over their trees, one behind the other.
use Rattle.std.proofs.Common.{◌≡◌, ℕ, zero, suc, ◌+◌, Bool, true, false, if◌then◌else◌, List, [], ◌∷◌, ◌++◌, take, drop, length, Option, Some, None, refl, sym, ap, ◌∙◌, arith}
use Rattle.std.proofs.lemmas.List.{length-map, length-append, take-append-drop, length-take-le}
use Rattle.sp_spec_nodes.specs.Preorder.{trees, AreTrees, first}
use Rattle.sp_spec_nodes.proofs.Preorder.{count_trees}
use Rattle.sp_spec.specs.Log.{Log}
use Rattle.sp_spec_system.specs.System.{System}
use Rattle.sp_spec_system.specs.Move.{Context, Case, end_log, systems_in}
use Rattle.sp_spec_proof.specs.Cases.{cases}
use Rattle.sp_spec_proof.specs.Tree.{is_solved, first_log}
use Rattle.sp_check.specs.Skeleton.{Step, known, unknown, Skeleton, node_read, none_read, branch_names}
use Rattle.sp_check.specs.Nodes.{NodeRead, with_names, cases_at, over, tree_read, node_walked, walk_all}
use Rattle.sp_check.specs.Judging.{Checked, fails, leads_to, ends_with, are_named, cases_checked, log_checked, step_checked, NodesJudged, passed, stopped, walked_on, walk, walk_checked}
use Rattle.sp_spec_printed.specs.Verdict.{clause_cases}
use Rattle.sp_check.proofs.Names.{named_as_many}

pub names_kept : (names : List (List ℕ)) (ks : List Skeleton) → length names ≡ length ks → branch_names (with_names names ks) ≡ names
names_kept [] [] e = refl
names_kept [] (k ∷ ks) e = refl
names_kept (name ∷ names) [] e = absurd (omega (arith, e))
names_kept (name ∷ names) (k ∷ ks) e = ap (λ (ms : List (List ℕ)). name ∷ ms) (names_kept names ks (omega (arith, e)))

-- as many systems are awaited behind the node as trees stand there
abbrev Fits : List (List ℕ) → Checked → Type 0
Fits names (fails clause) = Unit {0}
Fits names (leads_to cs) = length cs ≡ length names
Fits names (ends_with log) = length names ≡ 0

names_fit : (names : List (List ℕ)) (cs : List Case) (b : Bool) → are_named cs names ≡ b → Fits names (if b then leads_to cs else fails clause_cases)
names_fit names cs true e = named_as_many cs names e
names_fit names cs false e = tt

cases_fit : (names : List (List ℕ)) (o : Option (List Case)) → Fits names (cases_checked names o)
cases_fit names None = tt
cases_fit names (Some cs) = names_fit names cs (are_named cs names) refl

log_fits : (names : List (List ℕ)) (o : Option Log) → Fits names (log_checked names o)
log_fits names None = tt
log_fits [] (Some log) = refl
log_fits (name ∷ names) (Some log) = tt

move_fits : (names : List (List ℕ)) (ends : Option Log) (o : Option (List Case)) (b : Bool) → Fits names (if b then log_checked names ends else cases_checked names o)
move_fits names ends o true = log_fits names ends
move_fits names ends o false = cases_fit names o

step_fits : (context : Context) (s : System) (step : Step) (names : List (List ℕ)) → Fits names (step_checked context s step names)
step_fits context s (known move) names = move_fits names (end_log context s) (cases context s move) (is_solved move)
step_fits context s (unknown text) names = tt

module _ (context : Context) where
  -- the walk over trees, each for a system, one behind the other
  abbrev walk_each : ℕ → Option Log → List System → List Skeleton → NodesJudged
  walk_each before met [] ks = passed before met
  walk_each before met (s ∷ ss) [] = passed before met
  walk_each before met (s ∷ ss) (k ∷ ks) = walked_on (walk context before met s k) (λ n log. walk_each n log ss ks)

  same_later : (w : NodesJudged) (f g : ℕ → Option Log → NodesJudged) → ((n : ℕ) (log : Option Log) → f n log ≡ g n log) → walked_on w f ≡ walked_on w g
  same_later (passed n log) f g e = e n log
  same_later (stopped n clause) f g e = refl

  later_on : (w : NodesJudged) (f g : ℕ → Option Log → NodesJudged) → walked_on (walked_on w f) g ≡ walked_on w (λ n log. walked_on (f n log) g)
  later_on (passed n log) f g = refl
  later_on (stopped n clause) f g = refl

  -- the trees of the cases
  branches_walked : (n : ℕ) (log : Option Log) (cs : List Case) (names : List (List ℕ)) (ks : List Skeleton) → length names ≡ length ks
      → walk_checked context n log (leads_to cs) (with_names names ks) ≡ walk_each n log (systems_in cs) ks
  branches_walked n log [] names ks e = refl
  branches_walked n log (c ∷ cs) [] [] e = refl
  branches_walked n log (c ∷ cs) [] (k ∷ ks) e = absurd (omega (arith, e))
  branches_walked n log (c ∷ cs) (name ∷ names) [] e = refl
  branches_walked n log (c ∷ cs) (name ∷ names) (k ∷ ks) e =
      same_later (walk context n log c.system k)
      (λ m l. walk_checked context m l (leads_to cs) (with_names names ks))
      (λ m l. walk_each m l (systems_in cs) ks)
      (λ m l. branches_walked m l cs names ks (omega (arith, e)))

  -- trees behind other trees
  behind_others : (n : ℕ) (log : Option Log) (ss ts : List System) (ks ls : List Skeleton) → length ss ≡ length ks
      → walk_each n log (ss ++ ts) (ks ++ ls) ≡ walked_on (walk_each n log ss ks) (λ m l. walk_each m l ts ls)
  behind_others n log [] ts [] ls e = refl
  behind_others n log [] ts (k ∷ ks) ls e = absurd (omega (arith, e))
  behind_others n log (s ∷ ss) ts [] ls e = absurd (omega (arith, e))
  behind_others n log (s ∷ ss) ts (k ∷ ks) ls e =
      same_later (walk context n log s k)
      (λ m l. walk_each m l (ss ++ ts) (ks ++ ls))
      (λ m l. walked_on (walk_each m l ss ks) (λ i j. walk_each i j ts ls))
      (λ m l. behind_others m l ss ts ks ls (omega (arith, e)))
      ∙ sym (later_on (walk context n log s k) (λ m l. walk_each m l ss ks) (λ i j. walk_each i j ts ls))

  -- a node, with the trees behind it
  module _ (number : ℕ) (met : Option Log) (ss : List System) (n : NodeRead) (ns : List NodeRead) (k : ℕ) (as_many : length ss ≡ k) (are : AreTrees cases_at (cases_at n + k) ns)
      (below : (log : Option Log) (left : List System) → length left ≡ cases_at n + k → walk_all context number log left ns ≡ walk_each number log left (trees cases_at over ns)) where
    abbrev ts : List Skeleton
    ts = trees cases_at over ns

    abbrev mine : List Skeleton
    mine = take (cases_at n) ts

    abbrev others : List Skeleton
    others = drop (cases_at n) ts

    mine_count : length n.1 ≡ length mine
    mine_count =
        let count : length ts ≡ cases_at n + k = count_trees cases_at over (cases_at n + k) ns are in
        sym (length-take-le (cases_at n) ts (omega arith))

    parted : mine ++ others ≡ ts
    parted = take-append-drop (cases_at n) ts

    node_on : (x : Checked) → Fits n.1 x → node_walked number met ss x (λ log left. walk_all context number log left ns)
        ≡ walked_on (walk_checked context number met x (with_names n.1 mine)) (λ m l. walk_each m l ss others)
    node_on (fails clause) fits = refl
    node_on (ends_with log) fits =
        let all : others ≡ ts = ap (λ (i : ℕ). drop i ts) fits in
        below (first_log met (Some log)) ss (omega arith) ∙ ap (walk_each number (first_log met (Some log)) ss) (sym all)
    node_on (leads_to cs) fits =
        let count : length (systems_in cs) ≡ length mine = length-map cs (λ (c : Case). c.system) ∙ fits ∙ mine_count in
        below met (systems_in cs ++ ss) (length-append (systems_in cs) ss ∙ omega (arith, length-map cs (λ (c : Case). c.system)))
        ∙ ap (walk_each number met (systems_in cs ++ ss)) (sym parted)
        ∙ behind_others number met (systems_in cs) ss mine others count
        ∙ ap (λ (w : NodesJudged). walked_on w (λ m l. walk_each m l ss others)) (sym (branches_walked number met cs n.1 mine mine_count))

    node_then : (s : System) → node_walked number met ss (step_checked context s n.0 n.1) (λ log left. walk_all context number log left ns)
        ≡ walked_on (walk_checked context number met (step_checked context s n.0 (branch_names (with_names n.1 mine))) (with_names n.1 mine)) (λ m l. walk_each m l ss others)
    node_then s =
        node_on (step_checked context s n.0 n.1) (step_fits context s n.0 n.1)
        ∙ ap (λ (names : List (List ℕ)). walked_on (walk_checked context number met (step_checked context s n.0 names) (with_names n.1 mine)) (λ m l. walk_each m l ss others))
        (sym (names_kept n.1 mine mine_count))

  all_walked : (before : ℕ) (met : Option Log) (ss : List System) (ns : List NodeRead) (k : ℕ) → length ss ≡ k → AreTrees cases_at k ns
      → walk_all context before met ss ns ≡ walk_each before met ss (trees cases_at over ns)
  all_walked before met [] [] k e h = refl
  all_walked before met (s ∷ ss) [] k e h = refl
  all_walked before met ss (n ∷ ns) zero e h = absurd h
  all_walked before met [] (n ∷ ns) (suc k) e h = absurd (omega (arith, e))
  all_walked before met (s ∷ ss) (n ∷ ns) (suc k) e h =
      node_then (before + 1) met ss n ns k (omega (arith, e)) h (λ log left count. all_walked (before + 1) log left ns (cases_at n + k) count h) s

  passed_on : (w : NodesJudged) → walked_on w passed ≡ w
  passed_on (passed n log) = refl
  passed_on (stopped n clause) = refl

  one_walked : (before : ℕ) (met : Option Log) (s : System) (other : Skeleton) (ks : List Skeleton) → length ks ≡ 1 → walk_each before met (s ∷ []) ks ≡ walk context before met s (first other ks)
  one_walked before met s other [] e = absurd (omega (arith, e))
  one_walked before met s other (k ∷ ks) e = passed_on (walk context before met s k)

  pub tree_walked : (s : System) (ns : List NodeRead) → AreTrees cases_at 1 ns → walk_all context 0 None (s ∷ []) ns ≡ walk context 0 None s (tree_read ns)
  tree_walked s ns h =
      all_walked 0 None (s ∷ []) ns 1 refl h ∙ one_walked 0 None s (node_read (unknown []) none_read) (trees cases_at over ns) (count_trees cases_at over 1 ns h)
