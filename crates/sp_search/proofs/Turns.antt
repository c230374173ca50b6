-- Growth of trees that hold their systems, moves and depths is growth of the trees that they show.
use Rattle.std.proofs.Common.{◌≡◌, ◌∙◌, ℕ, suc, ◌+◌, Bool, true, false, List, [], ◌∷◌, map, Option, Some, None, IfSome, refl, sym, ap, subst, add-one, true≢false}
use Rattle.std.specs.Prelude.{option_map, is_some, if◌then◌else◌}
use Rattle.sp_spec_system.specs.System.{System}
use Rattle.sp_spec_system.specs.Move.{Move, unproved, solved, Context, Case, end_log}
use Rattle.sp_spec_proof.specs.Cases.{simple_case, cases}
use Rattle.sp_spec_system.specs.Rules.{Rules}
use Rattle.sp_spec.specs.Log.{Log}
use Rattle.sp_spec_proof.specs.Tree.{is_solved, Tree, node, Branches, no_branch, branch}
use Rattle.sp_spec_proof.specs.Choice.{Ranked, is_instance, choice, class_of}
use Rattle.sp_spec_proof.proofs.Chosen.{choice_is_instance, choice_is_proper}
use Rattle.sp_spec_proof.specs.Growth.{has_class, is_unproved, least_class, least_class_in, grown_at, grown_in, open_leaves, leaves_for, grown_leaf, first_grown}
use Rattle.sp_search.specs.Kept.{Kept, leaf, ended, inner, Keeps, nothing, also, shown, shown_all}
use Rattle.sp_search.specs.Growing.{least_kept, least_in, leaves_at, cases_or_none, ended_with, replaced, opened, behind, next, grow, grow_in}

-- The tree belongs to this system at this depth: each open leaf has its own system, its choice and its own depth, and
-- the search ends with its log.
abbrev mutual
  pub Belongs : Context → ℕ → System → Kept → Type 0
  Belongs context depth s (leaf t chosen own) = (t ≡ s) × (chosen ≡ choice context s) × (own ≡ depth)
  Belongs context depth s (ended log) = end_log context s ≡ Some log
  Belongs context depth s (inner move branches) = (is_unproved move ≡ false) × (is_solved move ≡ false) × AllBelong context (suc depth) (cases context s move) branches

  pub AllBelong : Context → ℕ → Option (List Case) → Keeps → Type 0
  AllBelong context depth cs nothing = Unit {0}
  AllBelong context depth None (also name tree branches) = ⊥
  AllBelong context depth (Some []) (also name tree branches) = ⊥
  AllBelong context depth (Some (c ∷ cs)) (also name tree branches) = Belongs context depth c.system tree × AllBelong context depth (Some cs) branches

-- below a move without branches there is nothing
no_class : (context : Context) (depth : ℕ) (cs : Option (List Case)) → least_class_in context depth cs no_branch ≡ None
no_class context depth None = refl
no_class context depth (Some []) = refl
no_class context depth (Some (c ∷ cs)) = refl

none_grown : (context : Context) (k depth : ℕ) (cs : Option (List Case)) → grown_in context k depth cs no_branch ≡ None
none_grown context k depth None = refl
none_grown context k depth (Some []) = refl
none_grown context k depth (Some (c ∷ cs)) = refl

mutual
  pub least_is : (context : Context) (depth : ℕ) (s : System) (t : Kept) → Belongs context depth s t → least_kept t ≡ least_class context depth s (shown t)
  least_is context depth s (leaf u move own) b = rw (b.1, b.2) refl
  least_is context depth s (ended log) b = sym (no_class context (suc depth) (cases context s solved))
  least_is context depth s (inner move branches) b = rw b.0 (least_in_is context (suc depth) (cases context s move) branches b.2)

  least_in_is : (context : Context) (depth : ℕ) (cs : Option (List Case)) (ts : Keeps) → AllBelong context depth cs ts → least_in ts ≡ least_class_in context depth cs (shown_all ts)
  least_in_is context depth None nothing b = refl
  least_in_is context depth (Some []) nothing b = refl
  least_in_is context depth (Some (c ∷ cs)) nothing b = refl
  least_in_is context depth None (also name tree branches) b = absurd b
  least_in_is context depth (Some []) (also name tree branches) b = absurd b
  least_in_is context depth (Some (c ∷ cs)) (also name tree branches) b = rw (least_is context depth c.system tree b.0, least_in_is context depth (Some cs) branches b.1) refl

-- what a tree has become, and whether it has grown
abbrev pub Became : {A : Type 0} → A → A → Bool → Option A → Type 0
Became old now done None = (now ≡ old) × (done ≡ false)
Became old now done (Some grown_tree) = (now ≡ grown_tree) × (done ≡ true)

leaves_show : (context : Context) (depth : ℕ) (cs : Option (List Case)) → shown_all (leaves_at context depth (cases_or_none cs)) ≡ open_leaves cs
leaves_show context depth None = refl
leaves_show context depth (Some cs) = each cs
  where
    each : (cs : List Case) → shown_all (leaves_at context depth cs) ≡ leaves_for cs
    each [] = refl
    each (c ∷ cs) = ap (branch c.name (node unproved no_branch)) (each cs)

leaves_belong : (context : Context) (depth own : ℕ) → own ≡ depth → (cs : Option (List Case)) → AllBelong context depth cs (leaves_at context own (cases_or_none cs))
leaves_belong context depth own e None = tt
leaves_belong context depth own e (Some cs) = each cs
  where
    each : (cs : List Case) → AllBelong context depth (Some cs) (leaves_at context own cs)
    each [] = tt
    each (c ∷ cs) = ((refl, refl, e), each cs)

log_told : (rules : Rules) (b : Bool) → is_some (option_map (map (simple_case rules)) (let r : Option (List Case) = if b then Some [] else None in r)) ≡ true → b ≡ true
log_told rules true e = refl
log_told rules false e = e

ended_shows : (rules : Rules) (o : Option Log) → shown (ended_with o) ≡ node solved (open_leaves (option_map (map (simple_case rules)) (let r : Option (List Case) = if is_some o then Some [] else None in r)))
ended_shows rules None = refl
ended_shows rules (Some log) = refl

replaced_shows : (context : Context) (s : System) (m : Move) (depth : ℕ) → shown (replaced context s m depth) ≡ node m (open_leaves (cases context s m))
replaced_shows context s solved depth = ended_shows context.rules (end_log context s)
replaced_shows context s move depth = ap (node move) (leaves_show context (depth + 1) (cases context s move))

ended_belongs : (context : Context) (depth : ℕ) (s : System) (o : Option Log) → end_log context s ≡ o → is_some o ≡ true → Belongs context depth s (ended_with o)
ended_belongs context depth s None e some = absurd (true≢false (sym some))
ended_belongs context depth s (Some log) e some = e

replaced_belongs : (context : Context) (s : System) (m : Move) (depth : ℕ) → is_unproved m ≡ false → is_instance context s m ≡ true → Belongs context depth s (replaced context s m depth)
replaced_belongs context s unproved depth proper e = absurd (true≢false proper)
replaced_belongs context s solved depth proper e = ended_belongs context depth s (end_log context s) refl (log_told context.rules (is_some (end_log context s)) e)
replaced_belongs context s move depth proper e = (refl, refl, leaves_belong context (suc depth) (depth + 1) (add-one depth) (cases context s move))

leaf_becomes : (context : Context) (depth : ℕ) (s : System) (chosen : Option Ranked) (b : Bool)
    → Became (node unproved no_branch) (shown (opened context s chosen depth b).0) (opened context s chosen depth b).1 (if b then option_map (grown_leaf context s) chosen else None)
leaf_becomes context depth s chosen false = (refl, refl)
leaf_becomes context depth s None true = (refl, refl)
leaf_becomes context depth s (Some r) true = (replaced_shows context s r.move depth, refl)

leaf_belongs : (context : Context) (depth : ℕ) (s : System) (chosen : Option Ranked) (b : Bool) → chosen ≡ choice context s
    → IfSome chosen (λ (r : Ranked). is_unproved r.move ≡ false) → IfSome chosen (λ (r : Ranked). is_instance context s r.move ≡ true)
    → Belongs context depth s (opened context s chosen depth b).0
leaf_belongs context depth s chosen false is proper instance = (refl, is, refl)
leaf_belongs context depth s None true is proper instance = (refl, is, refl)
leaf_belongs context depth s (Some r) true is proper instance = replaced_belongs context s r.move depth proper instance

-- nothing more is replaced once a leaf has been
pub rests_at : (context : Context) (k : ℕ) (t : Kept) → grow context k true t ≡ (t, true)
rests_at context k (leaf s m depth) = refl
rests_at context k (ended log) = refl
rests_at context k (inner m branches) = refl

rests : (context : Context) (k : ℕ) (ts : Keeps) → grow_in context k true ts ≡ (ts, true)
rests context k nothing = refl
rests context k (also name t ts) = ap (λ (r : Kept × Bool). next name r (λ now. grow_in context k now ts)) (rests_at context k t) ∙ ap (behind name t) (rests context k ts)

within_becomes : (m : Move) (old now : Branches) (done : Bool) (g : Option Branches) → Became old now done g → Became (node m old) (node m now) done (option_map (node m) g)
within_becomes m old now done None e = (ap (node m) e.0, e.1)
within_becomes m old now done (Some u) e = (ap (node m) e.0, e.1)

-- a first branch that has become something, and what the others become then
branch_becomes : (name : List ℕ) (t x : Kept) (ts : Keeps) (done : Bool) (later : Bool → Keeps × Bool) (g : Option Tree) (h : Option Branches)
    → Became (shown t) (shown x) done g → later true ≡ (ts, true) → Became (shown_all ts) (shown_all (later false).0) (later false).1 h
    → Became (branch name (shown t) (shown_all ts)) (branch name (shown x) (shown_all (later done).0)) (later done).1 (first_grown name (shown t) (shown_all ts) g h)
branch_becomes name t x ts done later None None e r f = rw (e.1, e.0, f.0) (refl, f.1)
branch_becomes name t x ts done later None (Some u) e r f = rw (e.1, e.0, f.0) (refl, f.1)
branch_becomes name t x ts done later (Some v) h e r f = rw (e.1, e.0, r) (refl, refl)

later_belong : (context : Context) (depth : ℕ) (cs : List Case) (ts : Keeps) (done : Bool) (later : Bool → Keeps × Bool) → later true ≡ (ts, true)
    → AllBelong context depth (Some cs) ts → AllBelong context depth (Some cs) (later false).0 → AllBelong context depth (Some cs) (later done).0
later_belong context depth cs ts true later r b f = rw r b
later_belong context depth cs ts false later r b f = f

mutual
  pub grow_is : (context : Context) (k depth : ℕ) (s : System) (t : Kept) → Belongs context depth s t
      → Became (shown t) (shown (grow context k false t).0) (grow context k false t).1 (grown_at context k depth s (shown t))
  grow_is context k depth s (leaf u m own) b =
      rw (b.0, b.1, b.2) (leaf_becomes context depth s (choice context s) (has_class (class_of (choice context s) depth) k))
  grow_is context k depth s (ended log) b =
      subst (λ (g : Option Branches). Became (node solved no_branch) (node solved no_branch) false (option_map (node solved) g)) (sym (none_grown context k (suc depth) (cases context s solved))) (refl, refl)
  grow_is context k depth s (inner m ts) b =
      let r = grow_in context k false ts in
      rw b.0 (within_becomes m (shown_all ts) (shown_all r.0) r.1 (grown_in context k (suc depth) (cases context s m) (shown_all ts)) (grow_in_is context k (suc depth) (cases context s m) ts b.2))

  pub grow_in_is : (context : Context) (k depth : ℕ) (cs : Option (List Case)) (ts : Keeps) → AllBelong context depth cs ts
      → Became (shown_all ts) (shown_all (grow_in context k false ts).0) (grow_in context k false ts).1 (grown_in context k depth cs (shown_all ts))
  grow_in_is context k depth None nothing b = (refl, refl)
  grow_in_is context k depth (Some []) nothing b = (refl, refl)
  grow_in_is context k depth (Some (c ∷ cs)) nothing b = (refl, refl)
  grow_in_is context k depth None (also name t ts) b = absurd b
  grow_in_is context k depth (Some []) (also name t ts) b = absurd b
  grow_in_is context k depth (Some (c ∷ cs)) (also name t ts) b =
      let r = grow context k false t in
      branch_becomes name t r.0 ts r.1 (λ now. grow_in context k now ts) (grown_at context k depth c.system (shown t)) (grown_in context k depth (Some cs) (shown_all ts))
      (grow_is context k depth c.system t b.0) (rests context k ts) (grow_in_is context k depth (Some cs) ts b.1)

mutual
  pub grow_belongs : (context : Context) (k depth : ℕ) (s : System) (t : Kept) → Belongs context depth s t → Belongs context depth s (grow context k false t).0
  grow_belongs context k depth s (leaf u m own) b =
      rw (b.0, b.1, b.2)
      (leaf_belongs context depth s (choice context s) (has_class (class_of (choice context s) depth) k) refl (choice_is_proper context s) (choice_is_instance context s))
  grow_belongs context k depth s (ended log) b = b
  grow_belongs context k depth s (inner m ts) b = (b.0, b.1, grow_in_belong context k (suc depth) (cases context s m) ts b.2)

  pub grow_in_belong : (context : Context) (k depth : ℕ) (cs : Option (List Case)) (ts : Keeps) → AllBelong context depth cs ts → AllBelong context depth cs (grow_in context k false ts).0
  grow_in_belong context k depth cs nothing b = tt
  grow_in_belong context k depth None (also name t ts) b = absurd b
  grow_in_belong context k depth (Some []) (also name t ts) b = absurd b
  grow_in_belong context k depth (Some (c ∷ cs)) (also name t ts) b = (
    grow_belongs context k depth c.system t b.0,
    later_belong context depth cs ts (grow context k false t).1 (λ now. grow_in context k now ts) (rests context k ts) b.1 (grow_in_belong context k depth (Some cs) ts b.1),
  )
