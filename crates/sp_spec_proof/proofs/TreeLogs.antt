-- The log of a tree: where it comes from, and when there is one.
use Rattle.std.proofs.Common.{◌≡◌, ⊎_elim, Bool, true, false, if◌then◌else◌, List, [], ◌∷◌, map, Option, Some, None, option_map, is_some, refl, ap, ◌∙◌}
use Rattle.std.proofs.lemmas.Bool.{or_cases, or_parts}
use Rattle.sp_spec.specs.Log.{Log}
use Rattle.sp_spec_system.specs.System.{System}
use Rattle.sp_spec_system.specs.Move.{solved, Context, Case, end_log}
use Rattle.sp_spec_proof.specs.Cases.{simple_case, cases}
use Rattle.sp_spec_proof.specs.Tree.{Tree, node, Branches, no_branch, branch, IsAccepted, AreAccepted, IsFinished, AreFinished, is_solved, first_log, found_log, found_below}
use Rattle.sp_spec_proof.specs.Growth.{has_end, some_end}

abbrev pub Ends : Context → Log → Type 0
Ends context log = (t : System) × (end_log context t ≡ Some log)

-- of two logs the first one there is comes from where they come from
of_either : (context : Context) (log : Log) (o later : Option Log) → (o ≡ Some log → Ends context log) → (later ≡ Some log → Ends context log) → first_log o later ≡ Some log → Ends context log
of_either context log (Some l) later h k e = h e
of_either context log None later h k e = k e

module _ (context : Context) where
  mutual
    pub log_found : (tree : Tree) (s : System) (log : Log) → found_log context s tree ≡ Some log → Ends context log
    log_found (node move branches) s log e = at (is_solved move) e (log_below branches (cases context s move) log)
      where
        at : (b : Bool) → (if b then end_log context s else found_below context (cases context s move) branches) ≡ Some log
            → (found_below context (cases context s move) branches ≡ Some log → Ends context log) → Ends context log
        at true k below = (s, k)
        at false k below = below k

    log_below : (branches : Branches) (o : Option (List Case)) (log : Log) → found_below context o branches ≡ Some log → Ends context log
    log_below no_branch None log e = absurd cc
    log_below no_branch (Some []) log e = absurd cc
    log_below no_branch (Some (c ∷ cs)) log e = absurd cc
    log_below (branch name tree branches) None log e = absurd cc
    log_below (branch name tree branches) (Some []) log e = absurd cc
    log_below (branch name tree branches) (Some (c ∷ cs)) log e =
        of_either context log (found_log context c.system tree) (found_below context (Some cs) branches) (log_found tree c.system log) (log_below branches (Some cs) log) e

abbrev IsThere : Option Log → Type 0
IsThere o = (log : Log) × (o ≡ Some log)

there : (o : Option Log) → is_some o ≡ true → IsThere o
there None e = absurd cc
there (Some log) e = (log, refl)

first_there : (o later : Option Log) → IsThere o → IsThere (first_log o later)
first_there o later h = (h.0, ap (λ (x : Option Log). first_log x later) h.1)

later_there : (o later : Option Log) → IsThere later → IsThere (first_log o later)
later_there None later h = h
later_there (Some log) later h = (log, refl)

-- where the move is an instance with which the search ends, there is a log
there_if : (context : Context) (o : Option Log) (branches : Branches) → AreAccepted context (option_map (map (simple_case context.rules)) (if is_some o then Some [] else None)) branches → IsThere o
there_if context None branches a = absurd a
there_if context (Some log) branches a = (log, refl)

module _ (context : Context) where
  mutual
    pub log_at_end : (tree : Tree) (s : System) → IsAccepted context s tree → has_end tree ≡ true → IsThere (found_log context s tree)
    log_at_end (node solved branches) s a e = there_if context (end_log context s) branches a
    log_at_end (node move branches) s a e = log_at_one branches (cases context s move) a e

    log_at_one : (branches : Branches) (o : Option (List Case)) → AreAccepted context o branches → some_end branches ≡ true → IsThere (found_below context o branches)
    log_at_one no_branch o a e = absurd cc
    log_at_one (branch name tree branches) None a e = absurd a
    log_at_one (branch name tree branches) (Some []) a e = absurd a
    log_at_one (branch name tree branches) (Some (c ∷ cs)) a e =
        ⊎_elim (λ h. first_there (found_log context c.system tree) (found_below context (Some cs) branches) (log_at_end tree c.system a.1 h))
        (λ h. later_there (found_log context c.system tree) (found_below context (Some cs) branches) (log_at_one branches (Some cs) a.2 h)) (or_cases (has_end tree) (some_end branches) e)

first_none : (o later : Option Log) → o ≡ None → later ≡ None → first_log o later ≡ None
first_none o later h k = ap (λ (x : Option Log). first_log x later) h ∙ k

module _ (context : Context) where
  mutual
    pub no_log : (tree : Tree) (s : System) → has_end tree ≡ false → found_log context s tree ≡ None
    no_log (node solved branches) s e = absurd cc
    no_log (node move branches) s e = no_log_below branches (cases context s move) e

    no_log_below : (branches : Branches) (o : Option (List Case)) → some_end branches ≡ false → found_below context o branches ≡ None
    no_log_below no_branch None e = refl
    no_log_below no_branch (Some []) e = refl
    no_log_below no_branch (Some (c ∷ cs)) e = refl
    no_log_below (branch name tree branches) None e = refl
    no_log_below (branch name tree branches) (Some []) e = refl
    no_log_below (branch name tree branches) (Some (c ∷ cs)) e =
        let k = or_parts (has_end tree) (some_end branches) e in
        first_none (found_log context c.system tree) (found_below context (Some cs) branches) (no_log tree c.system k.0) (no_log_below branches (Some cs) k.1)

-- a finished tree ends the search nowhere
mutual
  pub finished_no_end : (tree : Tree) → IsFinished tree → has_end tree ≡ false
  finished_no_end (node solved branches) h = absurd (h.0 tt)
  finished_no_end (node move branches) h = finished_none_end branches h.1

  finished_none_end : (branches : Branches) → AreFinished branches → some_end branches ≡ false
  finished_none_end no_branch h = refl
  finished_none_end (branch name tree branches) h = rw (finished_no_end tree h.0) (finished_none_end branches h.1)
