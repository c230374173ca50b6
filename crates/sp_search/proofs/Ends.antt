-- The log that a tree in memory keeps is the one with which the search ends.
use Rattle.std.proofs.Common.{◌≡◌, ℕ, suc, ◌||◌, List, [], ◌∷◌, Option, Some, None, refl, sym}
use Rattle.std.specs.Prelude.{is_some}
use Rattle.sp_spec.specs.Log.{Log}
use Rattle.sp_spec_system.specs.System.{System}
use Rattle.sp_spec_system.specs.Move.{Context, Case}
use Rattle.sp_spec_proof.specs.Cases.{cases}
use Rattle.sp_spec_proof.specs.Tree.{first_log, found_log, found_below}
use Rattle.sp_spec_proof.specs.Growth.{has_end, some_end}
use Rattle.sp_search.specs.Kept.{Kept, leaf, ended, inner, Keeps, nothing, also, shown, shown_all, log_in, log_among}
use Rattle.sp_search.proofs.Turns.{Belongs, AllBelong}

mutual
  pub log_is : (context : Context) (depth : ℕ) (s : System) (t : Kept) → Belongs context depth s t → log_in t ≡ found_log context s (shown t)
  log_is context depth s (leaf u m own) b = refl
  log_is context depth s (ended log) b = sym b
  log_is context depth s (inner m ts) b = rw b.1 (log_among_is context (suc depth) (cases context s m) ts b.2)

  log_among_is : (context : Context) (depth : ℕ) (cs : Option (List Case)) (ts : Keeps) → AllBelong context depth cs ts → log_among ts ≡ found_below context cs (shown_all ts)
  log_among_is context depth None nothing b = refl
  log_among_is context depth (Some []) nothing b = refl
  log_among_is context depth (Some (c ∷ cs)) nothing b = refl
  log_among_is context depth None (also name t ts) b = absurd b
  log_among_is context depth (Some []) (also name t ts) b = absurd b
  log_among_is context depth (Some (c ∷ cs)) (also name t ts) b = rw (log_is context depth c.system t b.0, log_among_is context depth (Some cs) ts b.1) refl

either : (o p : Option Log) → (is_some o || is_some p) ≡ is_some (first_log o p)
either None p = refl
either (Some log) p = refl

mutual
  pub end_is : (context : Context) (depth : ℕ) (s : System) (t : Kept) → Belongs context depth s t → has_end (shown t) ≡ is_some (log_in t)
  end_is context depth s (leaf u m own) b = refl
  end_is context depth s (ended log) b = refl
  end_is context depth s (inner m ts) b = rw b.1 (ends_are context (suc depth) (cases context s m) ts b.2)

  ends_are : (context : Context) (depth : ℕ) (cs : Option (List Case)) (ts : Keeps) → AllBelong context depth cs ts → some_end (shown_all ts) ≡ is_some (log_among ts)
  ends_are context depth cs nothing b = refl
  ends_are context depth None (also name t ts) b = absurd b
  ends_are context depth (Some []) (also name t ts) b = absurd b
  ends_are context depth (Some (c ∷ cs)) (also name t ts) b = rw (end_is context depth c.system t b.0, ends_are context depth (Some cs) ts b.1) (either (log_in t) (log_among ts))
