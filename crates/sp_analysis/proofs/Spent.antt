-- A search that is given up has spent its budget.
use Rattle.std.proofs.Common.{◌≡◌, ℕ, Bool, true, false, List, [], ◌∷◌, ◌++◌, Option, Some, None, refl, sym, ap, ◌∙◌, subst, inr}
use Rattle.sp_spec.specs.Lists.{Every}
use Rattle.sp_spec.specs.Theory.{TraceKind, all_traces, exists_trace}
use Rattle.sp_spec.specs.Log.{Log}
use Rattle.sp_spec_system.specs.System.{System}
use Rattle.sp_spec_system.specs.Move.{Root, root_system, Context}
use Rattle.sp_spec_proof.specs.Tree.{Tree, IsFinished, found_log, steps}
use Rattle.sp_spec_proof.specs.Growth.{has_end, grown_tree}
use Rattle.sp_spec_proof.proofs.Growing.{grown_tree_accepted}
use Rattle.sp_spec_proof.proofs.TreeLogs.{log_at_end}
use Rattle.sp_spec_proof.proofs.Progress.{is_chosen}
use Rattle.sp_spec_proof.proofs.Spent.{unfinished_is_spent}
use Rattle.sp_spec_printed.specs.Verdict.{Verdict, incomplete, Says}
use Rattle.sp_analysis.specs.Taken.{Stated, Taken, taken_by}
use Rattle.sp_analysis.specs.Sought.{root_of, Setting, context_of}
use Rattle.sp_analysis.specs.Analysis.{Outcome, IsOutcome, AreOutcomes}
use Rattle.sp_analysis.specs.Laws.{IsSpent}

-- it says that no log was found, and that something is left open
abbrev LeavesOpen : Option Log → Type 0 → Type 0
LeavesOpen log finished = (log ≡ None) × (finished → ⊥)

leaves_open : (kind : TraceKind) (verdict : Verdict) (log : Option Log) (finished : Type 0) → verdict ≡ incomplete → Says kind verdict log finished → LeavesOpen log finished
leaves_open kind verdict log finished e h = at kind log (subst (λ (v : Verdict). Says kind v log finished) e h)
  where
    at : (k : TraceKind) (o : Option Log) → Says k incomplete o finished → LeavesOpen o finished
    at all_traces None g = (refl, g)
    at all_traces (Some l) g = absurd g
    at exists_trace None g = (refl, g)
    at exists_trace (Some l) g = absurd g

module _ (setting : Setting) (budget : ℕ) where
  no_end : (c : Context) (s : System) → found_log c s (grown_tree c s budget) ≡ None → has_end (grown_tree c s budget) ≡ false
  no_end c s e = at (has_end (grown_tree c s budget)) refl
    where
      at : (b : Bool) → has_end (grown_tree c s budget) ≡ b → b ≡ false
      at false h = refl
      at true h = let there = log_at_end c (grown_tree c s budget) s (grown_tree_accepted c s budget) h in absurd (let k = there.1 in cc)

  one_spent : (taken : List Taken) (q : Stated) (o : Outcome) → IsOutcome setting budget taken q o → IsSpent budget o
  one_spent taken q o h =
      let root = root_of setting q.attributes taken q.lemma.kind h.form in
      let c = context_of setting root in
      let s = root_system root in
      record {
        spent = λ e.
            let left = leaves_open q.lemma.kind o.verdict o.log (IsFinished o.tree) e h.verdict_is in
            let ends = no_end c s (sym h.log_is ∙ left.0) in
            subst (λ (t : Tree). steps t ≡ budget) (sym h.tree_is)
            (unfinished_is_spent c (λ t. is_chosen c t (inr refl)) s budget ends (λ f. left.1 (subst IsFinished (sym h.tree_is) f)));
      }

  pub all_spent : (taken : List Taken) (qs : List Stated) (os : List Outcome) → AreOutcomes setting budget taken qs os → Every (IsSpent budget) os
  all_spent taken [] [] h = tt
  all_spent taken [] (o ∷ os) h = absurd h
  all_spent taken (q ∷ qs) [] h = absurd h
  all_spent taken (q ∷ qs) (o ∷ os) h = (one_spent taken q o h.0, all_spent (taken ++ taken_by q o.verdict) qs os h.1)
