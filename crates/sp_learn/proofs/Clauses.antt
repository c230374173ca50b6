-- Each entry is tested as the definition says, clause by clause, behind a log.
use Rattle.std.proofs.Common.{◌≡◌, ◌<◌, ⊎_elim, ℕ, zero, suc, Bool, true, false, not, if◌then◌else◌, List, [], ◌∷◌, map, Option, Some, None, refl, sym, ap, ◌∙◌, subst, arith, true≢false}
use Rattle.std.specs.Bool.{Decides}
use Rattle.std.proofs.lemmas.Bool.{and_parts, and_from, not-true, both_ways, cases_order}
use Rattle.sp_spec.specs.Lists.{newest_first}
use Rattle.sp_spec.specs.Term.{Ground}
use Rattle.sp_spec.specs.Same.{same_term}
use Rattle.sp_spec.specs.Rule.{Facts}
use Rattle.sp_spec.specs.Theory.{Theory, signature_of}
use Rattle.sp_spec.specs.Destruction.{destructions}
use Rattle.sp_spec.specs.Log as spec
use Rattle.sp_spec.specs.Log.{public_name, own_name, constructed, by_chain, Entry, step, send, learn, Log, fresh_uses, all_fresh_uses, sources_of, all_sources, IsDestructed, Keeps, IsLog}
use Rattle.sp_spec.proofs.Logs.{log_sources, log_fresh}
use Rattle.sp_spec.proofs.Same.{same_term_decides}
use Rattle.sp_spec_forms.specs.Forms.{RuleForms, forms_of}
use Rattle.sp_law_equal.specs.RightTheory.{HasNormalInstances}
use Rattle.sp_destruct.specs.Links.{is_link}
use Rattle.sp_destruct.proofs.Deciding.{in_log}
use Rattle.sp_log.specs.Checking.{have_sources, same_source, are_new}
use Rattle.sp_log.proofs.Instances.{step_decides}
use Rattle.sp_log.proofs.New.{new_decides, is_not}
use Rattle.sp_log.proofs.Premises.{sources_decide, same_source_decides}
use Rattle.sp_learn.specs.declared.check.Clause.{Clause}
use Rattle.sp_learn.specs.declared.check.Clause.TheVariants.{Instance, Sources, Freshness, SentLearnt, LearntOnce, Way, MadeAlone, ChainIsNew}
use Rattle.sp_learn.specs.Learning.{learnt_in, is_among, is_made_alone}
use Rattle.sp_learn.specs.Checking.{keeps, all_clauses, first_failing, broken}
use Rattle.sp_learn.specs.Meaning.{clause_of, rank}
use Rattle.sp_learn.proofs.Learnt.{member_learnt, learnt_member, learnt_decides, none_decides}
use Rattle.sp_learn.proofs.Ways.{may_learn_decides, made_alone_decides}

trivial : Decides true (Unit {0})
trivial = (λ t. tt, λ h. refl)

not_decides : (b : Bool) (P : Type 0) → Decides b P → Decides (not b) (P → ⊥)
not_decides b P d = (λ t h. both_ways b (not-true b t) (d.1 h), λ n. is_not b (λ t. n (d.0 t)))

-- ---- the clauses by their ranks

of_rank : ℕ → Clause
of_rank zero = Instance
of_rank (suc zero) = Sources
of_rank (suc (suc zero)) = Freshness
of_rank (suc (suc (suc zero))) = SentLearnt
of_rank (suc (suc (suc (suc zero)))) = LearntOnce
of_rank (suc (suc (suc (suc (suc zero))))) = Way
of_rank (suc (suc (suc (suc (suc (suc zero)))))) = MadeAlone
of_rank n = ChainIsNew

own_rank : (c : Clause) → of_rank (rank c) ≡ c
unfolding of_rank
own_rank Instance = refl
own_rank Sources = refl
own_rank Freshness = refl
own_rank SentLearnt = refl
own_rank LearntOnce = refl
own_rank Way = refl
own_rank MadeAlone = refl
own_rank ChainIsNew = refl

-- clauses of one rank are one
pub same_rank : (c d : Clause) → rank c ≡ rank d → c ≡ d
same_rank c d e = sym (own_rank c) ∙ ap of_rank e ∙ own_rank d

ranks_end : (c : Clause) → rank c < 8
ranks_end Instance = omega arith
ranks_end Sources = omega arith
ranks_end Freshness = omega arith
ranks_end SentLearnt = omega arith
ranks_end LearntOnce = omega arith
ranks_end Way = omega arith
ranks_end MadeAlone = omega arith
ranks_end ChainIsNew = omega arith

-- the clauses from this rank on
abbrev AreFrom : ℕ → List Clause → Type 0
AreFrom n [] = n ≡ 8
AreFrom n (c ∷ cs) = (rank c ≡ n) × AreFrom (suc n) cs

-- ---- the tests

module _ (theory : Theory) (good : HasNormalInstances theory) where
  abbrev pub by_forms : List RuleForms
  by_forms = map (forms_of (signature_of theory).equations) theory.rules

  link_decides : (earlier : List Entry) (t u : Ground)
      → Decides (is_link (destructions (signature_of theory)) (learnt_in earlier) t u) (IsDestructed (signature_of theory) (newest_first earlier) t u)
  link_decides earlier t u =
      in_log (signature_of theory) (newest_first earlier) (learnt_in earlier) (λ m. (member_learnt earlier m, learnt_member earlier m)) t u

  module _ (earlier : List Entry) (log : IsLog theory (newest_first earlier)) where
    abbrev past : Log
    past = newest_first earlier

    sources_right : (r : List ℕ) (facts : Facts ⊥) (os : List spec.Source)
        → Decides (keeps (signature_of theory) by_forms earlier (step r facts os) Sources) (Keeps theory spec.premise_sources (step r facts os) past)
    sources_right r facts os =
        let e = step r facts os in
        let premises = sources_decide earlier facts.premises os in
        let new = new_decides sources_of all_sources refl (λ x xs. refl) same_source same_source_decides earlier e (log_sources theory past log) in (
          λ t.
              let both = and_parts (have_sources facts.premises os earlier) (are_new same_source (all_sources earlier) (sources_of e)) t in
              (premises.0 both.0, new.0 both.1),
          λ h. and_from _ _ (premises.1 h.0) (new.1 h.1),
        )

    keeps_decides : (clause : Clause) (e : Entry) → Decides (keeps (signature_of theory) by_forms earlier e clause) (Keeps theory (clause_of clause) e past)
    keeps_decides Instance (step r facts os) = step_decides theory good r facts
    keeps_decides Instance (send m) = trivial
    keeps_decides Instance (learn m how) = trivial
    keeps_decides Sources (step r facts os) = sources_right r facts os
    keeps_decides Sources (send m) = trivial
    keeps_decides Sources (learn m how) = trivial
    keeps_decides Freshness e = new_decides fresh_uses all_fresh_uses refl (λ x xs. refl) same_term same_term_decides earlier e (log_fresh theory past log)
    keeps_decides SentLearnt (step r facts os) = trivial
    keeps_decides SentLearnt (send m) = learnt_decides earlier m
    keeps_decides SentLearnt (learn m how) = trivial
    keeps_decides LearntOnce (step r facts os) = trivial
    keeps_decides LearntOnce (send m) = trivial
    keeps_decides LearntOnce (learn m how) = not_decides (is_among (learnt_in earlier) m) (spec.IsLearnt past m) (learnt_decides earlier m)
    keeps_decides Way (step r facts os) = trivial
    keeps_decides Way (send m) = trivial
    keeps_decides Way (learn m how) =
        may_learn_decides (signature_of theory) earlier (is_link (destructions (signature_of theory)) (learnt_in earlier)) (link_decides earlier) good.forms.normal_forms m how
    keeps_decides MadeAlone (step r facts os) = trivial
    keeps_decides MadeAlone (send m) = trivial
    keeps_decides MadeAlone (learn m public_name) = trivial
    keeps_decides MadeAlone (learn m own_name) = trivial
    keeps_decides MadeAlone (learn m constructed) = trivial
    keeps_decides MadeAlone (learn m (by_chain p k chain)) =
        not_decides (is_made_alone (signature_of theory) m) (spec.IsMadeAlone (signature_of theory) m) (made_alone_decides (signature_of theory) m)
    keeps_decides ChainIsNew (step r facts os) = trivial
    keeps_decides ChainIsNew (send m) = trivial
    keeps_decides ChainIsNew (learn m public_name) = trivial
    keeps_decides ChainIsNew (learn m own_name) = trivial
    keeps_decides ChainIsNew (learn m constructed) = trivial
    keeps_decides ChainIsNew (learn m (by_chain p k chain)) = none_decides earlier p chain

    -- ---- an entry

    module _ (e : Entry) where
      abbrev Kept : Clause → Type 0
      Kept clause = Keeps theory (clause_of clause) e past

      abbrev kept : Clause → Bool
      kept clause = keeps (signature_of theory) by_forms earlier e clause

      each_clause : ((clause : Clause) → Kept clause) → (clause : spec.Clause) → Keeps theory clause e past
      each_clause h spec.rule_instance = h Instance
      each_clause h spec.premise_sources = h Sources
      each_clause h spec.fresh_names_once = h Freshness
      each_clause h spec.sent_is_learnt = h SentLearnt
      each_clause h spec.learnt_once = h LearntOnce
      each_clause h spec.way_of_learning = h Way
      each_clause h spec.made_alone = h MadeAlone
      each_clause h spec.chain_is_new = h ChainIsNew

      -- what the tests say
      abbrev pub Told : Option Clause → Type 0
      Told None = IsLog theory (e ∷ past)
      Told (Some clause) = (Kept clause → ⊥) × ((lesser : Clause) → rank lesser < rank clause → Kept lesser)

      abbrev KeptBelow : ℕ → Type 0
      KeptBelow n = (lesser : Clause) → rank lesser < n → Kept lesser

      one_more : (n : ℕ) (c : Clause) → rank c ≡ n → KeptBelow n → Kept c → KeptBelow (suc n)
      one_more n c is below here lesser l =
          ⊎_elim (λ e'. subst Kept (same_rank c lesser (is ∙ sym e')) here)
          (λ u. ⊎_elim (λ k. below lesser k) (λ k. absurd (omega (arith, l, k))) u)
          (cases_order (rank lesser) n)

      by_test : (c : Clause) (cs : List Clause) → KeptBelow (rank c) → (b : Bool) → kept c ≡ b → (Kept c → Told (first_failing kept cs))
          → Told (if b then first_failing kept cs else Some c)
      by_test c cs below true t next = next ((keeps_decides c e).0 t)
      by_test c cs below false f next = ((λ h. true≢false (sym ((keeps_decides c e).1 h) ∙ f)), below)

      told_from : (n : ℕ) (cs : List Clause) → AreFrom n cs → KeptBelow n → Told (first_failing kept cs)
      told_from n [] is below = (log, each_clause (λ c. below c (let l = ranks_end c in omega (arith, l, is))))
      told_from n (c ∷ cs) is below =
          by_test c cs (λ lesser l. below lesser (let r = is.0 in omega (arith, l, r))) (kept c) refl
          (λ here. told_from (suc n) cs is.1 (one_more n c is.0 below here))

      pub entry_told : Told (broken (signature_of theory) by_forms earlier e)
      entry_told = told_from 0 all_clauses (refl, (refl, (refl, (refl, (refl, (refl, (refl, (refl, refl)))))))) (λ lesser l. absurd (omega (arith, l)))
