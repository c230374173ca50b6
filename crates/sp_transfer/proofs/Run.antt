-- Along an execution the log follows the facts that are kept with their sources.
use Rattle.std.proofs.Common.{◌≡◌, ℕ, zero, suc, List, [], ◌∷◌, ◌++◌, length, Option, Some, Result, Ok, Err, option_map, option_and_then, map, refl, sym, ap, ◌∙◌, subst}
use Rattle.sp_spec.specs.Lists.{Every}
use Rattle.sp_spec.specs.Signature.{Equation}
use Rattle.sp_spec.specs.Rule.{Fact, Facts}
use Rattle.sp_spec.specs.Theory.{Theory, signature_of}
use Rattle.sp_spec.specs.Execution.{Step, make_fresh, use_rule, take_out, put_in, know_public, make_own, apply_symbol, State, Trace, made_by, with_entry, Leads, Runs, IsExecution, Cause}
use Rattle.sp_spec.specs.Log.{Source, fresh_rule, conclusion, Log}
use Rattle.sp_law_equal.specs.NormalForms.{HaveNormalForms}
use Rattle.sp_law_equal.specs.Normal.{normal_fact, normal_facts}
use Rattle.sp_law_equal.specs.Right.{AreRight, KeepPublic}
use Rattle.sp_law_equal.specs.RightTheory.{LeavesReserved, IsRightTheory}
use Rattle.sp_law_run.specs.Taken.{SameFacts}
use Rattle.sp_law_run.proofs.Counted.{same_facts_itself, same_facts_added}
use Rattle.sp_law_run.proofs.Taking.{map_append, normals, takes_taken}
use Rattle.sp_law_run.proofs.Instances.{one_instance}
use Rattle.sp_law_run.proofs.Runs.{after}
use Rattle.sp_law_log.proofs.Below.{numbered}
use Rattle.sp_law_log.proofs.Taking.{Taken}
use Rattle.sp_law_adversary.specs.Laws.{Learns}
use Rattle.sp_law_adversary.specs.Learning.{logged}
use Rattle.sp_law_adversary.proofs.Followed as adversary
use Rattle.sp_law_adversary.proofs.Learnt.{new_sources, next, nothing_followed, followed_learns}
use Rattle.sp_exec.specs.Next.{Instance, instance_of}
use Rattle.sp_exec.proofs.Instances.{IsRightInstance, instance_right}
use Rattle.sp_exec.proofs.Replays.{leads_without}
use Rattle.sp_transfer.specs.Construction.{Given, Followed, at_start, Taking, concluded, without_source, added, with_facts, with_instance, followed_by, followed, log_of}
use Rattle.sp_transfer.proofs.Ordered.{facts_of, sources_of, followed_turned, followed_normal}
use Rattle.sp_transfer.proofs.Taking.{AllTaken, takes_all, normals_same}

-- the facts that a step adds, and their sources
facts_concluded : (p k : ℕ) (fs : List (Fact ⊥)) → facts_of (concluded p k fs) ≡ fs
facts_concluded p k [] = refl
facts_concluded p k (f ∷ fs) = ap (λ (gs : List (Fact ⊥)). f ∷ gs) (facts_concluded p (suc k) fs)

facts_without : (fs : List (Fact ⊥)) → facts_of (without_source fs) ≡ fs
facts_without [] = refl
facts_without (f ∷ fs) = ap (λ (gs : List (Fact ⊥)). f ∷ gs) (facts_without fs)

facts_added : (s : Step) (p : ℕ) (fs : List (Fact ⊥)) → facts_of (added s p fs) ≡ fs
facts_added (make_fresh t) p fs = facts_without fs
facts_added (use_rule r given) p fs = facts_concluded p zero fs
facts_added (take_out t) p fs = facts_without fs
facts_added (put_in t) p fs = facts_concluded p zero fs
facts_added (know_public t) p fs = facts_without fs
facts_added (make_own t) p fs = facts_without fs
facts_added (apply_symbol f ts) p fs = facts_without fs

module _ (es : List Equation) where
  sources_concluded : (p k : ℕ) (fs : List (Fact ⊥)) → sources_of (concluded p k (normals es fs)) ≡ numbered p k fs
  sources_concluded p k [] = refl
  sources_concluded p k (f ∷ fs) = ap (λ (os : List Source). conclusion p k ∷ os) (sources_concluded p (suc k) fs)

  sources_without : (fs : List (Fact ⊥)) → sources_of (without_source (normals es fs)) ≡ map (λ (f : Fact ⊥). fresh_rule) fs
  sources_without [] = refl
  sources_without (f ∷ fs) = ap (λ (os : List Source). fresh_rule ∷ os) (sources_without fs)

  sources_added : (s : Step) (p : ℕ) (fs : List (Fact ⊥)) → sources_of (added s p (normals es fs)) ≡ new_sources s p fs
  sources_added (make_fresh t) p fs = sources_without fs
  sources_added (use_rule r given) p fs = sources_concluded p zero fs
  sources_added (take_out t) p fs = sources_without fs
  sources_added (put_in t) p fs = sources_concluded p zero fs
  sources_added (know_public t) p fs = sources_without fs
  sources_added (make_own t) p fs = sources_without fs
  sources_added (apply_symbol f ts) p fs = sources_without fs

module _ (theory : Theory) (good : HaveNormalForms (signature_of theory).equations) (right : AreRight theory.rules)
    (keeps : KeepPublic (signature_of theory).symbols (signature_of theory).equations) (reserved : Every LeavesReserved theory.rules) where
  abbrev es : List Equation
  es = (signature_of theory).equations

  -- the facts are those of the state in normal form, and the log follows them with their sources
  record Follows (state : State) (trace : Trace) (ours : Followed) : Type 0 where
    same : SameFacts (facts_of ours.facts) (normals es state.facts)
    kept : adversary.Followed theory (facts_of ours.facts) (sources_of ours.facts) state.made trace ours.log

  module _ (s : Step) (used : Facts ⊥) (before now : State) (earlier : Trace)
      (l : Leads theory s used before now) (ours : Followed) (old : Follows before earlier ours) where
    abbrev FollowsBehind : Option Followed → Type 0
    FollowsBehind answer = (f : Followed) × (answer ≡ Some f) × Follows (after s used before l.rest) (with_entry used.actions earlier) f

    abbrev behind : Taking → Followed
    behind t = record {
      facts = t.left ++ added s (length ours.log) (normals es used.conclusions);
      log = logged (signature_of theory) s (normal_facts es used) t.sources ours.log;
    }

    -- what was taken with the sources is followed
    kept_behind : (t : Taking) → AllTaken (adversary.HasOrigin es ours.log) (normals es used.premises) ours.facts t
        → adversary.Followed theory (facts_of (behind t).facts) (sources_of (behind t).facts) (made_by s before.made) (with_entry used.actions earlier)
        (behind t).log
    kept_behind t all =
        let k : Taken es (adversary.HasOrigin es ours.log) used.premises (facts_of ours.facts) (sources_of ours.facts) (facts_of t.left) =
        record {
          founds = normals es used.premises;
          sources = t.sources;
          left = sources_of t.left;
          same = normals_same es used.premises;
          have_sources = all.have_sources;
          have_left = all.have_left;
          linear = all.linear;
          fresh = all.fresh;
        } in
        let new = added s (length ours.log) (normals es used.conclusions) in
        let made = made_by s before.made in
        let shown = with_entry used.actions earlier in
        let log = logged (signature_of theory) s (normal_facts es used) t.sources ours.log in
        let sources = new_sources s (length ours.log) used.conclusions ++ sources_of t.left in
        let one : adversary.Followed theory (used.conclusions ++ facts_of t.left) sources made shown log =
        next theory good before (facts_of ours.facts) (sources_of ours.facts) earlier ours.log old.kept (facts_of t.left) keeps reserved s used now l k in
        let two : adversary.Followed theory (normals es used.conclusions ++ facts_of t.left) sources made shown log =
        followed_normal theory made shown log good used.conclusions (facts_of t.left) sources one in
        let three : adversary.Followed theory (facts_of new ++ facts_of t.left) (sources_of new ++ sources_of t.left) made shown log =
        subst (λ (fs : List (Fact ⊥)). adversary.Followed theory (fs ++ facts_of t.left) (sources_of new ++ sources_of t.left) made shown log)
        (sym (facts_added s (length ours.log) (normals es used.conclusions)))
        (subst (λ (os : List Source). adversary.Followed theory (normals es used.conclusions ++ facts_of t.left) (os ++ sources_of t.left) made shown log)
        (sym (sources_added es s (length ours.log) used.conclusions)) two) in
        followed_turned theory made shown log new t.left three

    same_behind : (t : Taking) → SameFacts (facts_of t.left) (normals es l.rest)
        → SameFacts (facts_of (behind t).facts) (normals es (used.conclusions ++ l.rest))
    same_behind t same =
        let new = added s (length ours.log) (normals es used.conclusions) in
        let all = map_append (λ (g : Given). g.fact) t.left new
        ∙ ap (λ (fs : List (Fact ⊥)). facts_of t.left ++ fs) (facts_added s (length ours.log) (normals es used.conclusions)) in
        subst (λ (fs : List (Fact ⊥)). SameFacts fs (normals es (used.conclusions ++ l.rest))) (sym all)
        (subst (λ (fs : List (Fact ⊥)). SameFacts (facts_of t.left ++ normals es used.conclusions) fs)
        (sym (map_append (normal_fact es) used.conclusions l.rest))
        (same_facts_added (facts_of t.left) (normals es l.rest) (normals es used.conclusions) same))

    with_used : FollowsBehind (with_facts (signature_of theory) s (normal_facts es used) ours)
    with_used =
        let r = takes_taken es good used.premises (facts_of ours.facts) before.facts l.rest old.same l.takes in
        let t = takes_all (adversary.HasOrigin es ours.log) (normals es used.premises) ours.facts r.0 old.kept.have_origins r.1 in (
          behind t.0,
          ap (option_map behind) t.1,
          record {
            same = same_behind t.0 (subst (λ (fs : List (Fact ⊥)). SameFacts fs (normals es l.rest)) (sym t.2) r.2);
            kept = kept_behind t.0 t.3;
          },
        )

    by_instance : (r : Result Instance Cause) → IsRightInstance theory s r → FollowsBehind (with_instance (signature_of theory) s ours r)
    by_instance (Err cause) h = absurd (leads_without theory s used before now l cause (h before).fails)
    by_instance (Ok i) h =
        subst (λ (f : Facts ⊥). FollowsBehind (with_facts (signature_of theory) s (normal_facts es f) ours))
        (one_instance theory right s l.values h.values used i.facts l.is_instance h.is_instance) with_used

    step_follows : FollowsBehind (followed_by (signature_of theory) theory.rules s ours)
    step_follows = by_instance (instance_of (signature_of theory) theory.rules s) (instance_right theory right s)

  run_follows : (steps : List Step) (state : State) (trace : Trace) → Runs theory steps state trace
      → (f : Followed) × (followed (signature_of theory) theory.rules steps ≡ Some f) × Follows state trace f
  run_follows [] state trace r = (
    at_start,
    refl,
    subst (λ (s : State). Follows s trace at_start) (sym r.0)
        (subst (λ (shown : Trace). Follows (record { facts = []; made = [] }) shown at_start) (sym r.1)
        (record { same = same_facts_itself []; kept = nothing_followed theory good })),
  )
  run_follows (s ∷ past) state trace r =
      let old = run_follows past r.0 r.1 r.3 in
      let new = step_follows s r.2 r.0 state r.1 r.4 old.0 old.2 in (
        new.0,
        ap (option_and_then (followed_by (signature_of theory) theory.rules s)) old.1 ∙ new.1,
        subst (λ (now : State). Follows now trace new.0) (sym r.4.adds)
            (subst (λ (shown : Trace). Follows (after s r.2 r.0 r.4.rest) shown new.0) (sym r.5) new.2),
      )

  pub execution_logged : (steps : List Step) (trace : Trace) → IsExecution theory steps trace
      → (log : Log) × (log_of theory steps ≡ Some log) × Learns theory trace log
  execution_logged steps trace e =
      let h = run_follows steps e.0 trace e.1 in (
        h.0.log,
        ap (option_map (λ (f : Followed). f.log)) h.1,
        followed_learns theory good (facts_of h.0.facts) (sources_of h.0.facts) e.0.made trace h.0.log h.2.kept,
      )

pub right_theory_logged : (theory : Theory) → IsRightTheory theory → (steps : List Step) (trace : Trace) → IsExecution theory steps trace
    → (log : Log) × (log_of theory steps ≡ Some log) × Learns theory trace log
right_theory_logged theory right = execution_logged theory right.instances.forms.normal_forms right.declared right.keeps_public right.reserved
