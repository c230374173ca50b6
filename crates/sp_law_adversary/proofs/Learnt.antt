-- Each step of an execution is followed by a log, so that each execution has one.
use Rattle.std.proofs.Common.{inl, ℕ, zero, Bool, true, false, true≢false, if◌then◌else◌, map, List, [], ◌∷◌, ◌++◌, length, refl, sym, subst}
use Rattle.sp_spec.specs.Lists.{Member, Every}
use Rattle.sp_spec.specs.Equal.{IsNormal}
use Rattle.sp_spec.specs.Term.{Pub, name, app, none, more, Ground}
use Rattle.sp_spec.specs.Signature.{Equation, HasPublic}
use Rattle.sp_spec.specs.Rule.{Fact, Facts, facts_at, fr, out_of, knows}
use Rattle.sp_spec.specs.Theory.{Theory, signature_of}
use Rattle.sp_spec.specs.Execution.{Step, make_fresh, use_rule, take_out, put_in, know_public, make_own, apply_symbol, State, known_all, Leads, made_by, Trace, with_entry, Runs, IsExecution}
use Rattle.sp_spec.specs.Log.{Source, fresh_rule, conclusion, public_name, own_name, step, learn, Log, IsLearnt, IsLog}
use Rattle.sp_law_equal.specs.NormalForms.{HaveNormalForms}
use Rattle.sp_law_equal.specs.Normal.{normal, normal_all, normal_facts}
use Rattle.sp_spec.proofs.Sorts.{is_name}
use Rattle.sp_spec.proofs.Lists.{every_member}
use Rattle.sp_law_equal.proofs.Forms.{normal_has_sort, are_normal}
use Rattle.sp_law_equal.proofs.Over.{count_normal}
use Rattle.sp_law_equal.specs.Right.{KeepPublic}
use Rattle.sp_law_run.specs.NormalStep.{normal_trace}
use Rattle.sp_law_equal.specs.RightTheory.{LeavesReserved}
use Rattle.sp_law_adversary.specs.Laws.{Learns}
use Rattle.sp_law_truth.specs.Same.{EqualTraces}
use Rattle.sp_law_log.proofs.Sources.{same_normal_actions}
use Rattle.sp_law_adversary.proofs.Grown.{learnt_tells, grows_not}
use Rattle.sp_law_adversary.proofs.Absorb.{Learned, learned_by, absorb}
use Rattle.sp_law_adversary.proofs.Make.{make}
use Rattle.sp_law_log.proofs.Taking.{Taken, taken}
use Rattle.sp_law_adversary.proofs.Followed.{HasOrigin, Followed, followed_grows, followed_knows, followed_fresh, followed_send, followed_rest, followed_own}
use Rattle.sp_law_adversary.proofs.RuleStep.{rule_step}
use Rattle.sp_law_adversary.proofs.Founds.{all_known, IsOutOf, one_out, one_fresh}
use Rattle.sp_law_adversary.specs.Learning.{is_learnt, learnt_by, taken_from, logged}
use Rattle.sp_law_log.proofs.Below.{numbered}
use Rattle.std.specs.Bool.{Decides}

-- a trace is equal to itself in normal form
pub normal_trace_same : (es : List Equation) (trace : Trace) → EqualTraces es trace (normal_trace es trace)
normal_trace_same es [] = tt
normal_trace_same es (actions ∷ earlier) = (same_normal_actions es actions, normal_trace_same es earlier)

-- the sources of what a step adds
abbrev pub new_sources : Step → ℕ → List (Fact ⊥) → List Source
new_sources (use_rule r given) p facts = numbered p zero facts
new_sources (put_in t) p facts = numbered p zero facts
new_sources (make_fresh t) p facts = map (λ (f : Fact ⊥). fresh_rule) facts
new_sources (take_out t) p facts = map (λ (f : Fact ⊥). fresh_rule) facts
new_sources (know_public t) p facts = map (λ (f : Fact ⊥). fresh_rule) facts
new_sources (make_own t) p facts = map (λ (f : Fact ⊥). fresh_rule) facts
new_sources (apply_symbol f ts) p facts = map (λ (f : Fact ⊥). fresh_rule) facts

module _ (theory : Theory) (good : HaveNormalForms (signature_of theory).equations) where
  -- what was put out is learnt
  out_learned : (log : Log) (m : Ground) (sources : List Source) → IsLog theory log → IsNormal (signature_of theory).equations m
      → IsOutOf theory good log m sources
      → Learned theory log (taken_from (signature_of theory).symbols m sources log) m
  out_learned log m [] l n o = absurd o
  out_learned log m (fresh_rule ∷ sources) l n o = absurd o
  out_learned log m (conclusion p k ∷ sources) l n o =
      absorb theory m log (record { position = p; place = k; messages = m ∷ [] }) l
      (λ new. record {
        called = o.0;
        facts = o.1;
        sources = o.2;
        there = o.3;
        first = m;
        out = o.4;
        chained = (refl, refl);
        not_before = ((λ q b at. new (q, at)), tt);
      })
      n

  module _ (before : State) (facts : List (Fact ⊥)) (origins : List Source) (earlier : Trace) (log : Log)
      (old : Followed theory facts origins before.made earlier log) (rest : List (Fact ⊥)) where
    abbrev IsTaken : List (Fact ⊥) → Type 0
    IsTaken premises = Taken (signature_of theory).equations (HasOrigin (signature_of theory).equations log) premises facts origins rest

    -- the log behind the step follows what is then there
    abbrev IsFollowed : Step → Facts ⊥ → Type 0
    IsFollowed s used =
        (k : IsTaken used.premises) → Followed theory (used.conclusions ++ rest) (new_sources s (length log) used.conclusions ++ k.left) (made_by s before.made)
        (with_entry used.actions earlier) (logged (signature_of theory) s (normal_facts (signature_of theory).equations used) k.sources log)

    -- facts are taken, and a message that is learnt is known
    next_known : (premises : List (Fact ⊥)) (k : IsTaken premises) (t : Ground) (later : Log)
        → Learned theory log later (normal (signature_of theory).equations t)
        → Followed theory (knows t ∷ rest) (fresh_rule ∷ k.left) before.made earlier later
    next_known premises k t later learned =
        let left = followed_rest theory facts origins before.made earlier log old premises rest k in
        let grown = followed_grows theory rest k.left before.made earlier log left later learned.0 in
        followed_knows theory rest k.left before.made earlier later grown t learned.1

    next_fresh : (n : ℕ) → (Member (name n) before.made → ⊥) → (k : IsTaken [])
        → Followed theory (fr (name n) ∷ rest) (fresh_rule ∷ k.left) (name n ∷ before.made) earlier log
    next_fresh n new k =
        followed_fresh theory rest k.left before.made earlier log (followed_rest theory facts origins before.made earlier log old [] rest k) n new

    next_own : (n : ℕ) (k : IsTaken (fr (name n) ∷ []))
        → Followed theory (knows (name n) ∷ rest) (fresh_rule ∷ k.left) before.made earlier (learnt_by log (name n) own_name)
    next_own n k = at (is_learnt log (name n)) (learnt_tells log (name n))
      where
        at : (b : Bool) → Decides b (IsLearnt log (name n))
            → Followed theory (knows (name n) ∷ rest) (fresh_rule ∷ k.left) before.made earlier (if b then log else learn (name n) own_name ∷ log)
        at true d = next_known (fr (name n) ∷ []) k (name n) log (grows_not theory log old.is_log, d.0 refl)
        at false d =
            let one = one_fresh theory good log n k.founds k.sources k.same k.have_sources in
            let left = followed_own theory facts origins before.made earlier log old (fr (name n) ∷ []) rest k n one (λ h. true≢false (sym (d.1 h))) in
            followed_knows theory rest k.left before.made earlier (learn (name n) own_name ∷ log) left (name n) (length log, (own_name, inl (refl, refl)))

    module _ (keeps : KeepPublic (signature_of theory).symbols (signature_of theory).equations) (reserved : Every LeavesReserved theory.rules) where
      -- each step is followed
      pub next : (s : Step) (used : Facts ⊥) (after : State) → Leads theory s used before after → IsFollowed s used
      next (make_fresh t) used after l =
          let n = is_name t l.sorts.0 in
          subst (IsFollowed (make_fresh t)) (sym l.is_instance)
          (subst
          (λ (u : Ground). (Member u before.made → ⊥) → (k : IsTaken []) → Followed theory (fr u ∷ rest) (fresh_rule ∷ k.left) (u ∷ before.made) earlier log)
          (sym n.1) (next_fresh n.0) l.is_new)
      next (use_rule called given) used after l =
          let i = l.is_instance in
          let r = i.0 in
          let whole = facts_at l.values r.facts in
          subst (IsFollowed (use_rule called given)) (sym i.4)
          (λ k.
          subst
          (λ (c : List ℕ). Followed theory (whole.conclusions ++ rest) (numbered (length log) zero whole.conclusions ++ k.left) before.made
          (with_entry whole.actions earlier) (step c (normal_facts (signature_of theory).equations whole) k.sources ∷ log))
          i.2
          (rule_step theory good r i.1 (every_member LeavesReserved theory.rules r i.1 reserved) l.values l.sorts
          log facts origins rest before.made earlier old k))
      next (take_out t) used after l =
          subst (IsFollowed (take_out t)) (sym l.is_instance)
          (λ k.
          next_known (out_of t ∷ []) k t _
          (out_learned log (normal (signature_of theory).equations t) k.sources old.is_log (good.is_normal t)
          (one_out theory good log t k.founds k.sources k.same k.have_sources)))
      next (put_in t) used after l =
          subst (IsFollowed (put_in t)) (sym l.is_instance)
          (λ k.
          followed_send theory rest k.left before.made earlier log (followed_rest theory facts origins before.made earlier log old (knows t ∷ []) rest k) t
          (all_known theory good log (more t none) k.founds k.sources k.same k.have_sources).0)
      next (know_public t) used after l =
          let m = normal (signature_of theory).equations t in
          subst (IsFollowed (know_public t)) (sym l.is_instance)
          (λ k.
          next_known [] k t _
          (learned_by theory log m public_name old.is_log tt (λ new. (normal_has_sort (signature_of theory).equations Pub t l.sorts.0, tt, tt))))
      next (make_own t) used after l =
          let n = is_name t l.sorts.0 in
          subst (IsFollowed (make_own t)) (sym l.is_instance)
          (subst
          (λ (u : Ground). (k : IsTaken (fr u ∷ [])) → Followed theory (knows u ∷ rest) (fresh_rule ∷ k.left) before.made earlier
          (learnt_by log (normal (signature_of theory).equations u) own_name))
          (sym n.1) (next_own n.0))
      next (apply_symbol f ts) used after l =
          let es = (signature_of theory).equations in
          subst (IsFollowed (apply_symbol f ts)) (sym l.is_instance)
          (λ k.
          next_known (known_all ts) k (app f ts) _
          (make theory good keeps log old.is_log f (normal_all es ts)
          (subst (λ (n : ℕ). HasPublic (signature_of theory).symbols f n) (sym (count_normal es ts)) l.named)
          (all_known theory good log ts k.founds k.sources k.same k.have_sources)
          (are_normal es good ts)))

  pub nothing_followed : Followed theory [] [] [] [] []
  nothing_followed = record {
    have_origins = tt;
    sources_once = tt;
    sources_below = λ o m. absurd m;
    fresh_once = tt;
    fresh_made = λ t m. absurd m;
    is_log = tt;
    shows = refl;
  }

  -- what follows a trace shows it
  pub followed_learns : (facts : List (Fact ⊥)) (origins : List Source) (made : List Ground) (trace : Trace) (log : Log)
      → Followed theory facts origins made trace log → Learns theory trace log
  followed_learns facts origins made trace log h = record {
    is_log = h.is_log;
    shows = h.shows;
    same_trace =
        subst (λ (shown : Trace). EqualTraces (signature_of theory).equations trace shown) (sym h.shows)
        (normal_trace_same (signature_of theory).equations trace);
  }

  module _ (keeps : KeepPublic (signature_of theory).symbols (signature_of theory).equations) (reserved : Every LeavesReserved theory.rules) where
    abbrev FollowedAt : State → Trace → Type 0
    FollowedAt state trace = (log : Log) × (origins : List Source) × Followed theory state.facts origins state.made trace log

    runs_followed : (steps : List Step) (state : State) (trace : Trace) → Runs theory steps state trace → FollowedAt state trace
    runs_followed [] state trace r =
        subst (λ (s : State). FollowedAt s trace) (sym r.0)
        (subst (λ (shown : Trace). FollowedAt (record { facts = []; made = [] }) shown) (sym r.1) ([], [], nothing_followed))
    runs_followed (s ∷ past) state trace r =
        let before = r.0 in
        let used = r.2 in
        let l = r.4 in
        let old = runs_followed past before r.1 r.3 in
        let es = (signature_of theory).equations in
        let k = taken es (HasOrigin es old.0) used.premises before.facts old.1 l.rest old.2.have_origins l.takes in
        let new = next before before.facts old.1 r.1 old.0 old.2 l.rest keeps reserved s used state l k in
        subst (λ (after : State). FollowedAt after trace) (sym l.adds)
        (subst (λ (shown : Trace). FollowedAt (record { facts = used.conclusions ++ l.rest; made = made_by s before.made }) shown) (sym r.5) (_, _, new))

    pub executions_learnt : (steps : List Step) (trace : Trace) → IsExecution theory steps trace → (log : Log) × Learns theory trace log
    executions_learnt steps trace e =
        let last = runs_followed steps e.0 trace e.1 in (last.0, followed_learns e.0.facts last.1 e.0.made trace last.0 last.2)
