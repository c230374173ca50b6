-- Logs that go on by learning.
use Rattle.std.proofs.Common.{◌≡◌, ⊎_elim, inl, List, [], ◌∷◌, ◌++◌, length, refl, sym, ap, ◌∙◌, subst, append_assoc}
use Rattle.sp_spec.specs.Lists.{Member, Every, Distinct}
use Rattle.sp_spec.specs.Term.{Ground}
use Rattle.sp_spec.specs.Theory.{Theory, signature_of}
use Rattle.sp_spec.specs.Log.{How, public_name, own_name, constructed, by_chain, Entry, step, send, learn, Log, all_fresh_uses, all_sources, visible_trace, IsLearnt, MayLearn, Clause, rule_instance, premise_sources, fresh_names_once, sent_is_learnt, learnt_once, way_of_learning, made_alone, chain_is_new, Keeps, IsLog}
use Rattle.sp_spec.proofs.Lists.{every_append}
use Rattle.sp_spec.proofs.Logs.{log_fresh}
use Rattle.sp_law_equal.proofs.Decided.{same_term_or_not}
use Rattle.sp_law_adversary.specs.Learning.{is_learnt}
use Rattle.std.specs.Bool.{Decides}
use Rattle.std.proofs.lemmas.Bool.{or_cases, or_left, or_right}
use Rattle.sp_spec.specs.Same.{same_term}
use Rattle.sp_spec.proofs.Same.{same_term_decides}
use Rattle.sp_law_adversary.specs.Held.{UsesNone, IsLearn, Grows}
use Rattle.sp_law_adversary.proofs.Held.{learnt_later}

-- what was learnt with an entry more, if that entry doesn't learn it
pub learnt_before : (e : Entry) (past : Log) (m : Ground) → ((how : How) → e ≡ learn m how → ⊥) → IsLearnt (e ∷ past) m → IsLearnt past m
learnt_before e past m other h = ⊎_elim (λ here. absurd (other h.1.0 here.1)) (λ later. (h.0, (h.1.0, later))) h.1.1

-- whether a message is learnt
pub learnt_tells : (log : Log) (m : Ground) → Decides (is_learnt log m) (IsLearnt log m)
learnt_tells [] m = (λ e. absurd cc, λ h. absurd h.1.1)
learnt_tells (step r facts sources ∷ past) m =
    let d = learnt_tells past m in
    let e : Entry = step r facts sources in (λ t. learnt_later (e ∷ []) past m (d.0 t), λ h. d.1 (learnt_before e past m (λ how k. absurd cc) h))
learnt_tells (send n ∷ past) m =
    let d = learnt_tells past m in (λ t. learnt_later (send n ∷ []) past m (d.0 t), λ h. d.1 (learnt_before (send n) past m (λ how k. absurd cc) h))
learnt_tells (learn n how ∷ past) m =
    let d = learnt_tells past m in
    let s = same_term_decides n m in (
      λ t. ⊎_elim (λ a. (length past, (how, inl (refl, ap (λ (w : Ground). learn w how) (s.0 a))))) (λ b. learnt_later (learn n how ∷ []) past m (d.0 b))
          (or_cases (same_term n m) (is_learnt past m) t),
      λ h. ⊎_elim (λ e. or_left (same_term n m) (is_learnt past m) (s.1 e))
          (λ k. or_right (same_term n m) (is_learnt past m) (d.1 (learnt_before (learn n how) past m (λ other e. k (let g : n ≡ m = cc in g)) h)))
          (same_term_or_not n m),
    )

module _ (theory : Theory) where
  -- how a message is learnt, and what a chain owes beside it
  abbrev pub LearnsBy : Log → Ground → How → Type 0
  LearnsBy log m how = MayLearn (signature_of theory) log m how × Keeps theory made_alone (learn m how) log × Keeps theory chain_is_new (learn m how) log

  learn_keeps : (log : Log) (m : Ground) (how : How) → (IsLearnt log m → ⊥) → LearnsBy log m how → Distinct (all_fresh_uses (learn m how ∷ log))
      → (clause : Clause) → Keeps theory clause (learn m how) log
  learn_keeps log m how n by names rule_instance = tt
  learn_keeps log m how n by names premise_sources = tt
  learn_keeps log m how n by names fresh_names_once = names
  learn_keeps log m how n by names sent_is_learnt = tt
  learn_keeps log m how n by names learnt_once = n
  learn_keeps log m how n by names way_of_learning = by.0
  learn_keeps log m how n by names made_alone = by.1
  learn_keeps log m how n by names chain_is_new = by.2

  pub grows_not : (log : Log) → IsLog theory log → Grows theory log log
  grows_not log l = record { new = []; is = refl; learns = tt; is_log = l }

  pub grows_again : (log middle later : Log) → Grows theory log middle → Grows theory middle later → Grows theory log later
  grows_again log middle later g h = record {
    new = h.new ++ g.new;
    is = h.is ∙ ap (λ (xs : Log). h.new ++ xs) g.is ∙ sym (append_assoc h.new g.new log);
    learns = every_append IsLearn h.new g.new h.learns g.learns;
    is_log = h.is_log;
  }

  -- what stays when entries are added stays when a log grows
  pub grows_keep : (P : Log → Type 0) → ((new : List Entry) (log : Log) → P log → P (new ++ log)) → (log later : Log) → Grows theory log later → P log → P later
  grows_keep P keeps log later g h = subst P (sym g.is) (keeps g.new log h)

  -- one message more is learnt
  pub grows_one : (log : Log) (m : Ground) (how : How) → IsLog theory log → UsesNone how → (IsLearnt log m → ⊥) → LearnsBy log m how
      → Grows theory log (learn m how ∷ log)
  grows_one log m how l u n by = record {
    new = learn m how ∷ [];
    is = refl;
    learns = (u, tt);
    is_log = (l, learn_keeps log m how n by (by_how how u));
  }
    where
      by_how : (how : How) → UsesNone how → Distinct (all_fresh_uses (learn m how ∷ log))
      by_how public_name u = log_fresh theory log l
      by_how own_name u = absurd u
      by_how constructed u = log_fresh theory log l
      by_how (by_chain p k chain) u = log_fresh theory log l

  -- the adversary's own fresh name
  pub log_own : (log : Log) (m : Ground) → IsLog theory log → (Member m (all_fresh_uses log) → ⊥) → (IsLearnt log m → ⊥)
      → MayLearn (signature_of theory) log m own_name
      → IsLog theory (learn m own_name ∷ log)
  log_own log m l new n may = (l, learn_keeps log m own_name n (may, tt, tt) (new, log_fresh theory log l))

  -- what growing leaves as it was
  sources_grown : (new : List Entry) (log : Log) → Every IsLearn new → all_sources (new ++ log) ≡ all_sources log
  sources_grown [] log q = refl
  sources_grown (step r facts sources ∷ new) log q = absurd q.0
  sources_grown (send m ∷ new) log q = absurd q.0
  sources_grown (learn m how ∷ new) log q = sources_grown new log q.1

  fresh_grown : (new : List Entry) (log : Log) → Every IsLearn new → all_fresh_uses (new ++ log) ≡ all_fresh_uses log
  fresh_grown [] log q = refl
  fresh_grown (step r facts sources ∷ new) log q = absurd q.0
  fresh_grown (send m ∷ new) log q = absurd q.0
  fresh_grown (learn m public_name ∷ new) log q = fresh_grown new log q.1
  fresh_grown (learn m own_name ∷ new) log q = absurd q.0
  fresh_grown (learn m constructed ∷ new) log q = fresh_grown new log q.1
  fresh_grown (learn m (by_chain p k chain) ∷ new) log q = fresh_grown new log q.1

  visible_grown : (new : List Entry) (log : Log) → Every IsLearn new → visible_trace (new ++ log) ≡ visible_trace log
  visible_grown [] log q = refl
  visible_grown (step r facts sources ∷ new) log q = absurd q.0
  visible_grown (send m ∷ new) log q = absurd q.0
  visible_grown (learn m how ∷ new) log q = visible_grown new log q.1

  module _ (log later : Log) (g : Grows theory log later) where
    pub grows_sources : all_sources later ≡ all_sources log
    grows_sources = ap all_sources g.is ∙ sources_grown g.new log g.learns

    pub grows_fresh : all_fresh_uses later ≡ all_fresh_uses log
    grows_fresh = ap all_fresh_uses g.is ∙ fresh_grown g.new log g.learns

    pub grows_visible : visible_trace later ≡ visible_trace log
    grows_visible = ap visible_trace g.is ∙ visible_grown g.new log g.learns
