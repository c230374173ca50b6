-- What an entry of a log shows is normal and over the signature.
use Rattle.std.proofs.Common.{ℕ, subst, inl, inr}
use Rattle.sp_spec.specs.Lists.{Member, AtPosition}
use Rattle.sp_spec.specs.Term.{none, Ground, Grounds}
use Rattle.sp_spec.specs.Signature.{IsOver, AreOver}
use Rattle.sp_spec.specs.Equal.{IsNormal, AreNormal}
use Rattle.sp_spec.specs.Rule.{Action}
use Rattle.sp_spec.specs.Theory.{Theory, signature_of}
use Rattle.sp_spec.specs.Log.{Log, Entry, step, send, learn, entry_actions, IsLog}
use Rattle.sp_spec.proofs.Lists.{every_member}
use Rattle.sp_law_equal.specs.RightTheory.{HasNormalInstances}
use Rattle.sp_law_log.specs.Laws.{HoldsInLog}
use Rattle.sp_law_log.proofs.Lasting.{Lasts, message_first, holds_in_log}
use Rattle.sp_law_log.proofs.Over.{over_lasts, normal_lasts}

-- what lasts throughout a log holds of what an entry shows
module _ (theory : Theory) (P : Ground → Type 0) (Qs : Grounds → Type 0) (l : Lasts theory P Qs) (log : Log) (is : IsLog theory log) where
  abbrev all : HoldsInLog theory log P Qs
  all = holds_in_log theory P Qs l log is

  entry_lasts : (p : ℕ) (e : Entry) → AtPosition log p e → (b : Action ⊥) → Member b (entry_actions e) → Qs b.args
  entry_lasts p (step r facts sources) a b m = every_member (λ (x : Action ⊥). Qs x.args) facts.actions b m (all.facts p r facts sources a).actions
  entry_lasts p (send t) a b (inl m) = subst (λ (c : Action ⊥). Qs c.args) m (l.together t none (all.messages p (send t) a).0 l.nothing)
  entry_lasts p (send t) a b (inr m) = absurd m
  entry_lasts p (learn t how) a b (inl m) =
      subst (λ (c : Action ⊥). Qs c.args) m (l.together t none (message_first P t how (all.messages p (learn t how) a)) l.nothing)
  entry_lasts p (learn t how) a b (inr m) = absurd m

module _ (theory : Theory) where
  pub entry_normal : (log : Log) → IsLog theory log → (p : ℕ) (e : Entry) → AtPosition log p e → (b : Action ⊥) → Member b (entry_actions e)
      → AreNormal (signature_of theory).equations b.args
  entry_normal = entry_lasts theory (IsNormal (signature_of theory).equations) (AreNormal (signature_of theory).equations) (normal_lasts theory)

  pub entry_over : HasNormalInstances theory → (log : Log) → IsLog theory log → (p : ℕ) (e : Entry) → AtPosition log p e → (b : Action ⊥)
      → Member b (entry_actions e) → AreOver (signature_of theory).symbols b.args
  entry_over good = entry_lasts theory (IsOver (signature_of theory).symbols) (AreOver (signature_of theory).symbols) (over_lasts theory good)
