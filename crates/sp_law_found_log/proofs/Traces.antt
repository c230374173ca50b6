-- The trace of a log is in normal form, and over the signature.
use Rattle.std.proofs.Common.{List, [], ◌∷◌, length, inl, refl}
use Rattle.sp_spec.specs.Lists.{Every}
use Rattle.sp_spec.proofs.Lists.{every_both}
use Rattle.sp_spec.specs.Signature.{Signature, IsOver, AreOver}
use Rattle.sp_spec.specs.Equal.{IsNormal, AreNormal}
use Rattle.sp_spec.specs.Rule.{Action}
use Rattle.sp_spec.specs.Theory.{Theory, signature_of}
use Rattle.sp_spec.specs.Log.{step, send, learn, Log, log_trace, IsLog}
use Rattle.sp_law_equal.specs.RightTheory.{HasNormalInstances}
use Rattle.sp_law_decide.specs.Normal.{IsNormalAction, IsNormalTrace}
use Rattle.sp_law_log.specs.Laws.{HoldsInLog}
use Rattle.sp_law_log.proofs.Lasting.{holds_in_log, message_first}
use Rattle.sp_law_log.proofs.Over.{over_lasts, normal_lasts}

module _ (theory : Theory) (good : HasNormalInstances theory) where
  abbrev signature : Signature
  signature = signature_of theory

  over_in : (log : Log) → IsLog theory log → HoldsInLog theory log (IsOver signature.symbols) (AreOver signature.symbols)
  over_in log is = holds_in_log theory (IsOver signature.symbols) (AreOver signature.symbols) (over_lasts theory good) log is

  normal_in : (log : Log) → IsLog theory log → HoldsInLog theory log (IsNormal signature.equations) (AreNormal signature.equations)
  normal_in log is = holds_in_log theory (IsNormal signature.equations) (AreNormal signature.equations) (normal_lasts theory) log is

  each_normal : (actions : List (Action ⊥)) → Every (λ (a : Action ⊥). AreNormal signature.equations a.args) actions
      → Every (λ (a : Action ⊥). AreOver signature.symbols a.args) actions → Every (IsNormalAction signature) actions
  each_normal actions normal over =
      every_both (λ (a : Action ⊥). AreNormal signature.equations a.args) (λ (a : Action ⊥). AreOver signature.symbols a.args)
      (IsNormalAction signature) (λ a n o. (n, o)) actions normal over

  pub log_normal : (log : Log) → IsLog theory log → IsNormalTrace signature (log_trace log)
  log_normal [] is = tt
  log_normal (step r facts sources ∷ past) is =
      let normal = (normal_in (step r facts sources ∷ past) is).facts (length past) r facts sources (inl (refl, refl)) in
      let over = (over_in (step r facts sources ∷ past) is).facts (length past) r facts sources (inl (refl, refl)) in
      (each_normal facts.actions normal.actions over.actions, log_normal past is.0)
  log_normal (send m ∷ past) is =
      let normal = (normal_in (send m ∷ past) is).messages (length past) (send m) (inl (refl, refl)) in
      let over = (over_in (send m ∷ past) is).messages (length past) (send m) (inl (refl, refl)) in
      ((((normal.0, tt), (over.0, tt)), tt), log_normal past is.0)
  log_normal (learn m how ∷ past) is =
      let normal = message_first (IsNormal signature.equations) m how ((normal_in (learn m how ∷ past) is).messages (length past) (learn m how) (inl (refl, refl))) in
      let over = message_first (IsOver signature.symbols) m how ((over_in (learn m how ∷ past) is).messages (length past) (learn m how) (inl (refl, refl))) in
      ((((normal, tt), (over, tt)), tt), log_normal past is.0)
