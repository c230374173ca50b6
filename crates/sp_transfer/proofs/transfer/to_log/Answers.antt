use Rattle.std.proofs.Common.{◌≡◌, ◌∙◌, List, map, Option, Some, None, option_map, refl, sym, ap₂}
use Rattle.sp_spec.specs.Lists.{newest_first}
use Rattle.sp_spec.specs.Rule.{Rule}
use Rattle.sp_spec.specs.Signature as signature
use Rattle.sp_fact.specs.GroundView.{step_of}
use Rattle.sp_learn.specs.declared.log.Log.{Log}
use Rattle.sp_learn.specs.View.{entries_of, log_of}
use Rattle.sp_transfer.specs.Construction.{followed}
use Rattle.sp_transfer.proofs.Logged.{is_logged}
use Rattle.sp_transfer.proofs.transfer.to_log.Goals as goal

turned : (o : Option Log) → option_map newest_first (option_map entries_of o) ≡ option_map log_of o
turned None = refl
turned (Some log) = refl

pub returns-clause-means : goal.returns-clause-means
returns-clause-means c = λ theory right rules_same signature_same trace execution.
    let steps = newest_first (map step_of c.args.steps.now.items) in
    let same =
    turned c.in_ok-log.log ∙ c.in_ok-log.ensures
    ∙ ap₂ (λ (s : signature.Signature) (rs : List Rule). option_map (λ f. f.log) (followed s rs steps)) (sym signature_same) (sym rules_same) in
    is_logged theory right steps trace execution (option_map entries_of c.in_ok-log.log) same
