-- The steps of an execution followed from the oldest on.
use Rattle.std.proofs.Common.{◌≡◌, List, [], ◌∷◌, ◌++◌, ℕ, length, Option, Some, None, option_map, refl, sym, ap, ap₂, ◌∙◌, append_assoc}
use Rattle.std.specs.Prelude.{option_and_then}
use Rattle.std.proofs.lemmas.List.{append-nil}
use Rattle.sp_spec.specs.Execution.{Step}
use Rattle.sp_spec.specs.Lists.{newest_first}
use Rattle.sp_spec.specs.Log.{Log, Source}
use Rattle.sp_spec.specs.Rule.{Facts, Rule}
use Rattle.sp_spec.specs.Signature.{Signature}
use Rattle.sp_transfer.specs.Construction.{Followed, Given, Taking, added, at_start, followed, followed_by, take_all, with_facts}
use Rattle.sp_law_adversary.specs.Learning.{logged}
use Rattle.sp_transfer.specs.Steps.{followed_on}

and_some : (o : Option Followed) → o ≡ option_and_then Some o
and_some None = refl
and_some (Some f) = refl

and_twice : (g h : Followed → Option Followed) (o : Option Followed)
    → option_and_then g (option_and_then h o) ≡ option_and_then (λ (f : Followed). option_and_then g (h f)) o
and_twice g h None = refl
and_twice g h (Some f) = refl

-- what was taken, added and logged is what the step does
pub step_followed : (signature : Signature) (s : Step) (facts : Facts ⊥) (before : Followed) (sources : List Source) (left state : List Given) (log : Log) (n : ℕ)
    → Some (record { sources = sources; left = left }) ≡ take_all facts.premises before.facts → length before.log ≡ n
    → state ≡ left ++ added s n facts.conclusions → log ≡ logged signature s facts sources before.log
    → Some (record { facts = state; log = log }) ≡ with_facts signature s facts before
step_followed signature s facts before sources left state log n taken long adds logs =
    let after : List Given → Log → Option Followed = λ gs l. Some (record { facts = gs; log = l }) in
    ap₂ after adds logs
    ∙ ap (λ k. after (left ++ added s k facts.conclusions) (logged signature s facts sources before.log)) (sym long)
    ∙ ap
    (option_map (λ (t : Taking). record { facts = t.left ++ added s (length before.log) facts.conclusions; log = logged signature s facts t.sources before.log }))
    taken

module _ (signature : Signature) (rules : List Rule) where
  followed_behind : (xs past : List Step) → followed signature rules (newest_first xs ++ past) ≡ option_and_then (followed_on signature rules xs) (followed signature rules past)
  followed_behind [] past = and_some (followed signature rules past)
  followed_behind (x ∷ xs) past =
      ap (followed signature rules) (append_assoc (newest_first xs) (x ∷ []) past)
      ∙ followed_behind xs (x ∷ past)
      ∙ and_twice (followed_on signature rules xs) (followed_by signature rules x) (followed signature rules past)

  pub from_start : (xs : List Step) → followed_on signature rules xs at_start ≡ followed signature rules (newest_first xs)
  from_start xs = sym (ap (followed signature rules) (sym (append-nil (newest_first xs))) ∙ followed_behind xs [])
