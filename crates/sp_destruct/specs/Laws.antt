-- That links are decided, and which one is found.
use Rattle.std.specs.Prelude.{◌≡◌, ◌<◌, ◌↔◌, ℕ, true, List, Some, None, IsSome}
use Rattle.sp_spec.specs.Lists.{Member, AtPlace}
use Rattle.sp_spec.specs.Term.{Ground}
use Rattle.sp_spec.specs.Signature.{Signature}
use Rattle.sp_spec.specs.Destruction.{Destruction, destructions}
use Rattle.sp_spec.specs.Log.{Log, IsLearnt, IsDestructed}
use Rattle.sp_destruct.specs.Links.{link_by, link, is_link, Leads, LeadsBy, IsNotBefore}

-- the messages are those that were learnt
abbrev pub HasLearnt : Log → List Ground → Type 0
HasLearnt past learnt = (m : Ground) → Member m learnt ↔ IsLearnt past m

-- By a destruction there is a link exactly if it leads from the first message to the second. The places that are found are the least at which it does
-- so, and the destruction is the least by which there is a link. With the messages learnt in a log, there is a link exactly if the second message is
-- destructed from the first.
pub record LinksAreDecided : Type 0 where
  pub by_one : (d : Destruction) (learnt : List Ground) (t u : Ground) → IsSome (link_by d learnt t u) ↔ Leads d learnt t u
  pub at_places : (d : Destruction) (learnt : List Ground) (t u : Ground) (places : List ℕ) → link_by d learnt t u ≡ Some places → LeadsBy d learnt t u places
  pub least_places : (d : Destruction) (learnt : List Ground) (t u : Ground) (places others : List ℕ) → link_by d learnt t u ≡ Some places
      → LeadsBy d learnt t u others → IsNotBefore others places
  pub by_number : (ds : List Destruction) (learnt : List Ground) (t u : Ground) (number : ℕ) (places : List ℕ) → link ds learnt t u ≡ Some (number, places)
      → (d : Destruction) × AtPlace ds number d × (link_by d learnt t u ≡ Some places)
  pub least_number : (ds : List Destruction) (learnt : List Ground) (t u : Ground) (number : ℕ) (places : List ℕ) → link ds learnt t u ≡ Some (number, places)
      → (other : ℕ) (d : Destruction) → other < number → AtPlace ds other d → link_by d learnt t u ≡ None
  pub in_log : (signature : Signature) (past : Log) (learnt : List Ground) → HasLearnt past learnt
      → (t u : Ground) → (is_link (destructions signature) learnt t u ≡ true) ↔ IsDestructed signature past t u
