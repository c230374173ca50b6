-- Which destruction a link is by, and links with the messages learnt in a log.
use Rattle.std.proofs.Common.{◌≡◌, ◌↔◌, ℕ, zero, true, List, Option, Some, None, IsSome, refl, ap}
use Rattle.std.specs.Option.{is_some}
use Rattle.sp_spec.specs.Lists.{Member}
use Rattle.sp_spec.specs.Term.{Ground, Grounds, none, more, valued_all}
use Rattle.sp_spec.specs.Signature.{Signature}
use Rattle.sp_spec.specs.Destruction.{Destruction, destructions}
use Rattle.sp_spec.specs.Log.{Log, AreLearnt, IsDestructed}
use Rattle.sp_law_conv.proofs.Places.{member_place}
use Rattle.sp_destruct.specs.Links.{link_by, link, is_link, AllAmong}
use Rattle.sp_destruct.specs.Laws.{HasLearnt}
use Rattle.sp_destruct.proofs.Searching.{first_found, none_first}
use Rattle.sp_destruct.proofs.Leading.{by_one}
use Rattle.sp_spec.proofs.Lists.{place_member}

-- where there is a link by one of them, a link is found
link_there : (learnt : List Ground) (t u : Ground) (ds : List Destruction) (d : Destruction) → Member d ds → IsSome (link_by d learnt t u) → is_link ds learnt t u ≡ true
link_there learnt t u ds d m s = by_link (link ds learnt t u) refl
  where
    none_there : (o : Option (List ℕ)) → o ≡ None → IsSome o → ⊥
    none_there None e f = cc
    none_there (Some ps) e f = cc

    by_link : (o : Option (ℕ × List ℕ)) → link ds learnt t u ≡ o → IsSome o
    by_link (Some r) e = refl
    by_link None e =
        let k = member_place ds d m in
        let no = none_first (λ (c : Destruction). link_by c learnt t u) zero ds e k.0 d k.1 in
        absurd (none_there (link_by d learnt t u) no s)

among_learnt : (past : Log) (learnt : List Ground) → HasLearnt past learnt → (ts : Grounds) → AllAmong learnt ts → AreLearnt past ts
among_learnt past learnt h none a = tt
among_learnt past learnt h (more t ts) a = ((h t).0 a.0, among_learnt past learnt h ts a.1)

learnt_among : (past : Log) (learnt : List Ground) → HasLearnt past learnt → (ts : Grounds) → AreLearnt past ts → AllAmong learnt ts
learnt_among past learnt h none a = tt
learnt_among past learnt h (more t ts) a = ((h t).1 a.0, learnt_among past learnt h ts a.1)

pub in_log : (signature : Signature) (past : Log) (learnt : List Ground) → HasLearnt past learnt
    → (t u : Ground) → (is_link (destructions signature) learnt t u ≡ true) ↔ IsDestructed signature past t u
in_log signature past learnt h t u = (
  λ s. by_link (link (destructions signature) learnt t u) refl s,
  λ l. link_there learnt t u (destructions signature) l.0 l.1
      ((by_one l.0 learnt t u).1 (l.2, l.3, l.4, learnt_among past learnt h (valued_all l.2 l.0.sides) l.5, l.6)),
)
  where
    by_link : (o : Option (ℕ × List ℕ)) → link (destructions signature) learnt t u ≡ o → IsSome o → IsDestructed signature past t u
    by_link None e s = absurd cc
    by_link (Some r) e s =
        let f = first_found (λ (d : Destruction). link_by d learnt t u) zero (destructions signature) r e in
        let l = (by_one f.item learnt t u).0 (ap is_some f.found) in
        (f.item, place_member (destructions signature) f.index f.item f.at, l.0, l.1, l.2, among_learnt past learnt h (valued_all l.0 f.item.sides) l.3, l.4)
