-- Links of chains: from a message follows the next, by a destruction whose side messages stand among the messages learnt earlier. A side message may
-- have variables that neither pattern nor result has, so the messages for it are searched for. Source: CSF 2012, "Message deduction" (destruction
-- rules); Meier's thesis, chapter 3 (chains).
use Rattle.std.specs.Prelude.{◌≡◌, ◌⊎◌, ◌<◌, ℕ, zero, suc, Bool, List, [], ◌∷◌, Option, Some, None, option_map, option_and_then, is_some}
use Rattle.std.specs.Option.{option_or}
use Rattle.sp_spec.specs.Lists.{Member, AtPlace}
use Rattle.sp_spec.specs.Term.{Variable, Terms, none, more, Ground, Grounds, Values, valued, valued_all}
use Rattle.sp_spec.specs.Signature.{RespectsSorts}
use Rattle.sp_spec.specs.Destruction.{Destruction}
use Rattle.sp_law_equal.specs.Matching.{Bound, matched}

-- the first of these with which a search goes on: its place, and what is found with it; the first of them is at this place
abbrev pub first_from : {A B : Type 0} → (A → Option B) → ℕ → List A → Option (ℕ × B)
first_from go_on place [] = None
first_from go_on place (x ∷ xs) = option_or (option_map (λ found. (place, found)) (go_on x)) (first_from go_on (suc place) xs)

-- the first list of places, one for each side message, at which the messages match the side messages, beside these bindings
abbrev pub sides_from : Terms Variable → List Ground → List Bound → Option (List ℕ)
sides_from none learnt bs = Some []
sides_from (more side sides) learnt bs =
    option_map (λ r. r.0 ∷ r.1) (first_from (λ m. option_and_then (λ cs. sides_from sides learnt cs) (matched side m bs)) zero learnt)

-- the pattern matches the first message, the result the second, and the side messages those at these places
abbrev pub link_by : Destruction → List Ground → Ground → Ground → Option (List ℕ)
link_by d learnt t u = option_and_then (λ cs. sides_from d.sides learnt cs) (option_and_then (λ bs. matched d.result u bs) (matched d.pattern t []))

-- the first of these destructions by which there is a link, counted from 0, and its places
abbrev pub link : List Destruction → List Ground → Ground → Ground → Option (ℕ × List ℕ)
link ds learnt t u = first_from (λ d. link_by d learnt t u) zero ds

-- whether some destruction leads from the first message to the second
abbrev pub is_link : List Destruction → List Ground → Ground → Ground → Bool
is_link ds learnt t u = is_some (link ds learnt t u)

-- each term is one of the messages
abbrev pub AllAmong : List Ground → Grounds → Type 0
AllAmong learnt none = Unit {0}
AllAmong learnt (more t ts) = Member t learnt × AllAmong learnt ts

-- the terms are the messages at these places, one at each
abbrev pub AreAt : List Ground → List ℕ → Grounds → Type 0
AreAt learnt [] none = Unit {0}
AreAt learnt (k ∷ ks) (more t ts) = AtPlace learnt k t × AreAt learnt ks ts
AreAt learnt ks ts = ⊥

-- of some values the pattern is the first message, the result the second, and the side messages are among those learnt
abbrev pub Leads : Destruction → List Ground → Ground → Ground → Type 0
Leads d learnt t u = (v : Values) × RespectsSorts v × (t ≡ valued v d.pattern) × AllAmong learnt (valued_all v d.sides) × (u ≡ valued v d.result)

-- the same where the side messages are those at these places
abbrev pub LeadsBy : Destruction → List Ground → Ground → Ground → List ℕ → Type 0
LeadsBy d learnt t u places =
    (v : Values) × RespectsSorts v × (t ≡ valued v d.pattern) × AreAt learnt places (valued_all v d.sides) × (u ≡ valued v d.result)

-- in the order of lists of numbers, which the first number decides in which two of them differ, the first list isn't before the second
abbrev pub IsNotBefore : List ℕ → List ℕ → Type 0
IsNotBefore ks [] = Unit {0}
IsNotBefore [] (l ∷ ls) = ⊥
IsNotBefore (k ∷ ks) (l ∷ ls) = (l < k) ⊎ ((l ≡ k) × IsNotBefore ks ls)
