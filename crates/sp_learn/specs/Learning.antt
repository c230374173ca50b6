-- How it is tested what the adversary may learn behind some entries. Lists of entries and of messages have the oldest first here. Source: CSF 2012,
-- "Normal message deduction" (construction, destruction and chains); Meier's thesis, chapter 3.
use Rattle.std.specs.Prelude.{ℕ, Bool, true, false, not, ◌&&◌, ◌||◌, ◌==◌, List, [], ◌∷◌, ◌++◌, slice_get, codes, Option, Some, None}
use Rattle.std.specs.Str.{bytes_eq}
use Rattle.sp_spec.specs.Term.{Pub, Fresh, app, none, more, Ground, Grounds, count}
use Rattle.sp_spec.specs.Same.{same_term}
use Rattle.sp_spec.specs.Signature.{Signature}
use Rattle.sp_spec.specs.Rule.{out_of}
use Rattle.sp_spec.specs.Log.{How, public_name, own_name, constructed, by_chain, Entry, step, send, learn}
use Rattle.sp_law_equal.specs.Matching.{has_sort}
use Rattle.sp_law_equal.specs.Normal.{normal}
use Rattle.sp_norm.specs.Over.{any_public}
use Rattle.sp_log.specs.Checking.{is_one_of, is_fact}

-- the message that an entry learns, and those that entries learn
abbrev pub learnt_by : Entry → List Ground
learnt_by (step r facts sources) = []
learnt_by (send m) = []
learnt_by (learn m how) = m ∷ []

abbrev pub learnt_in : List Entry → List Ground
learnt_in [] = []
learnt_in (e ∷ es) = learnt_by e ++ learnt_in es

-- a message is one of these
abbrev pub is_among : List Ground → Ground → Bool
is_among ms m = is_one_of same_term ms m

-- each of the terms is
abbrev pub are_among : List Ground → Grounds → Bool
are_among ms none = true
are_among ms (more t ts) = is_among ms t && are_among ms ts

-- made by a public symbol out of messages that are learnt, and in normal form
abbrev pub is_made : Signature → List Ground → Ground → Bool
is_made signature learnt (app f ts) =
    any_public signature.symbols f (count ts) && (are_among learnt ts && same_term (normal signature.equations (app f ts)) (app f ts))
is_made signature learnt m = false

-- the entry, if there is one, is a step that puts out the message as its conclusion of that place
abbrev pub puts_out : Option Entry → ℕ → Ground → Bool
puts_out (Some (step r facts sources)) k t = is_fact (slice_get facts.conclusions k) (out_of t)
puts_out (Some (send m)) k t = false
puts_out (Some (learn m how)) k t = false
puts_out None k t = false

-- the messages lead from the first to this one, by a test of links
abbrev pub leads : (Ground → Ground → Bool) → Ground → List Ground → Ground → Bool
leads link t [] m = same_term t m
leads link t (u ∷ chain) m = link t u && leads link u chain m

-- they begin with what that step puts out, and lead to this one
abbrev pub is_chain : (Ground → Ground → Bool) → List Entry → ℕ → ℕ → List Ground → Ground → Bool
is_chain link earlier p k [] m = false
is_chain link earlier p k (t ∷ chain) m = puts_out (slice_get earlier p) k t && leads link t chain m

-- the message may be learnt in that way behind these entries
abbrev pub may_learn : Signature → (Ground → Ground → Bool) → List Entry → Ground → How → Bool
may_learn signature link earlier m public_name = has_sort Pub m
may_learn signature link earlier m own_name = has_sort Fresh m
may_learn signature link earlier m constructed = is_made signature (learnt_in earlier) m
may_learn signature link earlier m (by_chain p k chain) = is_chain link earlier p k chain m

-- a pair, a public symbol without arguments, or a public name
abbrev pub is_made_alone : Signature → Ground → Bool
is_made_alone signature (app f ts) = (bytes_eq f (codes "pair") && (count ts == 2)) || ((count ts == 0) && any_public signature.symbols f 0)
is_made_alone signature m = has_sort Pub m

-- none of the messages is one of these
abbrev pub none_among : List Ground → List Ground → Bool
none_among ms [] = true
none_among ms (t ∷ ts) = not (is_among ms t) && none_among ms ts
