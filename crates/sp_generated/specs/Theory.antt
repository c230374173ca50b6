-- The theory that is made of a number. Source of the language: Tamarin manual, "Theory files"; the protocol is this project's own: each part has a rule that begins, one that
-- answers whatever comes with a hash, and three lemmas, of which two are verified and one is falsified.
use Rattle.std.specs.Prelude.{ℕ, zero, suc, List, [], ◌∷◌, ◌++◌, if◌then◌else◌, ◌==◌, codes, decimal}

-- the number in the place of a `C`
abbrev pub instead : List ℕ → ℕ → List ℕ
instead number b = if b == 67 then number else b ∷ []

abbrev pub with_number : List ℕ → List ℕ → List ℕ
with_number number [] = []
with_number number (b ∷ bytes) = instead number b ++ with_number number bytes

-- two rules and three lemmas, with `C` in the place of a number
unfoldable pub part : List ℕ
part =
    codes "rule Init_C: [ Fr(~x) ] --[ S_C(~x) ]-> [ T_C(~x) ]\n" ++ (codes "rule Resp_C: [ T_C(x), In(y) ] --[ D_C(x) ]-> [ Out(h(<x, y>)) ]\n"
    ++ (codes "lemma once_C: \"All x #i #j. D_C(x)@i & D_C(x)@j ==> #i = #j\"\n" ++ (codes "lemma can_C: exists-trace \"Ex x #i. D_C(x)@i\"\n"
    ++ codes "lemma never_C: \"All x #i. D_C(x)@i ==> F\"\n")))

-- those of the numbers from 1 to this one
abbrev pub parts : ℕ → List ℕ
parts zero = []
parts (suc n) = parts n ++ with_number (decimal (suc n)) part

unfoldable pub generated : ℕ → List ℕ
generated n = codes "theory Gen begin\nbuiltins: hashing\n" ++ (parts n ++ codes "end\n")
