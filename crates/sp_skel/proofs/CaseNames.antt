-- The names of cases are names, and words.
use Rattle.std.proofs.Common.{◌≡◌, ℕ, zero, suc, ◌%◌, ◌/◌, ◌<◌, Bool, true, false, true≢false, cond, if◌then◌else◌, List, [], ◌∷◌, ◌++◌, codes, refl, sym, ap, ◌∙◌, arith}
use Rattle.std.specs.Prelude.{decimal, ◌==◌, ◌||◌}
use Rattle.std.specs.Fmt.{digit_glyph, digits_onto, digits}
use Rattle.std.specs.Str.{bytes_eq}
use Rattle.std.proofs.lemmas.Bool.{false_from_ne_true, or_right}
use Rattle.std.proofs.lemmas.Bool.Decides.{nat_tests}
use Rattle.std.proofs.lemmas.Slice.Eq.{bytes_eq-Decides}
use Rattle.std.proofs.Math.Nat.{mod-lt}
use Rattle.sp_spec_text.specs.Bytes as class
use Rattle.sp_spec_text.specs.Lex.{is_first, is_in, is_digit, skip}
use Rattle.sp_spec_text.specs.Names.{is_reserved, IsName, IsWord, IsNameWord}
use Rattle.sp_spec_text.specs.Numerals.{are_digits}
use Rattle.sp_spec_text.proofs.Rests.{first_kept}
use Rattle.sp_spec_text.proofs.Numerals.{digits_skipped}

-- ---- digits

glyph_is_digit : (d : ℕ) → d < 10 → is_digit (digit_glyph false d) ≡ true
glyph_is_digit d h = grind (arith, nat_tests)

onto_digits : (k n : ℕ) (acc : List ℕ) → are_digits acc ≡ true → are_digits (digits_onto k 10 false n acc) ≡ true
onto_digits zero n acc h = h
onto_digits (suc k) n acc h =
    let g = digit_glyph false (n % 10) in
    let more : are_digits (g ∷ acc) ≡ true = rw (glyph_is_digit (n % 10) (mod-lt n (omega arith))) h in
    by_last (n / 10 == 0) (g ∷ acc) (digits_onto k 10 false (n / 10) (g ∷ acc)) more (onto_digits k (n / 10) (g ∷ acc) more)
  where
    by_last : (b : Bool) (xs ys : List ℕ) → are_digits xs ≡ true → are_digits ys ≡ true → are_digits (if b then xs else ys) ≡ true
    by_last true xs ys h k = h
    by_last false xs ys h k = k

pub all_digits : (n : ℕ) → are_digits (decimal n) ≡ true
unfolding digits
all_digits n = onto_digits 64 n [] refl

-- ---- words

-- a word goes on over these bytes, which begin with no digit
skip_onto : (w rest : List ℕ) → skip class.Word w ≡ [] → is_first is_digit rest ≡ false → skip class.Word (w ++ rest) ≡ skip class.Word rest
unfolding skip
skip_onto [] rest h e = refl
skip_onto (c ∷ w) rest h e =
    let is : is_in class.Word c (w ++ rest) ≡ is_in class.Word c w = rw (first_kept w rest e) refl in
    ap (λ (t : Bool). cond t (skip class.Word (w ++ rest)) (c ∷ w ++ rest)) is ∙ by_test (is_in class.Word c w) h (λ k. skip_onto w rest k e)
  where
    by_test : (t : Bool) → cond t (skip class.Word w) (c ∷ w) ≡ [] → (skip class.Word w ≡ [] → skip class.Word (w ++ rest) ≡ skip class.Word rest) → cond t (skip class.Word (w ++ rest)) (c ∷ w ++ rest) ≡ skip class.Word rest
    by_test true k f = f k
    by_test false k f = absurd (let none : ⊥ = cc in none)

at_digits : (ds : List ℕ) → skip class.Word (codes "t_" ++ ds) ≡ skip class.Word ds
unfolding skip
at_digits ds = refl

case_digits : (ds : List ℕ) → skip class.Word (codes "_case_" ++ ds) ≡ skip class.Word ds
unfolding skip
case_digits ds = refl

at_word : (ds : List ℕ) → are_digits ds ≡ true → IsWord (codes "at_" ++ ds)
at_word ds h = (refl, at_digits ds ∙ digits_skipped ds h)

event_digits : (ds : List ℕ) → skip class.Word (codes "vent_" ++ ds) ≡ skip class.Word ds
unfolding skip
event_digits ds = refl

event_word : (ds : List ℕ) → are_digits ds ≡ true → IsWord (codes "event_" ++ ds)
event_word ds h = (refl, event_digits ds ∙ digits_skipped ds h)

part_digits : (ds : List ℕ) → skip class.Word (codes "ase_" ++ ds) ≡ skip class.Word ds
unfolding skip
part_digits ds = refl

part_word : (ds : List ℕ) → are_digits ds ≡ true → IsWord (codes "case_" ++ ds)
part_word ds h = (refl, part_digits ds ∙ digits_skipped ds h)

chain_digits : (ds : List ℕ) → skip class.Word (codes "hain_" ++ ds) ≡ skip class.Word ds
unfolding skip
chain_digits ds = refl

chain_word : (ds : List ℕ) → are_digits ds ≡ true → IsWord (codes "chain_" ++ ds)
chain_word ds h = (refl, chain_digits ds ∙ digits_skipped ds h)

case_word : (n ds : List ℕ) → IsWord n → are_digits ds ≡ true → IsWord (n ++ (codes "_case_" ++ ds))
case_word [] ds h d = absurd h
case_word (c ∷ w) ds h d = (h.0, skip_onto w (codes "_case_" ++ ds) h.1 refl ∙ case_digits ds ∙ digits_skipped ds d)

-- ---- names

-- whether an underscore stands there, which is in no reserved word
abbrev underscored : List ℕ → Bool
underscored [] = false
underscored (b ∷ bytes) = b == 95 || underscored bytes

has_underscore : (w rest : List ℕ) → underscored (w ++ 95 ∷ rest) ≡ true
has_underscore [] rest = refl
has_underscore (b ∷ w) rest = or_right (b == 95) (underscored (w ++ 95 ∷ rest)) (has_underscore w rest)

is_another : (w rest x : List ℕ) → underscored x ≡ false → bytes_eq (w ++ 95 ∷ rest) x ≡ false
is_another w rest x h =
    false_from_ne_true (bytes_eq (w ++ 95 ∷ rest) x) (λ e. true≢false (sym (has_underscore w rest) ∙ ap underscored ((bytes_eq-Decides (w ++ 95 ∷ rest) x).0 e) ∙ h))

none_of : (a b c d e f g h : Bool) → a ≡ false → b ≡ false → c ≡ false → d ≡ false → e ≡ false → f ≡ false → g ≡ false → h ≡ false → (a || b || c || d || e || f || g || h) ≡ false
none_of a b c d e f g h i j k l m n o p = rw (i, j, k, l, m, n, o, p) refl

-- a word with an underscore is a name
named_behind : (w rest : List ℕ) → IsName (w ++ 95 ∷ rest)
unfolding is_reserved
named_behind w rest =
    none_of (bytes_eq (w ++ 95 ∷ rest) (codes "end")) (bytes_eq (w ++ 95 ∷ rest) (codes "let")) (bytes_eq (w ++ 95 ∷ rest) (codes "in")) (bytes_eq (w ++ 95 ∷ rest) (codes "not"))
    (bytes_eq (w ++ 95 ∷ rest) (codes "All")) (bytes_eq (w ++ 95 ∷ rest) (codes "Ex")) (bytes_eq (w ++ 95 ∷ rest) (codes "last")) (bytes_eq (w ++ 95 ∷ rest) (codes "solve"))
    (is_another w rest (codes "end") refl) (is_another w rest (codes "let") refl) (is_another w rest (codes "in") refl) (is_another w rest (codes "not") refl)
    (is_another w rest (codes "All") refl) (is_another w rest (codes "Ex") refl) (is_another w rest (codes "last") refl) (is_another w rest (codes "solve") refl)

-- ---- names of cases

pub at_named : (n : ℕ) → IsName (codes "at_" ++ decimal n) × IsWord (codes "at_" ++ decimal n)
at_named n = (named_behind (codes "at") (decimal n), at_word (decimal n) (all_digits n))

pub event_named : (n : ℕ) → IsName (codes "event_" ++ decimal n) × IsWord (codes "event_" ++ decimal n)
event_named n = (named_behind (codes "event") (decimal n), event_word (decimal n) (all_digits n))

pub part_named : (n : ℕ) → IsName (codes "case_" ++ decimal n) × IsWord (codes "case_" ++ decimal n)
part_named n = (named_behind (codes "case") (decimal n), part_word (decimal n) (all_digits n))

pub chain_named : (n : ℕ) → IsName (codes "chain_" ++ decimal n) × IsWord (codes "chain_" ++ decimal n)
chain_named n = (named_behind (codes "chain") (decimal n), chain_word (decimal n) (all_digits n))

pub case_named : (name : List ℕ) (k : ℕ) → IsWord name → IsName (name ++ (codes "_case_" ++ decimal k)) × IsWord (name ++ (codes "_case_" ++ decimal k))
case_named name k h = (named_behind name (codes "case_" ++ decimal k), case_word name (decimal k) h (all_digits k))

-- those of what the adversary does

pub send_named : IsNameWord (codes "Send")
unfolding is_reserved skip
send_named = (refl, (refl, refl))

pub learn_named : IsNameWord (codes "Learn")
unfolding is_reserved skip
learn_named = (refl, (refl, refl))

pub made_named : IsNameWord (codes "made")
unfolding is_reserved skip
made_named = (refl, (refl, refl))

pub own_named : IsNameWord (codes "own")
unfolding is_reserved skip
own_named = (refl, (refl, refl))

pub done_named : IsNameWord (codes "done")
unfolding is_reserved skip
done_named = (refl, (refl, refl))

pub empty_named : IsNameWord (codes "empty_trace")
unfolding is_reserved skip
empty_named = (refl, (refl, refl))

pub non_empty_named : IsNameWord (codes "non_empty_trace")
unfolding is_reserved skip
non_empty_named = (refl, (refl, refl))
