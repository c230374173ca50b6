-- What the table says of what stands behind the parts of a formula, the grammar says.
use Rattle.std.proofs.Common.{◌≡◌, ℕ, zero, suc, ◌+◌, ◌<◌, ◌⊎◌, inl, inr, List, [], ◌∷◌, codes, sym, subst, bytes_eq}
use Rattle.sp_spec_text.specs.Signs as s
use Rattle.sp_spec_text.specs.Token.{Lexeme, word, sign}
use Rattle.sp_spec_text.specs.Names.{mark_of}
use Rattle.sp_spec_text.specs.Lists.{IsNotFirst}
use Rattle.sp_spec_text.specs.Formulas as g
use Rattle.sp_spec_text.specs.Formulas.{SpellsUnit, SpellsNegation, NoSign}
use Rattle.sp_spec_text.proofs.Closing.{close_no_sign}
use Rattle.sp_await.specs.Parts as a
use Rattle.sp_await.specs.Table.{takes, becomes, deep, negation_move, side_closed, side_move, order_move, bare_move, named_move, shown_move, truth_move, both_closed, both_move, closing_move, more_move, twice_move}
use Rattle.sp_law_await.proofs.Meaning.{one_sign, one_word, led, MoreOf, no_more, more_and, more_or, more_then, TwiceOf, once, twice, ClosedOf, Equated, equated, SideOf, OrderOf, less, as_term, BareOf, of_sort, of_arguments, of_braces, of_none, ShownOf, at_time, as_side, NamedOf, as_fact, as_name, StartOf, formula_first, term_first}
use Rattle.sp_law_await.proofs.Tokens.{same_word, some_is}
use Rattle.sp_law_await.proofs.Means.{MeansAll, nothing, and_then, Sound, by_if, by_nests, nothing_is, one_is}
use Rattle.sp_law_await.proofs.SoundParts.{some_annotations}
use Rattle.sp_law_await.proofs.SoundFormulas.{lone_unit, lone_negation}

-- ---- negations

not_first : {n k : ℕ} {w : List ℕ} {tokens rest : List Lexeme} → w ≡ codes "not" → MeansAll (a.Unit (deep n k) 0 ∷ a.Closing n k ∷ []) tokens rest → StartOf SpellsNegation n k (word w ∷ tokens) rest
not_first {n} {k} {tokens = tokens} {rest = rest} e (and_then h (and_then c nothing)) = subst (λ (u : List ℕ). StartOf SpellsNegation n k (word u ∷ tokens) rest) (sym e) (formula_first (g.negated (lone_unit h).1) c)

unit_first : {n k : ℕ} {tokens rest : List Lexeme} → StartOf SpellsUnit n k tokens rest → StartOf SpellsNegation n k tokens rest
unit_first (formula_first h c) = formula_first (g.unit_alone h) c
unit_first (term_first h c) = term_first h c

pub sound_negation : (n k : ℕ) (x : Lexeme) → Sound (a.Negation n k) x (negation_move n k x)
sound_negation n k (word w) = by_if (Sound (a.Negation n k) (word w)) (bytes_eq w (codes "not")) (takes (a.Unit (deep n k) 0 ∷ a.Closing n k ∷ [])) (becomes (a.Unit n k ∷ [])) (λ e ts r h. not_first (same_word w (codes "not") e) h) (λ e ts r h. unit_first (one_is h))
sound_negation n k _ = λ ts r h. unit_first (one_is h)

-- ---- behind a term

equated_side : {n : ℕ} (k : ℕ) {tokens rest : List Lexeme} → Equated n k tokens rest → SideOf n k tokens rest
equated_side zero h = h
equated_side (suc k) h = inl h

other_side : {n k : ℕ} {tokens rest : List Lexeme} → MeansAll (a.Term (deep n k) ∷ a.Closing n k ∷ []) tokens rest → SideOf n k (sign s.Equals ∷ tokens) rest
other_side {k = k} (and_then h (and_then c nothing)) = equated_side k (equated h.1 c)

side_in_brackets : (n k : ℕ) → Sound (a.Side n k) (sign s.Close) (side_closed n k)
side_in_brackets n zero = tt
side_in_brackets n (suc k) = λ ts r h. inr (led (one_is h))

pub sound_side : (n k : ℕ) (x : Lexeme) → Sound (a.Side n k) x (side_move n k x)
sound_side n k (sign s.Equals) = λ ts r h. other_side h
sound_side n k (sign s.Close) = side_in_brackets n k
sound_side n k _ = tt

-- ---- behind a name

later : {n k : ℕ} {tokens rest : List Lexeme} → MeansAll (a.Variable ∷ a.Closing n k ∷ []) tokens rest → OrderOf n k (sign s.Less ∷ tokens) rest
later (and_then v (and_then c nothing)) = less v.1 c

pub sound_order : (n k : ℕ) (x : Lexeme) → Sound (a.Order n k) x (order_move n k x)
sound_order n k (sign s.Less) = λ ts r h. later h
sound_order n k _ = λ ts r h. as_term (one_is h)

with_sort : {n k : ℕ} {tokens rest : List Lexeme} → MeansAll (a.Sort ∷ a.Order n k ∷ []) tokens rest → BareOf n k (sign s.Colon ∷ tokens) rest
with_sort (and_then (one_word {w = w} e) (and_then o nothing)) = of_sort (some_is (mark_of w) e).1 o

with_terms : {n k : ℕ} {tokens rest : List Lexeme} → deep n k < 128 → MeansAll (a.Arguments (deep n k + 1) ∷ a.Side n k ∷ []) tokens rest → BareOf n k (sign s.Open ∷ tokens) rest
with_terms lt (and_then h (and_then c nothing)) = of_arguments lt h.1 c

with_key : {n k : ℕ} {tokens rest : List Lexeme} → deep n k < 128 → MeansAll (a.Tuple (deep n k + 1) s.CloseBrace ∷ a.Term (deep n k + 1) ∷ a.Side n k ∷ []) tokens rest → BareOf n k (sign s.OpenBrace ∷ tokens) rest
with_key lt (and_then h (and_then i (and_then c nothing))) = of_braces lt h.1 i.1 c

pub sound_bare : (n k : ℕ) (x : Lexeme) → Sound (a.Bare n k) x (bare_move n k x)
sound_bare n k (sign s.Colon) = λ ts r h. with_sort h
sound_bare n k (sign s.Open) = by_nests (Sound (a.Bare n k) (sign s.Open)) (deep n k) (takes (a.Arguments (deep n k + 1) ∷ a.Side n k ∷ [])) tt (λ lt ts r h. with_terms lt h)
sound_bare n k (sign s.OpenBrace) = by_nests (Sound (a.Bare n k) (sign s.OpenBrace)) (deep n k) (takes (a.Tuple (deep n k + 1) s.CloseBrace ∷ a.Term (deep n k + 1) ∷ a.Side n k ∷ [])) tt (λ lt ts r h. with_key lt h)
sound_bare n k _ = λ ts r h. of_none (one_is h)

shown_later : {n k : ℕ} {tokens rest : List Lexeme} → MeansAll (a.Variable ∷ a.Closing n k ∷ []) tokens rest → ShownOf n k (sign s.At ∷ tokens) rest
shown_later (and_then v (and_then c nothing)) = at_time g.no_annotation v.1 c

shown_annotated : {n k : ℕ} {tokens rest : List Lexeme} → MeansAll (a.Annotation ∷ a.MoreAnnotations ∷ a.Exactly s.At ∷ a.Variable ∷ a.Closing n k ∷ []) tokens rest → ShownOf n k (sign s.OpenList ∷ tokens) rest
shown_annotated (and_then h (and_then l (and_then one_sign (and_then v (and_then c nothing))))) = at_time (some_annotations h l) v.1 c

pub sound_shown : (n k : ℕ) (x : Lexeme) → Sound (a.Shown n k) x (shown_move n k x)
sound_shown n k (sign s.At) = λ ts r h. shown_later h
sound_shown n k (sign s.OpenList) = λ ts r h. shown_annotated h
sound_shown n k _ = λ ts r h. as_side (one_is h)

fact_or_term : {n k : ℕ} {tokens rest : List Lexeme} → deep n k < 128 → MeansAll (a.Arguments (deep n k + 1) ∷ a.Shown n k ∷ []) tokens rest → NamedOf n k (sign s.Open ∷ tokens) rest
fact_or_term lt (and_then h (and_then (at_time i v c) nothing)) = as_fact lt h.1 i v c
fact_or_term lt (and_then h (and_then (as_side c) nothing)) = as_name (of_arguments lt h.1 c)

pub sound_named : (n k : ℕ) (x : Lexeme) → Sound (a.Named n k) x (named_move n k x)
sound_named n k (sign s.Open) = by_nests (Sound (a.Named n k) (sign s.Open)) (deep n k) (takes (a.Arguments (deep n k + 1) ∷ a.Shown n k ∷ [])) tt (λ lt ts r h. fact_or_term lt h)
sound_named n k _ = λ ts r h. as_name (one_is h)

both_truth : {n k : ℕ} {tokens rest : List Lexeme} → SideOf n k tokens rest ⊎ ClosedOf n k tokens rest → NamedOf n k tokens rest ⊎ ClosedOf n k tokens rest
both_truth (inl h) = inl (as_name (of_none (as_term h)))
both_truth (inr h) = inr h

pub sound_truth : (n k : ℕ) (x : Lexeme) → Sound (a.Truth n k) x (truth_move n k x)
sound_truth n k (sign s.Colon) = λ ts r h. inl (one_is h)
sound_truth n k (sign s.Open) = λ ts r h. inl (one_is h)
sound_truth n k (sign s.Less) = λ ts r h. inl (one_is h)
sound_truth n k (sign s.OpenBrace) = λ ts r h. inl (one_is h)
sound_truth n k _ = λ ts r h. both_truth (one_is h)

-- ---- behind a unit

both_again : {n k : ℕ} {tokens rest : List Lexeme} → SideOf n k tokens rest ⊎ ClosedOf n k tokens rest → SideOf n (suc k) (sign s.Close ∷ tokens) rest ⊎ ClosedOf n (suc k) (sign s.Close ∷ tokens) rest
both_again (inl h) = inl (inr (led h))
both_again {tokens = tokens} (inr h) = inr (record { mid = sign s.Close ∷ tokens; behind = tokens; more = no_more (close_no_sign tokens); twice = once (λ r e. cc); others = h })

both_in_brackets : (n k : ℕ) → Sound (a.Both n k) (sign s.Close) (both_closed n k)
both_in_brackets n zero = λ ts r h. inr (one_is h)
both_in_brackets n (suc k) = λ ts r h. both_again (one_is h)

pub sound_both : (n k : ℕ) (x : Lexeme) → Sound (a.Both n k) x (both_move n k x)
sound_both n k (sign s.Equals) = λ ts r h. inl (one_is h)
sound_both n k (sign s.Close) = both_in_brackets n k
sound_both n k _ = λ ts r h. inr (one_is h)

one_closed : {n k : ℕ} {tokens rest : List Lexeme} → MeansAll (a.More (deep n k + 1) ∷ a.Twice (deep n k + 1) ∷ a.Exactly s.Close ∷ a.Closing n k ∷ []) tokens rest → ClosedOf n (suc k) tokens rest
one_closed (and_then m (and_then {mid = l} t (and_then (one_sign {rest = r}) (and_then c nothing)))) = record { mid = _; behind = r; more = m; twice = t; others = c }

pub sound_closing : (n k : ℕ) (x : Lexeme) → Sound (a.Closing n k) x (closing_move n k)
sound_closing n zero x = λ ts r h. nothing_is h
sound_closing n (suc k) x = λ ts r h. one_closed h

and_more : {n : ℕ} {tokens rest : List Lexeme} → MeansAll (a.Negation n 0 ∷ a.More n ∷ []) tokens rest → MoreOf n (sign s.And ∷ tokens) rest
and_more (and_then h (and_then m nothing)) = more_and (lone_negation h).1 m

or_more : {n : ℕ} {tokens rest : List Lexeme} → MeansAll (a.Negation n 0 ∷ a.More n ∷ []) tokens rest → MoreOf n (sign s.Or ∷ tokens) rest
or_more (and_then h (and_then m nothing)) = more_or (lone_negation h).1 m

then_more : {n : ℕ} {tokens rest : List Lexeme} → n < 128 → MeansAll (a.Negation (n + 1) 0 ∷ a.More (n + 1) ∷ []) tokens rest → MoreOf n (sign s.Implies ∷ tokens) rest
then_more lt (and_then h (and_then m nothing)) = more_then lt (lone_negation h).1 m

more_ends : {n : ℕ} {tokens rest : List Lexeme} → NoSign tokens → tokens ≡ rest → MoreOf n tokens rest
more_ends {n} {tokens} d e = subst (λ (r : List Lexeme). MoreOf n tokens r) e (no_more d)

pub sound_more : (n : ℕ) (x : Lexeme) → Sound (a.More n) x (more_move n x)
sound_more n (sign s.And) = λ ts r h. and_more h
sound_more n (sign s.Or) = λ ts r h. or_more h
sound_more n (sign s.Implies) = by_nests (Sound (a.More n) (sign s.Implies)) n (takes (a.Negation (n + 1) 0 ∷ a.More (n + 1) ∷ [])) tt (λ lt ts r h. then_more lt h)
sound_more n _ = λ ts r h. more_ends (record { no_and = λ q e. cc; no_or = λ q e. cc; no_arrow = λ q e. cc }) (nothing_is h)

iff_twice : {n : ℕ} {tokens rest : List Lexeme} → MeansAll (a.Negation n 0 ∷ a.More n ∷ []) tokens rest → TwiceOf n (sign s.Iff ∷ tokens) rest
iff_twice (and_then h (and_then m nothing)) = twice (lone_negation h).1 m

twice_ends : {n : ℕ} {tokens rest : List Lexeme} → IsNotFirst (sign s.Iff) tokens → tokens ≡ rest → TwiceOf n tokens rest
twice_ends {n} {tokens} d e = subst (λ (r : List Lexeme). TwiceOf n tokens r) e (once d)

pub sound_twice : (n : ℕ) (x : Lexeme) → Sound (a.Twice n) x (twice_move n x)
sound_twice n (sign s.Iff) = λ ts r h. iff_twice h
sound_twice n _ = λ ts r h. twice_ends (λ q e. cc) (nothing_is h)
