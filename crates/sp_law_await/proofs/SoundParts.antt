-- What the table says of terms, facts and formulas, the grammar says.
use Rattle.std.proofs.Common.{◌≡◌, ℕ, ◌+◌, ◌<◌, true, not, List, [], ◌∷◌, Some, refl, sym, subst, is_some, ◌==◌}
use Rattle.sp_spec_text.specs.Signs.{Sign}
use Rattle.sp_spec_text.specs.Signs as s
use Rattle.sp_spec_text.specs.Token.{Lexeme, word, constant, sign, solve, wide, block}
use Rattle.sp_spec.specs.Term as t
use Rattle.sp_spec.specs.Term.{app, Terms, none, more}
use Rattle.sp_spec.specs.Signature.{pair}
use Rattle.sp_spec.specs.Formula.{Mark, Written}
use Rattle.sp_spec_text.specs.Names.{IsName, is_reserved, names_fact, mark_of, mark_at, is_annotation}
use Rattle.sp_spec_text.specs.Lists.{AreParts, last, next as next_item, AreItems, some}
use Rattle.sp_spec_text.specs.Formulas as g
use Rattle.sp_spec_text.specs.Formulas.{SpellsVariable, SpellsTerm, SpellsTuple, SpellsArguments, SpellsTerms, SpellsAnnotation, SpellsAnnotations, SpellsFact, SpellsBinders}
use Rattle.sp_await.specs.Parts as a
use Rattle.sp_await.specs.Table.{next, Move, takes, stuck, nests, code, variable_move, sorted_move, single, term_move, applied_move, tuple_move, more_tuple_move, arguments_move, more_arguments_move, fact_move, opened_move, annotations_move, more_annotations_move, binders_move}
use Rattle.sp_law_await.proofs.Meaning.{Spelled, OneSign, one_sign, one_word, OneName, SortPart, unsorted, sorted, AfterPart, no_part, a_part, AppliedOf, with_arguments, with_braces, as_variable, TupleBehind, no_term, a_tuple, ArgumentsBehind, no_other, others, OpenedArguments, opened, AfterBinder, no_binder, a_binder}
use Rattle.sp_law_await.proofs.Tokens.{same_sign, name_is, some_is}
use Rattle.sp_law_await.proofs.Means.{MeansAll, nothing, and_then, Sound, by_if, by_nests, nothing_is, one_is, by_single}

-- ---- single tokens

pub sound_exactly : (y : Sign) (x : Lexeme) → Sound (a.Exactly y) x (next (a.Exactly y) x)
sound_exactly y (word w) = tt
sound_exactly y (constant c) = tt
sound_exactly y (sign z) = by_single (a.Exactly y) (sign z) (code z == code y) (λ e rest. subst (λ (u : Sign). OneSign y (sign u ∷ rest) rest) (sym (same_sign z y e)) one_sign)
sound_exactly y (solve g) = tt
sound_exactly y (wide v) = tt
sound_exactly y block = tt

pub sound_name : (x : Lexeme) → Sound a.Name x (next a.Name x)
sound_name (word w) = by_single a.Name (word w) (not (is_reserved w)) (λ e rest. one_word e)
sound_name (constant c) = tt
sound_name (sign z) = tt
sound_name (solve g) = tt
sound_name (wide v) = tt
sound_name block = tt

pub sound_sort : (x : Lexeme) → Sound a.Sort x (next a.Sort x)
sound_sort (word w) = by_single a.Sort (word w) (is_some (mark_of w)) (λ e rest. one_word e)
sound_sort (constant c) = tt
sound_sort (sign z) = tt
sound_sort (solve g) = tt
sound_sort (wide v) = tt
sound_sort block = tt

pub sound_fact_name : (x : Lexeme) → Sound a.FactName x (next a.FactName x)
sound_fact_name (word w) = by_single a.FactName (word w) (names_fact w) (λ e rest. one_word e)
sound_fact_name (constant c) = tt
sound_fact_name (sign z) = tt
sound_fact_name (solve g) = tt
sound_fact_name (wide v) = tt
sound_fact_name block = tt

-- ---- variables

sort_ends : {tokens rest : List Lexeme} → tokens ≡ rest → SortPart tokens rest
sort_ends {tokens} e = subst (λ (r : List Lexeme). SortPart tokens r) e unsorted

pub sound_sorted : (x : Lexeme) → Sound a.Sorted x (sorted_move x)
sound_sorted (sign s.Colon) = λ ts r h. sorted (one_is h)
sound_sorted _ = λ ts r h. sort_ends (nothing_is h)

pub marked_variable : {y : Sign} {m : Mark} {tokens rest : List Lexeme} → mark_at y ≡ Some m → OneName tokens rest → Spelled SpellsVariable (sign y ∷ tokens) rest
marked_variable e (one_word n) = (_, g.marked e (name_is n))

pub named_variable : {w : List ℕ} {tokens rest : List Lexeme} → IsName w → SortPart tokens rest → Spelled SpellsVariable (word w ∷ tokens) rest
named_variable n unsorted = (_, g.unmarked n)
named_variable n (sorted (one_word {w = k} e)) = (_, g.sorted n (some_is (mark_of k) e).1)

pub sound_variable : (x : Lexeme) → Sound a.Variable x (variable_move [] x)
sound_variable (word w) = by_if (Sound a.Variable (word w)) (not (is_reserved w)) (takes (a.Sorted ∷ [])) stuck (λ e ts r h. named_variable (name_is e) (one_is h)) (λ e. tt)
sound_variable (sign s.Tilde) = λ ts r h. marked_variable refl (one_is h)
sound_variable (sign s.Dollar) = λ ts r h. marked_variable refl (one_is h)
sound_variable (sign s.Hash) = λ ts r h. marked_variable refl (one_is h)
sound_variable _ = tt

-- ---- terms

term_in_brackets : {n : ℕ} {tokens rest : List Lexeme} → n < 128 → MeansAll (a.Term (n + 1) ∷ a.Exactly s.Close ∷ []) tokens rest → Spelled (SpellsTerm n) (sign s.Open ∷ tokens) rest
term_in_brackets lt (and_then h (and_then one_sign nothing)) = (h.0, g.brackets lt h.1)

variable_term : {n : ℕ} {tokens rest : List Lexeme} → Spelled SpellsVariable tokens rest → Spelled (SpellsTerm n) tokens rest
variable_term h = (t.var h.0, g.variable h.1)

pub applied_term : {n : ℕ} {w : List ℕ} {tokens rest : List Lexeme} → IsName w → AppliedOf n tokens rest → Spelled (SpellsTerm n) (word w ∷ tokens) rest
applied_term e (with_arguments lt h) = (_, g.application e lt h)
applied_term e (with_braces lt h k) = (_, g.braced e lt h k)
applied_term e (as_variable h) = variable_term (named_variable e h)

tuple_term : {n : ℕ} {tokens rest : List Lexeme} → n < 128 → Spelled (SpellsTuple (n + 1) s.Greater) tokens rest → Spelled (SpellsTerm n) (sign s.Less ∷ tokens) rest
tuple_term lt h = (h.0, g.tuple lt h.1)

pub sound_term : (n : ℕ) (x : Lexeme) → Sound (a.Term n) x (term_move n x)
sound_term n (constant c) = λ ts r h. (t.constant c, subst (λ (q : List Lexeme). SpellsTerm n (constant c ∷ ts) (t.constant c) q) (nothing_is h) g.fixed)
sound_term n (sign s.Open) = by_nests (Sound (a.Term n) (sign s.Open)) n (takes (a.Term (n + 1) ∷ a.Exactly s.Close ∷ [])) tt (λ lt ts r h. term_in_brackets lt h)
sound_term n (sign s.Less) = by_nests (Sound (a.Term n) (sign s.Less)) n (takes (a.Tuple (n + 1) s.Greater ∷ [])) tt (λ lt ts r h. tuple_term lt (one_is h))
sound_term n (sign s.Tilde) = λ ts r h. variable_term (marked_variable refl (one_is h))
sound_term n (sign s.Dollar) = λ ts r h. variable_term (marked_variable refl (one_is h))
sound_term n (sign s.Hash) = λ ts r h. variable_term (marked_variable refl (one_is h))
sound_term n (word w) = by_if (Sound (a.Term n) (word w)) (not (is_reserved w)) (takes (a.Applied n ∷ [])) stuck (λ e ts r h. applied_term (name_is e) (one_is h)) (λ e. tt)
sound_term n _ = tt

arguments_applied : {n : ℕ} {tokens rest : List Lexeme} → n < 128 → Spelled (SpellsArguments (n + 1)) tokens rest → AppliedOf n (sign s.Open ∷ tokens) rest
arguments_applied lt h = with_arguments lt h.1

braces_applied : {n : ℕ} {tokens rest : List Lexeme} → n < 128 → MeansAll (a.Tuple (n + 1) s.CloseBrace ∷ a.Term (n + 1) ∷ []) tokens rest → AppliedOf n (sign s.OpenBrace ∷ tokens) rest
braces_applied lt (and_then h (and_then k nothing)) = with_braces lt h.1 k.1

pub sound_applied : (n : ℕ) (x : Lexeme) → Sound (a.Applied n) x (applied_move n x)
sound_applied n (sign s.Open) = by_nests (Sound (a.Applied n) (sign s.Open)) n (takes (a.Arguments (n + 1) ∷ [])) tt (λ lt ts r h. arguments_applied lt (one_is h))
sound_applied n (sign s.OpenBrace) = by_nests (Sound (a.Applied n) (sign s.OpenBrace)) n (takes (a.Tuple (n + 1) s.CloseBrace ∷ a.Term (n + 1) ∷ [])) tt (λ lt ts r h. braces_applied lt h)
sound_applied n _ = λ ts r h. as_variable (one_is h)

-- ---- tuples

tuple_of : {n : ℕ} {y : Sign} {x : t.Term Written} {tokens mid rest : List Lexeme} → SpellsTerm n tokens x mid → TupleBehind n y mid rest → Spelled (SpellsTuple n y) tokens rest
tuple_of {x = x} h no_term = (x, g.last_part h)
tuple_of {x = x} h (a_tuple {x = z} lt k) = (pair x z, g.next_part h lt k)

tuple_parts : {n : ℕ} {y : Sign} {tokens rest : List Lexeme} → MeansAll (a.Term n ∷ a.MoreTuple n y ∷ []) tokens rest → Spelled (SpellsTuple n y) tokens rest
tuple_parts (and_then h (and_then k nothing)) = tuple_of h.1 k

pub sound_tuple : (n : ℕ) (y : Sign) (x : Lexeme) → Sound (a.Tuple n y) x (tuple_move n y)
sound_tuple n y x = λ ts r h. tuple_parts h

another_term : {n : ℕ} {y : Sign} {tokens rest : List Lexeme} → n < 128 → Spelled (SpellsTuple (n + 1) y) tokens rest → TupleBehind n y (sign s.Comma ∷ tokens) rest
another_term lt h = a_tuple lt h.1

pub sound_more_tuple : (n : ℕ) (y : Sign) (x : Lexeme) → Sound (a.MoreTuple n y) x (more_tuple_move n y x)
sound_more_tuple n y (sign z) =
    by_if S (code z == code s.Comma) (nests n (takes (a.Tuple (n + 1) y ∷ []))) (single (code z == code y))
    (λ e. by_nests S n (takes (a.Tuple (n + 1) y ∷ [])) tt (λ lt ts r h. subst (λ (u : Sign). TupleBehind n y (sign u ∷ ts) r) (sym (same_sign z s.Comma e)) (another_term lt (one_is h))))
    (λ d. by_single (a.MoreTuple n y) (sign z) (code z == code y) (λ e rest. subst (λ (u : Sign). TupleBehind n y (sign u ∷ rest) rest) (sym (same_sign z y e)) no_term))
  where
    S : Move → Type 0
    S m = Sound (a.MoreTuple n y) (sign z) m
sound_more_tuple n y _ = tt

-- ---- lists

pub parts_of : {A : Type 0} (R : List Lexeme → A → List Lexeme → Type 0) (x : A) {close : Sign} {tokens mid rest : List Lexeme} → R tokens x mid → AfterPart R close mid rest → Spelled (AreParts R s.Comma close) tokens rest
parts_of R x h no_part = (x ∷ [], last h)
parts_of R x h (a_part {xs = xs} ps) = (x ∷ xs, next_item h ps)

pub items_of : {A : Type 0} (R : List Lexeme → A → List Lexeme → Type 0) (x : A) {close : Sign} {tokens mid rest : List Lexeme} → R tokens x mid → AfterPart R close mid rest → Spelled (AreItems R close) tokens rest
items_of R x h p = let ps = parts_of R x h p in (ps.0, some ps.1)

-- ---- arguments

terms_of : {n : ℕ} {x : t.Term Written} {tokens mid rest : List Lexeme} → SpellsTerm n tokens x mid → ArgumentsBehind n mid rest → Spelled (SpellsTerms n) tokens rest
terms_of {x = x} h no_other = (more x none, g.last_term h)
terms_of {x = x} h (others {xs = xs} k) = (more x xs, g.next_term h k)

terms_parts : {n : ℕ} {tokens rest : List Lexeme} → MeansAll (a.Term n ∷ a.MoreArguments n ∷ []) tokens rest → Spelled (SpellsTerms n) tokens rest
terms_parts (and_then h (and_then k nothing)) = terms_of h.1 k

some_arguments : {n : ℕ} {tokens rest : List Lexeme} → Spelled (SpellsTerms n) tokens rest → Spelled (SpellsArguments n) tokens rest
some_arguments h = (h.0, g.some_arguments h.1)

no_arguments : {n : ℕ} {tokens rest : List Lexeme} → tokens ≡ rest → Spelled (SpellsArguments n) (sign s.Close ∷ tokens) rest
no_arguments {n} {tokens} e = (none, subst (λ (r : List Lexeme). SpellsArguments n (sign s.Close ∷ tokens) none r) e g.no_argument)

pub sound_arguments : (n : ℕ) (x : Lexeme) → Sound (a.Arguments n) x (arguments_move n x)
sound_arguments n (sign s.Close) = λ ts r h. no_arguments (nothing_is h)
sound_arguments n _ = λ ts r h. some_arguments (terms_parts h)

another_argument : {n : ℕ} {tokens rest : List Lexeme} → Spelled (SpellsTerms n) tokens rest → ArgumentsBehind n (sign s.Comma ∷ tokens) rest
another_argument h = others h.1

no_argument : {n : ℕ} {tokens rest : List Lexeme} → tokens ≡ rest → ArgumentsBehind n (sign s.Close ∷ tokens) rest
no_argument {n} {tokens} e = subst (λ (r : List Lexeme). ArgumentsBehind n (sign s.Close ∷ tokens) r) e no_other

pub sound_more_arguments : (n : ℕ) (x : Lexeme) → Sound (a.MoreArguments n) x (more_arguments_move n x)
sound_more_arguments n (sign s.Comma) = λ ts r h. another_argument (terms_parts h)
sound_more_arguments n (sign s.Close) = λ ts r h. no_argument (nothing_is h)
sound_more_arguments n _ = tt

-- ---- facts

-- behind a part of a list a comma and another, or what closes it
pub another_part : {A : Type 0} (R : List Lexeme → A → List Lexeme → Type 0) {close : Sign} {tokens mid rest : List Lexeme} → Spelled R tokens mid → AfterPart R close mid rest → AfterPart R close (sign s.Comma ∷ tokens) rest
another_part R h k = a_part (parts_of R h.0 h.1 k).1

pub no_other_part : {A : Type 0} (R : List Lexeme → A → List Lexeme → Type 0) {close : Sign} {tokens rest : List Lexeme} → tokens ≡ rest → AfterPart R close (sign close ∷ tokens) rest
no_other_part R {close} {tokens} e = subst (λ (r : List Lexeme). AfterPart R close (sign close ∷ tokens) r) e no_part

pub some_annotations : {tokens mid rest : List Lexeme} → Spelled SpellsAnnotation tokens mid → AfterPart SpellsAnnotation s.CloseList mid rest → SpellsAnnotations (sign s.OpenList ∷ tokens) rest
some_annotations h k = g.annotations (parts_of SpellsAnnotation h.0 h.1 k).1

listed_annotations : {tokens rest : List Lexeme} → MeansAll (a.Annotation ∷ a.MoreAnnotations ∷ []) tokens rest → SpellsAnnotations (sign s.OpenList ∷ tokens) rest
listed_annotations (and_then h (and_then k nothing)) = some_annotations h k

annotations_end : {tokens rest : List Lexeme} → tokens ≡ rest → SpellsAnnotations tokens rest
annotations_end {tokens} e = subst (λ (r : List Lexeme). SpellsAnnotations tokens r) e g.no_annotation

pub sound_annotations : (x : Lexeme) → Sound a.Annotations x (annotations_move x)
sound_annotations (sign s.OpenList) = λ ts r h. listed_annotations h
sound_annotations _ = λ ts r h. annotations_end (nothing_is h)

pub sound_annotation : (x : Lexeme) → Sound a.Annotation x (next a.Annotation x)
sound_annotation x = by_single a.Annotation x (is_annotation x) (λ e rest. (x, g.annotation e))

other_annotations : {tokens rest : List Lexeme} → MeansAll (a.Annotation ∷ a.MoreAnnotations ∷ []) tokens rest → AfterPart SpellsAnnotation s.CloseList (sign s.Comma ∷ tokens) rest
other_annotations (and_then h (and_then k nothing)) = another_part SpellsAnnotation h k

pub sound_more_annotations : (x : Lexeme) → Sound a.MoreAnnotations x (more_annotations_move x)
sound_more_annotations (sign s.Comma) = λ ts r h. other_annotations h
sound_more_annotations (sign s.CloseList) = λ ts r h. no_other_part SpellsAnnotation (nothing_is h)
sound_more_annotations _ = tt

persistent_fact : {n : ℕ} {tokens rest : List Lexeme} → MeansAll (a.FactName ∷ a.Opened n ∷ []) tokens rest → Spelled (SpellsFact n) (sign s.Bang ∷ tokens) rest
persistent_fact (and_then (one_word e) (and_then (opened lt h i) nothing)) = (_, g.persistent e lt h i)

linear_fact : {n : ℕ} {w : List ℕ} {tokens rest : List Lexeme} → names_fact w ≡ true → OpenedArguments n tokens rest → Spelled (SpellsFact n) (word w ∷ tokens) rest
linear_fact e (opened lt h i) = (_, g.linear e lt h i)

pub sound_fact : (n : ℕ) (x : Lexeme) → Sound (a.Fact n) x (fact_move n x)
sound_fact n (sign s.Bang) = λ ts r h. persistent_fact h
sound_fact n (word w) = by_if (Sound (a.Fact n) (word w)) (names_fact w) (takes (a.Opened n ∷ [])) stuck (λ e ts r h. linear_fact e (one_is h)) (λ e. tt)
sound_fact n _ = tt

opened_at : {n : ℕ} {tokens rest : List Lexeme} → n < 128 → MeansAll (a.Arguments (n + 1) ∷ a.Annotations ∷ []) tokens rest → OpenedArguments n (sign s.Open ∷ tokens) rest
opened_at lt (and_then h (and_then i nothing)) = opened lt h.1 i

pub sound_opened : (n : ℕ) (x : Lexeme) → Sound (a.Opened n) x (opened_move n x)
sound_opened n (sign s.Open) = by_nests (Sound (a.Opened n) (sign s.Open)) n (takes (a.Arguments (n + 1) ∷ a.Annotations ∷ [])) tt (λ lt ts r h. opened_at lt h)
sound_opened n _ = tt

-- ---- binders

pub binders_of : {v : Written} {tokens mid rest : List Lexeme} → SpellsVariable tokens v mid → AfterBinder mid rest → Spelled SpellsBinders tokens rest
binders_of h no_binder = (_, g.one_binder h)
binders_of h (a_binder bs) = (_, g.more_binders h bs)

binders_end : {tokens rest : List Lexeme} → tokens ≡ rest → AfterBinder (sign s.Dot ∷ tokens) rest
binders_end {tokens} e = subst (λ (r : List Lexeme). AfterBinder (sign s.Dot ∷ tokens) r) e no_binder

marked_binder : {y : Sign} {m : Mark} {tokens rest : List Lexeme} → mark_at y ≡ Some m → MeansAll (a.Name ∷ a.Binders ∷ []) tokens rest → AfterBinder (sign y ∷ tokens) rest
marked_binder e (and_then n (and_then b nothing)) = a_binder (binders_of (marked_variable e n).1 b).1

named_binder : {w : List ℕ} {tokens rest : List Lexeme} → IsName w → MeansAll (a.Sorted ∷ a.Binders ∷ []) tokens rest → AfterBinder (word w ∷ tokens) rest
named_binder e (and_then n (and_then b nothing)) = a_binder (binders_of (named_variable e n).1 b).1

pub sound_binders : (x : Lexeme) → Sound a.Binders x (binders_move x)
sound_binders (sign s.Dot) = λ ts r h. binders_end (nothing_is h)
sound_binders (word w) = by_if (Sound a.Binders (word w)) (not (is_reserved w)) (takes (a.Sorted ∷ a.Binders ∷ [])) stuck (λ e ts r h. named_binder (name_is e) h) (λ e. tt)
sound_binders (sign s.Tilde) = λ ts r h. marked_binder refl h
sound_binders (sign s.Dollar) = λ ts r h. marked_binder refl h
sound_binders (sign s.Hash) = λ ts r h. marked_binder refl h
sound_binders _ = tt
